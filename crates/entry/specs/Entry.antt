-- One entry of a sheet that has passed the check.
--
--   OperandsHeld, OperandsMeant   what its operands' numbers are, and the values that they stand for
--   IsWorked                      the entry was worked from the values before it
--   AreLevelsOf                   the levels of a variable entry
--   variable_at, quantified_at    the work of a variable, and of a quantifier over it
--   IsRowOf                       a formula's value, as a row
use Rattle.std.specs.Prelude.{ℕ, ◌<◌, ◌≡◌, Bool, List, length, get_or, Result, Ok, Err}
use Rattle.meaning.specs.Sheet.{entries, entry_at}
use Rattle.meaning.specs.Level.{level, levels, variable_bits}
use Rattle.meaning.specs.Step.{Work}
use Rattle.meaning.specs.Row as Meaning
use Rattle.meaning.specs.Formula as Formula
use Rattle.meaning.specs.Run.{Value, variable, levels_of}
use Rattle.diagram.specs.State.{chooser}
use Rattle.diagram.specs.declared.builder.Builder.{Builder}
use Rattle.diagram.specs.declared.builder.Made.{Made}
use Rattle.diagram.specs.declared.builder.NoRoom.{NoRoom}
use Rattle.diagram.specs.declared.scratch.Scratch.{Scratch}
use Rattle.term.specs.declared.row.Row.{Row}
use Rattle.formula.specs.declared.pair.Pair.{Pair}
use Rattle.entry.specs.Value.{pair_in, OperandHeld, OperandMeant, Enters}
use Rattle.entry.specs.declared.value.Operands.{Operands}

-- the numbers of entry i's operands, where it has them
pub record OperandsHeld (s : List ℕ) (i : ℕ) (b : Builder) (v : Operands) : Type 0 where
  pub x : OperandHeld (entries s) (entry_at s i) b 0 v.x
  pub y : OperandHeld (entries s) (entry_at s i) b 1 v.y
  pub z : OperandHeld (entries s) (entry_at s i) b 2 v.z

-- they stand for values among those before it
pub record OperandsMeant (s : List ℕ) (i : ℕ) (cells : List ℕ) (b : Builder) (before : List Value) (v : Operands)
    : Type 0 where
  pub x : OperandMeant (entries s) (entry_at s i) (levels (entries s)) cells b before 0 v.x
  pub y : OperandMeant (entries s) (entry_at s i) (levels (entries s)) cells b before 1 v.y
  pub z : OperandMeant (entries s) (entry_at s i) (levels (entries s)) cells b before 2 v.z

-- entry i of the sheet was worked from the values before it, or the table lacks room
abbrev pub IsWorked : List ℕ → ℕ → ℕ → List Value → List ℕ → Builder → List ℕ → Scratch → Result (Made Row) NoRoom → Type 0
IsWorked s i limit before cells b cells' s' r =
    Enters (entries s) (entry_at s i) (levels (entries s)) limit before cells b cells' s' r

-- these are the levels of variable entry o's bits, bit 0's first
pub record AreLevelsOf (s : List ℕ) (o : ℕ) (of : List ℕ) : Type 0 where
  pub count_is : length of ≡ variable_bits (entry_at s o)
  pub each : (i : ℕ) → i < length of → get_or of i 0 ≡ level (entries s) o i

-- the work of variable entry i: one node a bit
abbrev pub variable_at : List ℕ → ℕ → Work Meaning.Row
variable_at s i = variable (entries s) i (variable_bits (entry_at s i))

-- the work of for all, or of exists, of variable entry i
abbrev pub quantified_at : List ℕ → ℕ → ℕ → Bool → Formula.Pair → Work Formula.Pair
quantified_at s i n every = Formula.quantified n (chooser every) (levels_of (entries s) i)

-- what was made is a row that holds the pair that was made
pub record HoldsPair (p : Made Pair) (r : Made Row) : Type 0 where
  pub at : r.at ≡ p.at
  pub value : pair_in r.value ≡ p.value

abbrev pub IsRowOf : Result (Made Pair) NoRoom → Result (Made Row) NoRoom → Type 0
IsRowOf (Ok p) (Ok r) = HoldsPair p r
IsRowOf (Err e) r = r ≡ Err e
IsRowOf (Ok p) (Err e) = ⊥
