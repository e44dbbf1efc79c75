-- How 32 numbers stand for an entry's value: a term's row, or a formula's must and may in the first two places.
--
--   Meant    a row of numbers stands for an entry's value, by the entry's sort
--   Held     the same for safety: the numbers are the unknown mark, terminals or used nodes'
--   Enters   from one state to another an entry was worked
use Rattle.std.specs.Prelude.{ℕ, ◌<◌, ◌≡◌, List, length, get_or, Result}
use Rattle.meaning.specs.Kind.{Sort}
use Rattle.meaning.specs.Sheet.{Entry, entry, operand}
use Rattle.meaning.specs.Run.{Value, row_of, pair_of, value_at, work_of}
use Rattle.diagram.specs.State.{Works}
use Rattle.diagram.specs.declared.builder.Builder.{Builder}
use Rattle.diagram.specs.declared.builder.Made.{Made}
use Rattle.diagram.specs.declared.builder.NoRoom.{NoRoom}
use Rattle.diagram.specs.declared.scratch.Scratch.{Scratch}
use Rattle.term.specs.Row.{RowMeans, RowKnown}
use Rattle.term.specs.declared.row.Row.{Row}
use Rattle.formula.specs.Pair.{PairMeans, PairKnown}
use Rattle.formula.specs.declared.pair.Pair.{Pair}

-- a formula's value lies in the first two places
abbrev pub pair_in : Row → Pair
pair_in row = record { must = get_or row.bits 0 0; may = get_or row.bits 1 0 }

abbrev pub Meant : Sort → ℕ → List ℕ → Builder → Row → Value → Type 0
Meant Sort.variable n cells b row v = RowMeans n cells b row (row_of v)
Meant Sort.term n cells b row v = RowMeans n cells b row (row_of v)
Meant Sort.formula n cells b row v = PairMeans n cells b (pair_in row) (pair_of v)
Meant Sort.neither n cells b row v = Unit {0}

abbrev pub Held : Sort → Builder → ℕ → Row → Type 0
Held Sort.variable b w row = (row.width ≡ w) × RowKnown b row
Held Sort.term b w row = (row.width ≡ w) × RowKnown b row
Held Sort.formula b w row = PairKnown b (pair_in row)
Held Sort.neither b w row = Unit {0}

-- operand k of entry e, where it has one: its value's numbers
abbrev pub OperandHeld : List Entry → Entry → Builder → ℕ → Row → Type 0
OperandHeld es e b k row =
    k < length e.rule.operands → Held (entry es (operand e k)).rule.sort b (entry es (operand e k)).width row

abbrev pub OperandMeant : List Entry → Entry → ℕ → List ℕ → Builder → List Value → ℕ → Row → Type 0
OperandMeant es e n cells b before k row =
    k < length e.rule.operands → Meant (entry es (operand e k)).rule.sort n cells b row (value_at before (operand e k))

-- entry e was worked from the values before it, or the table lacks room for its steps
abbrev pub Enters : List Entry → Entry → ℕ → ℕ → List Value → List ℕ → Builder → List ℕ → Scratch → Result (Made Row) NoRoom
    → Type 0
Enters es e n L before cells b cells' s' r =
    Works (Meant e.rule.sort n) cells b (work_of e.rule.kind es n L before e) cells' s' r
