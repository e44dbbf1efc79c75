-- The run of a sheet at a limit: every entry is worked in entry order, needed by the last one or not.
--
--   work_of kind es n L before e  the value of entry e and its steps, from the values before it
--   run es L                      the values of all entries, and all steps
use Rattle.std.specs.Prelude.{ℕ, zero, suc, ◌-◌, true, false, ◌&&◌, ◌||◌, List, [], ◌∷◌, ◌++◌, length, get_or}
use Rattle.meaning.specs.Number.{up_to}
use Rattle.meaning.specs.Kind.{Kind}
use Rattle.meaning.specs.Sheet.{Entry, entry, operand, constant_of, amount, upper, lower}
use Rattle.meaning.specs.Level.{level, levels, variable_bits}
use Rattle.meaning.specs.BitVector.{shift_by}
use Rattle.meaning.specs.Diagram.{Tree, leaf, literal}
use Rattle.meaning.specs.Step.{Work, done, ◌>>=◌, take, is_and, is_or}
use Rattle.meaning.specs.Row
use Rattle.meaning.specs.Row.{Row, Bit, known}
use Rattle.meaning.specs.Formula
use Rattle.meaning.specs.Formula.{Pair, pair}

-- the value of an entry: diagrams, never numbers
pub data Value : Type 0 where
  row : Row → Value
  truth : Pair → Value

abbrev pub row_of : Value → Row
row_of (row r) = r
row_of (truth p) = []

abbrev pub pair_of : Value → Pair
pair_of (row r) = pair (leaf false) (leaf false)
pair_of (truth p) = p

abbrev pub value_at : List Value → ℕ → Value
value_at before i = get_or before i (row [])

-- operand k's row, operand k's pair
abbrev pub row_at : List Value → Entry → ℕ → Row
row_at before e k = row_of (value_at before (operand e k))

abbrev pub pair_at : List Value → Entry → ℕ → Pair
pair_at before e k = pair_of (value_at before (operand e k))

-- ---- variables

-- bit b of variable entry i
abbrev pub variable_bit : List Entry → ℕ → ℕ → Tree
variable_bit es i b = literal (level es i b)

-- one node a bit, bit 0 first
abbrev pub variable_from : List Tree → Work Row
variable_from [] = done []
variable_from (t ∷ ts) = do
  a ← take t
  ar ← variable_from ts
  done (known a ∷ ar)

unfoldable pub variable : List Entry → ℕ → ℕ → Work Row
variable es i w = variable_from (up_to (variable_bit es i) w)

-- ---- quantifiers

-- f n, f (n - 1), ... f 0
abbrev pub down_to : {A : Type 0} → (ℕ → A) → ℕ → List A
down_to f zero = []
down_to f (suc n) = f n ∷ down_to f n

-- the levels of variable entry i, from the top bit down
unfoldable pub levels_of : List Entry → ℕ → List ℕ
levels_of es i = down_to (level es i) (variable_bits (entry es i))

-- ---- one entry

abbrev pub as_row : Work Row → Work Value
as_row m = do
  r ← m
  done (row r)

abbrev pub as_truth : Work Pair → Work Value
as_truth m = do
  p ← m
  done (truth p)

-- an entry's own number is how many stand before it
unfoldable pub work_of : Kind → List Entry → ℕ → ℕ → List Value → Entry → Work Value
work_of Kind.variable es n L before e = as_row (variable es (length before) e.width)
work_of Kind.constant es n L before e = done (row (Row.constant e.width (constant_of e)))
work_of Kind.bit_not es n L before e = as_row (Row.bit_not n (row_at before e 0))
work_of Kind.negate es n L before e = as_row (Row.negate n L (row_at before e 0))
work_of Kind.bit_and es n L before e = as_row (Row.bit_and n (row_at before e 0) (row_at before e 1))
work_of Kind.bit_or es n L before e = as_row (Row.bit_or n (row_at before e 0) (row_at before e 1))
work_of Kind.bit_xor es n L before e = as_row (Row.bit_xor n (row_at before e 0) (row_at before e 1))
work_of Kind.add es n L before e = as_row (Row.add n L (row_at before e 0) (row_at before e 1))
work_of Kind.multiply es n L before e = as_row (Row.multiply n L (row_at before e 0) (row_at before e 1))
work_of Kind.shift_left es n L before e = done (row (Row.shift_left (shift_by e.width (amount e)) (row_at before e 0)))
work_of Kind.shift_right es n L before e = done (row (Row.shift_right (shift_by e.width (amount e)) (row_at before e 0)))
work_of Kind.concat es n L before e = done (row (Row.concat (row_at before e 0) (row_at before e 1)))
work_of Kind.extract es n L before e = done (row (Row.extract (upper e) (lower e) (row_at before e 0)))
work_of Kind.zero_extend es n L before e = done (row (Row.zero_extend e.width (row_at before e 0)))
work_of Kind.sign_extend es n L before e = done (row (Row.sign_extend e.width (row_at before e 0)))
work_of Kind.choose es n L before e =
    let c = pair_at before e 0 in
    as_row (Row.choose n c.must c.may (row_at before e 1) (row_at before e 2))
work_of Kind.true es n L before e = done (truth (pair (leaf true) (leaf true)))
work_of Kind.false es n L before e = done (truth (pair (leaf false) (leaf false)))
work_of Kind.equal es n L before e = as_truth (Formula.equal n (row_at before e 0) (row_at before e 1))
work_of Kind.unsigned es n L before e = as_truth (Formula.at_most n false (row_at before e 0) (row_at before e 1))
work_of Kind.signed es n L before e = as_truth (Formula.at_most n true (row_at before e 0) (row_at before e 1))
work_of Kind.not es n L before e = as_truth (Formula.negation n (pair_at before e 0))
work_of Kind.and es n L before e = as_truth (Formula.both n is_and (pair_at before e 0) (pair_at before e 1))
work_of Kind.or es n L before e = as_truth (Formula.both n is_or (pair_at before e 0) (pair_at before e 1))
work_of Kind.exists es n L before e = as_truth (Formula.quantified n ◌||◌ (levels_of es (operand e 0)) (pair_at before e 1))
work_of Kind.forall es n L before e = as_truth (Formula.quantified n ◌&&◌ (levels_of es (operand e 0)) (pair_at before e 1))
work_of Kind.absent es n L before e = done (row [])

-- ---- all entries

-- the rest, after those that are worked
abbrev pub run_from : List Entry → ℕ → ℕ → List Value → List Entry → Work (List Value)
run_from es n L before [] = done before
run_from es n L before (e ∷ rest) = do
  v ← work_of e.rule.kind es n L before e
  run_from es n L (before ++ (v ∷ [])) rest

unfoldable pub run : List Entry → ℕ → Work (List Value)
run es L = run_from es (levels es) L [] es

-- the last entry is the sheet's formula
abbrev pub last_pair : List Value → Pair
last_pair vs = pair_of (value_at vs (length vs - 1))
