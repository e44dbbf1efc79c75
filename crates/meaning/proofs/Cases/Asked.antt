-- How a case is written down: a sheet from its entries, a question, and the numbers wanted.
use Prim.Native.Nat.{ℕ, ◌+◌, ◌*◌, ◌/◌, ◌%◌}
use mathlib.Core.List.{List, [], ◌∷◌, ◌++◌, map}
use lib.ListN.{length, take}
use Rattle.meaning.specs.Kind.{rules, rule_of}
use Rattle.meaning.specs.Sheet.{entries, operands}
use Rattle.meaning.specs.Level.{order, level, levels, value_of}
use Rattle.meaning.specs.Check.{short, entry_refusal, meaning_refusal, check}
use Rattle.meaning.specs.BitVector.{shift_by}
use Rattle.meaning.specs.Diagram.{diagram}
use Rattle.meaning.specs.Table.{count, cells}
use Rattle.meaning.specs.Step.{step_tree, quantify_tree, step, quantify}
use Rattle.meaning.specs.Row.{bit_not, bit_and, bit_or, bit_xor, counted, add, negate, multiply, choose}
use Rattle.meaning.specs.Formula.{equal, at_most, negation, both, quantified}
use Rattle.meaning.specs.Run.{variable, levels_of, work_of, run}
use Rattle.meaning.specs.Solve.{Solved, solve, input_refusal, worked, unnamed_limit, solve_unnamed, after}
use Rattle.meaning.specs.Lent.{bad_nodes, tree_of}
use Rattle.meaning.specs.Value.{value, value_refusal}
use Rattle.meaning.specs.Witness.{witness, witness_refusal}
use Rattle.meaning.specs.Program.{listed, listing, program}

-- ---- writing a sheet

-- an entry to write: kind, width, body
pub record Part : Type 0 where
  pub kind : ℕ
  pub width : ℕ
  pub body : List ℕ

abbrev pub part : ℕ → ℕ → List ℕ → Part
part k w b = record { kind = k; width = w; body = b }

-- a number in two bytes
abbrev pub two : ℕ → List ℕ
two n = n % 256 ∷ n / 256 ∷ []

-- the contents records; the first body begins at `at`
abbrev pub contents : ℕ → List Part → List ℕ
contents at [] = []
contents at (p ∷ ps) = (p.kind ∷ p.width ∷ two at) ++ contents (at + length p.body) ps

abbrev pub bodies : List Part → List ℕ
bodies [] = []
bodies (p ∷ ps) = p.body ++ bodies ps

abbrev pub sheet : List Part → List ℕ
sheet ps = two (length ps) ++ contents (2 + 4 * length ps) ps ++ bodies ps

abbrev pub var : ℕ → Part
var w = part 1 w []

-- a constant below 256
abbrev pub con : ℕ → ℕ → Part
con w x = part 2 w (x ∷ 0 ∷ 0 ∷ 0 ∷ [])

-- kind k with no, one, two or three operands
abbrev pub op₀ : ℕ → Part
op₀ k = part k 0 []

abbrev pub op₁ : ℕ → ℕ → ℕ → Part
op₁ k w a = part k w (two a)

abbrev pub op₂ : ℕ → ℕ → ℕ → ℕ → Part
op₂ k w a b = part k w (two a ++ two b)

abbrev pub op₃ : ℕ → ℕ → ℕ → ℕ → ℕ → Part
op₃ k w a b c = part k w (two a ++ two b ++ two c)

-- ---- asking

pub data Case : Type 0 where
  -- solve: sheet, limit, table length, work length; wanted: number, verdict, must, may, slots used, then the used cells
  solved : List ℕ → ℕ → ℕ → ℕ → List ℕ → Case
  -- the same, asked what is left in a table with these first contents
  tabled : List ℕ → ℕ → List ℕ → ℕ → List ℕ → Case
  -- the same, asked what is left in a work buffer with these first contents
  cleared : List ℕ → ℕ → ℕ → List ℕ → List ℕ → Case
  -- the program: bytes read, bytes printed
  printed : List ℕ → List ℕ → Case
  -- value: table, used, number, assignment; wanted: number, bit, nodes passed
  valued : List ℕ → ℕ → ℕ → List ℕ → List ℕ → Case
  -- witness: table, used, number, first contents of the buffer; wanted: number, then the buffer
  witnessed : List ℕ → ℕ → ℕ → List ℕ → List ℕ → Case

-- ---- short forms for lists of cases

-- 2,048 slots, and a work buffer that is just long enough
abbrev pub at : List ℕ → ℕ → List ℕ → Case
at s limit w = solved s limit (3 * 2048) 8192 w

abbrev pub at_slots : List ℕ → ℕ → ℕ → List ℕ → Case
at_slots s limit slots w = solved s limit (3 * slots) 8192 w

-- number 0, then verdict, must, may and the slots used
abbrev pub sat : ℕ
sat = 1

abbrev pub unsat : ℕ
unsat = 2

abbrev pub unknown : ℕ
unknown = 3

abbrev pub refused : ℕ → List ℕ
refused r = r ∷ 0 ∷ 0 ∷ 0 ∷ 0 ∷ []

-- ---- answering

abbrev pub numbers : Solved → List ℕ
numbers a = a.number ∷ a.verdict ∷ a.must ∷ a.may ∷ a.used ∷ take (cells * a.used) (after a.table [])

unfoldable pub answer : Case → List ℕ
unfolding rules rule_of entries operands order level levels short entry_refusal meaning_refusal check shift_by diagram count step_tree quantify_tree step quantify bit_not bit_and bit_or bit_xor counted add negate multiply choose equal at_most negation both quantified variable levels_of work_of run solve input_refusal worked unnamed_limit solve_unnamed bad_nodes tree_of value value_refusal witness witness_refusal value_of listed listing program
answer (solved s L table work w) = numbers (solve s L table work)
answer (tabled s L table work w) = after (solve s L (length table) work).table table
answer (cleared s L table work w) = after (solve s L table (length work)).work work
answer (printed s w) = program s
answer (valued t used n a w) = let r = value t used n a in r.number ∷ r.bit ∷ r.passed ∷ []
answer (witnessed t used n a w) = let r = witness t used n (length a) in r.number ∷ after r.assignment a

abbrev pub wanted : Case → List ℕ
wanted (solved s L table work w) = w
wanted (tabled s L table work w) = w
wanted (cleared s L table work w) = w
wanted (printed s w) = w
wanted (valued t used n a w) = w
wanted (witnessed t used n a w) = w

unfoldable pub answers : List Case → List (List ℕ)
unfolding answer
answers cs = map answer cs

abbrev pub wanteds : List Case → List (List ℕ)
wanteds cs = map wanted cs
