-- The operations that go place by place, as one: not, and, or, xor and if-then-else differ in what they do with a pair of
-- bits.
--
--   bit_of       what an operation does with a pair of bits
--   Under        a condition's two numbers stand for diagrams
use Rattle.std.specs.Prelude.{ℕ, Bool, true, false, cond, List, eqb, Option, Some, None}
use Rattle.meaning.specs.Number.{digit}
use Rattle.meaning.specs.Diagram.{Tree}
use Rattle.meaning.specs.Step.{Work, is_and, is_or, is_xor}
use Rattle.meaning.specs.Row.{Bit, known, not_bit, pair_bit, decided_by, undecided, choose_bit}
use Rattle.diagram.specs.State.{Known}
use Rattle.diagram.specs.declared.builder.Builder.{Builder}
use Rattle.term.specs.Row.{mark, BitMeans}
use Rattle.term.specs.declared.bitwise.Operation.{Operation}
use Rattle.term.specs.declared.bitwise.Operation.TheVariants.{Not, And, Or, Xor, Choose}

-- the trees are those of the condition's two numbers
abbrev pub bit_of : ℕ → Operation → Tree → Tree → Bit → Bit → Work Bit
bit_of n Not must may a b = not_bit n a
bit_of n And must may a b = pair_bit n is_and (decided_by false) a b
bit_of n Or must may a b = pair_bit n is_or (decided_by true) a b
bit_of n Xor must may a b = pair_bit n is_xor undecided a b
bit_of n (Choose m k) must may a b = choose_bit n must may a b

-- ---- the terminal that decides an operation alone, if one does

-- what a known bit and an unknown one give
abbrev pub decides : Option Bool → Tree → Bit
decides (Some v) a = decided_by v a
decides None a = undecided a

-- the same by number
abbrev pub decided_of : ℕ → Option Bool → ℕ
decided_of a (Some v) = cond (eqb a (digit v)) a mark
decided_of a None = mark

-- ---- the condition

-- its two numbers stand for these trees
abbrev pub Under : ℕ → List ℕ → Builder → Operation → Tree → Tree → Type 0
Under n cells b (Choose m k) must may = BitMeans n cells b m (known must) × BitMeans n cells b k (known may)
Under n cells b op must may = Unit {0}

-- its two numbers are terminals or used nodes
abbrev pub UnderKnown : Builder → Operation → Type 0
UnderKnown b (Choose m k) = Known b m × Known b k
UnderKnown b op = Unit {0}
