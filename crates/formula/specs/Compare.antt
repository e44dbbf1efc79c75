-- One bit of a comparison, by the numbers that stand for bits.
--
--   agree_bit, order_bit  one bit's part of `equal_from`, of `chain`
--   read_of               a number, where the unknown mark is read as z
use Rattle.std.specs.Prelude.{ℕ, ◌+◌, ◌≤◌, Bool, cond, not, ◌&&◌, List, eqb, Result}
use Rattle.meaning.specs.Number.{digit}
use Rattle.meaning.specs.Diagram.{Tree}
use Rattle.meaning.specs.Step.{Work, done, ◌>>=◌, step, agree, is_and, unused}
use Rattle.meaning.specs.Row.{Bit, known, unknown}
use Rattle.meaning.specs.Formula.{read, order_step}
use Rattle.diagram.specs.State.{Works}
use Rattle.diagram.specs.declared.builder.Builder.{Builder}
use Rattle.diagram.specs.declared.builder.Made.{Made}
use Rattle.diagram.specs.declared.builder.NoRoom.{NoRoom}
use Rattle.diagram.specs.declared.scratch.Scratch.{Scratch}
use Rattle.term.specs.Row.{mark, BitMeans}
use Rattle.formula.specs.Pair.{TreeMeans}

-- from state b on one bit's work was done of numbers x, y and r, whatever they stand for
abbrev pub Turns : (ℕ → Bit → Bit → Tree → Work Tree) → List ℕ → Builder → ℕ → ℕ → ℕ → List ℕ → Scratch
    → Result (Made ℕ) NoRoom → Type 0
Turns turn cells b x y r cells' s' result =
    (n : ℕ) (p q : Bit) (z : Tree) → n ≤ 128 → BitMeans n cells b x p → BitMeans n cells b y q → TreeMeans n cells b r z →
    Works (TreeMeans n) cells b (turn n p q z) cells' s' result

-- ---- equal

-- where both are known, "the bits agree", then the conjunction so far
abbrev pub agree_bit : ℕ → Bit → Bit → Tree → Work Tree
agree_bit n (known a) (known b) r = do
  e ← step n agree a b unused
  step n is_and r e unused
agree_bit n (known a) unknown r = done r
agree_bit n unknown b r = done r

-- ---- unsigned ≤ and signed ≤

abbrev pub read_of : Bool → ℕ → ℕ
read_of z a = cond (eqb a mark) (digit z) a

-- bit i of `width` is the top bit of a signed number
abbrev pub top_of : Bool → ℕ → ℕ → Bool
top_of signed i width = signed && eqb (i + 1) width

-- at the top bit of a signed number an unknown bit is read the other way round
abbrev pub order_bit : Bool → Bool → ℕ → Bit → Bit → Tree → Work Tree
order_bit top z n a b r =
    let za = cond top (not z) z in
    step n (order_step top) (read za a) (read (not za) b) r
