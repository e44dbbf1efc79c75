-- Formulas: a pair of diagrams, must and may. One definition an operation.
--
-- n is the number of levels. An unknown bit is read so that must errs to false and may to true.
use Rattle.std.specs.Prelude.{ℕ, Bool, true, false, cond, not, ◌&&◌, List, [], ◌∷◌}
use Rattle.meaning.specs.Diagram.{Tree, leaf}
use Rattle.meaning.specs.Step.{Work, done, ◌>>=◌, step, quantify, is_not, is_and, agree, less_or_equal, signed_top, Function, unused}
use Rattle.meaning.specs.Row.{Bit, known, unknown, Row}

pub record Pair : Type 0 where
  pub must : Tree
  pub may : Tree

abbrev pub pair : Tree → Tree → Pair
pair must may = record { must = must; may = may }

-- must, then may
abbrev pub must_may : Work Tree → Work Tree → Work Pair
must_may must_work may_work = do
  must ← must_work
  may ← may_work
  done (pair must may)

-- ---- equal: start with true; for each bit where both are known, "the bits agree", then the conjunction so far

abbrev pub equal_from : ℕ → Tree → Row → Row → Work Tree
equal_from n r [] br = done r
equal_from n r (a ∷ ar) [] = done r
equal_from n r (known a ∷ ar) (known b ∷ br) = do
  e ← step n agree a b unused
  s ← step n is_and r e unused
  equal_from n s ar br
equal_from n r (known a ∷ ar) (unknown ∷ br) = equal_from n r ar br
equal_from n r (unknown ∷ ar) (b ∷ br) = equal_from n r ar br

-- no bit is unknown
abbrev pub sure : Row → Bool
sure [] = true
sure (known a ∷ ar) = sure ar
sure (unknown ∷ ar) = false

-- that is may; must is the same if no bit was unknown, else false
unfoldable pub equal : ℕ → Row → Row → Work Pair
equal n a b = do
  r ← equal_from n (leaf true) a b
  done (pair (cond (sure a && sure b) r (leaf false)) r)

-- ---- unsigned ≤ and signed ≤: from bit 0, one step a bit

-- a bit, where an unknown one is read as z
abbrev pub read : Bool → Bit → Tree
read z (known t) = t
read z unknown = leaf z

-- is this the top bit of a signed number? `rest` are the bits above it
abbrev pub signed_here : Bool → Row → Bool
signed_here signed [] = signed
signed_here signed (a ∷ ar) = false

abbrev pub order_step : Bool → Function
order_step true = signed_top
order_step false = less_or_equal

-- an unknown a is read as z and an unknown b as its opposite, the other way round at a signed top bit
abbrev pub chain : ℕ → Bool → Bool → Tree → Row → Row → Work Tree
chain n signed z r [] br = done r
chain n signed z r (a ∷ ar) [] = done r
chain n signed z r (a ∷ ar) (b ∷ br) =
    let here = signed_here signed ar in
    let za = cond here (not z) z in
    (do
      s ← step n (order_step here) (read za a) (read (not za) b) r
      chain n signed z s ar br)

-- for must an unknown a is read as 1 and an unknown b as 0; for may the reverse
unfoldable pub at_most : ℕ → Bool → Row → Row → Work Pair
at_most n signed a b = must_may (chain n signed true (leaf true) a b) (chain n signed false (leaf true) a b)

-- ---- not, and, or

-- must is not may, may is not must, in this order
unfoldable pub negation : ℕ → Pair → Work Pair
negation n p = must_may (step n is_not p.may unused unused) (step n is_not p.must unused unused)

unfoldable pub both : ℕ → Function → Pair → Pair → Work Pair
both n f p q = must_may (step n f p.must q.must unused) (step n f p.may q.may unused)

-- ---- exists (forall): one step a bit, the or (and) of both choices; the must chain, then the may chain

-- these levels, in this order
abbrev pub quantify_all : ℕ → (Bool → Bool → Bool) → List ℕ → Tree → Work Tree
quantify_all n f [] t = done t
quantify_all n f (l ∷ ls) t = do
  u ← quantify n f l t
  quantify_all n f ls u

unfoldable pub quantified : ℕ → (Bool → Bool → Bool) → List ℕ → Pair → Work Pair
quantified n f ls p = must_may (quantify_all n f ls p.must) (quantify_all n f ls p.may)
