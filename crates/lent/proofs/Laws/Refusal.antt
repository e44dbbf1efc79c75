-- What value and witness refuse: the first cause met, and the used nodes one by one.
use Prim.Native.Nat.{ℕ, zero, suc, ◌≤◌, ◌<◌}
use native.Mathlib.Omega.{arith}
use mathlib.Core.Path.{◌≡◌, refl, ap}
use mathlib.Core.Bool.{Bool, true, false, cond, ◌&&◌, and-false}
use mathlib.Core.List.{List}
use Rattle.std.specs.Prelude.{Result, Ok, Err}
use Rattle.std.specs.Result.{IsErrAnd}
use lib.Dec.{eqb}
use lib.ListN.{length}
use borrow.Author.Tests.{ne_eqb, eqb-true, eqb-false}
use Rattle.meaning.specs.Check.{refuse, first}
use Rattle.meaning.specs.Solve.{slots}
use Rattle.meaning.specs.Lent.{node_at, sound_node, sound_nodes, bad_nodes}
use Rattle.meaning.proofs.Laws.Lent.{bad_nodes_fits}
use Rattle.lent.specs.declared.refusal.Refusal.{Refusal}
use Rattle.lent.specs.declared.refusal.Refusal.TheVariants.{Table, Nodes, Assignment, Byte, False, Number}
use Rattle.lent.specs.Refusal.{number_of}

-- ---- the first refusal met

-- every refusal has a number
number_some : (refusal : Refusal) → number_of refusal ≡ 0 → ⊥
number_some Table none = omega arith
number_some Nodes none = omega arith
number_some Assignment none = omega arith
number_some Byte none = omega arith
number_some False none = omega arith
number_some Number none = omega arith

-- a number that is some refusal's
pub refuses : {A : Type 0} (refusal : Refusal) (go other : A) → cond (eqb (number_of refusal) 0) go other ≡ other
refuses {A} refusal go other = rw (ne_eqb (number_of refusal) 0 (number_some refusal))

-- what `?` hands on
pub result_err : {A : Type 0} {refusal : Refusal} (r : Result A Refusal) → IsErrAnd r (λ e. e ≡ refusal) → r ≡ Err refusal
result_err (Ok _) same = absurd same
result_err (Err e) same = ap Err same

-- this refusal's, as none comes before it
pub first_refuses : {lead : ℕ} (refusal : Refusal) (later : ℕ) → number_of refusal ≡ lead → number_of refusal ≡ first lead later
first_refuses refusal later is = rw (← is, ne_eqb (number_of refusal) 0 (number_some refusal))

-- a later one
pub first_passes : {lead x later : ℕ} → 0 ≡ lead → x ≡ later → x ≡ first lead later
first_passes none more = rw (← none) more

-- two causes looked at apart from the later ones
pub two_first : (m n : ℕ) (a b : Bool) (later : ℕ)
    → first (refuse (suc m) a (refuse (suc n) b 0)) later ≡ refuse (suc m) a (refuse (suc n) b later)
two_first m n true b later = rw (ne_eqb (suc m) 0 (omega arith))
two_first m n false true later = rw (ne_eqb (suc n) 0 (omega arith))
two_first m n false false later = refl

-- one cause looked at so
pub one_first : (n : ℕ) (a : Bool) (later : ℕ) → first (refuse (suc n) a 0) later ≡ refuse (suc n) a later
one_first n true later = rw (ne_eqb (suc n) 0 (omega arith))
one_first n false later = refl

-- ---- bad_nodes

pub unsound : (t : List ℕ) (k n : ℕ) → k < n → sound_node t k (node_at t k) ≡ false → sound_nodes t n ≡ false
unsound t k zero below bad = absurd (omega arith)
unsound t k (suc n) below bad = go (eqb k n) refl (λ under. unsound t k n under bad)
  where
    go : (b : Bool) → eqb k n ≡ b → (k < n → sound_nodes t n ≡ false)
        → sound_nodes t n && sound_node t n (node_at t n) ≡ false
    go true here before = rw (← eqb-true k n here, bad) (and-false (sound_nodes t k))
    go false other before = let apart = eqb-false k n other in rw (before (omega arith))

pub nodes_few : (t : List ℕ) (used : ℕ) → length t ≤ 3145728 → bad_nodes t used ≡ false → used ≤ 1048576
nodes_few t used short fine =
    let fits : used ≤ slots (length t) = bad_nodes_fits t used fine in
    omega arith
