-- Witness: the assignment that is found makes the diagram true, and none that does comes before it, level 0 counting
-- most.
--
-- Main results: witness_holds, witness_first.
use Prim.Native.Nat.{ℕ, zero, suc, ◌+◌, ◌<◌}
use native.Mathlib.Omega.{arith}
use native.Mathlib.Nat.{add-zero, zero-add}
use mathlib.Core.Path.{◌≡◌, refl, sym, ap, subst, ◌∙◌}
use mathlib.Core.Logic.{◌≢◌}
use mathlib.Core.Bool.{Bool, true, false, cond, not, ◌&&◌, ◌||◌, beq, true≢false, false≢true}
use mathlib.Core.List.{List, [], ◌∷◌, map}
use lib.Dec.{eqb, ltb}
use lib.ListN.{length, get_or}
use borrow.Author.Tests.{ltb-false, eqb-true, eqb-false, eq-eqb}
use Rattle.meaning.specs.Number.{digit}
use Rattle.meaning.specs.Check.{max_levels}
use Rattle.meaning.specs.Diagram.{Tree, leaf, node, Assignment, holds, same}
use Rattle.meaning.specs.Solve.{untouched, filled, after, bad_table}
use Rattle.meaning.specs.Lent.{bad_nodes, tree_of}
use Rattle.meaning.specs.Value.{assignment}
use Rattle.meaning.specs.Witness.{part, least, Witnessed, witness_refusal, witness}
use Rattle.meaning.proofs.Laws.Lent.{Live, tree_of_live, tree_of_zero_only}
use Rattle.meaning.proofs.Laws.Value.{refuse_none, chosen_number}

-- the assignment that some bits say, one a level
abbrev pub says : List Bool → Assignment
says bs l = get_or bs l false

-- ρ comes before τ on n levels from l on, level l counting most
unfoldable pub earlier : ℕ → ℕ → Assignment → Assignment → Bool
earlier zero l ρ τ = false
earlier (suc n) l ρ τ = (not (ρ l) && τ l) || (beq (ρ l) (τ l) && earlier n (suc l) ρ τ)

-- ---- part

part_holds : (t : Tree) (l : ℕ) (ρ : Assignment) → holds (part (ρ l) l t) ρ ≡ holds t ρ
part_holds (leaf c) l ρ = refl
part_holds (node i d e) l ρ = go (eqb i l) refl
  where
    choose : (b : Bool) → holds (cond b e d) ρ ≡ cond b (holds e ρ) (holds d ρ)
    choose true = refl
    choose false = refl

    go : (b : Bool) → eqb i l ≡ b → holds (cond b (cond (ρ l) e d) (node i d e)) ρ ≡ cond (ρ i) (holds e ρ) (holds d ρ)
    go true here = rw (eqb-true i l here) (choose (ρ l))
    go false here = refl

part_live : (t : Tree) (b : Bool) (l n : ℕ) → Live l n t → Live (suc l) n (part b l t)
part_live (leaf c) b l n live = tt
part_live (node i d e) b l n live = go (eqb i l) b refl
  where
    go : (c b : Bool) → eqb i l ≡ c → Live (suc l) n (cond c (cond b e d) (node i d e))
    go true true here = rw (eqb-true i l here) at live.high
    go true false here = rw (eqb-true i l here) at live.low
    go false b here =
        let other : i ≢ l = eqb-false i l here in
        let from = live.from in
        record { from = omega arith; below = live.below; low = live.low; high = live.high; live = live.live }

-- the bit that `least` takes at level l
abbrev least_bit : ℕ → Tree → Bool
least_bit l t = same (part false l t) (leaf false)

-- with it a part of what isn't false isn't false
part_alive : (t : Tree) (l n : ℕ) → Live l n t → same t (leaf false) ≡ false
    → same (part (least_bit l t) l t) (leaf false) ≡ false
part_alive (leaf c) l n live alive = alive
part_alive (node i d e) l n live alive = go (eqb i l) (same d (leaf false)) refl live.live
  where
    go : (c b : Bool) → same d (leaf false) ≡ b → b && same e (leaf false) ≡ false
        → same (cond c (cond (same (cond c d (node i d e)) (leaf false)) e d) (node i d e)) (leaf false) ≡ false
    go true true here other = rw here other
    go true false here other = rw here here
    go false b here other = refl

-- ---- least

pub least_length : (n l : ℕ) (t : Tree) → length (least n l t) ≡ n
least_length zero l t = refl
least_length (suc n) l t = ap suc (least_length n (suc l) (part (least_bit l t) l t))

-- ρ says what `least` found, from level l on
abbrev Follows : ℕ → ℕ → Tree → Assignment → Type 0
Follows n l t ρ = (k : ℕ) → k < n → ρ (l + k) ≡ get_or (least n l t) k false

follows_first : (n l : ℕ) (t : Tree) (ρ : Assignment) → Follows (suc n) l t ρ → ρ l ≡ least_bit l t
follows_first n l t ρ follows = ap ρ (sym (add-zero l)) ∙ follows 0 (omega arith)

follows_rest : (n l : ℕ) (t : Tree) (ρ : Assignment) → Follows (suc n) l t ρ
    → Follows n (suc l) (part (least_bit l t) l t) ρ
follows_rest n l t ρ follows k inside =
    let next : suc l + k ≡ l + suc k = omega arith in
    ap ρ next ∙ follows (suc k) (omega arith)

follows_says : (n : ℕ) (t : Tree) → Follows n 0 t (says (least n 0 t))
follows_says n t k inside = ap (says (least n 0 t)) (zero-add k)

least_holds_from : (n l : ℕ) (t : Tree) (ρ : Assignment) → Live l (l + n) t → same t (leaf false) ≡ false
    → Follows n l t ρ → holds t ρ ≡ true
least_holds_from zero l (leaf true) ρ live alive follows = refl
least_holds_from zero l (leaf false) ρ live alive follows = sym alive
least_holds_from zero l (node i d e) ρ live alive follows = absurd (omega (arith, live.from, live.below))
least_holds_from (suc n) l t ρ live alive follows =
    let more : l + suc n ≡ suc l + n = omega arith in
    let below = part (least_bit l t) l t in
    let lives : Live (suc l) (suc l + n) below = rw more at (part_live t (least_bit l t) l (l + suc n) live) in
    let still = part_alive t l (l + suc n) live alive in
    let rest = least_holds_from n (suc l) below ρ lives still (follows_rest n l t ρ follows) in
    sym (part_holds t l ρ) ∙ ap (λ b. holds (part b l t) ρ) (follows_first n l t ρ follows) ∙ rest

pub least_holds : (n : ℕ) (t : Tree) → Live 0 n t → same t (leaf false) ≡ false → holds t (says (least n 0 t)) ≡ true
least_holds n t live alive =
    least_holds_from n 0 t (says (least n 0 t)) (rw (zero-add n) live) alive (follows_says n t)

same_false : (t : Tree) (ρ : Assignment) → same t (leaf false) ≡ true → holds t ρ ≡ false
same_false (leaf true) ρ equal = sym equal
same_false (leaf false) ρ equal = refl
same_false (node i d e) ρ equal = absurd (false≢true equal)

least_first_from : (n l : ℕ) (t : Tree) (ρ τ : Assignment) → holds t ρ ≡ true → Follows n l t τ
    → earlier n l ρ τ ≡ false
unfolding earlier
least_first_from zero l t ρ τ accepted follows = refl
least_first_from (suc n) l t ρ τ accepted follows =
    go (ρ l) (least_bit l t) refl refl
    (λ still. least_first_from n (suc l) (part (least_bit l t) l t) ρ τ still (follows_rest n l t τ follows))
  where
    bit : τ l ≡ least_bit l t
    bit = follows_first n l t τ follows

    still : (r : Bool) → ρ l ≡ r → holds (part r l t) ρ ≡ true
    still r p = ap (λ b. holds (part b l t) ρ) (sym p) ∙ part_holds t l ρ ∙ accepted

    go : (r b : Bool) → ρ l ≡ r → least_bit l t ≡ b
        → (holds (part (least_bit l t) l t) ρ ≡ true → earlier n (suc l) ρ τ ≡ false)
        → (not (ρ l) && τ l) || (beq (ρ l) (τ l) && earlier n (suc l) ρ τ) ≡ false
    go true false p q below = rw (p, bit, q)
    go true true p q below = rw (p, bit, q) (below (ap (λ b. holds (part b l t) ρ) q ∙ still true p))
    go false false p q below = rw (p, bit, q) (below (ap (λ b. holds (part b l t) ρ) q ∙ still false p))
    go false true p q below = absurd (true≢false (sym (still false p) ∙ same_false (part false l t) ρ q))

-- no accepted assignment comes before it
pub least_first : (n : ℕ) (t : Tree) → Live 0 n t → same t (leaf false) ≡ false → (ρ : Assignment) → holds t ρ ≡ true
    → earlier n 0 ρ (says (least n 0 t)) ≡ false
least_first n t live alive ρ accepted = least_first_from n 0 t ρ (says (least n 0 t)) accepted (follows_says n t)

-- ---- witness

pub says_assignment : (bs : List Bool) (l : ℕ) → assignment (map digit bs) l ≡ says bs l
says_assignment [] l = refl
says_assignment (true ∷ bs) zero = refl
says_assignment (false ∷ bs) zero = refl
says_assignment (b ∷ bs) (suc l) = says_assignment bs l

follows_bytes : (n : ℕ) (t : Tree) → Follows n 0 t (assignment (map digit (least n 0 t)))
follows_bytes n t k inside = says_assignment (least n 0 t) (0 + k) ∙ follows_says n t k inside

pub witness_refusal_none : (t : List ℕ) (used n buffer : ℕ) → witness_refusal t used n buffer ≡ 0
    → (bad_nodes t used ≡ false) × (n < used + 2) × (eqb n 0 ≡ false)
unfolding witness_refusal
witness_refusal_none t used n buffer e =
    let table = refuse_none 8 (bad_table (length t)) _ e in
    let long = refuse_none 12 (not (eqb buffer max_levels)) _ table.1 in
    let nodes = refuse_none 11 (bad_nodes t used) _ long.1 in
    let number = refuse_none 15 (ltb (used + 1) n) _ nodes.1 in
    let never = refuse_none 14 (eqb n 0) 0 number.1 in
    (nodes.0, omega (arith, ltb-false (used + 1) n number.0), never.0)

-- the answer where nothing is refused
abbrev answer : List ℕ → ℕ → Witnessed
answer t n = record { number = 0; assignment = filled (map digit (least max_levels 0 (tree_of t n))) }

pub witness_number : (t : List ℕ) (used n buffer : ℕ) → (witness t used n buffer).number ≡ witness_refusal t used n buffer
unfolding witness
witness_number t used n buffer =
    let r = witness_refusal t used n buffer in
    let other : Witnessed = record { number = r; assignment = untouched } in
    chosen_number (λ (w : Witnessed). w.number) r (answer t n) other refl refl

witness_answer : (t : List ℕ) (used n buffer : ℕ) → (witness t used n buffer).number ≡ 0
    → witness t used n buffer ≡ answer t n
unfolding witness
witness_answer t used n buffer fine =
    rw (eq-eqb (witness_refusal t used n buffer) 0 (sym (witness_number t used n buffer) ∙ fine))

-- the assignment that is left in the buffer
abbrev pub witnessed : List ℕ → ℕ → ℕ → Assignment
witnessed t used n = assignment (after (witness t used n 128).assignment [])

witness_follows : (t : List ℕ) (used n : ℕ) → (witness t used n 128).number ≡ 0
    → Follows 128 0 (tree_of t n) (witnessed t used n)
witness_follows t used n fine =
    let follows : Witnessed → Type 0 = λ w. Follows 128 0 (tree_of t n) (assignment (after w.assignment [])) in
    subst follows (sym (witness_answer t used n 128 fine)) (follows_bytes 128 (tree_of t n))

pub witness_holds : (t : List ℕ) (used n : ℕ) → (witness t used n 128).number ≡ 0
    → holds (tree_of t n) (witnessed t used n) ≡ true
witness_holds t used n fine =
    let none = witness_refusal_none t used n 128 (sym (witness_number t used n 128) ∙ fine) in
    let live = tree_of_live t used n none.0 none.1 in
    let alive = tree_of_zero_only t used n none.0 none.1 ∙ none.2 in
    least_holds_from 128 0 (tree_of t n) (witnessed t used n) live alive (witness_follows t used n fine)

-- no accepted assignment comes before it
pub witness_first : (t : List ℕ) (used n : ℕ) → (witness t used n 128).number ≡ 0
    → (ρ : Assignment) → holds (tree_of t n) ρ ≡ true → earlier 128 0 ρ (witnessed t used n) ≡ false
witness_first t used n fine ρ accepted =
    least_first_from 128 0 (tree_of t n) ρ (witnessed t used n) accepted (witness_follows t used n fine)
