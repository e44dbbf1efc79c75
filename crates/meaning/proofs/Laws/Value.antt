-- Value: a path passes no more nodes than there are levels, and an answer is the lent diagram's truth and path length.
use Prim.Native.Nat.{ℕ, suc, ◌+◌, ◌-◌, ◌≤◌, ◌<◌}
use native.Mathlib.Omega.{arith}
use mathlib.Core.Path.{◌≡◌, refl, sym, ◌∙◌}
use mathlib.Core.Bool.{Bool, true, false, cond, not}
use mathlib.Core.List.{List}
use lib.Dec.{eqb, ltb}
use lib.ListN.{length}
use borrow.Author.Tests.{ltb-false, eqb-true, eq-eqb}
use Rattle.meaning.specs.Number.{digit}
use Rattle.meaning.specs.Check.{refuse, max_levels}
use Rattle.meaning.specs.Diagram.{Tree, leaf, node, Assignment, holds}
use Rattle.meaning.specs.Solve.{bad_table}
use Rattle.meaning.specs.Lent.{bad_nodes, tree_of}
use Rattle.meaning.specs.Value.{Valued, assignment, passes, are_bits, value_refusal, value}
use Rattle.meaning.proofs.Laws.Lent.{Live, tree_of_live}

-- ---- passes

pub passes_le : (t : Tree) (l n : ℕ) (ρ : Assignment) → Live l n t → passes t ρ ≤ n - l
passes_le (leaf b) l n ρ live = omega arith
passes_le (node i d e) l n ρ live =
    go (ρ i) (passes_le d (suc i) n ρ live.low) (passes_le e (suc i) n ρ live.high)
  where
    from : l ≤ i
    from = live.from

    below : i < n
    below = live.below

    go : (b : Bool) → passes d ρ ≤ n - suc i → passes e ρ ≤ n - suc i → suc (cond b (passes e ρ) (passes d ρ)) ≤ n - l
    go true low high = omega (arith, from, below)
    go false low high = omega (arith, from, below)

-- ---- value

-- no refusal: not this one, and none of the later ones
pub refuse_none : (n : ℕ) (cause : Bool) (later : ℕ) → refuse (suc n) cause later ≡ 0 → (cause ≡ false) × (later ≡ 0)
refuse_none n true later e = absurd (omega arith)
refuse_none n false later e = (refl, e)

-- an answer whose number is 0, unless r refuses, has the number r
pub chosen_number : {A : Type 0} (number : A → ℕ) (r : ℕ) (answer other : A) → number answer ≡ 0 → number other ≡ r
    → number (cond (eqb r 0) answer other) ≡ r
chosen_number {A} number r answer other done refused = by (eqb r 0) refl
  where
    by : (b : Bool) → eqb r 0 ≡ b → number (cond b answer other) ≡ r
    by true e = done ∙ sym (eqb-true r 0 e)
    by false e = refused

pub value_refusal_none : (t : List ℕ) (used n : ℕ) (a : List ℕ) → value_refusal t used n a ≡ 0
    → (bad_nodes t used ≡ false) × (n < used + 2)
unfolding value_refusal
value_refusal_none t used n a e =
    let table = refuse_none 8 (bad_table (length t)) _ e in
    let long = refuse_none 12 (not (eqb (length a) max_levels)) _ table.1 in
    let bits = refuse_none 13 (not (are_bits a)) _ long.1 in
    let nodes = refuse_none 11 (bad_nodes t used) _ bits.1 in
    let number = refuse_none 15 (ltb (used + 1) n) 0 nodes.1 in
    (nodes.0, omega (arith, ltb-false (used + 1) n number.0))

-- the answer where nothing is refused
abbrev answer : List ℕ → ℕ → List ℕ → Valued
answer t n a =
    let tree = tree_of t n in
    record { number = 0; bit = digit (holds tree (assignment a)); passed = passes tree (assignment a) }

pub value_number : (t : List ℕ) (used n : ℕ) (a : List ℕ) → (value t used n a).number ≡ value_refusal t used n a
unfolding value
value_number t used n a =
    let r = value_refusal t used n a in
    chosen_number (λ (v : Valued). v.number) r (answer t n a) (record { number = r; bit = 0; passed = 0 }) refl refl

value_answer : (t : List ℕ) (used n : ℕ) (a : List ℕ) → (value t used n a).number ≡ 0 → value t used n a ≡ answer t n a
unfolding value
value_answer t used n a fine = rw (eq-eqb (value_refusal t used n a) 0 (sym (value_number t used n a) ∙ fine))

pub value_passed : (t : List ℕ) (used n : ℕ) (a : List ℕ) → (value t used n a).passed ≤ 128
unfolding value
value_passed t used n a = go (eqb (value_refusal t used n a) 0) refl
  where
    go : (b : Bool) → eqb (value_refusal t used n a) 0 ≡ b
        → (cond b (answer t n a) (record { number = value_refusal t used n a; bit = 0; passed = 0 })).passed ≤ 128
    go true e =
        let fine = value_refusal_none t used n a (eqb-true (value_refusal t used n a) 0 e) in
        passes_le (tree_of t n) 0 128 (assignment a) (tree_of_live t used n fine.0 fine.1)
    go false e = omega arith

pub value_bit : (t : List ℕ) (used n : ℕ) (a : List ℕ) → (value t used n a).number ≡ 0
    → ((value t used n a).bit ≡ digit (holds (tree_of t n) (assignment a)))
    × ((value t used n a).passed ≡ passes (tree_of t n) (assignment a))
value_bit t used n a fine = rw (value_answer t used n a fine) (refl, refl)
