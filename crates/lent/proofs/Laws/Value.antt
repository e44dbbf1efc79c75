-- Value: the first refusal met is the definition's, and the walk from a number down to a terminal gives its diagram's
-- truth and the number of nodes passed.
use Prim.Native.Nat.{ℕ, suc, ◌+◌, ◌-◌, ◌≤◌, ◌<◌}
use native.Mathlib.Omega.{arith}
use mathlib.Core.Path.{◌≡◌, refl, sym, ap, ap₂, ◌∙◌}
use mathlib.Core.Bool.{Bool, true, false, cond, not}
use mathlib.Core.List.{List, [], ◌∷◌}
use Rattle.std.specs.Prelude.{Result, Ok, Err}
use Rattle.std.specs.List.{list_all}
use lib.Dec.{eqb, ltb}
use lib.ListN.{length, get_or}
use Rattle.meaning.specs.Diagram.{Assignment, holds}
use Rattle.meaning.specs.Check.{refuse, first}
use Rattle.meaning.specs.Solve.{bad_table}
use Rattle.meaning.specs.Lent.{node_at, level_of, low_of, high_of, tree_of}
use Rattle.meaning.specs.Value.{assignment, passes, are_bits, value_refusal, value}
use Rattle.meaning.proofs.Laws.Lent.{tree_of_live}
use Rattle.meaning.proofs.Laws.Value.{passes_le}
use Rattle.lent.specs.Refusal.{number_of, buffers_refusal, diagram_refusal}
use Rattle.lent.specs.Followed.{Followed}
use Rattle.lent.specs.Value.{told, valued}
use Rattle.diagram.specs.declared.table.Node.{Node}
use Rattle.diagram.specs.Table.{node_of}
use Rattle.lent.specs.declared.refusal.Refusal.{Refusal}
use Rattle.lent.specs.declared.value.Valued.{Valued}
use Rattle.lent.proofs.Laws.Refusal.{refuses, first_refuses, first_passes, one_first, two_first}
use Rattle.lent.proofs.Laws.Followed.{followed_node, followed_lower, followed_tree, either_tree}
use Rattle.lent.proofs.Laws.Followed.{tree_of_terminal}

-- ---- are_bits

pub all_bits : (a : List ℕ) → list_all (λ byte. ltb byte 2) a ≡ are_bits a
all_bits [] = refl
all_bits (byte ∷ rest) = rw (all_bits rest)

-- ---- walk

-- on the way down from n: at number `at`, after so many nodes
pub record Way (t : List ℕ) (n : ℕ) (a : List ℕ) (at passed : ℕ) : Type 0 where
  pub follows : Followed t at
  pub bit : holds (tree_of t at) (assignment a) ≡ holds (tree_of t n) (assignment a)
  pub count : passed + passes (tree_of t at) (assignment a) ≡ passes (tree_of t n) (assignment a)
  pub small : passes (tree_of t n) (assignment a) ≤ 128

pub way_start : (t : List ℕ) (n : ℕ) (a : List ℕ) → Followed t n → Way t n a n 0
way_start t n a follows =
    record {
      follows = follows;
      bit = refl;
      count = omega arith;
      small =
          passes_le (tree_of t n) 0 128 (assignment a)
          (tree_of_live t follows.used n follows.sound follows.inside);
    }

-- what is read at `at`: its slot, its node, and the number that the level's byte chooses
pub record Step (t a : List ℕ) (at k : ℕ) (x : Node) (next : ℕ) : Type 0 where
  pub big : 2 ≤ at
  pub place : k ≡ at - 2
  pub here : x ≡ node_of (node_at t k)
  pub chosen : next ≡ cond (eqb (get_or a x.level 0) 1) x.high x.low

lower : (b : Bool) (m n k : ℕ) → m < k → n < k → cond b m n < k
lower true m n k p q = p
lower false m n k p q = q

-- numbers fall
pub step_less : {t a : List ℕ} {at k : ℕ} {x : Node} {next : ℕ} → Step t a at k x next → Followed t at → next < at
step_less {t} {a} {at} {k} {x} {next} step follows =
    let falls = (followed_node follows step.big).falls in
    let two : at - 2 + 2 ≡ at = omega (arith, step.big) in
    let y = node_at t (at - 2) in
    rw (step.chosen, step.here, step.place)
    (lower (eqb (get_or a (level_of y) 0) 1) (high_of y) (low_of y) at
    (rw two at falls.high.lower) (rw two at falls.low.lower))

pub way_next : {t : List ℕ} {n : ℕ} {a : List ℕ} {at passed k : ℕ} {x : Node} {next : ℕ} → Way t n a at passed
    → Step t a at k x next → Way t n a next (passed + 1)
way_next {t} {n} {a} {at} {passed} {k} {x} {next} way step =
    let lower = step_less step way.follows in
    let ρ : Assignment = assignment a in
    let y = node_at t (at - 2) in
    let b : Bool = eqb (get_or a (level_of y) 0) 1 in
    let tree = followed_tree way.follows step.big in
    let chosen : next ≡ cond b (high_of y) (low_of y) = step.chosen ∙ rw (step.here, step.place) in
    let truth : holds (tree_of t next) ρ ≡ holds (tree_of t at) ρ =
    ap (λ m. holds (tree_of t m) ρ) chosen ∙ either_tree (λ u. holds u ρ) t b (high_of y) (low_of y)
    ∙ sym (ap (λ u. holds u ρ) tree) in
    let path : suc (passes (tree_of t next) ρ) ≡ passes (tree_of t at) ρ =
    ap (λ m. suc (passes (tree_of t m) ρ)) chosen ∙ ap suc (either_tree (λ u. passes u ρ) t b (high_of y) (low_of y))
    ∙ sym (ap (λ u. passes u ρ) tree) in
    record {
      follows = followed_lower way.follows next (omega arith);
      bit = truth ∙ way.bit;
      count = omega (arith, way.count);
      small = way.small;
    }

-- a node that can be followed has a byte
pub way_level : {t : List ℕ} {at : ℕ} (k : ℕ) {x : Node} → Followed t at → 2 ≤ at → k ≡ at - 2 → x ≡ node_of (node_at t k)
    → x.level < 128
way_level k follows big place here = rw (here, place) (followed_node follows big).level

pub way_done : {t : List ℕ} {n : ℕ} {a : List ℕ} {at passed : ℕ} → Way t n a at passed → at < 2
    → record { bit = eqb at 1; passed = passed } ≡ told t n a
way_done {t} {n} {a} {at} {passed} way small =
    let leaf_at = tree_of_terminal t at small in
    let bit : eqb at 1 ≡ holds (tree_of t n) (assignment a) =
    sym (ap (λ u. holds u (assignment a)) leaf_at) ∙ way.bit in
    let none = ap (λ u. passes u (assignment a)) leaf_at in
    let count : passed ≡ passes (tree_of t n) (assignment a) = omega (arith, way.count) in
    ap₂ (λ (bit : Bool) (passed : ℕ). record { bit = bit; passed = passed }) bit count

-- ---- value

module _ (t : List ℕ) (used n : ℕ) (a : List ℕ) where
  -- in the order in which the code looks
  order : first (buffers_refusal (length t) (length a)) (first (refuse 14 (not (are_bits a)) 0) (diagram_refusal t used n))
      ≡ value_refusal t used n a
  unfolding value_refusal buffers_refusal diagram_refusal
  order =
      two_first 8 12 (bad_table (length t)) (not (eqb (length a) 128)) _
      ∙ ap (λ later. refuse 9 (bad_table (length t)) (refuse 13 (not (eqb (length a) 128)) later))
      (one_first 13 (not (are_bits a)) _)

  refused : {refusal : Refusal} → number_of refusal ≡ value_refusal t used n a → {r : Result Valued Refusal}
      → r ≡ Err refusal → valued r ≡ value t used n a
  unfolding value
  refused {refusal} is error = rw (error, ← is, refuses refusal)

  pub value_buffers : {refusal : Refusal} → number_of refusal ≡ buffers_refusal (length t) (length a)
      → {r : Result Valued Refusal} → r ≡ Err refusal → valued r ≡ value t used n a
  value_buffers is = refused (first_refuses _ _ is ∙ order)

  module _ (fit : 0 ≡ buffers_refusal (length t) (length a)) where
    pub value_bits : {refusal : Refusal} → number_of refusal ≡ refuse 14 (not (are_bits a)) 0
        → {r : Result Valued Refusal} → r ≡ Err refusal → valued r ≡ value t used n a
    value_bits is = refused (first_passes fit (first_refuses _ _ is) ∙ order)

    module _ (bits : 0 ≡ refuse 14 (not (are_bits a)) 0) where
      pub value_diagram : {refusal : Refusal} → number_of refusal ≡ diagram_refusal t used n
          → {r : Result Valued Refusal} → r ≡ Err refusal → valued r ≡ value t used n a
      value_diagram is = refused (first_passes fit (first_passes bits is) ∙ order)

      pub value_answered : 0 ≡ diagram_refusal t used n → {v : Valued} → v ≡ told t n a
          → valued (Ok v) ≡ value t used n a
      unfolding value
      value_answered fine {v} is = rw (← (first_passes fit (first_passes bits fine) ∙ order)) (ap (λ v. valued (Ok v)) is)
