-- Witness: level by level the bytes are those of the least assignment, and the first refusal met is the definition's.
use Prim.Native.Nat.{ℕ, suc, ◌+◌, ◌-◌, ◌≤◌, ◌<◌}
use native.Mathlib.Omega.{arith}
use native.Mathlib.Numerals.{add-one}
use mathlib.Core.Path.{◌≡◌, refl, sym, ap, ◌∙◌}
use mathlib.Core.Bool.{Bool, true, false, cond, not}
use mathlib.Core.List.{List, [], ◌∷◌, ◌++◌, map, append_assoc}
use Rattle.std.specs.Prelude.{Result, Ok, Err}
use lib.Dec.{eqb, ltb}
use lib.ListN.{length, take, set, length-set}
use lib.Seq.{take-suc-set}
use borrow.Author.Tests.{ltb-true, ltb-false}
use Rattle.meaning.specs.Number.{digit}
use Rattle.meaning.specs.Check.{refuse, first}
use Rattle.meaning.specs.Diagram.{Tree, leaf, node, same}
use Rattle.meaning.specs.Table.{Node}
use Rattle.meaning.specs.Solve.{bad_table}
use Rattle.meaning.specs.Lent.{node_at, level_of, low_of, high_of, bad_nodes, tree_of}
use Rattle.meaning.specs.Witness.{part, least, witness_refusal, witness}
use Rattle.meaning.proofs.Laws.Lent.{tree_of_zero_only}
use Rattle.diagram.specs.Table.{part_of}
use Rattle.lent.specs.Refusal.{number_of, buffers_refusal, diagram_refusal}
use Rattle.lent.specs.Followed.{Followed}
use Rattle.lent.specs.Witness.{choice_at, Witnesses}
use Rattle.lent.specs.declared.refusal.Refusal.{Refusal}
use Rattle.lent.specs.declared.refusal.Refusal.TheVariants.{False}
use Rattle.lent.specs.declared.witness.Choice.{Choice}
use Rattle.lent.proofs.Laws.Refusal.{refuses, first_refuses, first_passes, two_first}
use Rattle.lent.proofs.Laws.Followed.{followed_node, followed_lower, followed_tree, either_tree, tree_of_terminal}

-- ---- parts

part_at : (p q b : Bool) (n low high : ℕ) → (p ≡ false → (low ≤ n) × (high ≤ n))
    → cond p n (cond q (cond b high low) n) ≤ n
part_at true q b n low high under = omega arith
part_at false false b n low high under = omega arith
part_at false true true n low high under = (under refl).1
part_at false true false n low high under = (under refl).0

-- a part, by number, of a number that can be followed
module _ {t : List ℕ} {n : ℕ} (follows : Followed t n) (b : Bool) (l : ℕ) where
  pub part_followed : Followed t (part_of t b l n)
  part_followed =
      followed_lower follows (part_of t b l n) (part_at (ltb n 2) (eqb (level_of x) l) b n (low_of x) (high_of x) under)
    where
      x : Node
      x = node_at t (n - 2)

      under : ltb n 2 ≡ false → (low_of x ≤ n) × (high_of x ≤ n)
      under node_here =
          let big = ltb-false n 2 node_here in
          let falls = (followed_node follows big).falls in
          (omega (arith, falls.low.lower), omega (arith, falls.high.lower))

  -- it stands for the diagram's part
  pub part_tree_lem : tree_of t (part_of t b l n) ≡ part b l (tree_of t n)
  part_tree_lem = by (ltb n 2) refl
    where
      x : Node
      x = node_at t (n - 2)

      low : Tree
      low = tree_of t (low_of x)

      high : Tree
      high = tree_of t (high_of x)

      here : (q : Bool) → 2 ≤ n
          → tree_of t (cond q (cond b (high_of x) (low_of x)) n) ≡ cond q (cond b high low) (node (level_of x) low high)
      here true big = either_tree (λ u. u) t b (high_of x) (low_of x)
      here false big = followed_tree follows big

      by : (p : Bool) → ltb n 2 ≡ p
          → tree_of t (cond p n (cond (eqb (level_of x) l) (cond b (high_of x) (low_of x)) n)) ≡ part b l (tree_of t n)
      by true small = rw (tree_of_terminal t n (ltb-true n 2 small))
      by false large =
          let big = ltb-false n 2 large in
          here (eqb (level_of x) l) big ∙ sym (ap (part b l) (followed_tree follows big))

-- the byte is 1 just where the low part accepts nothing
choice_bit : {t : List ℕ} {n : ℕ} → Followed t n → (l : ℕ)
    → same (part false l (tree_of t n)) (leaf false) ≡ eqb (part_of t false l n) 0
choice_bit {t} {n} follows l =
    let low = part_followed follows false l in
    ap (λ u. same u (leaf false)) (sym (part_tree_lem follows false l))
    ∙ tree_of_zero_only t low.used (part_of t false l n) low.sound low.inside

-- ---- fill

-- the bytes of levels l and on, m of them, of the least assignment that number n accepts
abbrev least_bytes : ℕ → ℕ → List ℕ → ℕ → List ℕ
least_bytes m l t n = map digit (least m l (tree_of t n))

-- the first one is the choice's, the others are those of the number that is left
least_choice : {t : List ℕ} {n : ℕ} → Followed t n → (m l : ℕ)
    → least_bytes (suc m) l t n ≡ (choice_at t l n).byte ∷ least_bytes m (suc l) t (choice_at t l n).rest
unfolding choice_at
least_choice {t} {n} follows m l =
    let b = eqb (part_of t false l n) 0 in
    ap (λ c. map digit (c ∷ least m (suc l) (part c l (tree_of t n)))) (choice_bit follows l)
    ∙ ap (λ u. map digit (b ∷ least m (suc l) u)) (sym (part_tree_lem follows b l))

-- levels below l are written, and number `at` is left of n
pub record Filled (t : List ℕ) (n : ℕ) (a : List ℕ) (at l : ℕ) : Type 0 where
  pub follows : Followed t at
  pub long : length a ≡ 128
  pub bytes : take l a ++ least_bytes (128 - l) l t at ≡ least_bytes 128 0 t n

pub filled_next : {t : List ℕ} {n : ℕ} {a : List ℕ} {at l : ℕ} {c : Choice} → Filled t n a at l → l < 128
    → c ≡ choice_at t l at → Filled t n (set a l c.byte) c.rest (l + 1)
unfolding choice_at
filled_next {t} {n} {a} {at} {l} {c} filled inside is =
    let b = eqb (part_of t false l at) 0 in
    let left : 128 - l ≡ suc (128 - suc l) = omega arith in
    let long = filled.long in
    let written : take (suc l) (set a l c.byte) ≡ take l a ++ (c.byte ∷ []) =
    take-suc-set a l c.byte (omega arith) in
    let rest : c.byte ∷ least_bytes (128 - suc l) (suc l) t c.rest ≡ least_bytes (128 - l) l t at =
    ap (λ (k : Choice). k.byte ∷ least_bytes (128 - suc l) (suc l) t k.rest) is
    ∙ sym (least_choice filled.follows (128 - suc l) l) ∙ ap (λ m. least_bytes m l t at) (sym left) in
    record {
      follows = rw is (part_followed filled.follows b l);
      long = length-set a l c.byte ∙ long;
      bytes =
          rw (add-one l, written)
          (append_assoc (take l a) (c.byte ∷ []) _ ∙ ap {B = List ℕ} (λ r. take l a ++ r) rest ∙ filled.bytes);
    }

-- ---- witness

module _ (t : List ℕ) (used n : ℕ) (a : List ℕ) where
  -- in the order in which the code looks
  order : first (buffers_refusal (length t) (length a)) (first (diagram_refusal t used n) (refuse 15 (eqb n 0) 0))
      ≡ witness_refusal t used n (length a)
  unfolding witness_refusal buffers_refusal diagram_refusal
  order =
      two_first 8 12 (bad_table (length t)) (not (eqb (length a) 128)) _
      ∙ ap (λ later. refuse 9 (bad_table (length t)) (refuse 13 (not (eqb (length a) 128)) later))
      (two_first 11 15 (bad_nodes t used) (ltb (used + 1) n) _)

  refused : {refusal : Refusal} → number_of refusal ≡ witness_refusal t used n (length a)
      → {r : Result (Unit {0}) Refusal} → r ≡ Err refusal → Witnesses t used n a r a
  unfolding witness
  refused {refusal} is error = rw error (record { number = rw (← is, refuses refusal); buffer = rw (← is, refuses refusal) })

  pub witness_buffers : {refusal : Refusal} → number_of refusal ≡ buffers_refusal (length t) (length a)
      → {r : Result (Unit {0}) Refusal} → r ≡ Err refusal → Witnesses t used n a r a
  witness_buffers is = refused (first_refuses _ _ is ∙ order)

  module _ (fit : 0 ≡ buffers_refusal (length t) (length a)) where
    pub witness_diagram : {refusal : Refusal} → number_of refusal ≡ diagram_refusal t used n
        → {r : Result (Unit {0}) Refusal} → r ≡ Err refusal → Witnesses t used n a r a
    witness_diagram is = refused (first_passes fit (first_refuses _ _ is) ∙ order)

    module _ (sound : 0 ≡ diagram_refusal t used n) where
      pub witness_never : eqb n 0 ≡ true → Witnesses t used n a (Err False) a
      witness_never never =
          refused (first_passes fit (first_passes sound (rw never)) ∙ order) refl

      pub witness_answered : eqb n 0 ≡ false → {left : List ℕ} → left ≡ least_bytes 128 0 t n
          → Witnesses t used n a (Ok tt) left
      unfolding witness
      witness_answered some written =
          let past : 0 ≡ witness_refusal t used n (length a) =
          first_passes fit (first_passes sound (rw some)) ∙ order in
          record { number = rw (← past); buffer = rw (← past) written }
