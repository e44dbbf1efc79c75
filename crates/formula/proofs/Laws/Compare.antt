-- One bit of a comparison.
--
--   agree_skip, agree_fails, agree_works   a bit of equal: one is unknown; no room for the first step; both are known
--   order_works                            a bit of ≤
--   sure_row                               the code's test of a row is the definition's
use Prim.Native.Nat.{ℕ, zero, suc, ◌<◌}
use native.Mathlib.Omega.{arith}
use mathlib.Core.Path.{◌≡◌, refl, sym, ◌∙◌}
use mathlib.Core.Logic.{◌≢◌, ◌⊎◌, inl, inr}
use mathlib.Core.Bool.{Bool, true, false, true≢false, cond, not}
use mathlib.Core.List.{List, [], ◌∷◌}
use lib.ListN.{length, get_or}
use borrow.Author.Tests.{eq-eqb, ne_eqb}
use Rattle.std.specs.Prelude.{Result, Ok, Err, IsTrue, All, ◌↔◌}
use Rattle.std.proofs.lemmas.Bool.{false_from_ne_true}
use Rattle.std.proofs.lemmas.List.{get_or-take, length-take}
use Rattle.std.proofs.lemmas.Grind.{get_or_default_zero}
use Rattle.std.specs.Bool.{beq}
use Rattle.meaning.specs.Diagram.{Tree}
use Rattle.meaning.specs.Step.{done, step, is_and, agree, unused}
use Rattle.meaning.specs.Row
use Rattle.meaning.specs.Row.{Bit, known, unknown}
use Rattle.meaning.specs.Formula.{sure, read, order_step}
use Rattle.diagram.specs.State.{Ready}
use Rattle.diagram.specs.declared.builder.Builder.{Builder}
use Rattle.diagram.specs.declared.builder.Made.{Made}
use Rattle.diagram.specs.declared.builder.NoRoom.{NoRoom}
use Rattle.diagram.specs.declared.scratch.Scratch.{Scratch}
use Rattle.diagram.proofs.Laws.After.{after_nothing, works_then, lacks_more}
use Rattle.term.specs.Row.{mark, places, BitMeans, RowMeans}
use Rattle.term.specs.declared.row.Row as Declared
use Rattle.term.proofs.Laws.Levels.{Tabled, and_table, agree_table, less_table, signed_top_table}
use Rattle.term.proofs.Laws.Rows.{is_used, not_mark}
use Rattle.formula.specs.Pair.{TreeMeans}
use Rattle.formula.specs.Compare.{Turns, agree_bit, read_of, order_bit}
use Rattle.formula.proofs.Laws.Work.{Steps, tree_later, leaf_means, step_named}

-- ---- the unknown mark

-- a known bit's number isn't the mark
known_other : {cells : List ℕ} {s : Scratch} {b : Builder} → Ready cells s b → (n a : ℕ) (x : Tree)
    → BitMeans n cells b a (known x) → a ≢ mark
known_other {cells} {b = b} ready n a x means = not_mark ready a (is_used cells b a x means.0)

-- a bit whose number isn't the mark is known
record Diagram (n : ℕ) (cells : List ℕ) (b : Builder) (a : ℕ) (p : Bit) : Type 0 where
  pub tree : Tree
  pub is : p ≡ known tree
  pub means : TreeMeans n cells b a tree

bit_tree : (n : ℕ) (cells : List ℕ) (b : Builder) (a : ℕ) (p : Bit) → a ≢ mark → BitMeans n cells b a p → Diagram n cells b a p
bit_tree n cells b a (known x) other means =
    record { tree = x; is = refl; means = record { is = means.0; good = means.1 } }
bit_tree n cells b a unknown other means = absurd (other means)

-- ---- equal

module _ {cells : List ℕ} {s : Scratch} {b : Builder} (ready : Ready cells s b) where
  agree_none : (n x y : ℕ) (p q : Bit) (z : Tree) → (x ≡ mark) ⊎ (y ≡ mark) → BitMeans n cells b x p → BitMeans n cells b y q
      → agree_bit n p q z ≡ done z
  agree_none n x y (known s) (known u) z (inl e) is_x is_y = absurd (known_other ready n x s is_x e)
  agree_none n x y (known s) (known u) z (inr e) is_x is_y = absurd (known_other ready n y u is_y e)
  agree_none n x y (known s) unknown z skip is_x is_y = refl
  agree_none n x y unknown q z skip is_x is_y = refl

  pub agree_skip : {x y r : ℕ} → (x ≡ mark) ⊎ (y ≡ mark)
      → Turns agree_bit cells b x y r cells s (Ok (record { at = b; value = r }))
  agree_skip {x} {y} skip n p q z le is_x is_y is_r =
      rw (agree_none n x y p q z skip is_x is_y) (record { after = after_nothing ready; means = is_r })

module _ {cells : List ℕ} {b : Builder} {x y : ℕ} (other_x : x ≢ mark) (other_y : y ≢ mark) (c₁ : List ℕ) (s₁ : Scratch) where
  -- there is no room for "the bits agree"
  pub agree_fails : (r : ℕ) (e : NoRoom) → Steps cells b 195 x y 0 c₁ s₁ (Err e) → Turns agree_bit cells b x y r c₁ s₁ (Err e)
  agree_fails r e first n p q z le is_x is_y is_r =
      let one = bit_tree n cells b x p other_x is_x in
      let two = bit_tree n cells b y q other_y is_y in
      let lacks = step_named c₁ s₁ 195 (Err e) first agree agree_table le one.means two.means (leaf_means n cells b false) in
      let last = step n is_and z (step n agree one.tree two.tree unused).value unused in
      rw (one.is, two.is) (lacks_more last.steps lacks)

  -- the conjunction follows it
  pub agree_works : (r : ℕ) (m : Made ℕ) (c₂ : List ℕ) (s₂ : Scratch) (result : Result (Made ℕ) NoRoom)
      → Steps cells b 195 x y 0 c₁ s₁ (Ok m) → Steps c₁ m.at 192 r m.value 0 c₂ s₂ result
      → Turns agree_bit cells b x y r c₂ s₂ result
  agree_works r m c₂ s₂ result first second n p q z le is_x is_y is_r =
      let one = bit_tree n cells b x p other_x is_x in
      let two = bit_tree n cells b y q other_y is_y in
      let agrees = step_named c₁ s₁ 195 (Ok m) first agree agree_table le one.means two.means (leaf_means n cells b false) in
      rw (one.is, two.is)
      (works_then (TreeMeans n) (λ v. step n is_and z v unused) c₂ s₂ result agrees
      (step_named c₂ s₂ 192 result second is_and and_table le (tree_later is_r agrees.after) agrees.means
      (leaf_means n c₁ m.at false)))

-- ---- the test of a row

sure_each : (p : Row.Row) → ((i : ℕ) → i < length p → get_or p i unknown ≢ unknown) → sure p ≡ true
sure_each [] h = refl
sure_each (known x ∷ p) h = sure_each p (λ i below. h (suc i) (omega arith))
sure_each (unknown ∷ p) h = absurd (h 0 (omega arith) refl)

sure_known : (p : Row.Row) → sure p ≡ true → (i : ℕ) → i < length p → get_or p i unknown ≢ unknown
sure_known [] e i below is = absurd (omega arith)
sure_known (known x ∷ p) e zero below is = absurd (known_unknown is)
  where
    known_unknown : known x ≡ unknown → ⊥
    known_unknown h = cc
sure_known (known x ∷ p) e (suc i) below is = sure_known p e i (omega arith) is
sure_known (unknown ∷ p) e i below is = true≢false (sym e)

mark_inside : (xs : List ℕ) (i : ℕ) → get_or xs i 0 ≡ mark → i < length xs
mark_inside [] i e = absurd (omega arith)
mark_inside (x ∷ xs) zero e = omega arith
mark_inside (x ∷ xs) (suc i) e = let inside = mark_inside xs i e in omega arith

module _ {cells : List ℕ} {s : Scratch} {b : Builder} (ready : Ready cells s b) where
  mark_unknown : (n a : ℕ) (q : Bit) → BitMeans n cells b a q → a ≡ mark → q ≡ unknown
  mark_unknown n a (known x) is e = absurd (known_other ready n a x is e)
  mark_unknown n a unknown is e = refl

  pub sure_row : {n : ℕ} {x : Declared.Row} {p : Row.Row} {r : Bool} → RowMeans n cells b x p
      → (IsTrue r ↔ All (λ a. a ≢ mark) (places x)) → r ≡ sure p
  sure_row {n} {x} {p} {r} means tested = go (sure p) refl
    where
      each : sure p ≡ true → All (λ a. a ≢ mark) (places x)
      each e k d below is =
          let short = length-take x.width x.bits in
          let here = get_or_default_zero (places x) k d below ∙ get_or-take x.width x.bits k 0 (omega arith) in
          let inside : k < length p = omega (arith, means.long) in
          sure_known p e k inside
          (mark_unknown n (get_or x.bits k 0) (get_or p k unknown) (means.bits k (omega arith)) (sym here ∙ is))

      all : All (λ a. a ≢ mark) (places x) → (i : ℕ) → i < length p → get_or p i unknown ≢ unknown
      all others i below is =
          let bit = means.bits i (omega (arith, means.long)) in
          let marked : get_or x.bits i 0 ≡ mark = rw is at bit in
          let inside = mark_inside x.bits i marked in
          let short = length-take x.width x.bits in
          let within : i < x.width = omega (arith, means.long) in
          others i 0 (omega arith) (get_or-take x.width x.bits i 0 within ∙ marked)

      go : (known : Bool) → sure p ≡ known → r ≡ known
      go true e = tested.1 (each e)
      go false e = false_from_ne_true r (λ is. true≢false (sym (sure_each p (all (tested.0 is))) ∙ e))

-- ---- unsigned ≤ and signed ≤

read_means : {cells : List ℕ} {s : Scratch} {b : Builder} → Ready cells s b → (n : ℕ) (z : Bool) (a : ℕ) (p : Bit)
    → BitMeans n cells b a p → TreeMeans n cells b (read_of z a) (read z p)
read_means ready n z a (known x) means =
    record { is = rw (ne_eqb a mark (known_other ready n a x means)) means.0; good = means.1 }
read_means ready n z a unknown means = record { is = rw (eq-eqb a mark means) refl; good = tt }

order_table : (top : Bool) → Tabled (cond top 178 142) (order_step top)
order_table true = signed_top_table
order_table false = less_table

-- the code reads x so where z and top differ
turned : (z top : Bool) → not (beq z top) ≡ cond top (not z) z
turned true true = refl
turned true false = refl
turned false true = refl
turned false false = refl

pub order_works : {cells : List ℕ} {w : Scratch} {b : Builder} {f p q : ℕ} (top z : Bool) (x y r : ℕ) (c₁ : List ℕ) (s₁ : Scratch)
    (result : Result (Made ℕ) NoRoom) → Ready cells w b → f ≡ cond top 178 142 → p ≡ read_of (not (beq z top)) x
    → q ≡ read_of (not (not (beq z top))) y → Steps cells b f p q r c₁ s₁ result
    → Turns (order_bit top z) cells b x y r c₁ s₁ result
order_works top z x y r c₁ s₁ result ready table first second does n u v s le is_x is_y is_r =
    let za = cond top (not z) z in
    step_named c₁ s₁ (cond top 178 142) result (rw (table, first, second, turned z top) at does) (order_step top)
    (order_table top) le (read_means ready n za x u is_x) (read_means ready n (not za) y v is_y) is_r
