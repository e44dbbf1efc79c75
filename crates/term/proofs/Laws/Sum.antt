-- The steps of one place of a sum: the sum bit, then the next carry.
--
--   stepped      a step of two diagrams, over n levels
--   sum_made     the two steps of a sum bit
--   carry_is     unless no bit is left, the next carry is three steps: carry_made
use Prim.Native.Nat.{ℕ, suc, ◌≤◌}
use native.Mathlib.Omega.{arith}
use mathlib.Core.Path.{◌≡◌, refl, sym, ◌∙◌}
use mathlib.Core.Bool.{Bool, true, false, true≢false}
use mathlib.Core.List.{List, [], ◌∷◌}
use lib.Dec.{eqb}
use lib.ListN.{length}
use borrow.Author.Tests.{eqb-true}
use Rattle.std.specs.Prelude.{Result, Ok, Err}
use Rattle.meaning.specs.Diagram.{Tree}
use Rattle.meaning.specs.Step.{Work, Function, step, step_tree, ◌>>=◌, is_and, is_or, is_xor, unused, done}
use Rattle.meaning.specs.Row
use Rattle.meaning.specs.Row.{known, carry_step, next_carry}
use Rattle.meaning.specs.Lent.{tree_of}
use Rattle.meaning.proofs.Laws.Diagram.{ok_wider, step_good}
use Rattle.meaning.proofs.Laws.Table.{is_ext, enter_all_ext}
use Rattle.diagram.specs.Function.{table_of}
use Rattle.diagram.specs.State.{nodes, Ready, Known, Means, Works, Does, Lacks, After}
use Rattle.diagram.specs.declared.builder.Builder.{Builder}
use Rattle.diagram.specs.declared.builder.Made.{Made}
use Rattle.diagram.specs.declared.builder.NoRoom.{NoRoom}
use Rattle.diagram.specs.declared.scratch.Scratch.{Scratch}
use Rattle.diagram.proofs.Laws.After.{after_then, works_then}
use Rattle.diagram.proofs.Laws.Parts.{tree_stands}
use Rattle.term.specs.Add.{DiagramMeans, SummedMeans, sum_step}
use Rattle.term.proofs.Laws.Levels.{Tabled, step_table}
use Rattle.term.proofs.Laws.Rows.{is_used}

-- ---- known numbers

-- a terminal's or a used node's number stands for its diagram
pub known_means : {cells : List ℕ} {s : Scratch} {b : Builder} → Ready cells s b → (a : ℕ) → Known b a
    → DiagramMeans 128 cells b a (tree_of cells a)
known_means ready a is = let stands = tree_stands ready a is in record { is = stands.is; good = stands.good }

pub means_known : {n : ℕ} {cells : List ℕ} {b : Builder} {a : ℕ} {t : Tree} → DiagramMeans n cells b a t → Known b a
means_known {cells = cells} {b = b} {a = a} {t = t} means = is_used cells b a t means.is

pub means_after : {n : ℕ} {cells cells' : List ℕ} {s' : Scratch} {b b' : Builder} {xs : List Tree} {a : ℕ} {t : Tree}
    → After cells b xs cells' s' b' → DiagramMeans n cells b a t → DiagramMeans n cells' b' a t
means_after {cells = cells} {b = b} {xs = xs} {a = a} {t = t} after means =
    record { is = rw after.entered (is_ext t a (enter_all_ext xs (nodes cells b)) means.is); good = means.good }

-- ---- the steps of one place

module _ {n : ℕ} (le : n ≤ 128) (f : ℕ) (g : Function) (tabled : Tabled f g) {cells : List ℕ} {b : Builder} {x y : ℕ} {p q : Tree}
    (is_x : DiagramMeans n cells b x p) (is_y : DiagramMeans n cells b y q) where
  stands : {a : ℕ} {t : Tree} → DiagramMeans n cells b a t → Means cells b a t
  stands {a} {t} means = record { is = means.is; good = ok_wider 0 n 128 t le means.good }

  same : step_tree 128 (table_of f) p q unused ≡ step_tree n g p q unused
  same = step_table n f g p q unused le tabled is_x.good is_y.good tt

  pub stepped : {cells' : List ℕ} {s' : Scratch} {made : Made ℕ}
      → ((p q u : Tree) → Means cells b x p → Means cells b y q → Means cells b 0 u
      → Does Means cells b (step 128 (table_of f) p q u) cells' s' made)
      → Does (DiagramMeans n) cells b (step n g p q unused) cells' s' made
  unfolding step
  stepped does =
      let d = rw same at (does p q unused (stands is_x) (stands is_y) (record { is = refl; good = tt })) in
      record { after = d.after; means = record { is = d.means.is; good = step_good n g p q unused } }

  pub lacking : {cells' : List ℕ}
      → ((p q u : Tree) → Means cells b x p → Means cells b y q → Means cells b 0 u
      → Lacks cells b (step 128 (table_of f) p q u).steps cells')
      → Lacks cells b (step n g p q unused).steps cells'
  unfolding step
  lacking lacks = rw same at (lacks p q unused (stands is_x) (stands is_y) (record { is = refl; good = tt }))

  -- the same where it may lack room
  pub works_stepped : (cells' : List ℕ) (s' : Scratch) (r : Result (Made ℕ) NoRoom)
      → ((p q u : Tree) → Means cells b x p → Means cells b y q → Means cells b 0 u
      → Works Means cells b (step 128 (table_of f) p q u) cells' s' r)
      → Works (DiagramMeans n) cells b (step n g p q unused) cells' s' r
  works_stepped cells' s' (Ok made) does = stepped does
  works_stepped cells' s' (Err e) lacks = lacking lacks

-- a step of two known numbers
pub known_stepped : {cells : List ℕ} {s : Scratch} {b : Builder} → Ready cells s b → (f : ℕ) (g : Function) → Tabled f g
    → (x y : ℕ) → Known b x → Known b y → {cells' : List ℕ} {s' : Scratch} {made : Made ℕ}
    → ((p q u : Tree) → Means cells b x p → Means cells b y q → Means cells b 0 u
    → Does Means cells b (step 128 (table_of f) p q u) cells' s' made)
    → Does (DiagramMeans 128) cells b (step 128 g (tree_of cells x) (tree_of cells y) unused) cells' s' made
known_stepped ready f g tabled x y known_x known_y does =
    stepped (omega arith) f g tabled (known_means ready x known_x) (known_means ready y known_y) does

module _ {n : ℕ} {cells c₁ c₂ : List ℕ} {s₁ s₂ : Scratch} {b : Builder} (p q c : Tree) where
  pub sum_made : {half sum : Made ℕ} → Does (DiagramMeans n) cells b (step n is_xor p q unused) c₁ s₁ half
      → Does (DiagramMeans n) c₁ half.at (step n is_xor (step n is_xor p q unused).value c unused) c₂ s₂ sum
      → Does (SummedMeans n) cells b (sum_step n p q c) c₂ s₂
      (record { at = sum.at; value = record { half = half.value; sum = sum.value } })
  unfolding step
  sum_made half sum =
      record {
        after = after_then half.after sum.after;
        means = record { half = means_after sum.after half.means; sum = sum.means };
      }

-- the top bit has no next carry
pub carry_none : (n : ℕ) (h p q c : Tree) (rest : Row.Row) {top : Bool} → top ≡ eqb (length rest) 0 → top ≡ true
    → next_carry n h p q c rest ≡ done c
carry_none n h p q c [] top is = refl
carry_none n h p q c (a ∷ rest) top is = absurd (omega (arith, eqb-true (suc (length rest)) 0 (sym top ∙ is)))

-- the others have
pub carry_is : (n : ℕ) (h p q c : Tree) (rest : Row.Row) {top : Bool} → top ≡ eqb (length rest) 0 → top ≡ false
    → next_carry n h p q c rest ≡ carry_step n h p q c
carry_is n h p q c [] top not = absurd (true≢false (sym top ∙ not))
carry_is n h p q c (a ∷ rest) top not = refl

-- and they are three steps
pub carry_made : {n : ℕ} {cells c₁ c₂ : List ℕ} {s₁ s₂ : Scratch} {b : Builder} (h p q c : Tree) {made passed : Made ℕ}
    (cells' : List ℕ) (s' : Scratch) (r : Result (Made ℕ) NoRoom) → Does (DiagramMeans n) cells b (step n is_and p q unused) c₁ s₁ made
    → Does (DiagramMeans n) c₁ made.at (step n is_and h c unused) c₂ s₂ passed
    → Works (DiagramMeans n) c₂ passed.at (step n is_or (step n is_and p q unused).value (step n is_and h c unused).value unused)
    cells' s' r
    → Works (DiagramMeans n) cells b (carry_step n h p q c) cells' s' r
carry_made {n} h p q c cells' s' r made passed last =
    let or : Tree → Tree → Work Tree = λ g k. step n is_or g k unused in
    works_then (DiagramMeans n) (λ g. ◌>>=◌ (step n is_and h c unused) (or g)) cells' s' r made
    (works_then (DiagramMeans n) (or (step n is_and p q unused).value) cells' s' r passed last)
