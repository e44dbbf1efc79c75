-- Pairs: must, then may.
--
--   pair_done, pair_lacks   may's work is done too, or lacks room
--   equal_done              equal's pair: must is may, or false
--   negation_works          not, from the step of the pair turned round
use Prim.Native.Nat.{ℕ, ◌≤◌}
use mathlib.Core.Path.{◌≡◌, refl, subst, ap₂}
use mathlib.Core.Bool.{Bool, true, false, cond, ◌&&◌}
use mathlib.Core.List.{List, append-nil}
use Rattle.std.specs.Prelude.{Result}
use Rattle.meaning.specs.Diagram.{Tree, leaf}
use Rattle.meaning.specs.Step.{Work, is_not, unused}
use Rattle.meaning.specs.Formula
use Rattle.meaning.specs.Formula.{must_may, sure}
use Rattle.meaning.specs.Row
use Rattle.diagram.specs.Function.{table_of}
use Rattle.diagram.specs.State.{Lacks, Does, Works}
use Rattle.diagram.specs.declared.builder.Builder.{Builder}
use Rattle.diagram.specs.declared.builder.Made.{Made}
use Rattle.diagram.specs.declared.builder.NoRoom.{NoRoom}
use Rattle.diagram.specs.declared.scratch.Scratch.{Scratch}
use Rattle.diagram.proofs.Laws.After.{after_then, lacks_then}
use Rattle.term.proofs.Laws.Levels.{not_table, table_function}
use Rattle.formula.specs.Pair.{TreeMeans, PairMeans}
use Rattle.formula.specs.declared.pair.Pair as Declared
use Rattle.formula.proofs.Laws.Work.{tree_later, leaf_means}

-- what the code makes of must's number and of may as it was made
abbrev pub paired : ℕ → Made ℕ → Made Declared.Pair
paired must may = record { at = may.at; value = record { must = must; may = may.value } }

-- ---- must's work, then may's

module _ {n : ℕ} {cells c₁ : List ℕ} {s₁ : Scratch} {b : Builder} {m : Work Tree} {must : Made ℕ}
    (first : Does (TreeMeans n) cells b m c₁ s₁ must) where
  pub pair_done : {c₂ : List ℕ} {s₂ : Scratch} {k : Work Tree} {may : Made ℕ} → Does (TreeMeans n) c₁ must.at k c₂ s₂ may
      → Does (PairMeans n) cells b (must_may m k) c₂ s₂ (paired must.value may)
  pair_done {k = k} second =
      record {
        after = rw (append-nil k.steps) (after_then first.after second.after);
        means = record { must = tree_later first.means second.after; may = second.means };
      }

  -- or there was no room for it
  pub pair_lacks : {c₂ : List ℕ} (k : Work Tree) → Lacks c₁ must.at k.steps c₂ → Lacks cells b (must_may m k).steps c₂
  pair_lacks k lacks = rw (append-nil k.steps) (lacks_then first.after lacks)

-- ---- equal

-- must is may if no bit is unknown, else false
kept_means : (n : ℕ) (cells : List ℕ) (b : Builder) (a : ℕ) (v : Tree) (known : Bool) → TreeMeans n cells b a v
    → TreeMeans n cells b (cond known a 0) (cond known v (leaf false))
kept_means n cells b a v true means = means
kept_means n cells b a v false means = record { is = refl; good = tt }

pub equal_done : {n : ℕ} {cells c₁ : List ℕ} {s₁ : Scratch} {b : Builder} {may : Made ℕ} {must : ℕ} {sure_x sure_y : Bool}
    (p q : Row.Row) → Does (TreeMeans n) cells b (Formula.equal_from n (leaf true) p q) c₁ s₁ may → sure_x ≡ sure p
    → sure_y ≡ sure q → must ≡ cond (sure_x && sure_y) may.value 0
    → Does (PairMeans n) cells b (Formula.equal n p q) c₁ s₁ (paired must may)
unfolding Formula.equal
equal_done {n} {c₁ = c₁} {may = may} {sure_x = sure_x} {sure_y} p q does same_x same_y kept =
    let r = Formula.equal_from n (leaf true) p q in
    let test : (sure_x && sure_y) ≡ (sure p && sure q) = ap₂ ◌&&◌ same_x same_y in
    record {
      after = rw (append-nil r.steps) does.after;
      means =
          record {
            must = rw (kept, ← test) (kept_means n c₁ may.at may.value r.value (sure_x && sure_y) does.means);
            may = does.means;
          };
    }

-- ---- not

-- not is the step of the pair turned round
pub negation_works : {cells : List ℕ} {b : Builder} (p : Declared.Pair) (c₁ : List ℕ) (s₁ : Scratch)
    (r : Result (Made Declared.Pair) NoRoom)
    → ((n : ℕ) (x y : Formula.Pair) → n ≤ 128 → PairMeans n cells b (record { must = p.may; may = p.must }) x
    → PairMeans n cells b (record { must = 0; may = 0 }) y
    → Works (PairMeans n) cells b (Formula.both n (table_of 15) x y) c₁ s₁ r)
    → (n : ℕ) (x : Formula.Pair) → n ≤ 128 → PairMeans n cells b p x
    → Works (PairMeans n) cells b (Formula.negation n x) c₁ s₁ r
unfolding Formula.both Formula.negation
negation_works {cells} {b} p c₁ s₁ r does n x le is =
    let none : TreeMeans n cells b 0 (leaf false) = leaf_means n cells b false in
    let turned = does n (Formula.pair x.may x.must) (Formula.pair unused unused) le
    (record { must = is.may; may = is.must }) (record { must = none; may = none }) in
    subst (λ g. Works (PairMeans n) cells b (Formula.both n g (Formula.pair x.may x.must) (Formula.pair unused unused)) c₁ s₁ r)
    (table_function 15 is_not not_table) turned
