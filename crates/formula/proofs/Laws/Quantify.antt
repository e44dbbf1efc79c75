-- The chain of quantifier steps, from the top bit down.
--
--   chained_start, chained_ready, chained_next, chained_lacks   nothing is done yet, a step can be done, is done, lacks room
--   reverse_down_to                                             the levels as `meaning` lists them
use Prim.Native.Nat.{ℕ, zero, suc, ◌-◌, ◌≤◌, ◌<◌}
use native.Mathlib.Omega.{arith}
use mathlib.Core.Path.{◌≡◌, refl, sym, ap, ◌∙◌}
use mathlib.Core.Bool.{Bool}
use mathlib.Core.List.{List, [], ◌∷◌}
use Rattle.std.specs.Prelude.{Ok, Err, reverse, length, get_or}
use Rattle.std.specs.List.{push}
use Rattle.std.proofs.lemmas.List.{reverse-append, get_or-reverse, length-reverse, ext_get_or}
use Rattle.meaning.specs.Diagram.{Tree}
use Rattle.meaning.specs.Step.{◌>>=◌, quantify}
use Rattle.meaning.specs.Lent.{tree_of}
use Rattle.meaning.specs.Formula.{quantify_all}
use Rattle.meaning.specs.Run.{down_to}
use Rattle.diagram.specs.State.{Ready, Known, Means, Lacks, Does, chooser}
use Rattle.diagram.specs.declared.builder.Builder.{Builder}
use Rattle.diagram.specs.declared.builder.Made.{Made}
use Rattle.diagram.specs.declared.builder.NoRoom.{NoRoom}
use Rattle.diagram.specs.declared.scratch.Scratch.{Scratch}
use Rattle.formula.specs.Pair.{TreeMeans}
use Rattle.formula.proofs.Laws.Work.{some_tree, tree_known, quantify_makes}
use Rattle.formula.proofs.Laws.Sofar.{Sofar, sofar_start, sofar_next, sofar_lacks}

-- the loop: these levels, the last one first, are left
pub record Chained (cells : List ℕ) (b : Builder) (every : Bool) (levels : List ℕ) (a : ℕ) (cells' : List ℕ) (s' : Scratch)
    (made : Made ℕ) (left : List ℕ) : Type 0 where
  pub sofar : (n : ℕ) (x : Tree) → n ≤ 128 → TreeMeans n cells b a x
      → Sofar n cells b (quantify_all n (chooser every) (reverse levels) x) cells' s' made
      (quantify_all n (chooser every) (reverse left))

pub chained_start : {cells : List ℕ} {s : Scratch} {b : Builder} (every : Bool) (levels : List ℕ) (a : ℕ) → Ready cells s b
    → Chained cells b every levels a cells s (record { at = b; value = a }) levels
chained_start every levels a ready =
    record { sofar = λ n x le means. sofar_start (quantify_all n (chooser every) (reverse levels)) ready means }

-- a step can be done
pub record Steppable (cells : List ℕ) (s : Scratch) (made : Made ℕ) : Type 0 where
  pub ready : Ready cells s made.at
  pub known : Known made.at made.value

module _ {cells : List ℕ} {b : Builder} {every : Bool} {levels : List ℕ} {a : ℕ} {c₁ : List ℕ} {s₁ : Scratch} {made : Made ℕ}
    {left : List ℕ} (chained : Chained cells b every levels a c₁ s₁ made left) where
  pub chained_ready : {s : Scratch} → Ready cells s b → Known b a → Steppable c₁ s₁ made
  chained_ready ready known =
      let does = (chained.sofar 128 (tree_of cells a) (omega arith) (some_tree a ready known)).does in
      record { ready = does.after.ready; known = tree_known does.means }

  -- the last of the levels left is l
  module _ (rest : List ℕ) (l : ℕ) (last : left ≡ push rest l) where
    splits : (n : ℕ) (y : Tree)
        → quantify_all n (chooser every) (reverse left) y
        ≡ ◌>>=◌ (quantify n (chooser every) l y) (quantify_all n (chooser every) (reverse rest))
    splits n y =
        ap (λ ls. quantify_all n (chooser every) ls y) (ap reverse last ∙ reverse-append rest (l ∷ []))

    pub chained_next : {c₂ : List ℕ} {s₂ : Scratch} {next : Made ℕ}
        → ((y : Tree) → Means c₁ made.at made.value y → Does Means c₁ made.at (quantify 128 (chooser every) l y) c₂ s₂ next)
        → Chained cells b every levels a c₂ s₂ next rest
    chained_next {c₂} {s₂} {next} does =
        record {
          sofar = λ n x le means.
              sofar_next (chained.sofar n x le means) (quantify n (chooser every) l)
              (quantify_all n (chooser every) (reverse rest)) (splits n)
              (λ y is_y. quantify_makes c₂ s₂ every l (Ok next) does le is_y);
        }

    pub chained_lacks : (c₂ : List ℕ) (s₂ : Scratch) (e : NoRoom)
        → ((y : Tree) → Means c₁ made.at made.value y → Lacks c₁ made.at (quantify 128 (chooser every) l y).steps c₂)
        → (n : ℕ) (x : Tree) → n ≤ 128 → TreeMeans n cells b a x
        → Lacks cells b (quantify_all n (chooser every) (reverse levels) x).steps c₂
    chained_lacks c₂ s₂ e lacks n x le means =
        sofar_lacks (chained.sofar n x le means) (quantify n (chooser every) l)
        (quantify_all n (chooser every) (reverse rest)) (splits n)
        (λ y is_y. quantify_makes c₂ s₂ every l (Err e) lacks le is_y)

-- ---- the levels, from the top bit down, as `meaning` lists them

down_to_length : (f : ℕ → ℕ) (n : ℕ) → length (down_to f n) ≡ n
down_to_length f zero = refl
down_to_length f (suc n) = ap suc (down_to_length f n)

down_to_at : (f : ℕ → ℕ) (n k : ℕ) → k < n → get_or (down_to f n) k 0 ≡ f (n - 1 - k)
down_to_at f (suc n) zero below = ap f (omega arith)
down_to_at f (suc n) (suc k) below = down_to_at f n k (omega arith) ∙ ap f (omega arith)
down_to_at f zero k below = absurd (omega arith)

pub reverse_down_to : (f : ℕ → ℕ) (xs : List ℕ) → ((i : ℕ) → i < length xs → get_or xs i 0 ≡ f i)
    → reverse xs ≡ down_to f (length xs)
reverse_down_to f xs each =
    ext_get_or 0 (reverse xs) (down_to f (length xs)) (length-reverse xs ∙ sym (down_to_length f (length xs)))
    (λ k below.
    let inside : k < length xs = omega (arith, length-reverse xs) in
    get_or-reverse xs k 0 inside ∙ each (length xs - 1 - k) (omega arith) ∙ sym (down_to_at f (length xs) k inside))
