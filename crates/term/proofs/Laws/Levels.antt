-- The builder works over 128 levels and by truth tables, the definition's steps over the sheet's own levels and by functions.
-- Both give the same diagrams.
--
--   step_levels, quantify_levels   more levels than a diagram has change nothing
--   step_table                     one step by a truth table is the step of its function
--   table_function                 a truth table is its function
--   not_table, ..                  the function of each table that code names
use Prim.Native.Nat.{ℕ, ◌≤◌}
use mathlib.Core.Path.{◌≡◌, refl, sym, ◌∙◌, fun_ext}
use mathlib.Core.Bool.{Bool, true}
use Rattle.meaning.specs.Diagram.{Tree}
use Rattle.meaning.specs.Step.{Function, step_tree, quantify_tree}
use Rattle.meaning.specs.Step.{is_not, is_and, is_or, is_xor, agree, less_or_equal, signed_top, choice}
use Rattle.meaning.proofs.Laws.Shape.{Good}
use Rattle.meaning.proofs.Laws.Diagram.{ok_wider, canonical, step_good, step_holds, quantify_good, quantify_holds}
use Rattle.diagram.specs.Function.{table_of}
use Rattle.diagram.proofs.Laws.Function as tables

module _ (n m : ℕ) (le : n ≤ m) where
  pub step_levels : (f : Function) (x y z : Tree) → Good n x → Good n y → Good n z
      → step_tree m f x y z ≡ step_tree n f x y z
  step_levels f x y z p q r =
      canonical m (step_tree m f x y z) (step_tree n f x y z) (step_good m f x y z)
      (ok_wider 0 n m (step_tree n f x y z) le (step_good n f x y z))
      (λ ρ. step_holds m f x y z (wider x p) (wider y q) (wider z r) ρ ∙ sym (step_holds n f x y z p q r ρ))
    where
      wider : (t : Tree) → Good n t → Good m t
      wider t good = ok_wider 0 n m t le good

  pub quantify_levels : (f : Bool → Bool → Bool) (l : ℕ) (t : Tree) → Good n t
      → quantify_tree m f l t ≡ quantify_tree n f l t
  quantify_levels f l t good =
      canonical m (quantify_tree m f l t) (quantify_tree n f l t) (quantify_good m f l t)
      (ok_wider 0 n m (quantify_tree n f l t) le (quantify_good n f l t))
      (λ ρ. quantify_holds m f l t (ok_wider 0 n m t le good) ρ ∙ sym (quantify_holds n f l t good ρ))

-- k is the truth table of f
abbrev pub Tabled : ℕ → Function → Type 0
Tabled k f = tables.agree (table_of k) f ≡ true

pub table_function : (k : ℕ) (f : Function) → Tabled k f → table_of k ≡ f
table_function k f tabled = fun_ext (λ a. fun_ext (λ b. fun_ext (tables.agreed (table_of k) f tabled a b)))

pub step_table : (n k : ℕ) (f : Function) (x y z : Tree) → n ≤ 128 → Tabled k f → Good n x → Good n y → Good n z
    → step_tree 128 (table_of k) x y z ≡ step_tree n f x y z
step_table n k f x y z le tabled p q r = rw (table_function k f tabled) (step_levels n 128 le f x y z p q r)

pub not_table : Tabled 15 is_not
unfolding table_of
not_table = refl

pub and_table : Tabled 192 is_and
unfolding table_of
and_table = refl

pub or_table : Tabled 252 is_or
unfolding table_of
or_table = refl

pub xor_table : Tabled 60 is_xor
unfolding table_of
xor_table = refl

pub agree_table : Tabled 195 agree
unfolding table_of
agree_table = refl

pub less_table : Tabled 142 less_or_equal
unfolding table_of
less_table = refl

pub signed_top_table : Tabled 178 signed_top
unfolding table_of
signed_top_table = refl

pub choice_table : Tabled 202 choice
unfolding table_of
choice_table = refl
