-- Refusals 2 and 3: the paths of the code through the definitions.
use Prim.Native.Nat.{ℕ, suc, ◌+◌, ◌-◌, ◌<◌}
use mathlib.Core.Path.{◌≡◌, refl, sym, ◌∙◌}
use mathlib.Core.Bool.{Bool, true, false, ◌&&◌}
use mathlib.Core.List.{List}
use lib.Dec.{eqb}
use native.Mathlib.Numerals.{add-one}
use native.Mathlib.Omega.{arith}
use borrow.Author.Tests.{eq-eqb, ne_eqb}
use Rattle.meaning.specs.Sheet.{rule_at, width_at, place}
use Rattle.meaning.specs.Check.{allowed, kinds_fit, places_fit}

-- ---- 2

-- what is left at i: one more than at i + 1
left : (i n : ℕ) → i < n → n - i ≡ suc (n - (i + 1))
left i n more = omega arith

-- the test of contents record i, and what is left of the whole test from there on
module _ (s : List ℕ) (n i : ℕ) (fit : Bool) (is : fit ≡ allowed (rule_at s i).sort (width_at s i)) (whole : Bool)
    (so_far : whole ≡ kinds_fit s i (n - i)) where
  kinds_step : i < n → whole ≡ (fit && kinds_fit s (i + 1) (n - (i + 1)))
  kinds_step more = so_far ∙ rw (left i n more, add-one i, ← is) refl

  pub kinds_more : i < n → fit ≡ true → whole ≡ kinds_fit s (i + 1) (n - (i + 1))
  kinds_more more passed = kinds_step more ∙ rw passed refl

  pub kinds_stop : i < n → fit ≡ false → false ≡ whole
  kinds_stop more failed = sym (kinds_step more ∙ rw failed refl)

-- ---- 3

module _ (s : List ℕ) (n i at : ℕ) (whole : Bool) (so_far : whole ≡ places_fit s i (n - i) at) where
  places_step : i < n → whole ≡ (eqb (place s i) at && places_fit s (i + 1) (n - (i + 1)) (at + (rule_at s i).body))
  places_step more = so_far ∙ rw (left i n more, add-one i) refl

  pub places_more : (p long : ℕ) → i < n → p ≡ place s i → p ≡ at → long ≡ (rule_at s i).body →
      whole ≡ places_fit s (i + 1) (n - (i + 1)) (at + long)
  places_more p long more is_place here is_long =
      places_step more ∙ rw (eq-eqb (place s i) at (sym is_place ∙ here), is_long) refl

  pub places_stop : (p : ℕ) → i < n → p ≡ place s i → (p ≡ at → ⊥) → false ≡ whole
  places_stop p more is_place other =
      sym (places_step more ∙ rw (ne_eqb (place s i) at (λ same. other (is_place ∙ same))) refl)
