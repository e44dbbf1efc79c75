-- Refusal 4 of one entry: the paths of the code through the definitions.
use Prim.Native.Nat.{ℕ, suc, ◌*◌, ◌<◌}
use Rattle.std.specs.Prelude.{Option, Some, slice_get}
use Rattle.std.specs.Option.{option_map}
use Rattle.std.proofs.lemmas.Option.{get_or_from_slice_get}
use mathlib.Core.Path.{◌≡◌, refl, sym, ap, ap₂, ◌∙◌}
use mathlib.Core.Bool.{Bool, true, false, ◌&&◌, and-true}
use mathlib.Core.List.{List, [], ◌∷◌}
use lib.Dec.{ltb}
use lib.ListN.{get_or, drop}
use native.Mathlib.Omega.{arith}
use borrow.Author.Tests.{lt-ltb}
use Rattle.meaning.specs.Kind.{Operand, Sort, a_term, a_formula, a_variable, rule_of}
use Rattle.meaning.specs.Sheet.{Entry, pair_at, count, rule_at, entry_at, entries, entry, operand}
use Rattle.meaning.specs.Check.{suits, operands_fit}
use Rattle.sheet.specs.declared.kind.Kind.{Kind}
use Rattle.sheet.specs.declared.kind.Need.{Need}
use Rattle.sheet.specs.Kind.{number_of, need_as}
use Rattle.sheet.specs.Laid.{IsEntry}
use Rattle.sheet.proofs.Laws.Sheet.{entry_at_lem, entry_rule}

-- ---- one operand after the other

-- a test of each operand and its place
abbrev pub all_from : (ℕ → Operand → Bool) → ℕ → List Operand → Bool
all_from test k [] = true
all_from test k (o ∷ os) = test k o && all_from test (suc k) os

-- what is left from operand k on decides the whole
pub record Left (test : ℕ → Operand → Bool) (os : List Operand) (k : ℕ) (whole : Bool) : Type 0 where
  pub so_far : whole ≡ all_from test k (drop k os)

-- the definitions' tests are of this form
abbrev pub fits_at : List Entry → ℕ → Entry → ℕ → Operand → Bool
fits_at es i e k o = operands_fit es i e k (o ∷ [])

fit_all : (es : List Entry) (i : ℕ) (e : Entry) (k : ℕ) (os : List Operand) →
    operands_fit es i e k os ≡ all_from (fits_at es i e) k os
fit_all es i e k [] = refl
fit_all es i e k (o ∷ os) =
    rw (and-true (ltb (operand e k) i && suits o (entry es (operand e k)).rule.sort), fit_all es i e (suc k) os) refl

pub fit_begin : (es : List Entry) (i : ℕ) (e : Entry) (os : List Operand) →
    Left (fits_at es i e) os 0 (operands_fit es i e 0 os)
fit_begin es i e os = record { so_far = fit_all es i e 0 os }

-- ---- 4: an operand, as the code reads it

-- nothing may be of an unknown kind
pub suits_neither : (o : Operand) → false ≡ suits o Sort.neither
suits_neither a_term = refl
suits_neither a_formula = refl
suits_neither a_variable = refl

-- what it has to be
pub need_is : {s b : List ℕ} {i w : ℕ} {kind : Kind} → IsEntry s i kind w b → (k : ℕ) {need : Option Need} {found : Need} →
    option_map need_as need ≡ slice_get (rule_of (number_of kind)).operands k → need ≡ Some found →
    need_as found ≡ get_or (rule_at s i).operands k a_term
need_is {s} {i = i} at k {found = found} own is =
    let there : slice_get (rule_at s i).operands k ≡ Some (need_as found) = rw (← entry_rule at) (sym own ∙ ap (option_map need_as) is) in
    sym (get_or_from_slice_get (rule_at s i).operands k (need_as found) a_term there)

module _ {s b : List ℕ} {i w : ℕ} {kind : Kind} (at : IsEntry s i kind w b) (k : ℕ) {j : ℕ} (is_j : j ≡ pair_at (2 * k) b) where
  operand_is : j ≡ operand (entry_at s i) k
  operand_is = is_j ∙ ap (pair_at (2 * k)) at.body_is

  pub operand_early : j < i → {need : Operand} {sort : Sort} {fit : Bool} → need ≡ get_or (rule_at s i).operands k a_term →
      sort ≡ (rule_at s j).sort → fit ≡ suits need sort →
      fit ≡ fits_at (entries s) i (entry_at s i) k (get_or (rule_at s i).operands k a_term)
  operand_early early is_need is_sort is_fit =
      let inside : j < count s = omega (arith, at.inside) in
      rw (← operand_is, lt-ltb j i early, entry_at_lem s j inside, and-true (suits (get_or (rule_at s i).operands k a_term) (rule_at s j).sort))
      (is_fit ∙ ap₂ suits is_need is_sort)
