-- Refusals 5 and 6 of one entry: the paths of the code through the definitions.
use Prim.Native.Nat.{ℕ, zero, suc, ◌+◌, ◌*◌, ◌≤◌, ◌<◌}
use mathlib.Core.Path.{◌≡◌, refl, sym, ap, ◌∙◌}
use mathlib.Core.Bool.{Bool, true, ◌&&◌, and-true, and-eq-true_iff}
use mathlib.Core.List.{List, [], ◌∷◌}
use lib.Dec.{eqb, ltb}
use lib.ListN.{length}
use native.Mathlib.Nat.{add-zero, zero-add}
use native.Mathlib.Omega.{arith}
use borrow.Author.Tests.{ltb-true}
use Rattle.meaning.specs.Kind.{Rule, rule_of, Operand, a_term, a_formula, a_variable}
use Rattle.meaning.specs.Sheet.{Entry, count, pair_at, rule_at, width_at, entry_at, entries, entry, operand}
use Rattle.meaning.specs.Check.{suits, operands_fit, width_of, own_width}
use Rattle.sheet.specs.declared.kind.Kind.{Kind}
use Rattle.sheet.specs.declared.kind.Fit.{Fit}
use Rattle.sheet.specs.Kind.{number_of, fit_as}
use Rattle.sheet.specs.Laid.{Laid, IsEntry}
use Rattle.sheet.proofs.Laws.Kind.{looked_at, has_four_bytes}
use Rattle.sheet.proofs.Laws.Sheet.{entry_at_lem, row_made, entry_rule, entry_length}
use Rattle.sheet.proofs.Laws.Operands.{all_from, Left}

-- ---- operands that fit are below their entry

pub fits_below : (es : List Entry) (i : ℕ) (e : Entry) (n : ℕ) (os : List Operand) (k : ℕ) →
    operands_fit es i e n os ≡ true → k < length os → operand e (n + k) < i
fits_below es i e n [] k fit has = absurd (omega arith)
fits_below es i e n (o ∷ os) zero fit has =
    let suited = suits o (entry es (operand e n)).rule.sort in
    let both = ((and-eq-true_iff (ltb (operand e n) i && suited) (operands_fit es i e (suc n) os)).0 fit).0 in
    rw (add-zero n) (ltb-true (operand e n) i ((and-eq-true_iff (ltb (operand e n) i) suited).0 both).0)
fits_below es i e n (o ∷ os) (suc k) fit has =
    let suited = suits o (entry es (operand e n)).rule.sort in
    let later = ((and-eq-true_iff (ltb (operand e n) i && suited) (operands_fit es i e (suc n) os)).0 fit).1 in
    let next : n + suc k ≡ suc n + k = omega arith in
    rw next (fits_below es i e (suc n) os k later (omega arith))

-- ---- own widths

abbrev pub owns_at : List Entry → Entry → ℕ → Operand → Bool
owns_at es e k o = own_width es e k (o ∷ [])

own_all : (es : List Entry) (e : Entry) (k : ℕ) (os : List Operand) → own_width es e k os ≡ all_from (owns_at es e) k os
own_all es e k [] = refl
own_all es e k (a_term ∷ os) = rw (and-true (eqb (width_of es e k) e.width), own_all es e (suc k) os) refl
own_all es e k (a_formula ∷ os) = own_all es e (suc k) os
own_all es e k (a_variable ∷ os) = own_all es e (suc k) os

pub own_begin : (es : List Entry) (e : Entry) (os : List Operand) → Left (owns_at es e) os 0 (own_width es e 0 os)
own_begin es e os = record { so_far = own_all es e 0 os }

-- ---- an entry, as the code reads it

-- how its widths fit is its kind's
pub entry_widths : {s b : List ℕ} {i w : ℕ} {kind : Kind} → IsEntry s i kind w b →
    (rule_of (number_of kind)).widths ≡ (rule_at s i).widths
entry_widths at = ap (λ (r : Rule). r.widths) (entry_rule at)

-- how many operands a way of fitting looks at, and how long the body is
module _ {s b : List ℕ} {i w : ℕ} {kind : Kind} (at : IsEntry s i kind w b) (fit : Fit) {found : Fit} (is : found ≡ fit)
    (own : fit_as found ≡ (rule_at s i).widths) where
  widths_by : fit_as fit ≡ (rule_at s i).widths
  widths_by = sym (ap fit_as is) ∙ own

  pub has_looked : looked_at (fit_as fit) ≤ length (rule_at s i).operands
  has_looked = rw widths_by (row_made s i).looked_at_lem

  pub has_four : Laid s → has_four_bytes (fit_as fit) (length b) ≡ true
  has_four laid = rw (widths_by, entry_length laid at) (row_made s i).four_bytes

module _ {s b : List ℕ} {i w : ℕ} {kind : Kind} (at : IsEntry s i kind w b) where
  -- an operand of an entry whose operands fit
  module _ (fit : operands_fit (entries s) i (entry_at s i) 0 (rule_at s i).operands ≡ true) {k j : ℕ}
      (has : k < length (rule_at s i).operands) (is_j : j ≡ pair_at (2 * k) b) where
    same_operand : j ≡ operand (entry_at s i) k
    same_operand = is_j ∙ ap (pair_at (2 * k)) at.body_is

    pub suited_count : j < count s
    suited_count =
        let low : operand (entry_at s i) k < i = rw (zero-add k) at (fits_below (entries s) i (entry_at s i) 0 (rule_at s i).operands k fit has) in
        omega (arith, low, same_operand, at.inside)

    pub suited_width : {width : ℕ} → width ≡ width_at s j → width ≡ width_of (entries s) (entry_at s i) k
    suited_width is_width =
        is_width ∙ sym (ap (λ (e : Entry). e.width) (entry_at_lem s j suited_count))
        ∙ ap (λ (n : ℕ). (entry (entries s) n).width) same_operand
