-- What the definitions say of entry i of the sheet in some bytes.
--
--   operand_fits_at s i k    operand k is below the entry and what it has to be
--   operands_fit_at s i      so is every operand
--   operand_width_at s i k   the width of operand k
--   own_width_at s i k       operand k, if it is a term, has the entry's own width
--   own_widths_at s i        so has every operand that is a term
--   widths_fit_at s i        the widths fit
--   in_range_at s i          the constant isn't too large, and an extract's u lies inside the operand
--   refusal_at s i           the first of 4, 5 and 6, or 0
use Rattle.std.specs.Prelude.{ℕ, Bool, List, [], ◌∷◌, get_or}
use Rattle.meaning.specs.Kind.{Operand, a_term}
use Rattle.meaning.specs.Sheet.{rule_at, entry_at, entries}
use Rattle.meaning.specs.Check.{operands_fit, width_of, own_width, widths_fit, in_range, entry_refusal}

-- what operand k has to be
abbrev pub need_at : List ℕ → ℕ → ℕ → Operand
need_at s i k = get_or (rule_at s i).operands k a_term

abbrev pub operand_fits_at : List ℕ → ℕ → ℕ → Bool
operand_fits_at s i k = operands_fit (entries s) i (entry_at s i) k (need_at s i k ∷ [])

abbrev pub operands_fit_at : List ℕ → ℕ → Bool
operands_fit_at s i = operands_fit (entries s) i (entry_at s i) 0 (rule_at s i).operands

abbrev pub operand_width_at : List ℕ → ℕ → ℕ → ℕ
operand_width_at s i k = width_of (entries s) (entry_at s i) k

abbrev pub own_width_at : List ℕ → ℕ → ℕ → Bool
own_width_at s i k = own_width (entries s) (entry_at s i) k (need_at s i k ∷ [])

abbrev pub own_widths_at : List ℕ → ℕ → Bool
own_widths_at s i = own_width (entries s) (entry_at s i) 0 (rule_at s i).operands

abbrev pub widths_fit_at : List ℕ → ℕ → Bool
widths_fit_at s i = widths_fit (rule_at s i).widths (entries s) (entry_at s i)

abbrev pub in_range_at : List ℕ → ℕ → Bool
in_range_at s i = in_range (rule_at s i).widths (entries s) (entry_at s i)

abbrev pub refusal_at : List ℕ → ℕ → ℕ
refusal_at s i = entry_refusal (entries s) i (entry_at s i)
