-- What a sheet that passed the check gives to whoever reads it by this crate's functions.
use Prim.Native.Nat.{ℕ, ◌*◌, ◌≤◌, ◌<◌}
use mathlib.Core.Path.{◌≡◌, ap, ap₂, ◌∙◌}
use mathlib.Core.List.{List}
use lib.ListN.{length}
use native.Mathlib.Nat.{zero-add}
use native.Mathlib.Omega.{arith}
use Rattle.meaning.specs.Kind.{Rule, rule_of}
use Rattle.meaning.specs.Sheet.{count, rule_at, body, pair_at, entry_at, entries, entry, operand}
use Rattle.meaning.specs.Level.{bits_of, variable_bits, level, levels}
use Rattle.meaning.specs.Check.{check}
use Rattle.meaning.proofs.Laws.Checked.{Sound, check_checked, checked_wide, entries_length}
use Rattle.meaning.proofs.Laws.Level.{level_lt}
use Rattle.sheet.specs.declared.kind.Kind.{Kind}
use Rattle.sheet.specs.Kind.{number_of}
use Rattle.sheet.specs.Laid.{Laid, IsEntry}
use Rattle.sheet.proofs.Laws.Sheet.{entry_at_lem, body_length, entry_rule}
use Rattle.sheet.proofs.Laws.Widths.{fits_below}

module _ {s : List ℕ} (laid : Laid s) (i : ℕ) (inside : i < count s) where
  -- a body is as long as its kind says
  pub laid_length : length (body s i) ≡ (rule_at s i).body
  laid_length = body_length s i (laid.bodies i inside)

module _ (s : List ℕ) (passed : check s ≡ 0) (i : ℕ) (inside : i < count s) where
  -- entry i, as the code reads it, is sound
  pub passed_sound : Sound (entries s) i (entry_at s i)
  passed_sound =
      let within : i < length (entries s) = omega (arith, entries_length s) in
      rw (entry_at_lem s i inside) at ((check_checked s passed).sound i within)

  -- every operand is below its entry
  pub passed_below : (k : ℕ) → k < length (rule_at s i).operands → operand (entry_at s i) k < i
  passed_below k has =
      rw (zero-add k) at
      (fits_below (entries s) i (entry_at s i) 0 (rule_at s i).operands k passed_sound.operands_fit_lem has)

-- an entry of a sheet that passed, as the code reads it
module _ {s b : List ℕ} {i w : ℕ} {kind : Kind} (passed : check s ≡ 0) (at : IsEntry s i kind w b) where
  pub operand_below : (k o : ℕ) → k < length (rule_at s i).operands → o ≡ pair_at (2 * k) b → o < i
  operand_below k o has is =
      let same : o ≡ operand (entry_at s i) k = is ∙ ap (pair_at (2 * k)) at.body_is in
      rw same (passed_below s passed i at.inside k has)

  pub passed_wide : variable_bits (entry_at s i) ≤ 32
  passed_wide = rw (entry_at_lem s i at.inside) at (checked_wide (check_checked s passed) i)

  pub passed_bits : {bits : ℕ} → bits ≡ bits_of (rule_of (number_of kind)).sort w → bits ≤ 32
  passed_bits is =
      let same : bits_of (rule_of (number_of kind)).sort w ≡ variable_bits (entry_at s i) =
      ap₂ (λ (r : Rule) (n : ℕ). bits_of r.sort n) (entry_rule at) at.width_is in
      omega (arith, is, same, passed_wide)

  pub passed_level : (bit : ℕ) → bit < variable_bits (entry_at s i) → level (entries s) i bit < levels (entries s)
  passed_level bit has =
      let there : bit < variable_bits (entry (entries s) i) = rw (entry_at_lem s i at.inside) has in
      level_lt (entries s) i bit there (omega (arith, passed_wide))

pub passed_levels : (s : List ℕ) → check s ≡ 0 → levels (entries s) ≤ 128
passed_levels s passed = (check_checked s passed).levels_le
