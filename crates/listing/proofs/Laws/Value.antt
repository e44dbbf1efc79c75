-- The value of a variable entry, summed from its top bit down.
use Prim.Native.Nat.{ℕ, suc, ◌+◌, ◌-◌, ◌*◌, ◌≤◌, ◌<◌}
use mathlib.Core.Path.{◌≡◌, ap, ◌∙◌}
use mathlib.Core.Bool.{Bool}
use mathlib.Core.List.{List}
use lib.ListN.{length}
use lib.Pow.{pow_mono}
use native.Mathlib.Omega.{arith}
use Rattle.meaning.specs.Number.{digit, number, each}
use Rattle.meaning.specs.Kind.{Sort}
use Rattle.meaning.specs.Sheet.{count, rule_at, width_at, entry_at, entries}
use Rattle.meaning.specs.Level.{bits_of, variable_bits, level, value_of}
use Rattle.meaning.specs.Value.{assignment}
use Rattle.meaning.proofs.Laws.Number.{number_lt, each_length}
use Rattle.sheet.specs.Laid.{Laid}
use Rattle.sheet.proofs.Laws.Sheet.{entry_at_lem}

-- ---- the sum: bits b to w of entry i

unfoldable pub bit_of : List ℕ → List ℕ → ℕ → ℕ → Bool
bit_of s a i b = assignment a (level (entries s) i b)

pub record Summed (s a : List ℕ) (i w b v : ℕ) : Type 0 where
  pub is : v ≡ number (each (bit_of s a i) b (w - b))
  pub below : b ≤ w

module _ {s a : List ℕ} {i w b v : ℕ} (summed : Summed s a i w b v) where
  pub summed_more : (d : ℕ) → 0 < b → d ≡ digit (assignment a (level (entries s) i (b - 1))) →
      Summed s a i w (b - 1) (2 * v + d)
  unfolding bit_of
  summed_more d some is_d =
      let one : w - (b - 1) ≡ suc (w - b) = omega (arith, summed.below) in
      let same : b ≡ suc (b - 1) = omega arith in
      let rest : v ≡ number (each (bit_of s a i) (suc (b - 1)) (w - b)) =
      summed.is ∙ ap (λ (k : ℕ). number (each (bit_of s a i) k (w - b))) same in
      record { is = rw one (omega (arith, rest, is_d)); below = omega (arith, summed.below) }

  pub summed_small : w ≤ 32 → v < 4294967296
  summed_small narrow =
      let bits = each (bit_of s a i) b (w - b) in
      let short : length bits ≤ 32 = omega (arith, each_length (bit_of s a i) b (w - b)) in
      omega (arith, summed.is, number_lt bits, pow_mono short)

  pub summed_end : b ≤ 0 → i < count s → w ≡ variable_bits (entry_at s i) → v ≡ value_of (entries s) (assignment a) i
  unfolding bit_of value_of
  summed_end done inside is_w =
      let none : b ≡ 0 = omega arith in
      let all : w - 0 ≡ w = omega arith in
      let sum : v ≡ number (each (bit_of s a i) 0 w) = rw (none, all) at summed.is in
      rw (entry_at_lem s i inside, ← is_w) sum

narrow_bits : (sort : Sort) (w : ℕ) → w ≤ 32 → bits_of sort w ≤ 32
narrow_bits Sort.variable w narrow = narrow
narrow_bits Sort.term w narrow = omega arith
narrow_bits Sort.formula w narrow = omega arith
narrow_bits Sort.neither w narrow = omega arith

pub bits_narrow : {s : List ℕ} → Laid s → (i : ℕ) → i < count s → variable_bits (entry_at s i) ≤ 32
bits_narrow {s} laid i inside = narrow_bits (rule_at s i).sort (width_at s i) (laid.narrow i inside)
