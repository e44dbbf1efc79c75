-- Rows that no step makes: constants, moved bits, extended rows. They fit the plain bits (-fits), know no more than the
-- same of rows that know more (-below), and have no unknown bit where the operands have none (-sure).
use Prim.Native.Nat.{ℕ, zero, suc, ◌+◌, ◌-◌, ◌/◌, ◌≤◌}
use native.Mathlib.Omega.{arith}
use native.Mathlib.Nat.{not-suc-le-zero}
use mathlib.Core.Path.{◌≡◌, refl, ap, ◌∙◌}
use mathlib.Core.Bool.{Bool, true, false, false≢true}
use mathlib.Core.List.{List, [], ◌∷◌, ◌++◌}
use lib.ListN.{length, take, drop, replicate}
use Rattle.meaning.specs.Diagram.{Tree, leaf, Assignment, holds}
use Rattle.meaning.specs.Number.{bits}
use Rattle.meaning.specs.Step.{step, Function}
use Rattle.meaning.specs.Row as Row
use Rattle.meaning.specs.Row.{Bit, known, unknown, Row, zeros, unknowns}
use Rattle.meaning.specs.Formula.{sure}
use Rattle.meaning.proofs.Laws.Shape.{Good}
use Rattle.meaning.proofs.Laws.Plain as Plain
use Rattle.meaning.proofs.Laws.Diagram.{step_good, step_holds}
use Rattle.meaning.proofs.Laws.Fits.{Fits, bit, any, Below, keep, more}

-- ---- one bit, as a row of it; and one step

abbrev pub FitsBit : ℕ → Assignment → Bit → Bool → Type 0
FitsBit n ρ a x = Fits n ρ (a ∷ []) (x ∷ [])

-- under ρ the diagram t is well formed and says x
abbrev pub Says : ℕ → Assignment → Tree → Bool → Type 0
Says n ρ t x = FitsBit n ρ (known t) x

abbrev pub BelowBit : Bit → Bit → Type 0
BelowBit a b = Below (a ∷ []) (b ∷ [])

abbrev pub sure_bit : Bit → Bool
sure_bit a = sure (a ∷ [])

module _ {n : ℕ} {ρ : Assignment} where
  pub says_good : {t : Tree} {x : Bool} → Says n ρ t x → Good n t
  says_good (bit good is p) = good

  pub says_holds : {t : Tree} {x : Bool} → Says n ρ t x → holds t ρ ≡ x
  says_holds (bit good is p) = is

  pub leaf_says : (x : Bool) → Says n ρ (leaf x) x
  leaf_says x = bit tt refl Fits.end

  pub step_says : (f : Function) {a b c : Tree} {x y z : Bool} → Says n ρ a x → Says n ρ b y → Says n ρ c z →
      Says n ρ (step n f a b c).value (f x y z)
  unfolding step
  step_says f {a} {b} {c} {x} {y} {z} (bit good_a is_a p) (bit good_b is_b q) (bit good_c is_c r) =
      let is : f (holds a ρ) (holds b ρ) (holds c ρ) ≡ f x y z = λ i. f (is_a i) (is_b i) (is_c i) in
      bit (step_good n f a b c) (step_holds n f a b c good_a good_b good_c ρ ∙ is) Fits.end

  pub fits_head : {a : Bit} {r : Row} {x : Bool} {xs : List Bool} → Fits n ρ (a ∷ r) (x ∷ xs) → FitsBit n ρ a x
  fits_head (bit good is p) = bit good is Fits.end
  fits_head (any p) = any Fits.end

  pub fits_tail : {a : Bit} {r : Row} {x : Bool} {xs : List Bool} → Fits n ρ (a ∷ r) (x ∷ xs) → Fits n ρ r xs
  fits_tail (bit good is p) = p
  fits_tail (any p) = p

pub below_head : {a b : Bit} {r s : Row} → Below (a ∷ r) (b ∷ s) → BelowBit a b
below_head (keep p) = keep Below.end
below_head (more p) = more Below.end

pub below_tail : {a b : Bit} {r s : Row} → Below (a ∷ r) (b ∷ s) → Below r s
below_tail (keep p) = p
below_tail (more p) = p

-- ---- rows of well-formed diagrams

abbrev pub GoodBit : ℕ → Bit → Type 0
GoodBit n (known t) = Good n t
GoodBit n unknown = Unit {0}

abbrev pub GoodRow : ℕ → Row → Type 0
GoodRow n [] = Unit {0}
GoodRow n (a ∷ r) = GoodBit n a × GoodRow n r

pub fits_good : {n : ℕ} {ρ : Assignment} {a : Row} {xs : List Bool} → Fits n ρ a xs → GoodRow n a
fits_good Fits.end = tt
fits_good (bit good is p) = (good, fits_good p)
fits_good (any p) = (tt, fits_good p)

-- ---- rows fit

module _ {n : ℕ} {ρ : Assignment} where
  pub fits_length : {a : Row} {xs : List Bool} → Fits n ρ a xs → length a ≡ length xs
  fits_length Fits.end = refl
  fits_length (bit good is p) = ap suc (fits_length p)
  fits_length (any p) = ap suc (fits_length p)

  pub append_fits : {a b : Row} {xs ys : List Bool} → Fits n ρ a xs → Fits n ρ b ys → Fits n ρ (a ++ b) (xs ++ ys)
  append_fits Fits.end q = q
  append_fits (bit good is p) q = bit good is (append_fits p q)
  append_fits (any p) q = any (append_fits p q)

  pub take_fits : (k : ℕ) {a : Row} {xs : List Bool} → Fits n ρ a xs → Fits n ρ (take k a) (take k xs)
  take_fits zero p = Fits.end
  take_fits (suc k) Fits.end = Fits.end
  take_fits (suc k) (bit good is p) = bit good is (take_fits k p)
  take_fits (suc k) (any p) = any (take_fits k p)

  pub drop_fits : (k : ℕ) {a : Row} {xs : List Bool} → Fits n ρ a xs → Fits n ρ (drop k a) (drop k xs)
  drop_fits zero p = p
  drop_fits (suc k) Fits.end = Fits.end
  drop_fits (suc k) (bit good is p) = drop_fits k p
  drop_fits (suc k) (any p) = drop_fits k p

  pub replicate_fits : (k : ℕ) {a : Bit} {x : Bool} → FitsBit n ρ a x → Fits n ρ (replicate k a) (replicate k x)
  replicate_fits zero p = Fits.end
  replicate_fits (suc k) p = append_fits p (replicate_fits k p)

  pub zeros_fits : (k : ℕ) → Fits n ρ (zeros k) (replicate k false)
  zeros_fits k = replicate_fits k (leaf_says false)

  pub unknowns_fits : (k : ℕ) (xs : List Bool) → length xs ≡ k → Fits n ρ (unknowns k) xs
  unknowns_fits zero [] e = Fits.end
  unknowns_fits zero (x ∷ xs) e = absurd (not-suc-le-zero {n = length xs} (omega arith))
  unknowns_fits (suc k) [] e = absurd (not-suc-le-zero {n = k} (omega arith))
  unknowns_fits (suc k) (x ∷ xs) e = any (unknowns_fits k xs (omega arith))

  pub constant_fits : (w x : ℕ) → Fits n ρ (Row.constant w x) (bits w x)
  constant_fits zero x = Fits.end
  constant_fits (suc w) x = bit tt refl (constant_fits w (x / 2))

  pub shift_left_fits : (k : ℕ) {a : Row} {xs : List Bool} → Fits n ρ a xs →
      Fits n ρ (Row.shift_left k a) (Plain.shift_left k xs)
  shift_left_fits k {xs} p = append_fits (zeros_fits k) (rw (fits_length p) (take_fits (length xs - k) p))

  pub shift_right_fits : (k : ℕ) {a : Row} {xs : List Bool} → Fits n ρ a xs →
      Fits n ρ (Row.shift_right k a) (Plain.shift_right k xs)
  shift_right_fits k p = append_fits (drop_fits k p) (zeros_fits k)

  pub extract_fits : (u l : ℕ) {a : Row} {xs : List Bool} → Fits n ρ a xs →
      Fits n ρ (Row.extract u l a) (Plain.extract u l xs)
  extract_fits u l p = take_fits (u - l + 1) (drop_fits l p)

  pub zero_extend_fits : (w : ℕ) {a : Row} {xs : List Bool} → Fits n ρ a xs →
      Fits n ρ (Row.zero_extend w a) (Plain.zero_extend w xs)
  zero_extend_fits w {xs} p = append_fits p (rw (fits_length p) (zeros_fits (w - length xs)))

  top_bit_fits : {b : Bit} {y : Bool} {a : Row} {xs : List Bool} → FitsBit n ρ b y → Fits n ρ a xs →
      FitsBit n ρ (Row.top_bit b a) (Plain.top_bit y xs)
  top_bit_fits q Fits.end = q
  top_bit_fits q (bit good is p) = top_bit_fits (bit good is Fits.end) p
  top_bit_fits q (any p) = top_bit_fits (any Fits.end) p

  pub sign_extend_fits : (w : ℕ) {a : Row} {xs : List Bool} → Fits n ρ a xs →
      Fits n ρ (Row.sign_extend w a) (Plain.sign_extend w xs)
  sign_extend_fits w {xs} p =
      append_fits p (rw (fits_length p) (replicate_fits (w - length xs) (top_bit_fits {y = false} (any Fits.end) p)))

-- ---- rows that know no more

pub below_refl : (a : Row) → Below a a
below_refl [] = Below.end
below_refl (known t ∷ a) = keep (below_refl a)
below_refl (unknown ∷ a) = more (below_refl a)

pub below_length : {a b : Row} → Below a b → length a ≡ length b
below_length Below.end = refl
below_length (keep p) = ap suc (below_length p)
below_length (more p) = ap suc (below_length p)

pub append_below : {a b a' b' : Row} → Below a a' → Below b b' → Below (a ++ b) (a' ++ b')
append_below Below.end q = q
append_below (keep p) q = keep (append_below p q)
append_below (more p) q = more (append_below p q)

pub take_below : (k : ℕ) {a a' : Row} → Below a a' → Below (take k a) (take k a')
take_below zero p = Below.end
take_below (suc k) Below.end = Below.end
take_below (suc k) (keep p) = keep (take_below k p)
take_below (suc k) (more p) = more (take_below k p)

pub drop_below : (k : ℕ) {a a' : Row} → Below a a' → Below (drop k a) (drop k a')
drop_below zero p = p
drop_below (suc k) Below.end = Below.end
drop_below (suc k) (keep p) = drop_below k p
drop_below (suc k) (more p) = drop_below k p

pub replicate_below : (k : ℕ) {a a' : Bit} → BelowBit a a' → Below (replicate k a) (replicate k a')
replicate_below zero p = Below.end
replicate_below (suc k) p = append_below p (replicate_below k p)

pub unknowns_below : (k : ℕ) (a : Row) → length a ≡ k → Below (unknowns k) a
unknowns_below zero [] e = Below.end
unknowns_below zero (x ∷ a) e = absurd (not-suc-le-zero {n = length a} (omega arith))
unknowns_below (suc k) [] e = absurd (not-suc-le-zero {n = k} (omega arith))
unknowns_below (suc k) (x ∷ a) e = more (unknowns_below k a (omega arith))

pub shift_left_below : (k : ℕ) {a a' : Row} → Below a a' → Below (Row.shift_left k a) (Row.shift_left k a')
shift_left_below k {a'} p = append_below (below_refl (zeros k)) (rw (below_length p) (take_below (length a' - k) p))

pub shift_right_below : (k : ℕ) {a a' : Row} → Below a a' → Below (Row.shift_right k a) (Row.shift_right k a')
shift_right_below k p = append_below (drop_below k p) (below_refl (zeros k))

pub extract_below : (u l : ℕ) {a a' : Row} → Below a a' → Below (Row.extract u l a) (Row.extract u l a')
extract_below u l p = take_below (u - l + 1) (drop_below l p)

pub zero_extend_below : (w : ℕ) {a a' : Row} → Below a a' → Below (Row.zero_extend w a) (Row.zero_extend w a')
zero_extend_below w p = append_below p (rw (below_length p) (below_refl _))

top_bit_below : {b b' : Bit} {a a' : Row} → BelowBit b b' → Below a a' → BelowBit (Row.top_bit b a) (Row.top_bit b' a')
top_bit_below q Below.end = q
top_bit_below q (keep p) = top_bit_below (keep Below.end) p
top_bit_below q (more p) = top_bit_below (more Below.end) p

pub sign_extend_below : (w : ℕ) {a a' : Row} → Below a a' → Below (Row.sign_extend w a) (Row.sign_extend w a')
sign_extend_below w {a'} p =
    let copies = replicate_below (w - length a') (top_bit_below {b' = unknown} (more Below.end) p) in
    append_below p (rw (below_length p) copies)

-- ---- rows without unknown bits

pub append_sure : (a b : Row) → sure a ≡ true → sure b ≡ true → sure (a ++ b) ≡ true
append_sure [] b p q = q
append_sure (known t ∷ a) b p q = append_sure a b p q
append_sure (unknown ∷ a) b p q = p

pub take_sure : (k : ℕ) (a : Row) → sure a ≡ true → sure (take k a) ≡ true
take_sure zero a p = refl
take_sure (suc k) [] p = refl
take_sure (suc k) (known t ∷ a) p = take_sure k a p
take_sure (suc k) (unknown ∷ a) p = p

pub drop_sure : (k : ℕ) (a : Row) → sure a ≡ true → sure (drop k a) ≡ true
drop_sure zero a p = p
drop_sure (suc k) [] p = refl
drop_sure (suc k) (known t ∷ a) p = drop_sure k a p
drop_sure (suc k) (unknown ∷ a) p = absurd (false≢true p)

pub replicate_sure : (k : ℕ) (a : Bit) → sure_bit a ≡ true → sure (replicate k a) ≡ true
replicate_sure zero a p = refl
replicate_sure (suc k) (known t) p = replicate_sure k (known t) p
replicate_sure (suc k) unknown p = p

pub zeros_sure : (k : ℕ) → sure (zeros k) ≡ true
zeros_sure k = replicate_sure k (known (leaf false)) refl

pub constant_sure : (w x : ℕ) → sure (Row.constant w x) ≡ true
constant_sure zero x = refl
constant_sure (suc w) x = constant_sure w (x / 2)

pub shift_left_sure : (k : ℕ) (a : Row) → sure a ≡ true → sure (Row.shift_left k a) ≡ true
shift_left_sure k a p = append_sure (zeros k) _ (zeros_sure k) (take_sure (length a - k) a p)

pub shift_right_sure : (k : ℕ) (a : Row) → sure a ≡ true → sure (Row.shift_right k a) ≡ true
shift_right_sure k a p = append_sure (drop k a) (zeros k) (drop_sure k a p) (zeros_sure k)

pub extract_sure : (u l : ℕ) (a : Row) → sure a ≡ true → sure (Row.extract u l a) ≡ true
extract_sure u l a p = take_sure (u - l + 1) (drop l a) (drop_sure l a p)

pub zero_extend_sure : (w : ℕ) (a : Row) → sure a ≡ true → sure (Row.zero_extend w a) ≡ true
zero_extend_sure w a p = append_sure a _ p (zeros_sure (w - length a))

top_bit_sure : (b : Bit) (a : Row) → sure_bit b ≡ true → sure a ≡ true → sure_bit (Row.top_bit b a) ≡ true
top_bit_sure b [] q p = q
top_bit_sure b (known t ∷ a) q p = top_bit_sure (known t) a refl p
top_bit_sure b (unknown ∷ a) q p = absurd (false≢true p)

-- an empty row has no top bit to copy
pub sign_extend_sure : (w : ℕ) (a : Row) → 1 ≤ length a → sure a ≡ true → sure (Row.sign_extend w a) ≡ true
sign_extend_sure w [] some p = absurd (not-suc-le-zero some)
sign_extend_sure w (known t ∷ a) some p =
    let copies = replicate_sure (w - suc (length a)) (Row.top_bit (known t) a) (top_bit_sure (known t) a refl p) in
    append_sure (known t ∷ a) _ p copies
sign_extend_sure w (unknown ∷ a) some p = absurd (false≢true p)
