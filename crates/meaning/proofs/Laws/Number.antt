-- Laws of numbers as bits. `bits w` and `number` are each other's inverses between the numbers below 2 ^ w and the
-- lists of w bits: `number_bits` and `bits_number`.
use Prim.Native.Nat.{ℕ, zero, suc, ◌+◌, ◌*◌, ◌/◌, ◌%◌, ◌^◌, ◌≤◌, ◌<◌}
use native.Mathlib.Nat.{not-suc-le-zero, pow-suc, pow-succ', mod-mod, zero-mod, zero-div, div-one, div-div-eq-div-mul}
use native.Mathlib.Omega.{arith}
use mathlib.Core.Path.{◌≡◌, refl, sym, ap, ap₂, ◌∙◌}
use mathlib.Core.Bool.{Bool, true, false}
use mathlib.Core.List.{List, [], ◌∷◌, ◌++◌}
use lib.ListN.{length, get_or, take, drop, replicate}
use lib.Arith.{mod-mul}
use lib.Pow.{pow_pos}
use borrow.Author.Tests.{eqb-true, eqb-false, eq-eqb, ne_eqb}
use Rattle.meaning.specs.Number.{odd, bits, digit, number, each, up_to}

-- ---- digit, number

pub digit_lt : (b : Bool) → digit b < 2
digit_lt true = omega arith
digit_lt false = omega arith

pub number_lt : (bs : List Bool) → number bs < 2 ^ length bs
number_lt [] = omega arith
number_lt (b ∷ bs) = omega (arith, digit_lt b, number_lt bs, pow-suc 2 (length bs))

tail_half : (b : Bool) (bs : List Bool) → (digit b + 2 * number bs) / 2 ≡ number bs
tail_half b bs = omega (arith, digit_lt b)

pub digit_odd : (x : ℕ) → digit (odd x) ≡ x % 2
digit_odd x = go (odd x) refl
  where
    go : (b : Bool) → odd x ≡ b → digit b ≡ x % 2
    go true e = sym (eqb-true (x % 2) 1 e)
    go false e = let h : x % 2 ≡ 1 → ⊥ = eqb-false (x % 2) 1 e in omega (arith, h)

-- ---- bits

pub bits_length : (w x : ℕ) → length (bits w x) ≡ w
bits_length zero x = refl
bits_length (suc w) x = ap suc (bits_length w (x / 2))

pub bits_same : (v w x y : ℕ) → v ≡ w → x ≡ y → bits v x ≡ bits w y
bits_same v w x y same_width_lem same = ap₂ bits same_width_lem same

pub number_bits : (w x : ℕ) → number (bits w x) ≡ x % 2 ^ w
number_bits zero x = omega arith
number_bits (suc w) x =
    rw (digit_odd x, number_bits w (x / 2), pow-suc 2 w, mod-mul x (pow_pos w) (pow_pos 1)) (omega arith)

-- the bits of a number whose lowest bit is b and whose half is x
pub bits_cons : (w : ℕ) (b : Bool) (x n : ℕ) → n ≡ digit b + 2 * x → b ∷ bits w x ≡ bits (suc w) n
bits_cons w b x n is = ap₂ (λ c m. c ∷ bits w m) (first b is) (omega (arith, digit_lt b))
  where
    first : (c : Bool) → n ≡ digit c + 2 * x → c ≡ odd n
    first true one = sym (eq-eqb (n % 2) 1 (omega arith))
    first false one = sym (ne_eqb (n % 2) 1 (omega arith))

pub bits_number : (bs : List Bool) → bits (length bs) (number bs) ≡ bs
bits_number [] = refl
bits_number (b ∷ bs) =
    sym (bits_cons (length bs) b (number bs) (number (b ∷ bs)) refl) ∙ ap (λ (cs : List Bool). b ∷ cs) (bits_number bs)

-- ---- lists of bits by their numbers

pub number_one : (xs ys : List Bool) → length xs ≡ length ys → number xs ≡ number ys → xs ≡ ys
number_one xs ys same_length same_number = sym (bits_number xs) ∙ ap₂ bits same_length same_number ∙ bits_number ys

pub bits_of : (w : ℕ) (xs : List Bool) (x : ℕ) → length xs ≡ w → number xs ≡ x % 2 ^ w → xs ≡ bits w x
bits_of w xs x long is = number_one xs (bits w x) (long ∙ sym (bits_length w x)) (is ∙ sym (number_bits w x))

pub bits_mod : (w x : ℕ) → bits w (x % 2 ^ w) ≡ bits w x
bits_mod w x =
    bits_of w (bits w (x % 2 ^ w)) x (bits_length w (x % 2 ^ w)) (number_bits w (x % 2 ^ w) ∙ mod-mod x (2 ^ w))

-- ---- parts of a list

pub number_append : (xs ys : List Bool) → number (xs ++ ys) ≡ number xs + 2 ^ length xs * number ys
number_append [] ys = omega arith
number_append (x ∷ xs) ys = rw (number_append xs ys, pow-suc 2 (length xs)) (omega arith)

pub number_zeros : (k : ℕ) → number (replicate k false) ≡ 0
number_zeros zero = refl
number_zeros (suc k) = omega (arith, number_zeros k)

pub number_take : (k : ℕ) (xs : List Bool) → number (take k xs) ≡ number xs % 2 ^ k
number_take zero xs = omega arith
number_take (suc k) [] = sym (zero-mod (2 ^ suc k))
number_take (suc k) (x ∷ xs) =
    rw (number_take k xs, pow-suc 2 k, mod-mul (number (x ∷ xs)) (pow_pos k) (pow_pos 1), tail_half x xs)
    (omega (arith, digit_lt x))

pub number_drop : (k : ℕ) (xs : List Bool) → number (drop k xs) ≡ number xs / 2 ^ k
number_drop zero xs = sym (div-one (number xs))
number_drop (suc k) [] = sym (zero-div (2 ^ suc k))
number_drop (suc k) (x ∷ xs) =
    number_drop k xs ∙ ap (λ n. n / 2 ^ k) (sym (tail_half x xs))
    ∙ div-div-eq-div-mul (number (x ∷ xs)) 2 (2 ^ k) ∙ ap (λ n. number (x ∷ xs) / n) (sym (pow-succ' 2 k))

-- ---- each, up_to

pub each_length : {A : Type 0} (f : ℕ → A) (i n : ℕ) → length (each f i n) ≡ n
each_length f i zero = refl
each_length f i (suc n) = ap suc (each_length f (suc i) n)

pub each_same : {A : Type 0} (f g : ℕ → A) (i n : ℕ) → ((k : ℕ) → i ≤ k → k < i + n → f k ≡ g k) → each f i n ≡ each g i n
each_same f g i zero same = refl
each_same {A} f g i (suc n) same =
    ap₂ {C = List A} ◌∷◌ (same i (omega arith) (omega arith))
    (each_same f g (suc i) n (λ k low high. same k (omega arith) (omega arith)))

pub each_at : {A : Type 0} (f : ℕ → A) (i n k : ℕ) (d : A) → k < n → get_or (each f i n) k d ≡ f (i + k)
each_at f i zero k d below = absurd (not-suc-le-zero below)
each_at f i (suc n) zero d below = ap f (omega arith)
each_at f i (suc n) (suc k) d below = each_at f (suc i) n k d (omega arith) ∙ ap f (omega arith)

pub up_to_length : {A : Type 0} (f : ℕ → A) (n : ℕ) → length (up_to f n) ≡ n
up_to_length f n = each_length f 0 n

pub up_to_at : {A : Type 0} (f : ℕ → A) (n i : ℕ) (d : A) → i < n → get_or (up_to f n) i d ≡ f i
up_to_at f n i d below = each_at f 0 n i d below ∙ ap f (omega arith)
