-- The operations on plain bits are SMT-LIB's on numbers, at every width: an operation on `bits w x` gives the bits of
-- SMT-LIB's operation on x. And each result is below 2 ^ its width.
use Prim.Native.Nat.{ℕ, zero, suc, ◌+◌, ◌-◌, ◌*◌, ◌/◌, ◌%◌, ◌^◌, ◌≤◌, ◌<◌}
use native.Mathlib.Nat.{not-suc-le-zero, le_of_suc-le-suc, lt_of_le_of_lt, lt_of_lt_of_le, lt_of_not-le, not-le_of_lt}
use native.Mathlib.Nat.{zero-add, add-suc, pow-suc, pow-succ', mod-lt, add-mul-mod_self_right, div-one, div-div-eq-div-mul}
use native.Mathlib.Omega.{arith}
use mathlib.Core.Path.{◌≡◌, refl, sym, ap, ap₂, ◌∙◌}
use mathlib.Core.Logic.{◌↔◌}
use mathlib.Core.Bool.{Bool, true, false, cond, not, ◌&&◌, ◌||◌, beq, and-true, and-false, and_assoc}
use mathlib.Core.List.{List, [], ◌∷◌, ◌++◌, map}
use lib.Dec.{eqb, leb}
use lib.ListN.{length, take, drop, replicate}
use lib.Arith.{digits_lt}
use lib.Pow.{pow_pos, pow_mono, pow-add, shr_le, shr_lt, high_ones}
use borrow.Author.Tests.{eqb-true, eqb-false, eq-eqb, ne_eqb, leb-true, leb-false, le-leb, lt-leb}
use Rattle.meaning.specs.Number.{odd, bits, digit, number}
use Rattle.meaning.specs.BitVector
use Rattle.meaning.specs.BitVector.{zip_bits, differ}
use Rattle.meaning.specs.Step.{less_or_equal, signed_top}
use Rattle.meaning.proofs.Laws.Number.{digit_odd, number_lt}
use Rattle.meaning.proofs.Laws.Number.{bits_length, bits_same, bits_cons, bits_number, bits_mod}
use Rattle.meaning.proofs.Laws.Plain

half_lt : (w x : ℕ) → x < 2 ^ suc w → x / 2 < 2 ^ w
half_lt w x below = omega (arith, pow-suc 2 w)

-- ---- not, and, or, xor

digit_not : (b : Bool) → digit (not b) + digit b ≡ 1
digit_not true = refl
digit_not false = refl

pub not_bits : (w x : ℕ) → x < 2 ^ w → map not (bits w x) ≡ bits w (BitVector.bit_not w x)
not_bits zero x below = refl
not_bits (suc w) x below =
    ap (λ (r : List Bool). not (odd x) ∷ r) (not_bits w (x / 2) (half_lt w x below))
    ∙ bits_cons w (not (odd x)) (2 ^ w - 1 - x / 2) (2 ^ suc w - 1 - x)
    (omega (arith, pow-suc 2 w, digit_odd x, digit_not (odd x)))

pub bit_not_lt : (w x : ℕ) → BitVector.bit_not w x < 2 ^ w
bit_not_lt w x = omega (arith, pow_pos w)

zip_bits_length : (f : Bool → Bool → Bool) (w x y : ℕ) → length (zip_bits f (bits w x) (bits w y)) ≡ w
zip_bits_length f zero x y = refl
zip_bits_length f (suc w) x y = ap suc (zip_bits_length f w (x / 2) (y / 2))

pub bitwise_bits : (f : Bool → Bool → Bool) (w x y : ℕ)
    → zip_bits f (bits w x) (bits w y) ≡ bits w (BitVector.bitwise f w x y)
bitwise_bits f w x y =
    let zipped = zip_bits f (bits w x) (bits w y) in
    sym (bits_number zipped) ∙ ap (λ k. bits k (number zipped)) (zip_bits_length f w x y)

pub bitwise_lt : (f : Bool → Bool → Bool) (w x y : ℕ) → BitVector.bitwise f w x y < 2 ^ w
bitwise_lt f w x y = rw (zip_bits_length f w x y) at (number_lt (zip_bits f (bits w x) (bits w y)))

-- ---- add, negate

adder : (a b c : Bool)
    → digit (differ (differ a b) c) + 2 * digit ((a && b) || (differ a b && c)) ≡ digit a + digit b + digit c
adder true true true = refl
adder true true false = refl
adder true false true = refl
adder true false false = refl
adder false true true = refl
adder false true false = refl
adder false false true = refl
adder false false false = refl

carried_bits : (w x y : ℕ) (c : Bool) → Plain.sum c (bits w x) (bits w y) ≡ bits w (x + y + digit c)
carried_bits zero x y c = refl
carried_bits (suc w) x y c =
    let carry = (odd x && odd y) || (differ (odd x) (odd y) && c) in
    let here = differ (differ (odd x) (odd y)) c in
    ap (λ (r : List Bool). here ∷ r) (carried_bits w (x / 2) (y / 2) carry)
    ∙ bits_cons w here (x / 2 + y / 2 + digit carry) (x + y + digit c)
    (omega (arith, digit_odd x, digit_odd y, adder (odd x) (odd y) c))

pub sum_bits : (w x y : ℕ) → Plain.sum false (bits w x) (bits w y) ≡ bits w (BitVector.add w x y)
sum_bits w x y = carried_bits w x y false ∙ ap (bits w) (omega arith) ∙ sym (bits_mod w (x + y))

pub add_lt : (w x y : ℕ) → BitVector.add w x y < 2 ^ w
add_lt w x y = mod-lt (x + y) (pow_pos w)

pub negative_bits : (w x : ℕ) → x < 2 ^ w → Plain.negative (bits w x) ≡ bits w (BitVector.negate w x)
negative_bits w x below =
    ap₂ (λ (r : List Bool) k. Plain.sum false r (bits k 1)) (not_bits w x below) (bits_length w x)
    ∙ sum_bits w (2 ^ w - 1 - x) 1 ∙ ap (λ n. bits w (n % 2 ^ w)) (omega arith)

pub negate_lt : (w x : ℕ) → BitVector.negate w x < 2 ^ w
negate_lt w x = mod-lt (2 ^ w - x) (pow_pos w)

-- ---- concat, extract

pub concat_bits : (u v x y : ℕ) → y < 2 ^ v → bits v y ++ bits u x ≡ bits (u + v) (BitVector.concat v x y)
concat_bits u zero x y below = bits_same u (u + 0) x (x * 1 + y) (omega arith) (omega arith)
concat_bits u (suc v) x y below =
    ap (λ (r : List Bool). odd y ∷ r) (concat_bits u v x (y / 2) (half_lt v y below))
    ∙ bits_cons (u + v) (odd y) (x * 2 ^ v + y / 2) (x * 2 ^ suc v + y) (rw (pow-suc 2 v) (omega (arith, digit_odd y)))
    ∙ ap (λ k. bits k (x * 2 ^ suc v + y)) (sym (add-suc u v))

pub concat_lt : (u v x y : ℕ) → x < 2 ^ u → y < 2 ^ v → BitVector.concat v x y < 2 ^ (u + v)
concat_lt u v x y high low = rw (pow-add 2 u v) (digits_lt high low)

take_bits : (k w x : ℕ) → k ≤ w → take k (bits w x) ≡ bits k x
take_bits zero w x fits = refl
take_bits (suc k) zero x fits = absurd (not-suc-le-zero fits)
take_bits (suc k) (suc w) x fits = ap (λ (r : List Bool). odd x ∷ r) (take_bits k w (x / 2) (le_of_suc-le-suc fits))

drop_bits : (k w x : ℕ) → k ≤ w → drop k (bits w x) ≡ bits (w - k) (x / 2 ^ k)
drop_bits zero w x fits = bits_same w (w - 0) x (x / 1) (omega arith) (sym (div-one x))
drop_bits (suc k) zero x fits = absurd (not-suc-le-zero fits)
drop_bits (suc k) (suc w) x fits =
    drop_bits k w (x / 2) (le_of_suc-le-suc fits)
    ∙ bits_same (w - k) (suc w - suc k) (x / 2 / 2 ^ k) (x / 2 ^ suc k) (omega arith)
    (div-div-eq-div-mul x 2 (2 ^ k) ∙ ap (λ n. x / n) (sym (pow-succ' 2 k)))

pub extract_bits : (v u l x : ℕ) → l ≤ u → u < v
    → Plain.extract u l (bits v x) ≡ bits (u - l + 1) (BitVector.extract u l x)
extract_bits v u l x ordered inside =
    ap (take (u - l + 1)) (drop_bits l v x (omega arith)) ∙ take_bits (u - l + 1) (v - l) (x / 2 ^ l) (omega arith)
    ∙ sym (bits_mod (u - l + 1) (x / 2 ^ l))

pub extract_lt : (u l x : ℕ) → BitVector.extract u l x < 2 ^ (u - l + 1)
extract_lt u l x = mod-lt (x / 2 ^ l) (pow_pos (u - l + 1))

-- ---- shifts

-- one bit again and again
repeat_bits : (k : ℕ) (b : Bool) → replicate k b ≡ bits k (cond b (2 ^ k - 1) 0)
repeat_bits zero b = refl
repeat_bits (suc k) b =
    ap (λ (r : List Bool). b ∷ r) (repeat_bits k b)
    ∙ bits_cons k b (cond b (2 ^ k - 1) 0) (cond b (2 ^ suc k - 1) 0) (more b)
  where
    more : (c : Bool) → cond c (2 ^ suc k - 1) 0 ≡ digit c + 2 * cond c (2 ^ k - 1) 0
    more true = omega (arith, pow-suc 2 k, pow_pos k)
    more false = refl

-- k zeros below
raised_bits : (w x k : ℕ) → k ≤ w → replicate k false ++ bits (w - k) x ≡ bits w (x * 2 ^ k)
raised_bits w x k fits =
    ap (λ (r : List Bool). r ++ bits (w - k) x) (repeat_bits k false) ∙ concat_bits (w - k) k x 0 (pow_pos k)
    ∙ bits_same (w - k + k) w (x * 2 ^ k + 0) (x * 2 ^ k) (omega arith) (omega arith)

pub shift_left_bits : (w x k : ℕ) → k ≤ w → Plain.shift_left k (bits w x) ≡ bits w (BitVector.shift_left w x k)
shift_left_bits w x k fits =
    ap (λ n. replicate k false ++ take (n - k) (bits w x)) (bits_length w x)
    ∙ ap (λ (r : List Bool). replicate k false ++ r) (take_bits (w - k) w x (omega arith))
    ∙ raised_bits w x k fits ∙ sym (bits_mod w (x * 2 ^ k))

pub shift_left_lt : (w x k : ℕ) → BitVector.shift_left w x k < 2 ^ w
shift_left_lt w x k = mod-lt (x * 2 ^ k) (pow_pos w)

pub shift_right_bits : (w x k : ℕ) → k ≤ w → x < 2 ^ w
    → Plain.shift_right k (bits w x) ≡ bits w (BitVector.shift_right x k)
shift_right_bits w x k fits below =
    let whole : w - k + k ≡ w = omega arith in
    ap₂ (λ (r s : List Bool). r ++ s) (drop_bits k w x fits) (repeat_bits k false)
    ∙ concat_bits k (w - k) 0 (x / 2 ^ k) (shr_lt (w - k) k (rw whole below))
    ∙ bits_same (k + (w - k)) w (0 * 2 ^ (w - k) + x / 2 ^ k) (x / 2 ^ k) (omega arith) (omega arith)

pub shift_right_lt : (w x k : ℕ) → x < 2 ^ w → BitVector.shift_right x k < 2 ^ w
shift_right_lt w x k below = lt_of_le_of_lt (shr_le x k) below

-- ---- multiply

masked_bits : (w x : ℕ) (b : Bool) → map (λ c. c && b) (bits w x) ≡ bits w (digit b * x)
masked_bits zero x b = refl
masked_bits (suc w) x b =
    ap (λ (r : List Bool). (odd x && b) ∷ r) (masked_bits w (x / 2) b)
    ∙ bits_cons w (odd x && b) (digit b * (x / 2)) (digit b * x) (here b)
  where
    here : (c : Bool) → digit c * x ≡ digit (odd x && c) + 2 * (digit c * (x / 2))
    here true = rw (and-true (odd x)) (omega (arith, digit_odd x))
    here false = rw (and-false (odd x)) (omega arith)

partial_bits : (w x j : ℕ) (b : Bool) → j ≤ w → Plain.partial j (bits w x) b ≡ bits w (digit b * x * 2 ^ j)
partial_bits w x j b fits =
    ap (λ n. replicate j false ++ map (λ c. c && b) (take (n - j) (bits w x))) (bits_length w x)
    ∙ ap (λ (r : List Bool). replicate j false ++ map (λ c. c && b) r) (take_bits (w - j) w x (omega arith))
    ∙ ap (λ (r : List Bool). replicate j false ++ r) (masked_bits (w - j) x b)
    ∙ raised_bits w (digit b * x) j fits

-- y by its lowest bit and its half
product_halves : (a x y p : ℕ) → a + digit (odd y) * x * p + 0 + x * (y / 2) * (p * 2) ≡ a + x * y * p
product_halves a x y p = rw (digit_odd y) (out (y / 2) (y % 2) ∙ ap (λ n. a + x * n * p) (omega arith))
  where
    out : (q r : ℕ) → a + r * x * p + 0 + x * q * (p * 2) ≡ a + x * (2 * q + r) * p
    out q r = omega arith

product_from_bits : (n w x y j a : ℕ) → j + n ≡ w
    → Plain.product_from (bits w x) j (bits w a) (bits n y) ≡ bits w (a + x * y * 2 ^ j)
product_from_bits zero w x y j a whole =
    let same : j ≡ w = omega arith in
    let over = sym (add-mul-mod_self_right a (x * y) (2 ^ w)) in
    rw same (sym (bits_mod w a) ∙ ap (bits w) over ∙ bits_mod w (a + x * y * 2 ^ w))
product_from_bits (suc n) w x y j a whole =
    let added = digit (odd y) * x * 2 ^ j in
    ap (λ (r : List Bool). Plain.product_from (bits w x) (suc j) (Plain.sum false (bits w a) r) (bits n (y / 2)))
    (partial_bits w x j (odd y) (omega arith))
    ∙ ap (λ (r : List Bool). Plain.product_from (bits w x) (suc j) r (bits n (y / 2))) (carried_bits w a added false)
    ∙ product_from_bits n w x (y / 2) (suc j) (a + added + 0) (omega arith)
    ∙ ap (bits w) (rw (pow-suc 2 j) (product_halves a x y (2 ^ j)))

pub product_bits : (w x y : ℕ) → Plain.product (bits w x) (bits w y) ≡ bits w (BitVector.multiply w x y)
product_bits w x y =
    ap (λ n. Plain.product_from (bits w x) 0 (replicate n false) (bits w y)) (bits_length w x)
    ∙ ap (λ (r : List Bool). Plain.product_from (bits w x) 0 r (bits w y)) (repeat_bits w false)
    ∙ product_from_bits w w x y 0 0 (omega arith) ∙ ap (bits w) (omega arith) ∙ sym (bits_mod w (x * y))

pub multiply_lt : (w x y : ℕ) → BitVector.multiply w x y < 2 ^ w
multiply_lt w x y = mod-lt (x * y) (pow_pos w)

-- ---- extensions

extend_bits : (v w x : ℕ) (b : Bool) → v ≤ w → x < 2 ^ v
    → bits v x ++ replicate (w - length (bits v x)) b ≡ bits w (cond b (x + (2 ^ w - 2 ^ v)) x)
extend_bits v w x b fits below =
    ap (λ n. bits v x ++ replicate (w - n) b) (bits_length v x)
    ∙ ap (λ (r : List Bool). bits v x ++ r) (repeat_bits (w - v) b)
    ∙ concat_bits (w - v) v (cond b (2 ^ (w - v) - 1) 0) x below
    ∙ bits_same (w - v + v) w (cond b (2 ^ (w - v) - 1) 0 * 2 ^ v + x) (cond b (x + (2 ^ w - 2 ^ v)) x) whole (above b)
  where
    whole : w - v + v ≡ w
    whole = omega arith

    above : (c : Bool) → cond c (2 ^ (w - v) - 1) 0 * 2 ^ v + x ≡ cond c (x + (2 ^ w - 2 ^ v)) x
    above true = let ones = rw whole at (high_ones (w - v) v) in omega (arith, ones)
    above false = omega arith

pub zero_extend_bits : (v w x : ℕ) → v ≤ w → x < 2 ^ v → Plain.zero_extend w (bits v x) ≡ bits w x
zero_extend_bits v w x fits below = extend_bits v w x false fits below

pub zero_extend_lt : (v w x : ℕ) → v ≤ w → x < 2 ^ v → x < 2 ^ w
zero_extend_lt v w x fits below = lt_of_lt_of_le below (pow_mono fits)

leb_same : (a b m n : ℕ) → a ≤ b ↔ m ≤ n → leb a b ≡ leb m n
leb_same a b m n agrees = go (leb a b) refl
  where
    go : (t : Bool) → leb a b ≡ t → t ≡ leb m n
    go true e = sym (le-leb m n (agrees.0 (leb-true a b e)))
    go false e = sym (lt-leb m n (lt_of_not-le (λ h. not-le_of_lt (leb-false a b e) (agrees.1 h))))

top_bit_bits : (w x : ℕ) (b : Bool) → x < 2 ^ suc w → Plain.top_bit b (bits (suc w) x) ≡ leb (2 ^ w) x
top_bit_bits zero x b below = go (odd x) (digit_odd x)
  where
    go : (t : Bool) → digit t ≡ x % 2 → t ≡ leb 1 x
    go true is = sym (le-leb 1 x (omega arith))
    go false is = sym (lt-leb 1 x (omega arith))
top_bit_bits (suc w) x b below =
    top_bit_bits w (x / 2) (odd x) (half_lt (suc w) x below)
    ∙ leb_same (2 ^ w) (x / 2) (2 ^ suc w) x (omega (arith, pow-suc 2 w))

top_bit_top : (w x : ℕ) (b : Bool) → 1 ≤ w → x < 2 ^ w → Plain.top_bit b (bits w x) ≡ BitVector.top w x
top_bit_top zero x b wide below = absurd (not-suc-le-zero wide)
top_bit_top (suc w) x b wide below =
    let less : suc w - 1 ≡ w = omega arith in
    top_bit_bits w x b below ∙ ap (λ k. leb (2 ^ k) x) (sym less)

pub sign_extend_bits : (v w x : ℕ) → 1 ≤ v → v ≤ w → x < 2 ^ v
    → Plain.sign_extend w (bits v x) ≡ bits w (BitVector.sign_extend v w x)
sign_extend_bits v w x wide fits below =
    ap (λ b. bits v x ++ replicate (w - length (bits v x)) b) (top_bit_top v x false wide below)
    ∙ extend_bits v w x (BitVector.top v x) fits below

pub sign_extend_lt : (v w x : ℕ) → 1 ≤ v → v ≤ w → x < 2 ^ v → BitVector.sign_extend v w x < 2 ^ w
sign_extend_lt v w x wide fits below = go (BitVector.top v x)
  where
    go : (b : Bool) → cond b (x + (2 ^ w - 2 ^ v)) x < 2 ^ w
    go true = omega (arith, pow_mono fits)
    go false = omega (arith, pow_mono fits)

-- ---- equal

equal_halves : (x y : ℕ) → (beq (odd x) (odd y) && eqb (x / 2) (y / 2)) ≡ eqb x y
equal_halves x y = go (odd x) (odd y) (digit_odd x) (digit_odd y)
  where
    halves : x % 2 ≡ y % 2 → (t : Bool) → eqb (x / 2) (y / 2) ≡ t → t ≡ eqb x y
    halves low true e = let half = eqb-true (x / 2) (y / 2) e in sym (eq-eqb x y (omega arith))
    halves low false e = let half = eqb-false (x / 2) (y / 2) e in sym (ne_eqb x y (omega arith))

    go : (a b : Bool) → digit a ≡ x % 2 → digit b ≡ y % 2 → (beq a b && eqb (x / 2) (y / 2)) ≡ eqb x y
    go true true p q = halves (omega arith) (eqb (x / 2) (y / 2)) refl
    go true false p q = sym (ne_eqb x y (omega arith))
    go false true p q = sym (ne_eqb x y (omega arith))
    go false false p q = halves (omega arith) (eqb (x / 2) (y / 2)) refl

equal_from_bits : (w x y : ℕ) (r : Bool) → x < 2 ^ w → y < 2 ^ w
    → Plain.equal_from r (bits w x) (bits w y) ≡ (r && eqb x y)
equal_from_bits zero x y r left right = sym (ap (λ b. r && b) (eq-eqb x y (omega arith)) ∙ and-true r)
equal_from_bits (suc w) x y r left right =
    equal_from_bits w (x / 2) (y / 2) (r && beq (odd x) (odd y)) (half_lt w x left) (half_lt w y right)
    ∙ and_assoc r (beq (odd x) (odd y)) (eqb (x / 2) (y / 2)) ∙ ap (λ b. r && b) (equal_halves x y)

pub equal_bits : (w x y : ℕ) → x < 2 ^ w → y < 2 ^ w → Plain.equal_from true (bits w x) (bits w y) ≡ eqb x y
equal_bits w x y left right = equal_from_bits w x y true left right

-- ---- less or equal

-- what the answer so far takes from the next place
less_or_equal_borrow : (a b r : Bool) → record {
  enough : digit (not r) + digit a ≤ digit b + 2 * digit (not (less_or_equal a b r));
  needed : 2 * digit (not (less_or_equal a b r)) + digit b ≤ digit (not r) + digit a + 1;
}
less_or_equal_borrow true true true = omega arith
less_or_equal_borrow true true false = omega arith
less_or_equal_borrow true false true = omega arith
less_or_equal_borrow true false false = omega arith
less_or_equal_borrow false true true = omega arith
less_or_equal_borrow false true false = omega arith
less_or_equal_borrow false false true = omega arith
less_or_equal_borrow false false false = omega arith

signed_here_not : (xs : List Bool) → Plain.signed_here false xs ≡ false
signed_here_not [] = refl
signed_here_not (x ∷ xs) = refl

chain_bits : (w x y : ℕ) (r : Bool) → x < 2 ^ w → y < 2 ^ w
    → Plain.chain false r (bits w x) (bits w y) ≡ leb (digit (not r) + x) y
chain_bits zero x y true left right = sym (le-leb (0 + x) y (omega arith))
chain_bits zero x y false left right = sym (lt-leb (1 + x) y (omega arith))
chain_bits (suc w) x y r left right =
    let next = less_or_equal (odd x) (odd y) r in
    ap (λ b. Plain.chain false (cond b (signed_top (odd x) (odd y) r) next) (bits w (x / 2)) (bits w (y / 2)))
    (signed_here_not (bits w (x / 2)))
    ∙ chain_bits w (x / 2) (y / 2) next (half_lt w x left) (half_lt w y right)
    ∙ leb_same (digit (not next) + x / 2) (y / 2) (digit (not r) + x) y
    (omega (arith, digit_odd x, digit_odd y, less_or_equal_borrow (odd x) (odd y) r))

pub unsigned_bits : (w x y : ℕ) → x < 2 ^ w → y < 2 ^ w → Plain.chain false true (bits w x) (bits w y) ≡ leb x y
unsigned_bits w x y left right = chain_bits w x y true left right ∙ ap (λ n. leb n y) (zero-add x)

-- the signed order is the unsigned one where the top bits agree
chain_signed : (x y r : Bool) (xs ys : List Bool) → length xs ≡ length ys
    → Plain.chain true r (x ∷ xs) (y ∷ ys)
    ≡ signed_top (Plain.top_bit x xs) (Plain.top_bit y ys) (Plain.chain false r (x ∷ xs) (y ∷ ys))
chain_signed x y r [] [] same = single x y
  where
    single : (a b : Bool) → signed_top a b r ≡ signed_top a b (less_or_equal a b r)
    single true true = refl
    single true false = refl
    single false true = refl
    single false false = refl
chain_signed x y r [] (v ∷ ys) same = absurd (omega arith)
chain_signed x y r (u ∷ xs) [] same = absurd (omega arith)
chain_signed x y r (u ∷ xs) (v ∷ ys) same = chain_signed u v (less_or_equal x y r) xs ys (omega arith)

pub signed_bits : (w x y : ℕ) → 1 ≤ w → x < 2 ^ w → y < 2 ^ w
    → Plain.chain true true (bits w x) (bits w y) ≡ BitVector.signed_le w x y
signed_bits zero x y wide left right = absurd (not-suc-le-zero wide)
signed_bits (suc w) x y wide left right =
    chain_signed (odd x) (odd y) true (bits w (x / 2)) (bits w (y / 2))
    (bits_length w (x / 2) ∙ sym (bits_length w (y / 2)))
    ∙ ap₂ (λ a b. signed_top a b (Plain.chain false true (bits (suc w) x) (bits (suc w) y)))
    (top_bit_top (suc w) x false wide left) (top_bit_top (suc w) y false wide right)
    ∙ ap (signed_top (BitVector.top (suc w) x) (BitVector.top (suc w) y)) (unsigned_bits (suc w) x y left right)
