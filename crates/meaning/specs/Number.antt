-- Numbers as bytes and as bits, lowest first.
--
--   little bytes  the number whose little-endian bytes these are
--   bits w x      the lowest w bits of x
--   number bits   the number whose bits these are
--   up_to f n     f 0, f 1, ... f (n - 1)
use Rattle.std.specs.Prelude.{ℕ, zero, suc, ◌+◌, ◌*◌, ◌/◌, ◌%◌, Bool, true, false, List, [], ◌∷◌, eqb}

abbrev pub little : List ℕ → ℕ
little [] = 0
little (b ∷ bs) = b + 256 * little bs

abbrev pub odd : ℕ → Bool
odd x = eqb (x % 2) 1

abbrev pub bits : ℕ → ℕ → List Bool
bits zero x = []
bits (suc w) x = odd x ∷ bits w (x / 2)

-- a bit as a number
abbrev pub digit : Bool → ℕ
digit true = 1
digit false = 0

abbrev pub number : List Bool → ℕ
number [] = 0
number (b ∷ bs) = digit b + 2 * number bs

-- f i, f (i + 1), ... n of them
abbrev pub each : {A : Type 0} → (ℕ → A) → ℕ → ℕ → List A
each f i zero = []
each f i (suc n) = f i ∷ each f (suc i) n

abbrev pub up_to : {A : Type 0} → (ℕ → A) → ℕ → List A
up_to f n = each f 0 n
