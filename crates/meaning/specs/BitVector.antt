-- SMT-LIB's fixed-size bit-vectors, as plain numbers: a vector of width w is a number below 2^w. No diagram here.
--
-- Departures that 01 lists: a shift amount is first reduced modulo the width.
use Rattle.std.specs.Prelude.{ℕ, ◌+◌, ◌-◌, ◌*◌, ◌/◌, ◌%◌, ◌^◌, Bool, cond, not, ◌&&◌, ◌||◌, List, [], ◌∷◌, leb}
use Rattle.std.specs.Bool.{beq}
use Rattle.meaning.specs.Number.{bits, number}

-- place by place
abbrev pub zip_bits : (Bool → Bool → Bool) → List Bool → List Bool → List Bool
zip_bits f [] ys = []
zip_bits f (x ∷ xs) [] = []
zip_bits f (x ∷ xs) (y ∷ ys) = f x y ∷ zip_bits f xs ys

abbrev pub bit_not : ℕ → ℕ → ℕ
bit_not w x = 2 ^ w - 1 - x

abbrev pub negate : ℕ → ℕ → ℕ
negate w x = (2 ^ w - x) % 2 ^ w

-- and, or, xor: the Boolean function at each bit
abbrev pub bitwise : (Bool → Bool → Bool) → ℕ → ℕ → ℕ → ℕ
bitwise f w x y = number (zip_bits f (bits w x) (bits w y))

abbrev pub differ : Bool → Bool → Bool
differ a b = not (beq a b)

abbrev pub add : ℕ → ℕ → ℕ → ℕ
add w x y = (x + y) % 2 ^ w

abbrev pub multiply : ℕ → ℕ → ℕ → ℕ
multiply w x y = (x * y) % 2 ^ w

-- by how many places a shift of this amount moves at this width
unfoldable pub shift_by : ℕ → ℕ → ℕ
shift_by w amount = amount % w

abbrev pub shift_left : ℕ → ℕ → ℕ → ℕ
shift_left w x by = (x * 2 ^ by) % 2 ^ w

abbrev pub shift_right : ℕ → ℕ → ℕ
shift_right x by = x / 2 ^ by

-- x is the high part; v is the low part's width
abbrev pub concat : ℕ → ℕ → ℕ → ℕ
concat v x y = x * 2 ^ v + y

-- bits l to u
abbrev pub extract : ℕ → ℕ → ℕ → ℕ
extract u l x = (x / 2 ^ l) % 2 ^ (u - l + 1)

-- is the top bit of x, of width w, set?
abbrev pub top : ℕ → ℕ → Bool
top w x = leb (2 ^ (w - 1)) x

-- x of width v as width w: the new bits are copies of the top bit
abbrev pub sign_extend : ℕ → ℕ → ℕ → ℕ
sign_extend v w x = cond (top v x) (x + (2 ^ w - 2 ^ v)) x

-- two's complement order: by the top bits where they differ
abbrev pub signed_le : ℕ → ℕ → ℕ → Bool
signed_le w x y = (top w x && not (top w y)) || (beq (top w x) (top w y) && leb x y)
