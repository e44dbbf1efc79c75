-- The operations on plain bits: what each operation on rows does where every bit is known. Lists of bits, bit 0 first.
--
-- Between the rows (diagrams, unknown marks) and the numbers: rows are shown to fit these, and these to be SMT-LIB's numbers.
use Prim.Native.Nat.{ℕ, suc, ◌+◌, ◌-◌}
use mathlib.Core.Bool.{Bool, false, cond, not, ◌&&◌, ◌||◌, beq}
use mathlib.Core.List.{List, [], ◌∷◌, ◌++◌, map}
use lib.ListN.{length, take, drop, replicate}
use Rattle.meaning.specs.Number.{bits}
use Rattle.meaning.specs.BitVector.{differ}
use Rattle.meaning.specs.Step.{less_or_equal, signed_top}

-- the sum with carry c into the first bit
abbrev pub sum : Bool → List Bool → List Bool → List Bool
sum c [] ys = []
sum c (x ∷ xs) [] = []
sum c (x ∷ xs) (y ∷ ys) = differ (differ x y) c ∷ sum ((x && y) || (differ x y && c)) xs ys

abbrev pub negative : List Bool → List Bool
negative xs = sum false (map not xs) (bits (length xs) 1)

-- the row that bit y, of place j, adds to the product
abbrev pub partial : ℕ → List Bool → Bool → List Bool
partial j xs y = replicate j false ++ map (λ x. x && y) (take (length xs - j) xs)

abbrev pub product_from : List Bool → ℕ → List Bool → List Bool → List Bool
product_from xs j acc [] = acc
product_from xs j acc (y ∷ ys) = product_from xs (suc j) (sum false acc (partial j xs y)) ys

abbrev pub product : List Bool → List Bool → List Bool
product xs ys = product_from xs 0 (replicate (length xs) false) ys

abbrev pub shift_left : ℕ → List Bool → List Bool
shift_left k xs = replicate k false ++ take (length xs - k) xs

abbrev pub shift_right : ℕ → List Bool → List Bool
shift_right k xs = drop k xs ++ replicate k false

abbrev pub extract : ℕ → ℕ → List Bool → List Bool
extract u l xs = take (u - l + 1) (drop l xs)

abbrev pub zero_extend : ℕ → List Bool → List Bool
zero_extend w xs = xs ++ replicate (w - length xs) false

abbrev pub top_bit : Bool → List Bool → Bool
top_bit b [] = b
top_bit b (x ∷ xs) = top_bit x xs

abbrev pub sign_extend : ℕ → List Bool → List Bool
sign_extend w xs = xs ++ replicate (w - length xs) (top_bit false xs)

abbrev pub equal_from : Bool → List Bool → List Bool → Bool
equal_from r [] ys = r
equal_from r (x ∷ xs) [] = r
equal_from r (x ∷ xs) (y ∷ ys) = equal_from (r && beq x y) xs ys

-- is this the top bit of a signed number? `rest` are the bits above it
abbrev pub signed_here : Bool → List Bool → Bool
signed_here signed [] = signed
signed_here signed (x ∷ xs) = false

abbrev pub chain : Bool → Bool → List Bool → List Bool → Bool
chain signed r [] ys = r
chain signed r (x ∷ xs) [] = r
chain signed r (x ∷ xs) (y ∷ ys) = chain signed (cond (signed_here signed xs) (signed_top x y r) (less_or_equal x y r)) xs ys
