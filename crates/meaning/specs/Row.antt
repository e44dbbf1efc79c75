-- Rows: a term's value at a limit, a place a bit, each a diagram or the unknown mark. One definition an operation.
--
-- n is the number of levels, L the limit. Bits are listed from bit 0 on; a row's length is its width.
use Rattle.std.specs.Prelude.{ℕ, suc, ◌+◌, ◌-◌, Bool, true, false, cond, List, [], ◌∷◌, ◌++◌, map, ltb, length, take, drop, replicate}
use Rattle.meaning.specs.Number.{bits}
use Rattle.meaning.specs.Diagram.{Tree, leaf, node, same}
use Rattle.meaning.specs.Table.{count}
use Rattle.meaning.specs.Step.{Work, done, ◌>>=◌, step, Function, is_not, is_and, is_or, is_xor, choice, unused}

pub data Bit : Type 0 where
  known : Tree → Bit
  unknown : Bit

abbrev pub Row : Type 0
Row = List Bit

abbrev pub zeros : ℕ → Row
zeros w = replicate w (known (leaf false))

abbrev pub unknowns : ℕ → Row
unknowns w = replicate w unknown

-- one step, as a bit
abbrev pub step_bit : ℕ → Function → Tree → Tree → Tree → Work Bit
step_bit n f a b c = do
  t ← step n f a b c
  done (known t)

-- place by place, bit 0 first
abbrev pub each_bit : (Bit → Work Bit) → Row → Work Row
each_bit f [] = done []
each_bit f (a ∷ ar) = do
  b ← f a
  br ← each_bit f ar
  done (b ∷ br)

abbrev pub both_bits : (Bit → Bit → Work Bit) → Row → Row → Work Row
both_bits f [] br = done []
both_bits f (a ∷ ar) [] = done []
both_bits f (a ∷ ar) (b ∷ br) = do
  c ← f a b
  cr ← both_bits f ar br
  done (c ∷ cr)

-- ---- constant, shift, concat, extract, extend: no step. Moved bits keep their mark

abbrev pub constant : ℕ → ℕ → Row
constant w x = map (λ b. known (leaf b)) (bits w x)

-- up by k places
abbrev pub shift_left : ℕ → Row → Row
shift_left k a = zeros k ++ take (length a - k) a

abbrev pub shift_right : ℕ → Row → Row
shift_right k a = drop k a ++ zeros k

-- the first operand is the high part
abbrev pub concat : Row → Row → Row
concat a b = b ++ a

abbrev pub extract : ℕ → ℕ → Row → Row
extract u l a = take (u - l + 1) (drop l a)

abbrev pub zero_extend : ℕ → Row → Row
zero_extend w a = a ++ zeros (w - length a)

-- the top bit of a row, with its mark; b where the row is empty
abbrev pub top_bit : Bit → Row → Bit
top_bit b [] = b
top_bit b (a ∷ ar) = top_bit a ar

abbrev pub sign_extend : ℕ → Row → Row
sign_extend w a = a ++ replicate (w - length a) (top_bit unknown a)

-- ---- bitwise not, and, or, xor. Unknown in, unknown out, except that 0 and unknown is 0, 1 or unknown is 1

abbrev pub not_bit : ℕ → Bit → Work Bit
not_bit n (known a) = step_bit n is_not a unused unused
not_bit n unknown = done unknown

unfoldable pub bit_not : ℕ → Row → Work Row
bit_not n a = each_bit (not_bit n) a

-- what a known bit a and an unknown one give, where b alone would decide
abbrev pub decided_by : Bool → Tree → Bit
decided_by b a = cond (same a (leaf b)) (known a) unknown

-- where nothing decides alone
abbrev pub undecided : Tree → Bit
undecided a = unknown

abbrev pub pair_bit : ℕ → Function → (Tree → Bit) → Bit → Bit → Work Bit
pair_bit n f mark (known a) (known b) = step_bit n f a b unused
pair_bit n f mark (known a) unknown = done (mark a)
pair_bit n f mark unknown (known b) = done (mark b)
pair_bit n f mark unknown unknown = done unknown

abbrev pub and_bit : ℕ → Bit → Bit → Work Bit
and_bit n a b = pair_bit n is_and (decided_by false) a b

unfoldable pub bit_and : ℕ → Row → Row → Work Row
bit_and n a b = both_bits (and_bit n) a b

unfoldable pub bit_or : ℕ → Row → Row → Work Row
bit_or n a b = both_bits (pair_bit n is_or (decided_by true)) a b

unfoldable pub bit_xor : ℕ → Row → Row → Work Row
bit_xor n a b = both_bits (pair_bit n is_xor undecided) a b

-- ---- add at limit L

-- whose nodes are counted for bit i: sum bits 0 to i. The carry into bit i isn't
unfoldable pub counted : List Tree → Tree → List Tree
counted sums carry = sums

-- the next carry: a and b, then (a xor b) and carry, then the or of the two
abbrev pub carry_step : ℕ → Tree → Tree → Tree → Tree → Work Tree
carry_step n x a b carry = do
  g ← step n is_and a b unused
  p ← step n is_and x carry unused
  step n is_or g p unused

-- unless this bit is the top
abbrev pub next_carry : ℕ → Tree → Tree → Tree → Tree → Row → Work Tree
next_carry n x a b carry [] = done carry
next_carry n x a b carry (a' ∷ ar) = carry_step n x a b carry

-- the bits from here on, with this carry into the first of them, and the sum bits before them
abbrev pub add_from : ℕ → ℕ → Tree → List Tree → Row → Row → Work Row
add_from n L carry sums [] br = done []
add_from n L carry sums (a ∷ ar) [] = done []
add_from n L carry sums (known a ∷ ar) (known b ∷ br) = do
  x ← step n is_xor a b unused
  s ← step n is_xor x carry unused
  let sums' = sums ++ (s ∷ []) in
      let cut = done (unknowns (suc (length ar))) in
      let rest = (do
        c ← next_carry n x a b carry ar
        sr ← add_from n L c sums' ar br
        done (known s ∷ sr)) in
      cond (ltb L (count (counted sums' carry))) cut rest
add_from n L carry sums (known a ∷ ar) (unknown ∷ br) = done (unknowns (suc (length ar)))
add_from n L carry sums (unknown ∷ ar) (b ∷ br) = done (unknowns (suc (length ar)))

-- carry into bit 0 is false
unfoldable pub add : ℕ → ℕ → Row → Row → Work Row
add n L a b = add_from n L (leaf false) [] a b

-- ---- negation: the bitwise not, then add constant 1

unfoldable pub negate : ℕ → ℕ → Row → Work Row
negate n L a = do
  b ← bit_not n a
  add n L b (constant (length a) 1)

-- ---- multiply a by b

-- bits below j are false, bit k is a(k − j) and b(j), k rising
abbrev pub partial : ℕ → ℕ → Row → Bit → Work Row
partial n j a b = do
  r ← each_bit (λ x. and_bit n x b) (take (length a - j) a)
  done (zeros j ++ r)

-- the sum so far, and b's bits from j on
abbrev pub multiply_from : ℕ → ℕ → Row → ℕ → Row → Row → Work Row
multiply_from n L a j sum [] = done sum
multiply_from n L a j sum (b ∷ br) = do
  r ← partial n j a b
  s ← add n L sum r
  multiply_from n L a (suc j) s br

-- start with zero
unfoldable pub multiply : ℕ → ℕ → Row → Row → Work Row
multiply n L a b = multiply_from n L a 0 (zeros (length a)) b

-- ---- if-then-else, bit 0 first

-- both known and the same number
abbrev pub same_bit : Bit → Bit → Bool
same_bit (known a) (known b) = same a b
same_bit (known a) unknown = false
same_bit unknown b = false

-- must and may of the condition are c
abbrev pub chosen : ℕ → Tree → Bit → Bit → Work Bit
chosen n (leaf true) a b = done a
chosen n (leaf false) a b = done b
chosen n (node i d e) (known a) (known b) = step_bit n choice (node i d e) a b
chosen n (node i d e) (known a) unknown = done unknown
chosen n (node i d e) unknown b = done unknown

abbrev pub choose_bit : ℕ → Tree → Tree → Bit → Bit → Work Bit
choose_bit n must may a b = cond (same_bit a b) (done a) (cond (same must may) (chosen n must a b) (done unknown))

unfoldable pub choose : ℕ → Tree → Tree → Row → Row → Work Row
choose n must may a b = both_bits (choose_bit n must may) a b
