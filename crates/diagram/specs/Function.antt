-- Functions of three diagrams as truth tables of eight rows.
--
--   table_of f    the function whose row 4a + 2b + c is bit 4a + 2b + c of f
--   evaluate q v  the function q asks, where v says which numbers are true
use Rattle.std.specs.Prelude.{ℕ, ◌+◌, ◌*◌, ◌/◌, ◌^◌, ◌≤◌, ◌<◌, ◌≡◌, Bool, true, false, cond, ◌⊎◌, eqb, Option, Some, None}
use Rattle.std.specs.Int.Bits.{bit_and}
use Rattle.meaning.specs.Number.{odd, digit}
use Rattle.meaning.specs.Step.{Function}
use Rattle.diagram.specs.declared.function.Question.{Question}

unfoldable pub table_of : ℕ → Function
table_of f a b c = odd (f / 2 ^ (4 * digit a + 2 * digit b + digit c))

unfoldable pub evaluate : Question → (ℕ → Bool) → Bool
evaluate q v = table_of q.f (v q.a) (v q.b) (v q.c)

-- v is right about the terminals
pub record Terminal (v : ℕ → Bool) : Type 0 where
  pub falsehood : v 0 ≡ false
  pub truth : v 1 ≡ true

-- r asks the same as q, of the same operands or of 0
pub record Shorter (q r : Question) : Type 0 where
  pub small : r.f < 256
  pub same : (v : ℕ → Bool) → Terminal v → evaluate r v ≡ evaluate q v
  pub a_from : (r.a ≡ q.a) ⊎ (r.a ≡ 0)
  pub b_from : (r.b ≡ q.b) ⊎ (r.b ≡ 0)
  pub c_from : (r.c ≡ q.c) ⊎ (r.c ≡ 0)

-- number n answers q, and needs no node: it is a terminal or an operand
pub record AnsweredBy (q : Question) (n : ℕ) : Type 0 where
  pub same : (v : ℕ → Bool) → Terminal v → evaluate q v ≡ v n
  pub from : (n < 2) ⊎ ((n ≡ q.a) ⊎ ((n ≡ q.b) ⊎ (n ≡ q.c)))

-- such an answer; without one some operand is a node
abbrev pub Answers : Question → Option ℕ → Type 0
Answers q (Some n) = AnsweredBy q n
Answers q None = (2 ≤ q.a) ⊎ ((2 ≤ q.b) ⊎ (2 ≤ q.c))

-- ---- how a table is rewritten: its rows lie in pairs, s rows apart, and d is 2 ^ s

-- of each pair the row in `low`, or the one in `high`, goes to both
unfoldable pub paired : ℕ → ℕ → ℕ → ℕ → ℕ
paired f low high d = (bit_and f low + bit_and f high / d) * (d + 1)

-- the table rewritten if x and y are one number
unfoldable pub equal_of : ℕ → ℕ → ℕ → ℕ → ℕ → ℕ → ℕ
equal_of f x y low high d = cond (eqb x y) (paired f low high d) f

-- operand x, or 0 if the rows in `low` are the rows s rows up
unfoldable pub kept_of : ℕ → ℕ → ℕ → ℕ → ℕ
kept_of f x low d = cond (eqb (bit_and f low * d) (bit_and f (low * d))) 0 x
