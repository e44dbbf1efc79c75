-- The meaning of a sheet: the number or truth that each entry has when the variables have values. No diagram here.
--
--   meaning es done e    what entry e means, from the meanings `done` of the entries before it
--   meanings es          the meanings of all entries, in order
--   formula es σ         is the sheet's formula true under the values σ?
--   Satisfiable es       some values of the variables make it true
use Rattle.std.specs.Prelude.{ℕ, zero, suc, ◌-◌, ◌^◌, ◌<◌, Bool, true, false, cond, not, ◌&&◌, ◌||◌, List, [], ◌∷◌, ◌++◌, ◌≡◌, eqb, leb, length, get_or}
use Rattle.meaning.specs.Kind.{Kind}
use Rattle.meaning.specs.Sheet.{Entry, entry, operand, constant_of, amount, upper, lower}
use Rattle.meaning.specs.Level.{variable_bits}
use Rattle.meaning.specs.Check.{width_of}
use Rattle.meaning.specs.BitVector

-- a value for each variable entry, by entry number
abbrev pub Values : Type 0
Values = ℕ → ℕ

-- a term's number or a formula's truth
pub data Sense : Type 0 where
  number : ℕ → Sense
  truth : Bool → Sense

abbrev pub Meaning : Type 0
Meaning = Values → Sense

abbrev pub number_of : Sense → ℕ
number_of (number x) = x
number_of (truth b) = 0

abbrev pub truth_of : Sense → Bool
truth_of (number x) = false
truth_of (truth b) = b

-- σ with the value x for variable entry i: the innermost binding counts
abbrev pub bind : Values → ℕ → ℕ → Values
bind σ i x j = cond (eqb j i) x (σ j)

-- some, every number below n
abbrev pub some : ℕ → (ℕ → Bool) → Bool
some zero p = false
some (suc n) p = p n || some n p

abbrev pub every : ℕ → (ℕ → Bool) → Bool
every zero p = true
every (suc n) p = p n && every n p

-- what entry i means
abbrev pub meaning_at : List Meaning → ℕ → Meaning
meaning_at done i = get_or done i (λ σ. truth false)

-- operand k as a number, as a truth
abbrev pub num : List Meaning → Entry → ℕ → Values → ℕ
num done e k σ = number_of (meaning_at done (operand e k) σ)

abbrev pub tru : List Meaning → Entry → ℕ → Values → Bool
tru done e k σ = truth_of (meaning_at done (operand e k) σ)

-- operand 1 with the value x for the variable that operand 0 names
abbrev pub bound : List Meaning → Entry → Values → ℕ → Bool
bound done e σ x = tru done e 1 (bind σ (operand e 0) x)

-- an entry's own number is how many stand before it
unfoldable pub meaning_of : Kind → List Entry → List Meaning → Entry → Meaning
meaning_of Kind.variable es done e σ = number (σ (length done))
meaning_of Kind.constant es done e σ = number (constant_of e)
meaning_of Kind.bit_not es done e σ = number (BitVector.bit_not e.width (num done e 0 σ))
meaning_of Kind.negate es done e σ = number (BitVector.negate e.width (num done e 0 σ))
meaning_of Kind.bit_and es done e σ = number (BitVector.bitwise ◌&&◌ e.width (num done e 0 σ) (num done e 1 σ))
meaning_of Kind.bit_or es done e σ = number (BitVector.bitwise ◌||◌ e.width (num done e 0 σ) (num done e 1 σ))
meaning_of Kind.bit_xor es done e σ = number (BitVector.bitwise BitVector.differ e.width (num done e 0 σ) (num done e 1 σ))
meaning_of Kind.add es done e σ = number (BitVector.add e.width (num done e 0 σ) (num done e 1 σ))
meaning_of Kind.multiply es done e σ = number (BitVector.multiply e.width (num done e 0 σ) (num done e 1 σ))
meaning_of Kind.shift_left es done e σ =
    number (BitVector.shift_left e.width (num done e 0 σ) (BitVector.shift_by e.width (amount e)))
meaning_of Kind.shift_right es done e σ =
    number (BitVector.shift_right (num done e 0 σ) (BitVector.shift_by e.width (amount e)))
meaning_of Kind.concat es done e σ = number (BitVector.concat (width_of es e 1) (num done e 0 σ) (num done e 1 σ))
meaning_of Kind.extract es done e σ = number (BitVector.extract (upper e) (lower e) (num done e 0 σ))
meaning_of Kind.zero_extend es done e σ = number (num done e 0 σ)
meaning_of Kind.sign_extend es done e σ = number (BitVector.sign_extend (width_of es e 0) e.width (num done e 0 σ))
meaning_of Kind.choose es done e σ = number (cond (tru done e 0 σ) (num done e 1 σ) (num done e 2 σ))
meaning_of Kind.true es done e σ = truth true
meaning_of Kind.false es done e σ = truth false
meaning_of Kind.equal es done e σ = truth (eqb (num done e 0 σ) (num done e 1 σ))
meaning_of Kind.unsigned es done e σ = truth (leb (num done e 0 σ) (num done e 1 σ))
meaning_of Kind.signed es done e σ = truth (BitVector.signed_le (width_of es e 0) (num done e 0 σ) (num done e 1 σ))
meaning_of Kind.not es done e σ = truth (not (tru done e 0 σ))
meaning_of Kind.and es done e σ = truth (tru done e 0 σ && tru done e 1 σ)
meaning_of Kind.or es done e σ = truth (tru done e 0 σ || tru done e 1 σ)
meaning_of Kind.exists es done e σ = truth (some (2 ^ width_of es e 0) (bound done e σ))
meaning_of Kind.forall es done e σ = truth (every (2 ^ width_of es e 0) (bound done e σ))
meaning_of Kind.absent es done e σ = truth false

-- the meanings of the rest, after those that are done
abbrev pub meanings_from : List Entry → List Meaning → List Entry → List Meaning
meanings_from es done [] = done
meanings_from es done (e ∷ rest) = meanings_from es (done ++ (meaning_of e.rule.kind es done e ∷ [])) rest

unfoldable pub meanings : List Entry → List Meaning
meanings es = meanings_from es [] es

-- the last entry is the sheet's formula
unfoldable pub formula : List Entry → Values → Bool
formula es σ = truth_of (meaning_at (meanings es) (length es - 1) σ)

-- every value fits its variable's width; where no variable stands the value is 0
abbrev pub Within : List Entry → Values → Type 0
Within es σ = (i : ℕ) → σ i < 2 ^ variable_bits (entry es i)

pub record Satisfiable (es : List Entry) : Type 0 where
  pub values : Values
  pub within : Within es values
  pub true_there : formula es values ≡ true
