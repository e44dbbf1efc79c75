-- Levels: bit 0 of every variable in entry order, then bit 1 of each variable that has one, and so on.
--
--   order es       the variables' bits in level order
--   level es i b   the level of bit b of variable entry i
--   levels es      how many levels there are
--   value_of es ρ i the value of variable entry i where ρ says each level's bit
use Rattle.std.specs.Prelude.{ℕ, zero, suc, Bool, cond, ◌&&◌, List, [], ◌∷◌, ◌++◌, eqb, ltb, length}
use Rattle.meaning.specs.Number.{number, up_to}
use Rattle.meaning.specs.Kind.{Sort}
use Rattle.meaning.specs.Sheet.{Entry, entry}

-- bit `bit` of variable entry `entry`
pub record Spot : Type 0 where
  pub entry : ℕ
  pub bit : ℕ

-- how many levels an entry of this sort and width brings
abbrev pub bits_of : Sort → ℕ → ℕ
bits_of Sort.variable w = w
bits_of Sort.term w = 0
bits_of Sort.formula w = 0
bits_of Sort.neither w = 0

abbrev pub variable_bits : Entry → ℕ
variable_bits e = bits_of e.rule.sort e.width

-- bit b of each of these entries that has one; i is the first one's number
abbrev pub having : ℕ → ℕ → List Entry → List Spot
having b i [] = []
having b i (e ∷ es) =
    let rest = having b (suc i) es in
    let more : List Spot = record { entry = i; bit = b } ∷ rest in
    cond (ltb b (variable_bits e)) more rest

-- bits b, b + 1, ... k of them
abbrev pub order_from : ℕ → ℕ → List Entry → List Spot
order_from b zero es = []
order_from b (suc k) es = having b 0 es ++ order_from (suc b) k es

-- a width is at most 32
unfoldable pub order : List Entry → List Spot
order es = order_from 0 32 es

-- the first place at which bit b of entry i stands, or the length
abbrev pub find : ℕ → ℕ → List Spot → ℕ
find i b [] = 0
find i b (p ∷ ps) = let rest = suc (find i b ps) in cond (eqb p.entry i && eqb p.bit b) 0 rest

unfoldable pub level : List Entry → ℕ → ℕ → ℕ
level es i b = find i b (order es)

unfoldable pub levels : List Entry → ℕ
levels es = length (order es)

-- 0 where entry i is no variable
unfoldable pub value_of : List Entry → (ℕ → Bool) → ℕ → ℕ
value_of es ρ i = number (up_to (λ b. ρ (level es i b)) (variable_bits (entry es i)))
