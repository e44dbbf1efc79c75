-- Levels by counting: how many variables' bits come before a bit in level order.
--
--   before i b j es   those of the entries es, the first of which is number j, that come before bit b of entry i
use Rattle.std.specs.Prelude.{ℕ, suc, ◌+◌, cond, List, [], ◌∷◌, ltb, leb}
use Rattle.meaning.specs.Sheet.{Entry}
use Rattle.meaning.specs.Level.{variable_bits}

-- of the w bits of variable entry j: those below b, and bit b if j comes first
abbrev pub ahead : ℕ → ℕ → ℕ → ℕ → ℕ
ahead w j i b = cond (leb w b) w (cond (ltb j i) (b + 1) b)

unfoldable pub before : ℕ → ℕ → ℕ → List Entry → ℕ
before i b j [] = 0
before i b j (e ∷ es) = ahead (variable_bits e) j i b + before i b (suc j) es
