-- Cases 1 to 9 of "Both sides of each edge", with sheet A's slots and listing, as one statement.
use Prim.Native.Nat.{ℕ}
use mathlib.Core.Path.{◌≡◌, refl}
use mathlib.Core.List.{List, [], ◌∷◌, ◌++◌}
use Rattle.meaning.specs.Program.{text}
use Rattle.meaning.proofs.Cases.Asked.{sheet, var, con, part, op₀, op₁, op₂, two, Case, printed, answers, wanteds, at, at_slots, sat, unsat, unknown, refused}

-- x and y of width 1, x + y, constant 0, equal: 34 bytes, places 22, 22, 22, 26, 30
abbrev pub A : List ℕ
A = 5 ∷ 0 ∷
    1 ∷ 1 ∷ 22 ∷ 0 ∷
    1 ∷ 1 ∷ 22 ∷ 0 ∷
    8 ∷ 1 ∷ 22 ∷ 0 ∷
    2 ∷ 1 ∷ 26 ∷ 0 ∷
    34 ∷ 0 ∷ 30 ∷ 0 ∷
    0 ∷ 0 ∷ 1 ∷ 0 ∷
    0 ∷ 0 ∷ 0 ∷ 0 ∷
    2 ∷ 0 ∷ 3 ∷ 0 ∷ []

-- the same, written by its entries: so `sheet` writes what 01 means
a_written : sheet (var 1 ∷ var 1 ∷ op₂ 8 1 0 1 ∷ con 1 0 ∷ op₂ 34 0 2 3 ∷ []) ≡ A
a_written = refl

abbrev four_slots : List ℕ
four_slots = 0 ∷ 0 ∷ 1 ∷ 1 ∷ 0 ∷ 1 ∷ 1 ∷ 1 ∷ 0 ∷ 0 ∷ 3 ∷ 4 ∷ []

abbrev five_slots : List ℕ
five_slots = four_slots ++ (0 ∷ 4 ∷ 3 ∷ [])

-- (x shifted left by 1) · y = 1, width 3
abbrev shifted : List ℕ
shifted = sheet (var 3 ∷ var 3 ∷ part 10 3 (two 0 ++ (1 ∷ [])) ∷ op₂ 9 3 2 1 ∷ con 3 1 ∷ op₂ 34 0 3 4 ∷ [])

-- x · y = x · y, both operands the one product entry, width 2
abbrev itself : List ℕ
itself = sheet (var 2 ∷ var 2 ∷ op₂ 9 2 0 1 ∷ op₂ 34 0 2 2 ∷ [])

-- unsigned x ≤ 1 and 5 ≤ x and x · y = 0, width 3
abbrev between : List ℕ
between =
    sheet (var 3 ∷ var 3 ∷ con 3 1 ∷ con 3 5 ∷ con 3 0 ∷ op₂ 9 3 0 1 ∷ op₂ 35 0 0 2 ∷ op₂ 35 0 3 0 ∷ op₂ 34 0 5 4 ∷
    op₂ 41 0 6 7 ∷ op₂ 41 0 9 8 ∷ [])

-- forall x exists y, x + y = 0, width 2
abbrev inverse : List ℕ
inverse = sheet (var 2 ∷ var 2 ∷ op₂ 8 2 0 1 ∷ con 2 0 ∷ op₂ 34 0 2 3 ∷ op₂ 48 0 1 4 ∷ op₂ 49 0 0 5 ∷ [])

-- a ≤ b by kind k, width 1
abbrev compare : ℕ → ℕ → ℕ → List ℕ
compare k a b = sheet (con 1 a ∷ con 1 b ∷ op₂ k 0 0 1 ∷ [])

abbrev constant : ℕ → ℕ → List ℕ
constant w x = sheet (con w x ∷ op₀ 32 ∷ [])

abbrev starred : List Case
starred =
    -- sheet A, and case 1
    printed A (text "answer 0\nverdict sat\nmust 6\nmay 6\nslots 5\nentry 0 value 0\nentry 1 value 0\n") ∷
    at A 3 (0 ∷ sat ∷ 6 ∷ 6 ∷ 5 ∷ five_slots) ∷
    at A 2 (0 ∷ unknown ∷ 0 ∷ 1 ∷ 4 ∷ four_slots) ∷
    -- case 2
    at_slots A 3 5 (0 ∷ sat ∷ 6 ∷ 6 ∷ 5 ∷ five_slots) ∷
    at_slots A 3 4 (refused 11) ∷
    at_slots A 2 4 (0 ∷ unknown ∷ 0 ∷ 1 ∷ 4 ∷ four_slots) ∷
    at_slots A 2 3 (refused 11) ∷
    -- case 3
    at shifted 0 (0 ∷ unsat ∷ 0 ∷ 0 ∷ 9 ∷
    0 ∷ 0 ∷ 1 ∷ 2 ∷ 0 ∷ 1 ∷ 4 ∷ 0 ∷ 1 ∷ 1 ∷ 0 ∷ 1 ∷ 3 ∷ 0 ∷ 1 ∷ 5 ∷ 0 ∷ 1 ∷ 0 ∷ 0 ∷ 5 ∷ 1 ∷ 0 ∷ 3 ∷ 0 ∷ 0 ∷ 6 ∷ []) ∷
    -- case 4
    at itself 0 (0 ∷ unknown ∷ 0 ∷ 1 ∷ 7 ∷
    0 ∷ 0 ∷ 1 ∷ 2 ∷ 0 ∷ 1 ∷ 1 ∷ 0 ∷ 1 ∷ 3 ∷ 0 ∷ 1 ∷ 0 ∷ 0 ∷ 4 ∷ 1 ∷ 0 ∷ 3 ∷ 0 ∷ 0 ∷ 5 ∷ []) ∷
    -- case 5
    at between 0 (0 ∷ unsat ∷ 0 ∷ 0 ∷ 18 ∷
    0 ∷ 0 ∷ 1 ∷ 2 ∷ 0 ∷ 1 ∷ 4 ∷ 0 ∷ 1 ∷ 1 ∷ 0 ∷ 1 ∷ 3 ∷ 0 ∷ 1 ∷ 5 ∷ 0 ∷ 1 ∷ 0 ∷ 0 ∷ 5 ∷ 1 ∷ 0 ∷ 3 ∷ 1 ∷ 0 ∷ 4 ∷ 0 ∷ 0 ∷ 6 ∷ 2 ∷ 0 ∷ 6 ∷ 0 ∷
    0 ∷ 7 ∷ 2 ∷ 1 ∷ 0 ∷ 4 ∷ 1 ∷ 0 ∷ 2 ∷ 15 ∷ 0 ∷ 0 ∷ 3 ∷ 1 ∷ 2 ∷ 0 ∷ 4 ∷ 0 ∷ 18 ∷ 4 ∷ []) ∷
    -- case 6
    at inverse 0 (0 ∷ unknown ∷ 0 ∷ 1 ∷ 6 ∷
    0 ∷ 0 ∷ 1 ∷ 2 ∷ 0 ∷ 1 ∷ 1 ∷ 0 ∷ 1 ∷ 3 ∷ 0 ∷ 1 ∷ 1 ∷ 1 ∷ 0 ∷ 0 ∷ 4 ∷ 6 ∷ []) ∷
    at inverse 2048 (0 ∷ sat ∷ 1 ∷ 1 ∷ 18 ∷
    0 ∷ 0 ∷ 1 ∷ 2 ∷ 0 ∷ 1 ∷ 1 ∷ 0 ∷ 1 ∷ 3 ∷ 0 ∷ 1 ∷ 1 ∷ 1 ∷ 0 ∷ 0 ∷ 4 ∷ 6 ∷ 0 ∷ 0 ∷ 4 ∷ 3 ∷ 1 ∷ 0 ∷ 2 ∷ 5 ∷ 9 ∷ 2 ∷ 9 ∷ 5 ∷ 1 ∷ 10 ∷ 11 ∷
    0 ∷ 10 ∷ 12 ∷ 0 ∷ 6 ∷ 4 ∷ 1 ∷ 11 ∷ 10 ∷ 0 ∷ 11 ∷ 15 ∷ 1 ∷ 11 ∷ 0 ∷ 1 ∷ 0 ∷ 10 ∷ 0 ∷ 17 ∷ 18 ∷ []) ∷
    -- case 7
    at (compare 36 1 0) 0 (0 ∷ sat ∷ 1 ∷ 1 ∷ 0 ∷ []) ∷
    at (compare 36 0 1) 0 (0 ∷ unsat ∷ 0 ∷ 0 ∷ 0 ∷ []) ∷
    at (compare 35 1 0) 0 (0 ∷ unsat ∷ 0 ∷ 0 ∷ 0 ∷ []) ∷
    at (compare 35 0 1) 0 (0 ∷ sat ∷ 1 ∷ 1 ∷ 0 ∷ []) ∷
    -- case 8
    at (constant 3 7) 0 (0 ∷ sat ∷ 1 ∷ 1 ∷ 0 ∷ []) ∷
    at (constant 3 8) 0 (refused 6) ∷
    -- case 9
    at (sheet (var 1 ∷ op₁ 3 1 1 ∷ op₀ 32 ∷ [])) 0 (refused 4) ∷
    []

pub starred_cases : answers starred ≡ wanteds starred
unfolding answers
starred_cases = refl
