-- The refusals of solve, 1 to 11, each from both sides of its edge, and the order in which they are met.
-- An input on a number's good side is answered, or is refused by a later number.
use Prim.Native.Nat.{ℕ, ◌*◌}
use mathlib.Core.Path.{◌≡◌, refl}
use mathlib.Core.List.{List, [], ◌∷◌, ◌++◌}
use lib.ListN.{replicate}
use Rattle.meaning.specs.Program.{text}
use Rattle.meaning.proofs.Cases.Asked.{Part, sheet, var, con, part, op₀, op₁, op₂, op₃, two, Case, solved, tabled, cleared, printed, answers, wanteds, at, at_slots, sat, refused}
use Rattle.meaning.proofs.Cases.Starred.{A}

-- a sheet with no diagram: what is wanted is a refusal, or "true"
abbrev gives : List ℕ → ℕ → Case
gives s r = at s 0 (refused r)

abbrev holds : List ℕ → Case
holds s = at s 0 (0 ∷ sat ∷ 1 ∷ 1 ∷ 0 ∷ [])

-- these entries, then true
abbrev then_true : List Part → List ℕ
then_true ps = sheet (ps ++ (op₀ 32 ∷ []))

-- the kind in contents record 0, its width, its place, and the bytes after it
abbrev one : ℕ → ℕ → ℕ → List ℕ → List ℕ
one kind width place rest = 1 ∷ 0 ∷ kind ∷ width ∷ two place ++ rest

-- shift left, extract: an operand and bytes
abbrev shift : ℕ → ℕ → ℕ → Part
shift w a by = part 10 w (two a ++ (by ∷ []))

abbrev extract : ℕ → ℕ → ℕ → ℕ → Part
extract w a u l = part 13 w (two a ++ (u ∷ l ∷ []))

-- c stands for a constant of width 3, c₂ for one of width 2
abbrev c : Part
c = con 3 1

abbrev c₂ : Part
c₂ = con 2 1

abbrev edges : List Case
edges =
    -- 1: fewer than 2 bytes; N not 1..256; fewer than 2 + 4N bytes
    gives [] 1 ∷
    gives (1 ∷ []) 1 ∷
    gives (0 ∷ 0 ∷ []) 1 ∷
    gives (1 ∷ 0 ∷ []) 1 ∷
    gives (1 ∷ 0 ∷ 32 ∷ 0 ∷ 6 ∷ []) 1 ∷
    holds (1 ∷ 0 ∷ 32 ∷ 0 ∷ 6 ∷ 0 ∷ []) ∷
    holds (sheet (replicate 256 (op₀ 32))) ∷
    gives (sheet (replicate 257 (op₀ 32))) 1 ∷
    -- 2: a kind not in the table, or a width not allowed for its sort
    gives (one 0 0 6 []) 2 ∷
    gives (one 17 1 6 []) 2 ∷
    gives (one 31 0 6 []) 2 ∷
    gives (one 50 0 6 []) 2 ∷
    gives (one 32 1 6 []) 2 ∷
    gives (then_true (part 2 0 (0 ∷ 0 ∷ 0 ∷ 0 ∷ []) ∷ [])) 2 ∷
    gives (then_true (con 33 1 ∷ [])) 2 ∷
    holds (then_true (con 32 1 ∷ [])) ∷
    holds (then_true (con 1 1 ∷ [])) ∷
    -- 3: a place or the sheet's end is wrong
    gives (one 32 0 5 []) 3 ∷
    gives (one 32 0 7 []) 3 ∷
    gives (one 32 0 6 (0 ∷ [])) 3 ∷
    gives (one 32 0 (256 * 6) []) 3 ∷
    gives (2 ∷ 0 ∷ 2 ∷ 3 ∷ 10 ∷ 0 ∷ 32 ∷ 0 ∷ 14 ∷ 0 ∷ 1 ∷ 0 ∷ 0 ∷ []) 3 ∷
    holds (2 ∷ 0 ∷ 2 ∷ 3 ∷ 10 ∷ 0 ∷ 32 ∷ 0 ∷ 14 ∷ 0 ∷ 1 ∷ 0 ∷ 0 ∷ 0 ∷ []) ∷
    gives (2 ∷ 0 ∷ 2 ∷ 3 ∷ 10 ∷ 0 ∷ 32 ∷ 0 ∷ 13 ∷ 0 ∷ 1 ∷ 0 ∷ 0 ∷ 0 ∷ []) 3 ∷
    -- 2 comes before 3 over the whole sheet
    gives (2 ∷ 0 ∷ 32 ∷ 0 ∷ 9 ∷ 0 ∷ 32 ∷ 1 ∷ 10 ∷ 0 ∷ []) 2 ∷
    -- 4: an operand not below its entry, of the wrong sort, or a bound entry that isn't a variable
    gives (then_true (c ∷ op₁ 3 3 1 ∷ [])) 4 ∷
    gives (then_true (c ∷ op₁ 3 3 2 ∷ [])) 4 ∷
    gives (then_true (c ∷ op₁ 3 3 65535 ∷ [])) 4 ∷
    gives (then_true (c ∷ op₂ 8 3 0 1 ∷ [])) 4 ∷
    gives (then_true (c ∷ op₁ 40 0 0 ∷ [])) 4 ∷
    gives (then_true (op₀ 32 ∷ op₁ 3 3 0 ∷ [])) 4 ∷
    gives (then_true (op₀ 32 ∷ c ∷ c ∷ op₃ 16 3 1 1 2 ∷ [])) 4 ∷
    gives (then_true (op₀ 32 ∷ c ∷ op₂ 48 0 1 0 ∷ [])) 4 ∷
    gives (then_true (op₀ 32 ∷ op₂ 49 0 0 0 ∷ [])) 4 ∷
    holds (then_true (c ∷ op₁ 3 3 0 ∷ [])) ∷
    holds (then_true (op₀ 32 ∷ c ∷ c ∷ op₃ 16 3 0 1 2 ∷ [])) ∷
    -- 5: widths don't fit (u below l included)
    gives (then_true (c ∷ op₁ 3 2 0 ∷ [])) 5 ∷
    gives (then_true (c ∷ op₁ 4 4 0 ∷ [])) 5 ∷
    gives (then_true (c ∷ c₂ ∷ op₂ 8 3 0 1 ∷ [])) 5 ∷
    gives (then_true (c ∷ c₂ ∷ op₂ 9 3 1 0 ∷ [])) 5 ∷
    gives (then_true (c ∷ shift 2 0 1 ∷ [])) 5 ∷
    gives (then_true (c ∷ c₂ ∷ op₂ 12 4 0 1 ∷ [])) 5 ∷
    holds (then_true (c ∷ c₂ ∷ op₂ 12 5 0 1 ∷ [])) ∷
    gives (then_true (c ∷ extract 1 0 1 2 ∷ [])) 5 ∷
    gives (then_true (c ∷ extract 1 0 0 255 ∷ [])) 5 ∷
    gives (then_true (c ∷ extract 1 0 2 1 ∷ [])) 5 ∷
    holds (then_true (c ∷ extract 2 0 2 1 ∷ [])) ∷
    gives (then_true (c ∷ op₁ 14 2 0 ∷ [])) 5 ∷
    gives (then_true (c ∷ op₁ 15 2 0 ∷ [])) 5 ∷
    holds (then_true (c ∷ op₁ 14 3 0 ∷ op₁ 15 3 0 ∷ [])) ∷
    gives (then_true (op₀ 32 ∷ c ∷ c₂ ∷ op₃ 16 3 0 1 2 ∷ [])) 5 ∷
    gives (then_true (c ∷ c₂ ∷ op₂ 34 0 0 1 ∷ [])) 5 ∷
    gives (then_true (c ∷ c₂ ∷ op₂ 36 0 0 1 ∷ [])) 5 ∷
    -- 6: constant too large; u not inside the operand
    gives (then_true (con 3 8 ∷ [])) 6 ∷
    holds (then_true (con 3 7 ∷ [])) ∷
    holds (then_true (part 2 32 (255 ∷ 255 ∷ 255 ∷ 255 ∷ []) ∷ [])) ∷
    gives (then_true (part 2 31 (0 ∷ 0 ∷ 0 ∷ 128 ∷ []) ∷ [])) 6 ∷
    gives (then_true (c ∷ extract 1 0 3 3 ∷ [])) 6 ∷
    holds (then_true (c ∷ extract 1 0 2 2 ∷ [])) ∷
    -- 4, 5, 6 entry by entry: an early 6 comes before a later 4; within an entry 4 before 5 before 6
    gives (then_true (con 3 8 ∷ op₁ 3 3 1 ∷ [])) 6 ∷
    gives (then_true (c ∷ op₂ 8 2 0 1 ∷ [])) 4 ∷
    gives (then_true (c ∷ extract 2 0 3 3 ∷ [])) 5 ∷
    -- 7: more than 128 variable bits; 128 pass, and 9 is next
    solved (then_true (var 32 ∷ var 32 ∷ var 32 ∷ var 32 ∷ [])) 0 1 8192 (refused 9) ∷
    solved (then_true (var 32 ∷ var 32 ∷ var 1 ∷ var 32 ∷ var 32 ∷ [])) 0 1 8192 (refused 7) ∷
    -- 8: the last entry is a term; 7 comes before it
    gives (sheet (c ∷ [])) 8 ∷
    gives (sheet (op₀ 32 ∷ var 1 ∷ [])) 8 ∷
    gives (sheet (var 32 ∷ var 32 ∷ var 32 ∷ var 32 ∷ var 1 ∷ [])) 7 ∷
    -- 9: table length no multiple of 3, or above 3,145,728; then 10
    solved (sheet (op₀ 33 ∷ [])) 0 1 8192 (refused 9) ∷
    solved (sheet (op₀ 33 ∷ [])) 0 2 0 (refused 9) ∷
    solved (sheet (op₀ 33 ∷ [])) 0 3145731 8192 (refused 9) ∷
    solved (sheet (op₀ 33 ∷ [])) 0 3145728 8191 (refused 10) ∷
    solved (sheet (op₀ 33 ∷ [])) 0 0 8192 (0 ∷ 2 ∷ 0 ∷ 0 ∷ 0 ∷ []) ∷
    -- 10: work buffer below 8,192 numbers
    solved (sheet (op₀ 33 ∷ [])) 0 6 8191 (refused 10) ∷
    solved (sheet (op₀ 33 ∷ [])) 0 6 8192 (0 ∷ 2 ∷ 0 ∷ 0 ∷ 0 ∷ []) ∷
    -- 11: the steps need more nodes than slots
    at_slots A 1000 5 (0 ∷ sat ∷ 6 ∷ 6 ∷ 5 ∷ 0 ∷ 0 ∷ 1 ∷ 1 ∷ 0 ∷ 1 ∷ 1 ∷ 1 ∷ 0 ∷ 0 ∷ 3 ∷ 4 ∷ 0 ∷ 4 ∷ 3 ∷ []) ∷
    at_slots A 1000 4 (refused 11) ∷
    -- what is left in the table: untouched on a refusal, all zeros after 11, else the nodes and then zeros
    tabled [] 3 (7 ∷ 7 ∷ 7 ∷ []) 8192 (7 ∷ 7 ∷ 7 ∷ []) ∷
    tabled A 3 (7 ∷ 7 ∷ 7 ∷ 7 ∷ []) 8192 (7 ∷ 7 ∷ 7 ∷ 7 ∷ []) ∷
    tabled A 3 (7 ∷ 7 ∷ 7 ∷ []) 8191 (7 ∷ 7 ∷ 7 ∷ []) ∷
    tabled A 3 (7 ∷ 7 ∷ 7 ∷ []) 8192 (0 ∷ 0 ∷ 0 ∷ []) ∷
    tabled A 2 (replicate 15 7) 8192 (0 ∷ 0 ∷ 1 ∷ 1 ∷ 0 ∷ 1 ∷ 1 ∷ 1 ∷ 0 ∷ 0 ∷ 3 ∷ 4 ∷ 0 ∷ 0 ∷ 0 ∷ []) ∷
    -- and in the work buffer
    cleared A 3 16 (replicate 8192 7) (replicate 8192 7) ∷
    cleared A 3 3 (replicate 8192 7) (replicate 8192 0) ∷
    cleared A 3 15 (replicate 8193 7) (replicate 8193 0) ∷
    -- the program on a refusal: the answer line alone
    printed [] (text "answer 1\n") ∷
    printed (A ++ (0 ∷ [])) (text "answer 3\n") ∷
    []

pub edge_cases : answers edges ≡ wanteds edges
unfolding answers
edge_cases = refl
