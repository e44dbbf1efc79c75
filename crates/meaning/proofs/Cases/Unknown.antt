-- Cases beyond 01's own that tell the errors apart which 01 calls reasonable: unknown bits read as 0, must negated into must,
-- nodes counted apart, a known bit above an unknown carry; and each kind once more. Wanted values: tests/oracle.py.
use Prim.Native.Nat.{ℕ}
use mathlib.Core.Path.{◌≡◌, refl}
use mathlib.Core.List.{List, [], ◌∷◌, ◌++◌}
use Rattle.meaning.proofs.Cases.Asked.{sheet, var, con, part, op₀, op₁, op₂, op₃, two, Case, answers, wanteds, at, at_slots, sat, unknown, refused}

-- unknown bits: not below, shared sum bits, width 3
abbrev not_below : List ℕ
not_below = sheet (var 3 ∷ var 3 ∷ op₂ 8 3 0 1 ∷ con 3 2 ∷ op₂ 35 0 2 3 ∷ op₁ 40 0 4 ∷ [])

-- unknown bits: both chains, signed, width 2
abbrev signed_chains : List ℕ
signed_chains = sheet (var 2 ∷ var 2 ∷ op₂ 8 2 0 1 ∷ op₂ 36 0 2 0 ∷ [])

-- unknown bits: exists over must and may, width 2
abbrev exists_chains : List ℕ
exists_chains = sheet (var 2 ∷ var 2 ∷ op₂ 8 2 0 1 ∷ op₂ 35 0 2 0 ∷ op₂ 48 0 0 3 ∷ [])

-- unknown bits: if-then-else, width 2
abbrev chooses : List ℕ
chooses = sheet (var 2 ∷ var 2 ∷ op₂ 8 2 0 1 ∷ op₂ 34 0 2 0 ∷ op₃ 16 2 3 0 1 ∷ op₂ 35 0 4 2 ∷ [])

-- unknown bits: masked by and, or, then negated, width 2
abbrev masked : List ℕ
masked =
    sheet (var 2 ∷ op₁ 4 2 0 ∷ con 2 1 ∷ op₂ 5 2 1 2 ∷ op₂ 6 2 3 1 ∷ op₂ 7 2 4 0 ∷ op₁ 15 4 5 ∷ op₁ 14 4 5 ∷ op₂ 34
    0 6 7 ∷ [])

-- shared nodes count once: x sign-extended to 3, plus 0, is 0
abbrev shares : List ℕ
shares = sheet (var 1 ∷ op₁ 15 3 0 ∷ con 3 0 ∷ op₂ 8 3 1 2 ∷ op₂ 34 0 3 2 ∷ [])

-- no known bit above an unknown carry: (x over x + y) plus 0 is 0
abbrev carried : List ℕ
carried = sheet (var 1 ∷ var 1 ∷ op₂ 8 1 0 1 ∷ op₂ 12 2 0 2 ∷ con 2 0 ∷ op₂ 8 2 3 4 ∷ op₂ 34 0 5 4 ∷ [])

-- must is not may: not (x + y is 0), limit 2
abbrev negated : List ℕ
negated = sheet (var 1 ∷ var 1 ∷ op₂ 8 1 0 1 ∷ con 1 0 ∷ op₂ 34 0 2 3 ∷ op₁ 40 0 4 ∷ [])

-- moved bits: shift right, concat, extract, or, false, forall
abbrev moved : List ℕ
moved =
    sheet (var 3 ∷ part 11 3 (two 0 ++ (4 ∷ [])) ∷ var 1 ∷ op₂ 12 4 2 1 ∷ part 13 2 (two 3 ++ (3 ∷ 2 ∷ [])) ∷ con 2
    2 ∷ op₂ 34 0 4 5 ∷ op₀ 33 ∷ op₂ 42 0 6 7 ∷ op₂ 49 0 0 8 ∷ [])

-- a variable bound twice, the innermost counts: exists x (x is 1 and forall x, x at most 1), width 1
abbrev twice : List ℕ
twice = sheet (var 1 ∷ con 1 1 ∷ op₂ 34 0 0 1 ∷ op₂ 35 0 0 1 ∷ op₂ 49 0 0 3 ∷ op₂ 41 0 2 4 ∷ op₂ 48 0 0 5 ∷ [])

-- an entry that the last one doesn't need is worked too
abbrev needless : List ℕ
needless = sheet (var 2 ∷ op₁ 4 2 0 ∷ op₀ 32 ∷ [])

-- levels: x of width 2 before y of width 1 is x0, y0, x1
abbrev ordered : List ℕ
ordered = sheet (var 2 ∷ var 1 ∷ op₁ 15 2 1 ∷ op₂ 34 0 0 2 ∷ [])

abbrev cases : List Case
cases =
    at not_below 0 (0 ∷ unknown ∷ 0 ∷ 1 ∷ 8 ∷ 0 ∷ 0 ∷ 1 ∷ 2 ∷ 0 ∷ 1 ∷ 4 ∷ 0 ∷ 1 ∷ 1 ∷ 0 ∷ 1 ∷ 3 ∷ 0 ∷ 1 ∷ 5 ∷ 0 ∷ 1 ∷
    1 ∷ 1 ∷ 0 ∷ 0 ∷ 5 ∷ 8 ∷ []) ∷
    at not_below 3 (0 ∷ unknown ∷ 0 ∷ 1 ∷ 15 ∷ 0 ∷ 0 ∷ 1 ∷ 2 ∷ 0 ∷ 1 ∷ 4 ∷ 0 ∷ 1 ∷ 1 ∷ 0 ∷ 1 ∷ 3 ∷ 0 ∷ 1 ∷ 5 ∷ 0 ∷ 1
    ∷ 1 ∷ 1 ∷ 0 ∷ 0 ∷ 5 ∷ 8 ∷ 0 ∷ 0 ∷ 5 ∷ 3 ∷ 1 ∷ 0 ∷ 2 ∷ 6 ∷ 11 ∷ 2 ∷ 11 ∷ 6 ∷ 1 ∷ 12 ∷ 13 ∷ 0 ∷ 12 ∷ 14 ∷ 0 ∷ 8 ∷
    5 ∷ []) ∷
    at not_below 9 (0 ∷ sat ∷ 35 ∷ 1 ∷ 34 ∷ 0 ∷ 0 ∷ 1 ∷ 2 ∷ 0 ∷ 1 ∷ 4 ∷ 0 ∷ 1 ∷ 1 ∷ 0 ∷ 1 ∷ 3 ∷ 0 ∷ 1 ∷ 5 ∷ 0 ∷ 1 ∷ 1
    ∷ 1 ∷ 0 ∷ 0 ∷ 5 ∷ 8 ∷ 0 ∷ 0 ∷ 5 ∷ 3 ∷ 1 ∷ 0 ∷ 2 ∷ 6 ∷ 11 ∷ 2 ∷ 11 ∷ 6 ∷ 1 ∷ 12 ∷ 13 ∷ 0 ∷ 12 ∷ 14 ∷ 2 ∷ 0 ∷ 6 ∷
    1 ∷ 0 ∷ 12 ∷ 0 ∷ 0 ∷ 17 ∷ 2 ∷ 6 ∷ 1 ∷ 1 ∷ 16 ∷ 19 ∷ 0 ∷ 16 ∷ 20 ∷ 5 ∷ 1 ∷ 0 ∷ 4 ∷ 7 ∷ 22 ∷ 4 ∷ 22 ∷ 7 ∷ 3 ∷ 23 ∷
    24 ∷ 2 ∷ 23 ∷ 25 ∷ 2 ∷ 25 ∷ 24 ∷ 1 ∷ 26 ∷ 27 ∷ 0 ∷ 26 ∷ 28 ∷ 0 ∷ 8 ∷ 5 ∷ 1 ∷ 1 ∷ 13 ∷ 1 ∷ 13 ∷ 1 ∷ 0 ∷ 31 ∷ 32 ∷
    1 ∷ 12 ∷ 0 ∷ 0 ∷ 17 ∷ 34 ∷ []) ∷
    at not_below 10 (0 ∷ sat ∷ 35 ∷ 1 ∷ 34 ∷ 0 ∷ 0 ∷ 1 ∷ 2 ∷ 0 ∷ 1 ∷ 4 ∷ 0 ∷ 1 ∷ 1 ∷ 0 ∷ 1 ∷ 3 ∷ 0 ∷ 1 ∷ 5 ∷ 0 ∷ 1 ∷
    1 ∷ 1 ∷ 0 ∷ 0 ∷ 5 ∷ 8 ∷ 0 ∷ 0 ∷ 5 ∷ 3 ∷ 1 ∷ 0 ∷ 2 ∷ 6 ∷ 11 ∷ 2 ∷ 11 ∷ 6 ∷ 1 ∷ 12 ∷ 13 ∷ 0 ∷ 12 ∷ 14 ∷ 2 ∷ 0 ∷ 6
    ∷ 1 ∷ 0 ∷ 12 ∷ 0 ∷ 0 ∷ 17 ∷ 2 ∷ 6 ∷ 1 ∷ 1 ∷ 16 ∷ 19 ∷ 0 ∷ 16 ∷ 20 ∷ 5 ∷ 1 ∷ 0 ∷ 4 ∷ 7 ∷ 22 ∷ 4 ∷ 22 ∷ 7 ∷ 3 ∷ 23
    ∷ 24 ∷ 2 ∷ 23 ∷ 25 ∷ 2 ∷ 25 ∷ 24 ∷ 1 ∷ 26 ∷ 27 ∷ 0 ∷ 26 ∷ 28 ∷ 0 ∷ 8 ∷ 5 ∷ 1 ∷ 1 ∷ 13 ∷ 1 ∷ 13 ∷ 1 ∷ 0 ∷ 31 ∷ 32
    ∷ 1 ∷ 12 ∷ 0 ∷ 0 ∷ 17 ∷ 34 ∷ []) ∷
    at signed_chains 3 (0 ∷ sat ∷ 17 ∷ 19 ∷ 18 ∷ 0 ∷ 0 ∷ 1 ∷ 2 ∷ 0 ∷ 1 ∷ 1 ∷ 0 ∷ 1 ∷ 3 ∷ 0 ∷ 1 ∷ 1 ∷ 1 ∷ 0 ∷ 0 ∷ 4 ∷
    6 ∷ 0 ∷ 0 ∷ 4 ∷ 3 ∷ 1 ∷ 0 ∷ 2 ∷ 5 ∷ 9 ∷ 2 ∷ 9 ∷ 5 ∷ 1 ∷ 10 ∷ 11 ∷ 0 ∷ 10 ∷ 12 ∷ 0 ∷ 6 ∷ 1 ∷ 2 ∷ 1 ∷ 0 ∷ 1 ∷ 15 ∷
    0 ∷ 0 ∷ 16 ∷ 15 ∷ 1 ∷ 1 ∷ 15 ∷ 0 ∷ 18 ∷ 1 ∷ []) ∷
    at signed_chains 2048 (0 ∷ sat ∷ 20 ∷ 20 ∷ 19 ∷ 0 ∷ 0 ∷ 1 ∷ 2 ∷ 0 ∷ 1 ∷ 1 ∷ 0 ∷ 1 ∷ 3 ∷ 0 ∷ 1 ∷ 1 ∷ 1 ∷ 0 ∷ 0 ∷ 4
    ∷ 6 ∷ 0 ∷ 0 ∷ 4 ∷ 3 ∷ 1 ∷ 0 ∷ 2 ∷ 5 ∷ 9 ∷ 2 ∷ 9 ∷ 5 ∷ 1 ∷ 10 ∷ 11 ∷ 0 ∷ 10 ∷ 12 ∷ 0 ∷ 6 ∷ 1 ∷ 2 ∷ 1 ∷ 9 ∷ 2 ∷ 5
    ∷ 0 ∷ 1 ∷ 15 ∷ 16 ∷ 2 ∷ 1 ∷ 5 ∷ 1 ∷ 15 ∷ 18 ∷ 0 ∷ 17 ∷ 19 ∷ []) ∷
    at exists_chains 3 (0 ∷ sat ∷ 1 ∷ 1 ∷ 17 ∷ 0 ∷ 0 ∷ 1 ∷ 2 ∷ 0 ∷ 1 ∷ 1 ∷ 0 ∷ 1 ∷ 3 ∷ 0 ∷ 1 ∷ 1 ∷ 1 ∷ 0 ∷ 0 ∷ 4 ∷ 6
    ∷ 0 ∷ 0 ∷ 4 ∷ 3 ∷ 1 ∷ 0 ∷ 2 ∷ 5 ∷ 9 ∷ 2 ∷ 9 ∷ 5 ∷ 1 ∷ 10 ∷ 11 ∷ 0 ∷ 10 ∷ 12 ∷ 0 ∷ 6 ∷ 1 ∷ 1 ∷ 3 ∷ 0 ∷ 0 ∷ 15 ∷ 3
    ∷ 1 ∷ 1 ∷ 3 ∷ 0 ∷ 17 ∷ 1 ∷ []) ∷
    at exists_chains 2048 (0 ∷ sat ∷ 1 ∷ 1 ∷ 21 ∷ 0 ∷ 0 ∷ 1 ∷ 2 ∷ 0 ∷ 1 ∷ 1 ∷ 0 ∷ 1 ∷ 3 ∷ 0 ∷ 1 ∷ 1 ∷ 1 ∷ 0 ∷ 0 ∷ 4 ∷
    6 ∷ 0 ∷ 0 ∷ 4 ∷ 3 ∷ 1 ∷ 0 ∷ 2 ∷ 5 ∷ 9 ∷ 2 ∷ 9 ∷ 5 ∷ 1 ∷ 10 ∷ 11 ∷ 0 ∷ 10 ∷ 12 ∷ 0 ∷ 6 ∷ 1 ∷ 2 ∷ 9 ∷ 1 ∷ 2 ∷ 0 ∷
    5 ∷ 1 ∷ 15 ∷ 16 ∷ 2 ∷ 5 ∷ 1 ∷ 1 ∷ 15 ∷ 18 ∷ 0 ∷ 17 ∷ 19 ∷ 1 ∷ 1 ∷ 5 ∷ 0 ∷ 21 ∷ 1 ∷ []) ∷
    at chooses 3 (0 ∷ unknown ∷ 0 ∷ 1 ∷ 12 ∷ 0 ∷ 0 ∷ 1 ∷ 2 ∷ 0 ∷ 1 ∷ 1 ∷ 0 ∷ 1 ∷ 3 ∷ 0 ∷ 1 ∷ 1 ∷ 1 ∷ 0 ∷ 0 ∷ 4 ∷ 6 ∷
    0 ∷ 0 ∷ 4 ∷ 3 ∷ 1 ∷ 0 ∷ 2 ∷ 5 ∷ 9 ∷ 2 ∷ 9 ∷ 5 ∷ 1 ∷ 10 ∷ 11 ∷ 0 ∷ 10 ∷ 12 ∷ []) ∷
    at chooses 2048 (0 ∷ sat ∷ 25 ∷ 25 ∷ 24 ∷ 0 ∷ 0 ∷ 1 ∷ 2 ∷ 0 ∷ 1 ∷ 1 ∷ 0 ∷ 1 ∷ 3 ∷ 0 ∷ 1 ∷ 1 ∷ 1 ∷ 0 ∷ 0 ∷ 4 ∷ 6
    ∷ 0 ∷ 0 ∷ 4 ∷ 3 ∷ 1 ∷ 0 ∷ 2 ∷ 5 ∷ 9 ∷ 2 ∷ 9 ∷ 5 ∷ 1 ∷ 10 ∷ 11 ∷ 0 ∷ 10 ∷ 12 ∷ 1 ∷ 9 ∷ 5 ∷ 0 ∷ 9 ∷ 14 ∷ 1 ∷ 9 ∷ 0
    ∷ 1 ∷ 9 ∷ 1 ∷ 0 ∷ 4 ∷ 17 ∷ 2 ∷ 5 ∷ 1 ∷ 1 ∷ 19 ∷ 5 ∷ 0 ∷ 1 ∷ 6 ∷ 2 ∷ 1 ∷ 9 ∷ 2 ∷ 9 ∷ 0 ∷ 1 ∷ 22 ∷ 23 ∷ 0 ∷ 22 ∷
    24 ∷ []) ∷
    at masked 0 (0 ∷ unknown ∷ 0 ∷ 1 ∷ 4 ∷ 0 ∷ 0 ∷ 1 ∷ 1 ∷ 0 ∷ 1 ∷ 0 ∷ 1 ∷ 0 ∷ 1 ∷ 1 ∷ 0 ∷ []) ∷
    at masked 2048 (0 ∷ sat ∷ 4 ∷ 4 ∷ 5 ∷ 0 ∷ 0 ∷ 1 ∷ 1 ∷ 0 ∷ 1 ∷ 0 ∷ 1 ∷ 0 ∷ 1 ∷ 1 ∷ 0 ∷ 0 ∷ 3 ∷ 5 ∷ []) ∷
    at shares 1 (0 ∷ sat ∷ 3 ∷ 3 ∷ 2 ∷ 0 ∷ 0 ∷ 1 ∷ 0 ∷ 1 ∷ 0 ∷ []) ∷
    at shares 0 (0 ∷ unknown ∷ 0 ∷ 1 ∷ 1 ∷ 0 ∷ 0 ∷ 1 ∷ []) ∷
    at carried 0 (0 ∷ unknown ∷ 0 ∷ 1 ∷ 4 ∷ 0 ∷ 0 ∷ 1 ∷ 1 ∷ 0 ∷ 1 ∷ 1 ∷ 1 ∷ 0 ∷ 0 ∷ 3 ∷ 4 ∷ []) ∷
    at negated 2 (0 ∷ unknown ∷ 0 ∷ 1 ∷ 4 ∷ 0 ∷ 0 ∷ 1 ∷ 1 ∷ 0 ∷ 1 ∷ 1 ∷ 1 ∷ 0 ∷ 0 ∷ 3 ∷ 4 ∷ []) ∷
    at negated 3 (0 ∷ sat ∷ 5 ∷ 5 ∷ 5 ∷ 0 ∷ 0 ∷ 1 ∷ 1 ∷ 0 ∷ 1 ∷ 1 ∷ 1 ∷ 0 ∷ 0 ∷ 3 ∷ 4 ∷ 0 ∷ 4 ∷ 3 ∷ []) ∷
    at moved 0 (0 ∷ sat ∷ 5 ∷ 5 ∷ 4 ∷ 0 ∷ 0 ∷ 1 ∷ 2 ∷ 0 ∷ 1 ∷ 3 ∷ 0 ∷ 1 ∷ 1 ∷ 0 ∷ 1 ∷ []) ∷
    at twice 0 (0 ∷ sat ∷ 1 ∷ 1 ∷ 1 ∷ 0 ∷ 0 ∷ 1 ∷ []) ∷
    at needless 2048 (0 ∷ sat ∷ 1 ∷ 1 ∷ 5 ∷ 0 ∷ 0 ∷ 1 ∷ 1 ∷ 0 ∷ 1 ∷ 0 ∷ 1 ∷ 0 ∷ 1 ∷ 1 ∷ 0 ∷ 0 ∷ 3 ∷ 5 ∷ []) ∷
    at_slots needless 2048 4 (refused 11) ∷
    at_slots needless 2048 3 (refused 11) ∷
    at ordered 0 (0 ∷ sat ∷ 11 ∷ 11 ∷ 10 ∷ 0 ∷ 0 ∷ 1 ∷ 2 ∷ 0 ∷ 1 ∷ 1 ∷ 0 ∷ 1 ∷ 1 ∷ 1 ∷ 0 ∷ 0 ∷ 5 ∷ 4 ∷ 2 ∷ 1 ∷ 0 ∷ 1
    ∷ 7 ∷ 3 ∷ 1 ∷ 7 ∷ 0 ∷ 1 ∷ 0 ∷ 3 ∷ 0 ∷ 9 ∷ 10 ∷ []) ∷
    []

pub unknown_cases : answers cases ≡ wanteds cases
unfolding answers
unknown_cases = refl
