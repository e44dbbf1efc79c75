-- Value and witness on lent tables: their refusals 9 and 12 to 16, each from both sides of its edge, and their order.
use Prim.Native.Nat.{ℕ}
use mathlib.Core.Path.{◌≡◌, refl}
use mathlib.Core.List.{List, [], ◌∷◌, ◌++◌}
use lib.ListN.{replicate}
use Rattle.meaning.proofs.Cases.Asked.{Case, valued, witnessed, answers, wanteds}

-- sheet A's five slots: nodes 2 to 6; node 5 is x xor y, node 6 its opposite
abbrev five : List ℕ
five = 0 ∷ 0 ∷ 1 ∷ 1 ∷ 0 ∷ 1 ∷ 1 ∷ 1 ∷ 0 ∷ 0 ∷ 3 ∷ 4 ∷ 0 ∷ 4 ∷ 3 ∷ []

-- an assignment: x, y, then zeros
abbrev bits : ℕ → ℕ → List ℕ
bits x y = x ∷ y ∷ replicate 126 0

-- one node, two nodes
abbrev node : ℕ → ℕ → ℕ → List ℕ
node i a b = i ∷ a ∷ b ∷ []

-- value of node 2, the first slot, under zeros
abbrev first : List ℕ → ℕ → List ℕ → Case
first t used w = valued t used 2 (bits 0 0) w

abbrev refusal : ℕ → List ℕ
refusal r = r ∷ 0 ∷ 0 ∷ []

abbrev values : List Case
values =
    -- the bit, and the nodes passed
    valued five 5 6 (bits 0 0) (0 ∷ 1 ∷ 2 ∷ []) ∷
    valued five 5 6 (bits 1 0) (0 ∷ 0 ∷ 2 ∷ []) ∷
    valued five 5 5 (bits 1 0) (0 ∷ 1 ∷ 2 ∷ []) ∷
    valued five 5 2 (bits 1 0) (0 ∷ 1 ∷ 1 ∷ []) ∷
    valued five 5 1 (bits 0 0) (0 ∷ 1 ∷ 0 ∷ []) ∷
    valued five 5 0 (bits 0 0) (0 ∷ 0 ∷ 0 ∷ []) ∷
    valued [] 0 1 (bits 0 0) (0 ∷ 1 ∷ 0 ∷ []) ∷
    -- a path through two levels that are not next to one another
    valued (node 127 0 1 ++ node 3 1 2) 2 3 (replicate 127 1 ++ (0 ∷ [])) (0 ∷ 0 ∷ 2 ∷ []) ∷
    -- 9
    valued (0 ∷ 0 ∷ []) 0 0 (bits 0 0) (refusal 9) ∷
    valued (five ++ (0 ∷ [])) 5 6 (bits 0 0) (refusal 9) ∷
    -- 13
    valued five 5 6 (replicate 127 0) (refusal 13) ∷
    valued five 5 6 (replicate 129 0) (refusal 13) ∷
    valued five 5 6 [] (refusal 13) ∷
    -- 14
    valued five 5 6 (bits 2 0) (refusal 14) ∷
    valued five 5 6 (replicate 127 0 ++ (2 ∷ [])) (refusal 14) ∷
    -- 12: used count above the slots
    valued five 6 0 (bits 0 0) (refusal 12) ∷
    -- 12: a level above 127
    first (node 127 0 1) 1 (0 ∷ 0 ∷ 1 ∷ []) ∷
    first (node 128 0 1) 1 (refusal 12) ∷
    -- 12: a child not below it in number
    first (node 0 2 1) 1 (refusal 12) ∷
    first (node 0 0 2) 1 (refusal 12) ∷
    first (node 5 0 1 ++ node 4 2 1) 2 (0 ∷ 0 ∷ 1 ∷ []) ∷
    -- 12: a child node whose level isn't higher
    first (node 5 0 1 ++ node 5 2 1) 2 (refusal 12) ∷
    first (node 5 0 1 ++ node 6 1 2) 2 (refusal 12) ∷
    -- 12: equal children
    first (node 0 1 1) 1 (refusal 12) ∷
    -- 12 looks at used nodes only, reached or not; equal triples are no cause
    first (node 0 0 1 ++ node 0 1 1) 1 (0 ∷ 0 ∷ 1 ∷ []) ∷
    first (node 0 0 1 ++ node 0 1 1) 2 (refusal 12) ∷
    first (node 0 0 1 ++ node 0 0 1) 2 (0 ∷ 0 ∷ 1 ∷ []) ∷
    -- 16
    valued five 5 7 (bits 0 0) (refusal 16) ∷
    valued five 4 6 (bits 0 0) (refusal 16) ∷
    valued [] 0 2 (bits 0 0) (refusal 16) ∷
    -- 9, 13, 14, 12, 16 in this order
    valued (0 ∷ []) 9 99 [] (refusal 9) ∷
    valued [] 9 99 (2 ∷ []) (refusal 13) ∷
    valued [] 9 99 (bits 2 0) (refusal 14) ∷
    valued [] 9 99 (bits 0 0) (refusal 12) ∷
    valued [] 0 99 (bits 0 0) (refusal 16) ∷
    []

-- the buffer's first contents
abbrev old : List ℕ
old = replicate 128 7

abbrev witnesses : List Case
witnesses =
    witnessed five 5 6 old (0 ∷ bits 0 0) ∷
    witnessed five 5 5 old (0 ∷ bits 0 1) ∷
    witnessed five 5 2 old (0 ∷ bits 1 0) ∷
    witnessed five 5 1 old (0 ∷ bits 0 0) ∷
    witnessed (node 127 0 1) 1 2 old (0 ∷ replicate 127 0 ++ (1 ∷ [])) ∷
    -- level 0 counts most: 1 at level 5 rather than at level 4
    witnessed (node 5 0 1 ++ node 4 2 1) 2 3 old (0 ∷ 0 ∷ 0 ∷ 0 ∷ 0 ∷ 0 ∷ 1 ∷ replicate 122 0) ∷
    -- 9, 13, 12, 16, 15 in this order; a refusal leaves the buffer as it was
    witnessed (0 ∷ []) 9 0 [] (9 ∷ []) ∷
    witnessed [] 9 0 (replicate 127 7) (13 ∷ replicate 127 7) ∷
    witnessed [] 9 0 (replicate 129 7) (13 ∷ replicate 129 7) ∷
    witnessed [] 1 99 old (12 ∷ old) ∷
    witnessed (node 128 0 1) 1 0 old (12 ∷ old) ∷
    witnessed five 5 7 old (16 ∷ old) ∷
    witnessed five 5 0 old (15 ∷ old) ∷
    witnessed [] 0 0 old (15 ∷ old) ∷
    []

pub value_cases : answers values ≡ wanteds values
unfolding answers
value_cases = refl

pub witness_cases : answers witnesses ≡ wanteds witnesses
unfolding answers
witness_cases = refl
