-- Value: a diagram's truth under an assignment, and how many nodes are passed on the way.
--
--   value t used n a   t the lent table, n the diagram's number, a the assignment's bytes, one a level
use Rattle.std.specs.Prelude.{ℕ, suc, ◌+◌, Bool, true, cond, not, ◌&&◌, List, [], ◌∷◌, eqb, ltb, length, get_or}
use Rattle.meaning.specs.Number.{digit}
use Rattle.meaning.specs.Check.{refuse, max_levels}
use Rattle.meaning.specs.Diagram.{Tree, leaf, node, Assignment, holds}
use Rattle.meaning.specs.Solve.{bad_table}
use Rattle.meaning.specs.Lent.{bad_nodes, tree_of}

pub record Valued : Type 0 where
  pub number : ℕ
  pub bit : ℕ
  pub passed : ℕ

-- the assignment that some bytes say, one a level
abbrev pub assignment : List ℕ → Assignment
assignment a l = eqb (get_or a l 0) 1

-- how many nodes the path under ρ passes
abbrev pub passes : Tree → Assignment → ℕ
passes (leaf b) ρ = 0
passes (node i d e) ρ = suc (cond (ρ i) (passes e ρ) (passes d ρ))

-- every byte is 0 or 1
abbrev pub are_bits : List ℕ → Bool
are_bits [] = true
are_bits (b ∷ bs) = ltb b 2 && are_bits bs

-- 9, 13, 14, 12, 16 in this order
unfoldable pub value_refusal : List ℕ → ℕ → ℕ → List ℕ → ℕ
value_refusal t used n a =
    refuse 9 (bad_table (length t))
    (refuse 13 (not (eqb (length a) max_levels))
    (refuse 14 (not (are_bits a))
    (refuse 12 (bad_nodes t used)
    (refuse 16 (ltb (used + 1) n) 0))))

unfoldable pub value : List ℕ → ℕ → ℕ → List ℕ → Valued
value t used n a =
    let r = value_refusal t used n a in
    let tree = tree_of t n in
    let no : Valued = record { number = r; bit = 0; passed = 0 } in
    let go : Valued = record { number = 0; bit = digit (holds tree (assignment a)); passed = passes tree (assignment a) } in
    cond (eqb r 0) go no
