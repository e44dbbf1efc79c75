-- Witness: the first assignment in order, level 0 counting most, that a diagram accepts.
--
--   least n l t              the bits of levels l, l + 1, ... n of them, in the least assignment that t accepts
--   witness t used n length  t the lent table, n the diagram's number, `length` the assignment buffer's
use Rattle.std.specs.Prelude.{ℕ, zero, suc, ◌+◌, Bool, false, cond, not, List, [], ◌∷◌, map, eqb, ltb, length}
use Rattle.meaning.specs.Number.{digit}
use Rattle.meaning.specs.Check.{refuse, max_levels}
use Rattle.meaning.specs.Diagram.{Tree, leaf, node, same}
use Rattle.meaning.specs.Solve.{Left, untouched, filled, bad_table}
use Rattle.meaning.specs.Lent.{bad_nodes, tree_of}

-- t with the value b at level l, where no level below l is left in t
abbrev pub part : Bool → ℕ → Tree → Tree
part b l (leaf c) = leaf c
part b l (node i d e) = cond (eqb i l) (cond b e d) (node i d e)

-- 0 at level l, unless nothing is accepted then
abbrev pub least : ℕ → ℕ → Tree → List Bool
least zero l t = []
least (suc n) l t =
    let b = same (part false l t) (leaf false) in
    b ∷ least n (suc l) (part b l t)

pub record Witnessed : Type 0 where
  pub number : ℕ
  pub assignment : Left

-- 9, 13, 12, 16, 15 in this order
unfoldable pub witness_refusal : List ℕ → ℕ → ℕ → ℕ → ℕ
witness_refusal t used n buffer =
    refuse 9 (bad_table (length t))
    (refuse 13 (not (eqb buffer max_levels))
    (refuse 12 (bad_nodes t used)
    (refuse 16 (ltb (used + 1) n)
    (refuse 15 (eqb n 0) 0))))

unfoldable pub witness : List ℕ → ℕ → ℕ → ℕ → Witnessed
witness t used n buffer =
    let r = witness_refusal t used n buffer in
    let no : Witnessed = record { number = r; assignment = untouched } in
    let go : Witnessed = record { number = 0; assignment = filled (map digit (least max_levels 0 (tree_of t n))) } in
    cond (eqb r 0) go no
