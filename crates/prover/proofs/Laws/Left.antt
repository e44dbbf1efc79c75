-- What is left in the table: the nodes as they lie in it.
use Prim.Native.Nat.{ℕ, zero, suc, ◌+◌, ◌*◌, ◌≤◌}
use native.Mathlib.Omega.{arith}
use mathlib.Core.Path.{◌≡◌, refl}
use mathlib.Core.List.{List}
use lib.ListN.{length, take, drop}
use lib.Seq.{drop-cons}
use Rattle.meaning.specs.Number.{each}
use Rattle.meaning.specs.Table.{lay_all}
use Rattle.meaning.specs.Lent.{node_at}
use Rattle.diagram.specs.Table.{nodes_of}

-- nodes i, i + 1, ... n of them, lie where they are read
lay_each : (t : List ℕ) (i n : ℕ) → 3 * (i + n) ≤ length t → lay_all (each (node_at t) i n) ≡ take (3 * n) (drop
    (3 * i) t)
lay_each t i zero room = refl
lay_each t i (suc n) room =
    let three : 3 * suc n ≡ suc (suc (suc (3 * n))) = omega arith in
    let one : 3 * i + 1 ≡ suc (3 * i) = omega arith in
    let two : 3 * i + 2 ≡ suc (suc (3 * i)) = omega arith in
    let next : 3 * suc i ≡ suc (suc (suc (3 * i))) = omega arith in
    let rest = lay_each t (suc i) n (omega arith) in
    rw (
      three,
      drop-cons t (3 * i) 0 (omega arith),
      drop-cons t (suc (3 * i)) 0 (omega arith),
      drop-cons t (suc (suc (3 * i))) 0 (omega arith),
      one,
      two,
      rest,
      next,
    ) refl

pub lay_nodes : (t : List ℕ) (used : ℕ) → 3 * used ≤ length t → lay_all (nodes_of t used) ≡ take (3 * used) t
unfolding nodes_of
lay_nodes t used room = lay_each t 0 used (omega arith)
