-- A number that can be followed in a lent table, and where it leads.
use Prim.Native.Nat.{ℕ, zero, suc, ◌-◌, ◌≤◌, ◌<◌}
use native.Mathlib.Omega.{arith}
use mathlib.Core.Path.{◌≡◌, refl}
use mathlib.Core.Bool.{Bool, true, false, cond}
use mathlib.Core.List.{List}
use lib.Dec.{eqb}
use lib.ListN.{length}
use Rattle.meaning.specs.Diagram.{Tree, leaf, node}
use Rattle.meaning.specs.Solve.{slots}
use Rattle.meaning.specs.Lent.{node_at, level_of, low_of, high_of, tree_of}
use Rattle.meaning.proofs.Laws.Lent.{Sound, bad_nodes_sound, bad_nodes_fits, tree_of_false, tree_of_true, tree_of_node}
use Rattle.diagram.specs.Table.{Readable}
use Rattle.lent.specs.Followed.{Followed}

-- a node that can be followed lies inside the table
pub followed_inside : {t : List ℕ} {n : ℕ} → Followed t n → Readable t n
followed_inside {t} {n} follows big =
    let fits : follows.used ≤ slots (length t) = bad_nodes_fits t follows.used follows.sound in
    omega (arith, follows.inside)

pub followed_node : {t : List ℕ} {n : ℕ} → Followed t n → 2 ≤ n → Sound t (n - 2) (node_at t (n - 2))
followed_node {t} {n} follows big =
    bad_nodes_sound t follows.used follows.sound (n - 2) (omega (arith, follows.inside))

-- so can every lower number
pub followed_lower : {t : List ℕ} {n : ℕ} → Followed t n → (m : ℕ) → m ≤ n → Followed t m
followed_lower {t} {n} follows m lower =
    record { used = follows.used; sound = follows.sound; inside = omega (arith, follows.inside) }

pub followed_tree : {t : List ℕ} {n : ℕ} → Followed t n → 2 ≤ n → let x = node_at t (n - 2) in
    tree_of t n ≡ node (level_of x) (tree_of t (low_of x)) (tree_of t (high_of x))
followed_tree {t} {n} follows big = tree_of_node t follows.used n follows.sound big follows.inside

-- what holds of either part's diagram
pub either_tree : {A : Type 0} (f : Tree → A) (t : List ℕ) (b : Bool) (m n : ℕ)
    → f (tree_of t (cond b m n)) ≡ cond b (f (tree_of t m)) (f (tree_of t n))
either_tree f t true m n = refl
either_tree f t false m n = refl

pub tree_of_terminal : (t : List ℕ) (n : ℕ) → n < 2 → tree_of t n ≡ leaf (eqb n 1)
tree_of_terminal t zero small = tree_of_false t
tree_of_terminal t (suc zero) small = tree_of_true t
tree_of_terminal t (suc (suc n)) small = absurd (omega arith)
