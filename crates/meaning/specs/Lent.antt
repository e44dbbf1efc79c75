-- A lent table: any numbers at all. Which of its nodes can be followed, and the diagram of a number.
--
--   node_at t k      slot k of the lent table t
--   bad_nodes        refusal 12's cause
--   tree_of t n      the diagram of number n, where every used node is sound
use Rattle.std.specs.Prelude.{ℕ, zero, suc, ◌+◌, ◌-◌, ◌*◌, Bool, true, cond, not, ◌&&◌, ◌||◌, List, eqb, ltb, length, get_or}
use Rattle.meaning.specs.Check.{max_levels}
use Rattle.meaning.specs.Diagram.{Tree, leaf, node}
use Rattle.meaning.specs.Table.{Node, slot, cells}
use Rattle.meaning.specs.Solve.{slots}

abbrev pub node_at : List ℕ → ℕ → Node
node_at t k = slot (get_or t (cells * k) 0) (get_or t (cells * k + 1) 0) (get_or t (cells * k + 2) 0)

abbrev pub level_of : Node → ℕ
level_of (slot i a b) = i

abbrev pub low_of : Node → ℕ
low_of (slot i a b) = a

abbrev pub high_of : Node → ℕ
high_of (slot i a b) = b

-- ---- 12

-- a child of node number n at level i: below it in number and, if it is a node, of a higher level
abbrev pub sound_child : List ℕ → ℕ → ℕ → ℕ → Bool
sound_child t n i c = ltb c n && (ltb c 2 || ltb i (level_of (node_at t (c - 2))))

-- slot k: the level, both children, and that they differ
abbrev pub sound_node : List ℕ → ℕ → Node → Bool
sound_node t k (slot i a b) =
    ltb i max_levels && sound_child t (k + 2) i a && sound_child t (k + 2) i b && not (eqb a b)

-- the first k slots
abbrev pub sound_nodes : List ℕ → ℕ → Bool
sound_nodes t zero = true
sound_nodes t (suc k) = sound_nodes t k && sound_node t k (node_at t k)

-- used count above the slots, or a used node that is not sound
unfoldable pub bad_nodes : List ℕ → ℕ → Bool
bad_nodes t used = let bad = not (sound_nodes t used) in ltb (slots (length t)) used || bad

-- ---- the diagram of a number

-- numbers fall on the way down, so n steps are enough for number n
abbrev pub tree_from : ℕ → List ℕ → ℕ → Tree
tree_from zero t n = leaf (eqb n 1)
tree_from (suc k) t n =
    let x = node_at t (n - 2) in
    let low = tree_from k t (low_of x) in
    let high = tree_from k t (high_of x) in
    let inner = node (level_of x) low high in
    cond (ltb n 2) (leaf (eqb n 1)) inner

unfoldable pub tree_of : List ℕ → ℕ → Tree
tree_of t n = tree_from n t n
