-- How nodes lie in a lent table, and parts of diagrams by number.
--
--   nodes_of cells used  the nodes of the first `used` slots
--   part_of, halves_of   a number with a value at a level
use Rattle.std.specs.Prelude.{ℕ, ◌+◌, ◌-◌, ◌*◌, ◌≤◌, min, Bool, true, false, cond, List, ltb, eqb, length, set}
use Rattle.meaning.specs.Number.{up_to}
use Rattle.meaning.specs.Table as Meaning
use Rattle.meaning.specs.Table.{slot, Table}
use Rattle.meaning.specs.Lent.{node_at, level_of, low_of, high_of}
use Rattle.diagram.specs.declared.table.Node.{Node}
use Rattle.diagram.specs.declared.table.Halves.{Halves}
use Rattle.diagram.specs.declared.table.Parts.{Parts}

-- ---- nodes

-- slot k lies inside the table
abbrev pub Inside : List ℕ → ℕ → Type 0
Inside cells k = 3 * k + 3 ≤ length cells

-- number n is a terminal, or its slot lies inside the table
abbrev pub Readable : List ℕ → ℕ → Type 0
Readable cells n = 2 ≤ n → Inside cells (n - 2)

-- a node laid into slot k
abbrev pub placed : List ℕ → ℕ → ℕ → ℕ → ℕ → List ℕ
placed cells k i a b = set (set (set cells (3 * k) i) (3 * k + 1) a) (3 * k + 2) b

unfoldable pub nodes_of : List ℕ → ℕ → Table
nodes_of cells used = up_to (node_at cells) used

-- a node of the definition as the code has it, and back
abbrev pub node_of : Meaning.Node → Node
node_of x = record { level = level_of x; low = low_of x; high = high_of x }

abbrev pub slot_as : Node → Meaning.Node
slot_as x = slot x.level x.low x.high

-- ---- parts of diagrams, by number

-- the level of number n: 128 for a terminal
abbrev pub top_of : List ℕ → ℕ → ℕ
top_of cells n = cond (ltb n 2) 128 (level_of (node_at cells (n - 2)))

-- number n with the value v at level l, where no level below l is left in it
abbrev pub part_of : List ℕ → Bool → ℕ → ℕ → ℕ
part_of cells v l n =
    let x = node_at cells (n - 2) in
    cond (ltb n 2) n (cond (eqb (level_of x) l) (cond v (high_of x) (low_of x)) n)

-- with 0 and with 1
abbrev pub halves_of : List ℕ → ℕ → ℕ → Halves
halves_of cells l n = record { low = part_of cells false l n; high = part_of cells true l n }

-- the lowest level of three numbers, and their halves there
abbrev pub parts_of : List ℕ → ℕ → ℕ → ℕ → Parts
parts_of cells a b c =
    let l = min (top_of cells a) (min (top_of cells b) (top_of cells c)) in
    record { level = l; a = halves_of cells l a; b = halves_of cells l b; c = halves_of cells l c }
