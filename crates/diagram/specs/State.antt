-- The builder's state over a lent table and scratch, and what some steps do to it.
--
--   Ready   table and scratch are right for this state
--   Means   a number stands for a diagram
--   After   these steps and no others lie between two states
--   Works   a piece of work was done and what was made means its value, or the table lacks room for it
use Rattle.std.specs.Prelude.{ℕ, ◌+◌, ◌*◌, ◌/◌, ◌≤◌, ◌<◌, ◌≡◌, Bool, true, false, ◌&&◌, ◌||◌, List, length, Result, Ok, Err}
use Rattle.meaning.specs.Diagram.{Tree, mk}
use Rattle.meaning.specs.Table.{Table, enter_all}
use Rattle.meaning.specs.Step.{Work, take}
use Rattle.meaning.proofs.Laws.Shape.{Ok as OkTree, Good}
use Rattle.meaning.proofs.Laws.Table.{Is, Single, Falls, LevelsBelow}
use Rattle.diagram.specs.Scratch.{Right}
use Rattle.diagram.specs.Table.{nodes_of}
use Rattle.diagram.specs.declared.builder.Builder.{Builder}
use Rattle.diagram.specs.declared.builder.Made.{Made}
use Rattle.diagram.specs.declared.builder.NoRoom.{NoRoom}
use Rattle.diagram.specs.declared.scratch.Scratch.{Scratch}
use Rattle.diagram.specs.declared.table.Node.{Node}

-- ---- the state

-- the nodes of a state
abbrev pub nodes : List ℕ → Builder → Table
nodes cells b = nodes_of cells b.used

pub record Ready (cells : List ℕ) (s : Scratch) (b : Builder) : Type 0 where
  pub room : 3 * b.used ≤ length cells
  pub small : length cells ≤ 3145728
  pub single : Single (nodes cells b)
  pub falls : Falls (nodes cells b)
  pub levels : LevelsBelow 128 (nodes cells b)
  pub right : Right (nodes cells b) s

-- number a is 0, 1 or a used node's
abbrev pub Known : Builder → ℕ → Type 0
Known b a = a < b.used + 2

-- number a stands for the diagram x
pub record Stands (T : Table) (a : ℕ) (x : Tree) : Type 0 where
  pub is : Is T a x
  pub good : Good 128 x

abbrev pub Means : List ℕ → Builder → ℕ → Tree → Type 0
Means cells b a x = Stands (nodes cells b) a x

-- ---- steps

-- from state b to state b' these diagrams have entered, in this order
pub record After (cells : List ℕ) (b : Builder) (steps : List Tree) (cells' : List ℕ) (s' : Scratch) (b' : Builder)
    : Type 0 where
  pub kept : length cells' ≡ length cells
  pub entered : nodes cells' b' ≡ enter_all steps (nodes cells b)
  pub ready : Ready cells' s' b'

-- with these diagrams entered there are more nodes than slots
pub record Lacks (cells : List ℕ) (b : Builder) (steps : List Tree) (cells' : List ℕ) : Type 0 where
  pub kept : length cells' ≡ length cells
  pub over : length cells / 3 < length (enter_all steps (nodes cells b))

-- a relation between what the code makes and a value of the definition, over a table and a state
abbrev pub Meaning : Type 0 → Type 0 → Type 1
Meaning A B = List ℕ → Builder → A → B → Type 0

pub record Does {A B : Type 0} (Stand : Meaning A B) (cells : List ℕ) (b : Builder) (m : Work B) (cells' : List ℕ)
    (s' : Scratch) (made : Made A) : Type 0 where
  pub after : After cells b m.steps cells' s' made.at
  pub means : Stand cells' made.at made.value m.value

-- from state b on the work m was done, and what was made means its value; or the table lacks room for its diagrams
abbrev pub Works : {A B : Type 0} → Meaning A B → List ℕ → Builder → Work B → List ℕ → Scratch
    → Result (Made A) NoRoom → Type 0
Works Stand cells b m cells' s' (Ok made) = Does Stand cells b m cells' s' made
Works Stand cells b m cells' s' (Err e) = Lacks cells b m.steps cells'

-- the node of these parts was entered, whatever diagrams the parts stand for
abbrev pub Joins : List ℕ → Builder → Node → List ℕ → Scratch → Result (Made ℕ) NoRoom → Type 0
Joins cells b x cells' s' r =
    (d e : Tree) → OkTree (x.level + 1) 128 d → OkTree (x.level + 1) 128 e → Means cells b x.low d → Means cells b x.high e
    → Works Means cells b (take (mk x.level d e)) cells' s' r

-- or, and
abbrev pub chooser : Bool → Bool → Bool → Bool
chooser true = ◌&&◌
chooser false = ◌||◌
