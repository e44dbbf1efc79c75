-- The node table: slot k holds node k + 2; numbers 0 and 1 are false and true.
--
--   enter t s     diagram t enters table s: its number, and the table afterwards
--   enter_all ts s some diagrams enter, one after the other
--   count ts      the distinct nodes of some diagrams
use Rattle.std.specs.Prelude.{ℕ, suc, ◌+◌, Bool, cond, ◌&&◌, List, [], ◌∷◌, ◌++◌, eqb, length}
use Rattle.meaning.specs.Number.{digit}
use Rattle.meaning.specs.Diagram.{Tree, leaf, node}

-- a level, a low part's number and a high part's number
pub data Node : Type 0 where
  slot : ℕ → ℕ → ℕ → Node

abbrev pub Table : Type 0
Table = List Node

abbrev pub alike : Node → Node → Bool
alike (slot i a b) (slot j c d) = eqb i j && eqb a c && eqb b d

-- the first slot that holds x, or the length
abbrev pub slot_of : Node → Table → ℕ
slot_of x [] = 0
slot_of x (y ∷ s) = let rest = suc (slot_of x s) in cond (alike x y) 0 rest

-- x at the end, unless it is there already
abbrev pub insert : Node → Table → Table
insert x [] = x ∷ []
insert x (y ∷ s) = let more = y ∷ insert x s in cond (alike x y) (y ∷ s) more

pub record Entered : Type 0 where
  pub number : ℕ
  pub table : Table

-- low part first, then high part, then the node, each only if it isn't there already
abbrev pub enter : Tree → Table → Entered
enter (leaf b) s = record { number = digit b; table = s }
enter (node i d e) s =
    let low = enter d s in
    let high = enter e low.table in
    let x = slot i low.number high.number in
    record { number = slot_of x high.table + 2; table = insert x high.table }

abbrev pub enter_all : List Tree → Table → Table
enter_all [] s = s
enter_all (t ∷ ts) s = enter_all ts (enter t s).table

-- terminals aren't counted, and a shared node counts once
unfoldable pub count : List Tree → ℕ
count ts = length (enter_all ts [])

-- ---- how a node lies in the table: three numbers

abbrev pub cells : ℕ
cells = 3

abbrev pub lay : Node → List ℕ
lay (slot i a b) = i ∷ a ∷ b ∷ []

abbrev pub lay_all : Table → List ℕ
lay_all [] = []
lay_all (x ∷ s) = lay x ++ lay_all s
