-- What stands in scratch: the index by which a node is found, and the memo of steps.
--
-- Heads and links hold a slot plus one, or 0 for none. A chain runs from a head through links to ever lower slots; there is a link
-- for each of the first slots, as many as there are heads. Slots past those are in no chain. A memo entry is five numbers: the
-- operation plus one, the three operands, the result.
--
--   Indexed T heads links   each slot of T that has a link is in the chain of its place
--   Remembers T memo        each remembered result is the operation's
--   Right T s               both, of scratch s
use Rattle.std.specs.Prelude.{ℕ, ◌+◌, ◌-◌, ◌*◌, ◌≤◌, ◌<◌, ◌≡◌, false, cond, ◌&&◌, ◌||◌, List, [], ◌∷◌, Option, Some, None, ltb, length, get_or, set}
use Rattle.meaning.specs.Diagram.{Tree}
use Rattle.meaning.specs.Table.{Node, slot, Table, alike, slot_of}
use Rattle.meaning.specs.Step.{step_tree, quantify_tree}
use Rattle.meaning.proofs.Laws.Shape.{Good}
use Rattle.meaning.proofs.Laws.Table.{Is, none}
use Rattle.diagram.specs.Hash.{place_of}
use Rattle.diagram.specs.Function.{table_of}
use Rattle.diagram.specs.Table.{nodes_of}
use Rattle.diagram.specs.declared.scratch.Scratch.{Scratch}
use Rattle.diagram.specs.declared.scratch.Key.{Key}

-- ---- the index

-- a node's place among the heads
abbrev pub home_of : ℕ → Node → ℕ
home_of covered (slot i a b) = place_of covered i a b 0

abbrev pub head_at : List ℕ → ℕ → ℕ
head_at heads h = get_or heads h 0

abbrev pub link_at : List ℕ → ℕ → ℕ
link_at links k = get_or links k 0

-- the place of slot k's node
abbrev pub place_at : Table → List ℕ → ℕ → ℕ
place_at T heads k = home_of (length heads) (get_or T k none)

pub record Indexed (T : Table) (heads links : List ℕ) : Type 0 where
  -- a head or link names a slot of this chain, or none
  pub head_le : (h : ℕ) → h < length heads → (head_at heads h ≤ length T) × (head_at heads h ≤ length heads)
  pub head_home : (h : ℕ) → h < length heads → 0 < head_at heads h → place_at T heads (head_at heads h - 1) ≡ h
  pub link_le : (k : ℕ) → k < length T → k < length heads → link_at links k ≤ k
  pub link_home : (k : ℕ) → k < length T → k < length heads → 0 < link_at links k
      → place_at T heads (link_at links k - 1) ≡ place_at T heads k
  -- no slot is passed over
  pub head_reach : (k : ℕ) → k < length T → k < length heads → k < head_at heads (place_at T heads k)
  pub link_reach : (j k : ℕ) → j < k → k < length T → k < length heads → place_at T heads j ≡ place_at T heads k
      → j < link_at links k

-- none of the first n slots holds x
pub record Passed (T : Table) (n : ℕ) (x : Node) : Type 0 where
  pub miss : (k : ℕ) → k < n → k < length T → alike x (get_or T k none) ≡ false

-- the slot that holds x, of a lent table's used ones, or none
abbrev pub Finds : List ℕ → ℕ → Node → Option ℕ → Type 0
Finds cells used x (Some k) = (k < used) × (k ≡ slot_of x (nodes_of cells used))
Finds cells used x None = used ≡ slot_of x (nodes_of cells used)

-- slot k, a new one that holds x, comes first in its chain, if it has a link: its link is the old head
pub record Covers (heads links : List ℕ) (k : ℕ) (x : Node) (heads' links' : List ℕ) : Type 0 where
  pub heads_are : heads' ≡ cond (ltb k (length heads)) (set heads (home_of (length heads) x) (k + 1)) heads
  pub links_are : links' ≡ cond (ltb k (length heads)) (set links k (head_at heads (home_of (length heads) x))) links

-- ---- the memo

-- operations below 256 are steps by their truth table, 256 + l and 384 + l the or and the and of both choices at level l
unfoldable pub operation : ℕ → Tree → Tree → Tree → Tree
operation op x y z =
    let step = step_tree 128 (table_of op) x y z in
    let some = quantify_tree 128 ◌||◌ (op - 256) x in
    let every = quantify_tree 128 ◌&&◌ (op - 384) x in
    cond (ltb op 256) step (cond (ltb op 384) some every)

-- a, b, c are numbers of T, and r is the operation's result whatever diagrams they stand for
pub record Result (T : Table) (op a b c r : ℕ) : Type 0 where
  pub known_a : a < length T + 2
  pub known_b : b < length T + 2
  pub known_c : c < length T + 2
  pub gives : (x y z : Tree) → Good 128 x → Good 128 y → Good 128 z → Is T a x → Is T b y → Is T c z →
      Is T r (operation op x y z)

-- what a memo of so many entries is asked for an operation of three diagrams
abbrev pub key_of : ℕ → ℕ → ℕ → ℕ → ℕ → Key
key_of size op a b c = record { operation = op; a = a; b = b; c = c; place = place_of size op a b c }

-- number i of entry e
abbrev pub number_at : List (List ℕ) → ℕ → ℕ → ℕ
number_at memo e i = get_or (get_or memo e []) i 0

-- an entry's first number is the operation plus one, 0 where nothing is remembered; then the operands; then the result
abbrev pub Remembers : Table → List (List ℕ) → Type 0
Remembers T memo = (e op : ℕ) → e < length memo → number_at memo e 0 ≡ op + 1
    → Result T op (number_at memo e 1) (number_at memo e 2) (number_at memo e 3) (number_at memo e 4)

-- some entry says that what the key asks gives r
pub record Recalled (memo : List (List ℕ)) (key : Key) (r : ℕ) : Type 0 where
  pub entry : ℕ
  pub inside : entry < length memo
  pub is_operation : number_at memo entry 0 ≡ key.operation + 1
  pub is_a : number_at memo entry 1 ≡ key.a
  pub is_b : number_at memo entry 2 ≡ key.b
  pub is_c : number_at memo entry 3 ≡ key.c
  pub is_r : number_at memo entry 4 ≡ r

-- the memo with a result kept; where there is no such place it stays as it is
abbrev pub noted : List (List ℕ) → Key → ℕ → List (List ℕ)
noted memo key r = set memo key.place ((key.operation + 1) ∷ key.a ∷ key.b ∷ key.c ∷ r ∷ [])

-- ---- both

pub record Right (T : Table) (s : Scratch) : Type 0 where
  pub indexed : Indexed T s.heads.now s.links.now
  pub remembers : Remembers T s.memo.now
