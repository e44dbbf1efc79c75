-- Marks, one bit a slot, and what they say when some diagrams have been counted.
--
--   marked_at marks k         is slot k marked?
--   marking marks k           the marks with slot k's set
--   Counted room T marks s C  the s nodes of C are counted: exactly their slots in table T are marked
--   Visited                   what a visit of number n does to marks and count
use Rattle.std.specs.Prelude.{ℕ, ◌+◌, ◌*◌, ◌/◌, ◌%◌, ◌^◌, ◌≤◌, ◌<◌, ◌≡◌, Bool, true, false, List, length, get_or, set}
use Rattle.std.specs.Int.Bits.{bit_or}
use Rattle.meaning.specs.Number.{odd}
use Rattle.meaning.specs.Diagram.{Tree}
use Rattle.meaning.specs.Table.{Table, enter}
use Rattle.meaning.specs.Solve.{slots}
use Rattle.meaning.proofs.Laws.Table.{Is, Single, Falls}
use Rattle.diagram.specs.Table.{nodes_of}

-- ---- marks

-- 32 slots a word, the lowest bit first
abbrev pub word_of : ℕ → ℕ
word_of k = k / 32

abbrev pub bit_of : ℕ → ℕ
bit_of k = k % 32

unfoldable pub marked_at : List ℕ → ℕ → Bool
marked_at marks k = odd (get_or marks (word_of k) 0 / 2 ^ bit_of k)

unfoldable pub marking : List ℕ → ℕ → List ℕ
marking marks k = set marks (word_of k) (bit_or (get_or marks (word_of k) 0) (2 ^ bit_of k))

-- no slot below `room` is marked
abbrev pub Unmarked : ℕ → List ℕ → Type 0
Unmarked room marks = (k : ℕ) → k < room → marked_at marks k ≡ false

-- ---- the count

-- node k of C is that of a marked slot of T
pub record Marked (T : Table) (marks : List ℕ) (C : Table) (k : ℕ) : Type 0 where
  pub tree : Tree
  pub here : Is C (k + 2) tree
  pub slot : ℕ
  pub there : Is T (slot + 2) tree
  pub set : marked_at marks slot ≡ true

-- slot k of T is that of a node of C
pub record Listed (T C : Table) (k : ℕ) : Type 0 where
  pub tree : Tree
  pub here : Is T (k + 2) tree
  pub number : ℕ
  pub there : Is C number tree

-- C is the table that the diagrams counted so far enter by themselves; T may still grow to `room` slots
pub record Counted (room : ℕ) (T : Table) (marks : List ℕ) (so_far : ℕ) (C : Table) : Type 0 where
  pub covers : length T ≤ room
  pub single : Single C
  pub long : so_far ≡ length C
  pub marked : (k : ℕ) → k < length C → Marked T marks C k
  pub listed : (k : ℕ) → k < room → marked_at marks k ≡ true → Listed T C k

-- number n can be visited: numbers fall below it, and there is a mark for each used slot in so many words
pub record Visitable (cells : List ℕ) (words n : ℕ) : Type 0 where
  pub used : ℕ
  pub room : used ≤ slots (length cells)
  pub marks_room : used ≤ 32 * words
  pub falls : Falls (nodes_of cells used)
  pub inside : n < used + 2

-- the nodes of C are counted, or there are more of them than the limit
pub record Tallied (room : ℕ) (T : Table) (limit : ℕ) (marks : List ℕ) (r : ℕ) (C : Table) : Type 0 where
  pub within : r ≤ limit → Counted room T marks r C
  pub beyond : limit < r → limit < length C

-- whatever was counted before, the diagram of number n is now counted with it
pub record Visited (cells marks : List ℕ) (n so_far limit : ℕ) (after : List ℕ) (r : ℕ) : Type 0 where
  pub grows : so_far ≤ r
  pub tallied : (room used : ℕ) (C : Table) (x : Tree) → Single (nodes_of cells used) → Is (nodes_of cells used) n x
      → Counted room (nodes_of cells used) marks so_far C
      → Tallied room (nodes_of cells used) limit after r (enter x C).table
