-- The entries' values in a buffer, 32 numbers an entry.
--
--   Reads   a row is what stands in the buffer for an entry
--   Keeps   only one entry's numbers have changed
use Rattle.std.specs.Prelude.{ℕ, ◌+◌, ◌*◌, ◌≤◌, ◌<◌, ◌≡◌, List, get_or}
use Rattle.term.specs.declared.row.Row.{Row}

pub record Reads (kept : List ℕ) (j width : ℕ) (row : Row) : Type 0 where
  pub wide : row.width ≡ width
  pub places : (k : ℕ) → k < 32 → get_or row.bits k 0 ≡ get_or kept (32 * j + k) 0

pub record Keeps (kept : List ℕ) (i : ℕ) (row : Row) (kept' : List ℕ) : Type 0 where
  pub reads : Reads kept' i row.width row
  pub before : (m : ℕ) → m < 32 * i → get_or kept' m 0 ≡ get_or kept m 0
  pub behind : (m : ℕ) → 32 * i + 32 ≤ m → get_or kept' m 0 ≡ get_or kept m 0
