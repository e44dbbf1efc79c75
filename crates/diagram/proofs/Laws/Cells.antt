-- A table's length.
use Prim.Native.Nat.{ℕ, ◌%◌, ◌≤◌}
use mathlib.Core.Path.{◌≡◌}
use mathlib.Core.Bool.{Bool, true, false, not, ◌||◌, true≢false}
use lib.Dec.{eqb, ltb}
use borrow.Author.Tests.{ltb-false}
use Rattle.meaning.specs.Solve.{bad_table}

-- where the table is not refused
pub length_small : (n : ℕ) → bad_table n ≡ false → n ≤ 3145728
length_small n = by (not (eqb (n % 3) 0))
  where
    by : (b : Bool) → b || ltb 3145728 n ≡ false → n ≤ 3145728
    by true fine = absurd (true≢false fine)
    by false fine = ltb-false 3145728 n fine
