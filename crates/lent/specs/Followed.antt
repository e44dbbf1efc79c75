-- Which numbers of a lent table can be followed.
use Rattle.std.specs.Prelude.{ℕ, ◌+◌, ◌<◌, ◌≡◌, false, List}
use Rattle.meaning.specs.Lent.{bad_nodes}

-- number n and all below it can be followed in table t: n is 0, 1 or a used node's, and 12 has no cause
pub record Followed (t : List ℕ) (n : ℕ) : Type 0 where
  pub used : ℕ
  pub sound : bad_nodes t used ≡ false
  pub inside : n < used + 2
