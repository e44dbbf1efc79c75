-- What stands in a lent buffer after a piece was put there.
--
--   Written before at after end text   up to `end` stands what stood up to `at`, then the text
use Rattle.std.specs.Prelude.{ℕ, ◌+◌, ◌≡◌, List, ◌++◌, length, take}

pub record Written (before : List ℕ) (at : ℕ) (after : List ℕ) (end : ℕ) (piece : List ℕ) : Type 0 where
  pub stands : take end after ≡ take at before ++ piece
  pub far : end ≡ at + length piece
