-- Witness's answer as numbers.
--
--   Witnesses    the answer's number and what is left in the buffer are the definition's
--   choice_at    one level's byte
use Rattle.std.specs.Prelude.{ℕ, ◌≡◌, false, List, eqb, length, Result}
use Rattle.meaning.specs.Number.{digit}
use Rattle.meaning.specs.Solve.{after}
use Rattle.meaning.specs.Witness.{witness}
use Rattle.diagram.specs.Table.{part_of}
use Rattle.lent.specs.declared.refusal.Refusal.{Refusal}
use Rattle.lent.specs.declared.witness.Choice.{Choice}
use Rattle.lent.specs.Refusal.{outcome}

-- the answer's number, and what is left in the buffer that held a, are the definition's
pub record Witnesses (t : List ℕ) (used n : ℕ) (a : List ℕ) (r : Result (Unit {0}) Refusal) (left : List ℕ) : Type 0 where
  pub number : outcome r ≡ (witness t used n (length a)).number
  pub buffer : left ≡ after (witness t used n (length a)).assignment a

-- level l's byte in the least assignment that number n accepts, and n with that value at level l
unfoldable pub choice_at : List ℕ → ℕ → ℕ → Choice
choice_at t l n =
    let b = eqb (part_of t false l n) 0 in
    record { byte = digit b; rest = part_of t b l n }
