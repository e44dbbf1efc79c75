-- The exported answers beside document 01's.
--
--   numbers_in, value_in  an exported struct's numbers
--   Solves, Wrote         what it is to be solve's and witness's answer, with what is left in the buffers
use Rattle.std.specs.Prelude.{ℕ, ◌≡◌, List, length}
use Rattle.meaning.specs.Solve as Solve
use Rattle.meaning.specs.Value as Value
use Rattle.meaning.specs.Witness.{witness}
use Rattle.prover.specs.Answer.{numbers_of}
use Rattle.prover.specs.declared.answer.Numbers.{Numbers}
use Rattle.link.specs.declared.Solved.{Solved}
use Rattle.link.specs.declared.Valued.{Valued}

abbrev pub numbers_in : Solved → Numbers
numbers_in r = record { number = r.number; verdict = r.verdict; must = r.must; may = r.may; used = r.used }

abbrev pub value_in : Valued → Value.Valued
value_in r = record { number = r.number; bit = r.bit; passed = r.passed }

pub record Solves (is : Solve.Solved) (r : Solved) (t w t' w' : List ℕ) : Type 0 where
  pub numbers : numbers_in r ≡ numbers_of is
  pub table : t' ≡ Solve.after is.table t
  pub work : w' ≡ Solve.after is.work w

pub record Wrote (t : List ℕ) (used n : ℕ) (a : List ℕ) (number : ℕ) (left : List ℕ) : Type 0 where
  pub number_is : number ≡ (witness t used n (length a)).number
  pub buffer : left ≡ Solve.after (witness t used n (length a)).assignment a
