-- The numbers that document 01 gives each answer of solve, and what it is to be solve's answer.
--
--   verdict_number, number_of   the number of a verdict, of a refusal
--   text_of                     a refusal's words
--   answer_of                   the five numbers of an answer; outcome: the first of them
--   Meets                       it is the definition's answer, and the buffers are left as it says
--   used_slots, cleared_behind  how many slots a run has used, and a table with zeros behind its first slots
use Rattle.std.specs.Prelude.{ℕ, ◌-◌, ◌*◌, ◌≡◌, List, ◌++◌, length, replicate, take, Result, Ok, Err, codes}
use Rattle.meaning.specs.Solve as Solve
use Rattle.sheet.specs.Answer as Sheet
use Rattle.diagram.specs.declared.builder.Made.{Made}
use Rattle.diagram.specs.declared.builder.NoRoom.{NoRoom}
use Rattle.formula.specs.declared.pair.Pair.{Pair}
use Rattle.prover.specs.declared.answer.Verdict.{Verdict}
use Rattle.prover.specs.declared.answer.Verdict.TheVariants.{Sat, Unsat, Unknown}
use Rattle.prover.specs.declared.answer.Refusal.{Refusal}
use Rattle.prover.specs.declared.answer.Refusal.TheVariants as Cause
use Rattle.prover.specs.declared.answer.Solved.{Solved}
use Rattle.prover.specs.declared.answer.Numbers.{Numbers}

abbrev pub verdict_number : Verdict → ℕ
verdict_number Sat = 1
verdict_number Unsat = 2
verdict_number Unknown = 3

abbrev pub number_of : Refusal → ℕ
number_of (Cause.Sheet refusal) = Sheet.number_of refusal
number_of Cause.Table = 9
number_of Cause.Work = 10
number_of Cause.NoRoom = 11

-- 0, or the refusal's number
abbrev pub outcome : {A : Type 0} → Result A Refusal → ℕ
outcome (Ok a) = 0
outcome (Err refusal) = number_of refusal

-- in plain words
abbrev pub text_of : Refusal → List ℕ
text_of (Cause.Sheet refusal) = Sheet.text_of refusal
text_of Cause.Table = codes "the table's length is no multiple of 3, or above 3,145,728"
text_of Cause.Work = codes "the work buffer has fewer than 8,192 numbers"
text_of Cause.NoRoom = codes "the steps need more nodes than the table has slots"

abbrev pub only_number : ℕ → Numbers
only_number n = record { number = n; verdict = 0; must = 0; may = 0; used = 0 }

abbrev pub answer_of : Result Solved Refusal → Numbers
answer_of (Ok a) =
    record { number = 0; verdict = verdict_number a.verdict; must = a.must; may = a.may; used = a.used }
answer_of (Err refusal) = only_number (number_of refusal)

abbrev pub numbers_of : Solve.Solved → Numbers
numbers_of a =
    record { number = a.number; verdict = a.verdict; must = a.must; may = a.may; used = a.used }

-- the answer has the definition's numbers, and the definition says what is left in table and work buffer
pub record Meets (is : Solve.Solved) (a : Result Solved Refusal) (t w t' w' : List ℕ) : Type 0 where
  pub numbers : answer_of a ≡ numbers_of is
  pub table : t' ≡ Solve.after is.table t
  pub work : w' ≡ Solve.after is.work w

-- the slots that a run's nodes take; none where there was no room
abbrev pub used_slots : Result (Made Pair) NoRoom → ℕ
used_slots (Ok end) = end.at.used
used_slots (Err e) = 0

-- the table with zeros behind its first slots
abbrev pub cleared_behind : ℕ → List ℕ → List ℕ
cleared_behind used cells = take (3 * used) cells ++ replicate (length cells - 3 * used) 0
