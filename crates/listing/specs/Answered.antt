-- An answer of solve beside the table that it left, and the witness of must read off that table.
--
--   solved_here s         document 01's answer to the sheet s at 2,048 slots and no named limit
--   Answered s a t        a and the table t are that answer's
--   MustWitness t a r     r are the bytes that witness leaves in a buffer of zeros, for the must of answer a
use Rattle.std.specs.Prelude.{ℕ, ◌*◌, ◌≡◌, List, [], replicate, Result, IfOk}
use Rattle.meaning.specs.Solve as Solve
use Rattle.meaning.specs.Table.{cells}
use Rattle.meaning.specs.Program.{program_slots}
use Rattle.meaning.specs.Witness.{witness}
use Rattle.prover.specs.Answer.{answer_of, numbers_of}
use Rattle.prover.specs.declared.answer.Refusal.{Refusal}
use Rattle.prover.specs.declared.answer.Solved.{Solved}

unfoldable pub solved_here : List ℕ → Solve.Solved
solved_here s = Solve.solve_unnamed s (cells * program_slots) Solve.work_needed

-- past every refusal the table's first contents don't matter
pub record Answered (s : List ℕ) (a : Result Solved Refusal) (t : List ℕ) : Type 0 where
  pub numbers : answer_of a ≡ numbers_of (solved_here s)
  pub table : (solved_here s).number ≡ 0 → t ≡ Solve.after (solved_here s).table []

-- it says nothing where the sheet is refused
pub record MustWitness (t : List ℕ) (a : Result Solved Refusal) (r : List ℕ) : Type 0 where
  pub bytes : IfOk a (λ s. r ≡ Solve.after (witness t s.used s.must 128).assignment (replicate 128 0))
