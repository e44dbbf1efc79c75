-- The loop's invariant: the first i entries have been worked, and their rows stand for their values.
use Rattle.prover.proofs.Laws.Turn.{Going}
use Rattle.prover.proofs.solve.run.Given as goal

abbrev pub invariant-loop-i : goal.invariant-loop-i
invariant-loop-i l = Going l.sheet.bytes.now l.limit l.initial.t l.t l.s l.kept l.at l.i
