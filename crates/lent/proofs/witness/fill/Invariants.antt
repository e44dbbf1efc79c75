-- `witness::fill` meets its contract. The loop's invariant: the bytes written, then those of the least assignment that
-- the number left accepts from here on, are the least assignment.
use Rattle.lent.proofs.Laws.Witness.{Filled}
use Rattle.lent.proofs.witness.fill.Given as goal

abbrev pub invariant-loop-l : goal.invariant-loop-l
invariant-loop-l l = Filled l.t l.fn.n l.a l.at l.l
