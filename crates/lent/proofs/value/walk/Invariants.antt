-- `value::walk` meets its contract. The loop's invariant: from here on the truth is the same, and the nodes passed and
-- those still to pass are as many as at first. Numbers fall.
use Rattle.lent.proofs.Laws.Value.{Way}
use Rattle.lent.proofs.value.walk.Given as goal

abbrev pub invariant-loop-at : goal.invariant-loop-at
invariant-loop-at l = Way l.t l.fn.n l.a l.at l.passed

abbrev pub decreases-loop-at : goal.decreases-loop-at
decreases-loop-at l = l.at
