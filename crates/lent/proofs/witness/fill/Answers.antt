-- `witness::fill` meets its contract.
use Rattle.lent.proofs.Laws.Witness.{filled_next}
use Rattle.lent.proofs.witness.fill.Goals as goal

pub loop-l-preserved : goal.loop-l-preserved
loop-l-preserved c = filled_next c.loop-l.invariant c.loop-l-test.true c.choose-choice.ensures
