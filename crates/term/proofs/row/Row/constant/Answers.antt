-- `Row::constant` meets its contract.
use Rattle.term.proofs.Laws.Places.{digits_next}
use Rattle.term.proofs.row.Row.constant.Goals as goal

pub loop-i-preserved : goal.loop-i-preserved
loop-i-preserved c = digits_next _ _ _ _ _ c.requires c.loop-i.invariant c.loop-i-test.true
