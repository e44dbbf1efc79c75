-- `formula::compare::chain_bit` meets its contract: two readings, one step.
use Rattle.formula.proofs.Laws.Compare.{order_works}
use Rattle.formula.proofs.compare.chain_bit.Goals as goal

pub returns : goal.returns
returns c =
    order_works c.args.top c.args.z c.args.x c.args.y c.args.r c.step.new.t c.step.new.s c.step.result c.requires.ready
    c.order.ensures c.read.ensures c.read-2.ensures c.step.ensures
