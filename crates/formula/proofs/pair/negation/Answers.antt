-- `formula::pair::negation` meets its contract: the step of not, of the pair turned round.
use Rattle.formula.proofs.Laws.Pair.{negation_works}
use Rattle.formula.proofs.pair.negation.Goals as goal

pub returns : goal.returns
returns c = negation_works c.args.p c.both.new.t c.both.new.s c.both.result c.both.ensures
