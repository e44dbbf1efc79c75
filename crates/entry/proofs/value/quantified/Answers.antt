-- `quantified` meets its contract.
use Rattle.entry.proofs.Laws.Levels.{levels_low, levels_listed}
use Rattle.entry.proofs.value.quantified.Goals as goal

pub quantified-requires-clause-levels : goal.quantified-requires-clause-levels
quantified-requires-clause-levels c = levels_low c.args.variable c.levels_of-count.ensures.levels

pub returns : goal.returns
returns c n x le means =
    rw (levels_listed c.args.variable c.levels_of-count.ensures.levels) at (c.quantified.ensures n x le means)
