-- `before` is the definition's: what was counted, and what is left from entry j on, is the whole.
use Rattle.std.proofs.Common.{rules}
use Rattle.sheet.proofs.Laws.Level.{counted_more, counted_end}
use Rattle.sheet.proofs.level.before.Goals as goal

pub loop-j-preserved : goal.loop-j-preserved
loop-j-preserved c = search (rules, counted_more)

pub returns : goal.returns
returns c = search (rules, counted_end)
