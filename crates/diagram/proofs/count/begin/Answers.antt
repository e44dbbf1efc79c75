-- `begin` meets its contract.
use Rattle.std.proofs.Common.{arith, ◌+◌, ◌/◌}
use Rattle.std.proofs.lemmas.List.{length-take}
use Rattle.diagram.proofs.Laws.Mark.{cleared}
use Rattle.diagram.proofs.count.begin.Goals as goal

pub returns : goal.returns
returns c =
    cleared c.args.room _ _ (c.fill.ensures.after (λ y e. e))
    (omega (arith, length-take ((c.args.room + 31) / 32) c.args.words.now, c.requires.marks))
