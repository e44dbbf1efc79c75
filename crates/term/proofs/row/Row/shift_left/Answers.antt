-- `Row::shift_left` meets its contract.
use Rattle.std.proofs.Common.{arith, ◌-◌, take}
use Rattle.term.proofs.Laws.Places.{moved_up}
use Rattle.term.proofs.row.Row.shift_left.Goals as goal

pub returns-clause-places : goal.returns-clause-places
returns-clause-places c =
    rw (c.placed.ensures.places, c.filled.ensures.places)
    (moved_up (take c.args.self.width c.args.self.bits) c.args.self.width c.args.k (c.args.self.width - c.args.k)
    (omega (arith, c.requires.inside)))
