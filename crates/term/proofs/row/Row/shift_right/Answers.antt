-- `Row::shift_right` meets its contract.
use Rattle.term.proofs.Laws.Places.{moved_down}
use Rattle.term.proofs.row.Row.shift_right.Goals as goal

pub returns-clause-places : goal.returns-clause-places
returns-clause-places c =
    rw (c.placed.ensures.places, c.filled.ensures.places)
    (moved_down c.args.self.bits c.args.self.width c.args.k c.requires.inside)
