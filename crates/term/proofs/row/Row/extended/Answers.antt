-- `Row::extended` meets its contract.
use Rattle.term.proofs.Laws.Places.{topped}
use Rattle.term.proofs.row.Row.extended.Goals as goal

pub returns-clause-places : goal.returns-clause-places
returns-clause-places c =
    rw (c.placed.ensures.places, c.filled.ensures.places)
    (topped c.args.self.bits c.args.width c.args.number c.args.self.width c.requires.inside)
