-- `Row::filled` meets its contract.
use Rattle.std.proofs.lemmas.List.{take-replicate}
use Rattle.term.proofs.row.Row.filled.Goals as goal

pub returns-clause-places : goal.returns-clause-places
returns-clause-places c = rw c.number.ensures (take-replicate c.args.width 32 c.args.number c.requires)
