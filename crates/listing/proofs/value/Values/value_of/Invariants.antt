-- The loop's invariant: the value of the bits from b on.
use Rattle.listing.proofs.Laws.Value.{Summed}
use Rattle.listing.proofs.value.Values.value_of.Given as goal

abbrev pub invariant-loop-b : goal.invariant-loop-b
invariant-loop-b l = Summed l.self.sheet.now l.self.assignment.now l.i l.initial.b l.b l.value
