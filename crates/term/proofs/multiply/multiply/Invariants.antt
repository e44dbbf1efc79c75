-- The invariant of `multiply::multiply`: the rows of the first j bits of y are added up.
use Rattle.term.proofs.Laws.Multiply.{MultiplyLoop}
use Rattle.term.proofs.multiply.multiply.Given as goal

abbrev pub invariant-loop-j : goal.invariant-loop-j
invariant-loop-j l = MultiplyLoop l.fn.limit l.fn.x l.fn.y l.fn.t l.fn.b l.t l.s l.at l.sum l.j
