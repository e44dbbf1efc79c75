-- The invariant of `add::add`: what was made of the sum and what is left are the whole.
use Rattle.term.proofs.Laws.Add.{AddLoop}
use Rattle.term.proofs.add.add.Given as goal

abbrev pub invariant-loop-i : goal.invariant-loop-i
invariant-loop-i l = AddLoop l.fn.limit l.fn.x l.fn.y l.fn.t l.fn.b l.t l.s l.marks.words.now l.at l.sum l.i
