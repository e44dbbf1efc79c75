-- The invariant of `bitwise::work`: the first i places were worked on, whatever bits and condition the numbers stand for.
use Rattle.term.proofs.Laws.Bitwise.{Going}
use Rattle.term.proofs.bitwise.work.Given as goal

abbrev pub invariant-loop-i : goal.invariant-loop-i
invariant-loop-i l = Going l.op l.x l.y l.initial.t l.initial.at l.i l.t l.s l.at l.bits
