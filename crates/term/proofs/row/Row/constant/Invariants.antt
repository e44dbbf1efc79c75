-- The invariant of `Row::constant`: the digits placed and those of the rest are the constant's.
use Rattle.term.proofs.Laws.Places.{Digits}
use Rattle.term.proofs.row.Row.constant.Given as goal

abbrev pub invariant-loop-i : goal.invariant-loop-i
invariant-loop-i l = Digits l.width l.value l.bits l.rest l.i
