-- The invariant of `add::walk`: the first i sum bits are counted, or they are more than the limit.
use Rattle.term.proofs.Laws.Count.{Walk}
use Rattle.term.proofs.add.walk.Given as goal

abbrev pub invariant-loop-i : goal.invariant-loop-i
invariant-loop-i l = Walk l.t l.fn.b.used l.fn.limit l.fn.bits l.fn.k l.marks.words.now l.nodes l.i
