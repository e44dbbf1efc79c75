-- `formula::compare::agreement` meets its contract. The invariant: the bits from i on are left.
use Rattle.formula.proofs.Laws.Rowed.{Rowed, agree_along}
use Rattle.formula.proofs.compare.agreement.Given as goal

abbrev pub invariant-loop-i : goal.invariant-loop-i
invariant-loop-i l = Rowed agree_along l.initial.t l.fn.b l.x l.y l.t l.s l.so_far l.i
