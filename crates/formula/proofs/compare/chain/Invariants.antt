-- `formula::compare::chain` meets its contract. The invariant: the bits from i on are left.
use Rattle.formula.proofs.Laws.Rowed.{Rowed, order_along}
use Rattle.formula.proofs.compare.chain.Given as goal

abbrev pub invariant-loop-i : goal.invariant-loop-i
invariant-loop-i l = Rowed (order_along l.signed l.z) l.initial.t l.fn.b l.x l.y l.t l.s l.so_far l.i
