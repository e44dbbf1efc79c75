-- `formula::quantify::chain` meets its contract. The invariant: the levels that the iterator has left are left.
use Rattle.formula.proofs.Laws.Quantify.{Chained}
use Rattle.formula.proofs.quantify.chain.Given as goal

abbrev pub invariant-loop-level : goal.invariant-loop-level
invariant-loop-level l =
    Chained l.initial.t l.fn.b l.every l.levels l.fn.a l.t l.s l.so_far l.level-iterator.iter.rest.now
