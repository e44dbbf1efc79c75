-- `formula::quantify::chain` meets its contract. The invariant: the levels that the iterator has left are left.
use Rattle.std.proofs.lemmas.Result.{err_from_is_err_and}
use Rattle.formula.proofs.Laws.Quantify.{chained_start, chained_ready, chained_next, chained_lacks}
use Rattle.formula.proofs.quantify.chain.Goals as goal

pub loop-level-init : goal.loop-level-init
loop-level-init c =
    rw (c.into_iter-level-iterator.ensures.into_iter_gives, c.rev-level-items.ensures.source, c.iter.ensures.rest)
    (chained_start c.args.every c.args.levels.now c.args.a c.requires.ready)

pub quantify-requires-clause-ready : goal.quantify-requires-clause-ready
quantify-requires-clause-ready c = (chained_ready c.loop-level.invariant c.requires.ready c.requires.known).ready

pub quantify-requires-clause-known : goal.quantify-requires-clause-known
quantify-requires-clause-known c = (chained_ready c.loop-level.invariant c.requires.ready c.requires.known).known

pub returns-in_err-so_far : goal.returns-in_err-so_far
returns-in_err-so_far c =
    rw (err_from_is_err_and c.from_residual.result c.from_residual.ensures.1).1
    (chained_lacks c.loop-level.invariant c.next.new.self.iter.rest.now c.in-Some.level.now c.in-Some.ensures.steps
    c.quantify.new.t c.quantify.new.s c.in_err-so_far.field-0.0 c.in_err-so_far.ensures)

pub loop-level-preserved : goal.loop-level-preserved
loop-level-preserved c =
    chained_next c.loop-level.invariant c.next.new.self.iter.rest.now c.in-Some.level.now c.in-Some.ensures.steps
    c.in_ok-so_far.ensures
