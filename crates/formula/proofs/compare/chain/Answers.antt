-- `formula::compare::chain` meets its contract. The invariant: the bits from i on are left.
use Rattle.std.proofs.lemmas.Result.{err_from_is_err_and}
use Rattle.formula.specs.Compare.{order_bit}
use Rattle.formula.proofs.Laws.Rowed.{rowed_start, rowed_ready, rowed_next, rowed_lacks}
use Rattle.formula.proofs.Laws.Rowed.{order_along, order_splits}
use Rattle.formula.proofs.compare.chain.Goals as goal

pub loop-i-init : goal.loop-i-init
loop-i-init c = rowed_start (order_along c.args.signed c.args.z) c.args.x c.args.y c.requires.ready

pub chain_bit-requires-clause-ready : goal.chain_bit-requires-clause-ready
chain_bit-requires-clause-ready c =
    (rowed_ready c.loop-i.invariant c.requires.same_width c.loop-i-test.true c.place.ensures c.place-in-loop-i.ensures
    c.requires.ready c.requires.known.0 c.requires.known.1).ready

pub chain_bit-requires-clause-bits : goal.chain_bit-requires-clause-bits
chain_bit-requires-clause-bits c =
    (rowed_ready c.loop-i.invariant c.requires.same_width c.loop-i-test.true c.place.ensures c.place-in-loop-i.ensures
    c.requires.ready c.requires.known.0 c.requires.known.1).bits

pub chain_bit-requires-clause-known : goal.chain_bit-requires-clause-known
chain_bit-requires-clause-known c =
    (rowed_ready c.loop-i.invariant c.requires.same_width c.loop-i-test.true c.place.ensures c.place-in-loop-i.ensures
    c.requires.ready c.requires.known.0 c.requires.known.1).known

pub returns-in_err-so_far : goal.returns-in_err-so_far
returns-in_err-so_far c =
    rw (err_from_is_err_and c.from_residual.result c.from_residual.ensures.1).1
    (rowed_lacks c.loop-i.invariant c.requires.same_width c.loop-i-test.true c.place.ensures c.place-in-loop-i.ensures
    (order_bit c.is_top-top.result c.args.z) c.chain_bit.new.t c.chain_bit.new.s c.in_err-so_far.field-0.0
    (order_splits c.args.signed c.args.z c.is_top-top.result c.args.x.width c.loop-i.i c.is_top-top.ensures)
    c.in_err-so_far.ensures)

pub loop-i-preserved : goal.loop-i-preserved
loop-i-preserved c =
    rowed_next c.loop-i.invariant c.requires.same_width c.loop-i-test.true c.place.ensures c.place-in-loop-i.ensures
    (order_bit c.is_top-top.result c.args.z) c.chain_bit.new.t c.chain_bit.new.s c.in_ok-so_far.so_far
    (order_splits c.args.signed c.args.z c.is_top-top.result c.args.x.width c.loop-i.i c.is_top-top.ensures)
    c.in_ok-so_far.ensures
