-- `bitwise::work` meets its contract, by a law for each step of the loop.
use Rattle.std.proofs.lemmas.Result.{err_from_is_err_and}
use Rattle.term.proofs.Laws.Bitwise.{going_next, going_fails, going_done, going_ready, going_condition, going_known}
use Rattle.term.proofs.bitwise.work.Goals as goal

pub bit-requires-clause-ready : goal.bit-requires-clause-ready
bit-requires-clause-ready c =
    going_ready c.requires.width c.loop-i-test.true c.loop-i.invariant c.requires.ready c.requires.condition
    c.requires.known

pub bit-requires-clause-condition : goal.bit-requires-clause-condition
bit-requires-clause-condition c =
    going_condition c.requires.width c.loop-i-test.true c.loop-i.invariant c.requires.ready c.requires.condition
    c.requires.known

pub bit-requires-clause-known : goal.bit-requires-clause-known
bit-requires-clause-known c =
    rw (c.place.ensures, c.place-in-loop-i.ensures)
    (going_known c.requires.width c.loop-i-test.true c.loop-i.invariant c.requires.ready c.requires.condition
    c.requires.known)

pub returns-in_err-made : goal.returns-in_err-made
returns-in_err-made c =
    rw (err_from_is_err_and c.from_residual.result c.from_residual.ensures.1).1
    (going_fails c.requires.width c.loop-i-test.true c.loop-i.invariant c.bit.new.t c.bit.new.s c.in_err-made.field-0.0
    (rw (c.place.ensures, c.place-in-loop-i.ensures) at c.in_err-made.ensures))

pub loop-i-preserved : goal.loop-i-preserved
loop-i-preserved c =
    rw c.number.ensures
    (going_next c.requires.width c.loop-i-test.true c.loop-i.invariant c.bit.new.t c.bit.new.s c.requires.known.0.narrow
    (rw (c.place.ensures, c.place-in-loop-i.ensures) at c.in_ok-made.ensures))

pub returns : goal.returns
returns c = going_done c.requires.width c.loop-i-test.false c.loop-i.invariant
