-- `multiply::multiply` meets its contract, by a law for each step of the loop.
use Rattle.std.proofs.lemmas.Result.{err_from_is_err_and}
use Rattle.term.proofs.Laws.Multiply.{multiply_start, multiply_ready, multiply_known, multiply_lacks, multiply_addable}
use Rattle.term.proofs.Laws.Multiply.{multiply_add_lacks, multiply_next, multiply_done}
use Rattle.term.proofs.multiply.multiply.Goals as goal

pub loop-j-init : goal.loop-j-init
loop-j-init c = multiply_start c.requires.addable (c.filled-sum.ensures.width, c.filled-sum.ensures.places)

pub partial-requires-clause-ready : goal.partial-requires-clause-ready
partial-requires-clause-ready c = multiply_ready c.requires.addable c.loop-j.invariant c.loop-j-test.true

pub partial-requires-clause-known : goal.partial-requires-clause-known
partial-requires-clause-known c = rw c.place.ensures (multiply_known c.requires.addable c.loop-j.invariant c.loop-j-test.true)

pub returns-in_err-more : goal.returns-in_err-more
returns-in_err-more c =
    rw (err_from_is_err_and c.from_residual.result c.from_residual.ensures.1).1
    (multiply_lacks c.requires.addable c.loop-j.invariant c.loop-j-test.true c.partial.new.t c.partial.new.s c.in_err-more.field-0.0
    (rw c.place.ensures at c.in_err-more.ensures))

pub add-requires : goal.add-requires
add-requires c =
    let addable =
    multiply_addable c.requires.addable c.loop-j.invariant c.loop-j-test.true c.partial.new.t c.partial.new.s c.in_ok-more.more
    (rw c.place.ensures at c.in_ok-more.ensures) in
    record { addable = addable }

pub returns-in_err-added : goal.returns-in_err-added
returns-in_err-added c =
    rw (err_from_is_err_and c.from_residual-in_err-added.result c.from_residual-in_err-added.ensures.1).1
    (multiply_add_lacks c.requires.addable c.loop-j.invariant c.loop-j-test.true c.partial.new.t c.partial.new.s c.in_ok-more.more
    (rw c.place.ensures at c.in_ok-more.ensures) c.add.new.t c.add.new.s c.in_err-added.field-0.0 c.in_err-added.ensures)

pub loop-j-preserved : goal.loop-j-preserved
loop-j-preserved c =
    multiply_next c.requires.addable c.loop-j.invariant c.loop-j-test.true c.partial.new.t c.partial.new.s c.in_ok-more.more
    (rw c.place.ensures at c.in_ok-more.ensures) c.add.new.t c.add.new.s c.in_ok-added.added c.in_ok-added.ensures

pub returns : goal.returns
returns c = multiply_done c.requires.addable c.loop-j.invariant c.loop-j-test.false
