-- `add::add` meets its contract, by a law for each step of the loop.
use Rattle.std.proofs.Common.{◌∙◌}
use Rattle.std.proofs.lemmas.List.{get_or-replicate}
use Rattle.std.proofs.lemmas.Result.{err_from_is_err_and}
use Rattle.term.proofs.Laws.Add.{loop_start, loop_summing, loop_known, loop_next, loop_stop, loop_lacks, loop_done}
use Rattle.term.proofs.add.add.Goals as goal

pub loop-i-init : goal.loop-i-init
loop-i-init c = loop_start c.requires.addable _ (λ k below. get_or-replicate 32 k c.number.result 0 below ∙ c.number.ensures)

pub place-requires-in-loop-i-2-clause-summing : goal.place-requires-in-loop-i-2-clause-summing
place-requires-in-loop-i-2-clause-summing c = loop_summing c.requires.addable c.loop-i.invariant c.loop-i-test.true

pub place-requires-in-loop-i-2-clause-known : goal.place-requires-in-loop-i-2-clause-known
place-requires-in-loop-i-2-clause-known c =
    rw (c.place.ensures, c.place-in-loop-i.ensures) (loop_known c.requires.addable c.loop-i.invariant c.loop-i-test.true)

pub returns-in_err-placed : goal.returns-in_err-placed
returns-in_err-placed c n r q le is_x is_y =
    let e = err_from_is_err_and c.from_residual.result c.from_residual.ensures.1 in
    rw e.1
    (loop_lacks c.requires.addable c.loop-i.invariant c.loop-i-test.true c.place.ensures c.place-in-loop-i.ensures
    c.place-in-loop-i-2.new.t c.place-in-loop-i-2.new.s c.in_err-placed.field-0.0 c.in_err-placed.ensures.place n r q le is_x is_y)

pub returns-in_default : goal.returns-in_default
returns-in_default c n r q le is_x is_y =
    rw c.row.ensures
    (loop_stop c.requires.addable c.loop-i.invariant c.loop-i-test.true c.place.ensures c.place-in-loop-i.ensures
    c.place-in-loop-i-2.new.t c.place-in-loop-i-2.new.s c.in_ok-placed.placed c.in_ok-placed.ensures.place c.in_default.is
    n r q le is_x is_y)

pub loop-i-preserved : goal.loop-i-preserved
loop-i-preserved c =
    loop_next c.requires.addable c.loop-i.invariant c.loop-i-test.true c.place.ensures c.place-in-loop-i.ensures
    c.place-in-loop-i-2.new.t c.place-in-loop-i-2.new.s c.in_ok-placed.placed c.in_ok-placed.ensures.place c.in-Some.is
    (rw c.in-Some.is at c.in_ok-placed.ensures.tally)

pub returns : goal.returns
returns c n r q le is_x is_y = rw c.row-2.ensures (loop_done c.requires.addable c.loop-i.invariant c.loop-i-test.false n r q le is_x is_y)
