-- `variable` meets its contract.
use native.Mathlib.Omega.{arith}
use Rattle.std.proofs.lemmas.Result.{err_from_is_err_and}
use Rattle.sheet.proofs.Laws.Passed.{passed_levels}
use Rattle.entry.proofs.Laws.Levels.{growing_next, growing_lacks, growing_done}
use Rattle.entry.proofs.value.variable.Goals as goal

pub node-requires-clause-level : goal.node-requires-clause-level
node-requires-clause-level c =
    omega (arith, c.level.ensures.below, passed_levels c.args.entry.sheet.bytes.now c.args.entry.sheet.passed)

pub returns-in_err-made : goal.returns-in_err-made
returns-in_err-made c =
    let error = err_from_is_err_and c.from_residual.result c.from_residual.ensures.1 in
    rw error.1
    (growing_lacks c.loop-bit.invariant c.node.new.t c.node.new.s c.level.result c.level.ensures.value error.0
    (omega (arith, c.loop-bit-test.true, c.bits-width.ensures.value)) c.in_err-made.ensures)

pub loop-bit-preserved : goal.loop-bit-preserved
loop-bit-preserved c =
    rw c.number.ensures
    (growing_next c.loop-bit.invariant c.node.new.t c.node.new.s c.level.result c.level.ensures.value c.in_ok-made.made
    (omega (arith, c.loop-bit-test.true, c.bits-width.ensures.few)) c.level.ensures.below c.in_ok-made.ensures)

pub returns : goal.returns
returns c =
    growing_done c.loop-bit.invariant c.bits-width.ensures.value c.bits-width.ensures.few
    (omega (arith, c.loop-bit-test.false, c.loop-bit.auto.bit-end))
