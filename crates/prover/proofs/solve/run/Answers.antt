-- `run` works every entry, or stops where there is no room.
use Rattle.std.proofs.Common.{arith, ◌≡◌, ◌<◌, Ok, Err}
use Rattle.std.proofs.lemmas.Result.{err_from_is_err_and}
use Rattle.meaning.specs.Sheet.{count}
use Rattle.prover.proofs.Laws.Turn.{going_start, going_next, going_lacks, going_done, operands_held, entry_worked}
use Rattle.prover.proofs.solve.run.Goals as goal

pub loop-i-init : goal.loop-i-init
loop-i-init c = going_start _ _ _ _ _ _ c.new-s.ensures c.new-at.ensures

pub work-requires-clause-ready : goal.work-requires-clause-ready
work-requires-clause-ready c = c.loop-i.invariant.after.ready

pub work-requires-clause-operands : goal.work-requires-clause-operands
work-requires-clause-operands c =
    let entry = c.entry-entry.ensures in
    let inside : c.loop-i.i < count c.args.sheet.bytes.now = omega (arith, c.loop-i-test.true, c.count-count.ensures.value) in
    operands_held c.loop-i.invariant c.args.sheet.passed inside entry.sheet entry.index c.operands-v.ensures

pub returns-in_err-made : goal.returns-in_err-made
returns-in_err-made c =
    let entry = c.entry-entry.ensures in
    let inside : c.loop-i.i < count c.args.sheet.bytes.now = omega (arith, c.loop-i-test.true, c.count-count.ensures.value) in
    let lacks = entry_worked c.loop-i.invariant c.args.sheet.passed inside entry.sheet entry.index c.operands-v.ensures
    c.work.new.t c.work.new.s (Err c.in_err-made.field-0.0) c.in_err-made.ensures in
    let error = err_from_is_err_and c.from_residual.result c.from_residual.ensures.1 in
    rw error.1 (going_lacks c.loop-i.invariant c.args.sheet.passed inside error.0 lacks)

pub loop-i-preserved : goal.loop-i-preserved
loop-i-preserved c =
    let entry = c.entry-entry.ensures in
    let inside : c.loop-i.i < count c.args.sheet.bytes.now = omega (arith, c.loop-i-test.true, c.count-count.ensures.value) in
    let worked = entry_worked c.loop-i.invariant c.args.sheet.passed inside entry.sheet entry.index c.operands-v.ensures
    c.work.new.t c.work.new.s (Ok c.in_ok-made.made) c.in_ok-made.ensures in
    going_next c.loop-i.invariant c.args.sheet.passed inside worked c.keep.ensures

pub returns : goal.returns
returns c =
    let pair = rw c.count-count.ensures.value at c.pair_at.ensures in
    let ends : c.loop-i.i ≡ count c.args.sheet.bytes.now =
    omega (arith, c.loop-i-test.false, c.loop-i.auto.i-end, c.count-count.ensures.value) in
    going_done c.loop-i.invariant c.args.sheet.passed ends _ pair
