-- `Builder::step` meets its contract: each return cites a law of `Laws.Step`.
use Rattle.std.proofs.Common.{arith, true, false, Ok}
use Rattle.std.proofs.lemmas.Result.{err_from_is_err_and}
use Rattle.diagram.proofs.Laws.Step.{asking, quick_steps, recalled_steps, splitting}
use Rattle.diagram.proofs.Laws.Step.{part_knows, part_size, level_below, knows_later}
use Rattle.diagram.proofs.Laws.Step.{low_works, high_works, step_works, low_fails, high_fails, node_fails, noted_steps}
use Rattle.diagram.proofs.builder.Builder.+step.Goals as goal

-- answered at once
pub returns-in-Some : goal.returns-in-Some
returns-in-Some t c =
    quick_steps (asking c.shorten-f.ensures c.requires.ready c.requires.known) c.in-Some.ensures

-- remembered
pub returns-in-Some-recall : goal.returns-in-Some-recall
returns-in-Some-recall t c =
    recalled_steps (asking c.shorten-f.ensures c.requires.ready c.requires.known) _ c.key-key.ensures c.in-Some-recall.ensures

pub step-requires : goal.step-requires
step-requires t c =
    let p = splitting (asking c.shorten-f.ensures c.requires.ready c.requires.known) c.in_default.ensures c.parted-level.ensures in
    let known = part_knows p false in
    let falls = part_size p false in
    (omega (arith, c.decreases), (c.requires.ready, (known.known_a, (known.known_b, known.known_c))))

-- no room for the low part
pub returns-in_err-low : goal.returns-in_err-low
returns-in_err-low t c =
    let p = splitting (asking c.shorten-f.ensures c.requires.ready c.requires.known) c.in_default.ensures c.parted-level.ensures in
    let error = err_from_is_err_and c.from_residual.result c.from_residual.ensures.1 in
    rw error.1 (low_fails p c.step.new.t c.step.new.s error.0 c.in_err-low.ensures)

pub step-requires-2 : goal.step-requires-2
step-requires-2 t c =
    let p = splitting (asking c.shorten-f.ensures c.requires.ready c.requires.known) c.in_default.ensures c.parted-level.ensures in
    let falls = part_size p true in
    let after = (low_works p c.step.new.t c.step.new.s (Ok c.in_ok-low.low) c.in_ok-low.ensures).after in
    (omega (arith, c.decreases), (after.ready, knows_later _ after (part_knows p true)))

-- no room for the high part
pub returns-in_err-high : goal.returns-in_err-high
returns-in_err-high t c =
    let p = splitting (asking c.shorten-f.ensures c.requires.ready c.requires.known) c.in_default.ensures c.parted-level.ensures in
    let low = low_works p c.step.new.t c.step.new.s (Ok c.in_ok-low.low) c.in_ok-low.ensures in
    let error = err_from_is_err_and c.from_residual-in_err-high.result c.from_residual-in_err-high.ensures.1 in
    rw error.1 (high_fails p low c.step-2.new.t c.step-2.new.s error.0 c.in_err-high.ensures)

pub node-requires-clause-ready : goal.node-requires-clause-ready
node-requires-clause-ready t c =
    let p = splitting (asking c.shorten-f.ensures c.requires.ready c.requires.known) c.in_default.ensures c.parted-level.ensures in
    let low = low_works p c.step.new.t c.step.new.s (Ok c.in_ok-low.low) c.in_ok-low.ensures in
    (high_works p low c.step-2.new.t c.step-2.new.s (Ok c.in_ok-high.high) c.in_ok-high.ensures).after.ready

pub node-requires-clause-level : goal.node-requires-clause-level
node-requires-clause-level t c =
    level_below
    (splitting (asking c.shorten-f.ensures c.requires.ready c.requires.known) c.in_default.ensures c.parted-level.ensures)

-- no room for the node
pub returns-in_err-at : goal.returns-in_err-at
returns-in_err-at t c =
    let p = splitting (asking c.shorten-f.ensures c.requires.ready c.requires.known) c.in_default.ensures c.parted-level.ensures in
    let low = low_works p c.step.new.t c.step.new.s (Ok c.in_ok-low.low) c.in_ok-low.ensures in
    let high = high_works p low c.step-2.new.t c.step-2.new.s (Ok c.in_ok-high.high) c.in_ok-high.ensures in
    let error = err_from_is_err_and c.from_residual-in_err-at.result c.from_residual-in_err-at.ensures.1 in
    rw error.1 (node_fails p low c.node.new.t c.node.new.s error.0 high c.in_err-at.ensures)

-- split, made and remembered
pub returns : goal.returns
returns t c =
    let p = splitting (asking c.shorten-f.ensures c.requires.ready c.requires.known) c.in_default.ensures c.parted-level.ensures in
    let low = low_works p c.step.new.t c.step.new.s (Ok c.in_ok-low.low) c.in_ok-low.ensures in
    let high = high_works p low c.step-2.new.t c.step-2.new.s (Ok c.in_ok-high.high) c.in_ok-high.ensures in
    let whole = step_works p low c.node.new.t c.node.new.s (Ok c.in_ok-at.field-0) high c.in_ok-at.ensures in
    noted_steps p _ c.remember.new.self c.key-key.ensures whole c.remember.ensures.memo c.remember.ensures.index
