-- `Builder::quantify` meets its contract: each return cites a law of `Laws.Quantify`.
use Rattle.std.proofs.Common.{arith, true, false, ◌<◌, Ok}
use Rattle.std.proofs.lemmas.Result.{err_from_is_err_and}
use Rattle.diagram.proofs.Laws.After.{after_known}
use Rattle.diagram.proofs.Laws.Quantify.{looking, above_quantifies, recalled_quantifies, noted_quantifies, here_quantifies}
use Rattle.diagram.proofs.Laws.Quantify.{halving, half_lower, half_known}
use Rattle.diagram.proofs.Laws.Quantify.{low_works, high_works, quantify_works, low_fails, high_fails, node_fails}
use Rattle.diagram.proofs.builder.Builder.+quantify.Goals as goal

-- no such level
pub returns-then-l-i : goal.returns-then-l-i
returns-then-l-i t c =
    above_quantifies (looking c.args.every c.requires.ready c.requires.level c.requires.known c.top-i.ensures) c.if-l-i.true

pub step-requires-clause-known : goal.step-requires-clause-known
step-requires-clause-known t c =
    let looks = looking c.args.every c.requires.ready c.requires.level c.requires.known c.top-i.ensures in
    let p = halving looks c.if-l-i.false c.split-halves.ensures in
    (half_known p false, (half_known p true, omega arith))

-- the level itself
pub returns-then-i-l : goal.returns-then-i-l
returns-then-i-l t c =
    let looks = looking c.args.every c.requires.ready c.requires.level c.requires.known c.top-i.ensures in
    let p = halving looks c.if-l-i.false c.split-halves.ensures in
    here_quantifies p c.step.new.t c.step.new.s c.step.result c.if-i-l.true c.joined.ensures c.step.ensures

-- remembered
pub returns-in-Some : goal.returns-in-Some
returns-in-Some t c =
    let looks = looking c.args.every c.requires.ready c.requires.level c.requires.known c.top-i.ensures in
    recalled_quantifies looks _ c.code.ensures c.key-key.ensures c.in-Some.ensures

pub quantify-requires : goal.quantify-requires
quantify-requires t c =
    let looks = looking c.args.every c.requires.ready c.requires.level c.requires.known c.top-i.ensures in
    let p = halving looks c.if-l-i.false c.split-halves.ensures in
    let lower = half_lower p false in
    (omega (arith, c.decreases), (looks.ready, (looks.small, half_known p false)))

-- no room for the low part
pub returns-in_err-x : goal.returns-in_err-x
returns-in_err-x t c =
    let looks = looking c.args.every c.requires.ready c.requires.level c.requires.known c.top-i.ensures in
    let p = halving looks c.if-l-i.false c.split-halves.ensures in
    let before : c.top-i.result < c.args.l = omega (arith, c.if-i-l.false, c.if-l-i.false) in
    let error = err_from_is_err_and c.from_residual.result c.from_residual.ensures.1 in
    rw error.1 (low_fails p before c.quantify.new.t c.quantify.new.s error.0 c.in_err-x.ensures)

pub quantify-requires-2 : goal.quantify-requires-2
quantify-requires-2 t c =
    let looks = looking c.args.every c.requires.ready c.requires.level c.requires.known c.top-i.ensures in
    let p = halving looks c.if-l-i.false c.split-halves.ensures in
    let lower = half_lower p true in
    let after = (low_works p c.quantify.new.t c.quantify.new.s (Ok c.in_ok-x.x) c.in_ok-x.ensures).after in
    (omega (arith, c.decreases), (after.ready, (looks.small, after_known after (half_known p true))))

-- no room for the high part
pub returns-in_err-y : goal.returns-in_err-y
returns-in_err-y t c =
    let looks = looking c.args.every c.requires.ready c.requires.level c.requires.known c.top-i.ensures in
    let p = halving looks c.if-l-i.false c.split-halves.ensures in
    let before : c.top-i.result < c.args.l = omega (arith, c.if-i-l.false, c.if-l-i.false) in
    let low = low_works p c.quantify.new.t c.quantify.new.s (Ok c.in_ok-x.x) c.in_ok-x.ensures in
    let error = err_from_is_err_and c.from_residual-in_err-y.result c.from_residual-in_err-y.ensures.1 in
    rw error.1 (high_fails p low before c.quantify-2.new.t c.quantify-2.new.s error.0 c.in_err-y.ensures)

pub node-requires-clause-ready : goal.node-requires-clause-ready
node-requires-clause-ready t c =
    let looks = looking c.args.every c.requires.ready c.requires.level c.requires.known c.top-i.ensures in
    let p = halving looks c.if-l-i.false c.split-halves.ensures in
    let low = low_works p c.quantify.new.t c.quantify.new.s (Ok c.in_ok-x.x) c.in_ok-x.ensures in
    (high_works p low c.quantify-2.new.t c.quantify-2.new.s (Ok c.in_ok-y.y) c.in_ok-y.ensures).after.ready

-- no room for the node
pub returns-in_err-at : goal.returns-in_err-at
returns-in_err-at t c =
    let looks = looking c.args.every c.requires.ready c.requires.level c.requires.known c.top-i.ensures in
    let p = halving looks c.if-l-i.false c.split-halves.ensures in
    let before : c.top-i.result < c.args.l = omega (arith, c.if-i-l.false, c.if-l-i.false) in
    let low = low_works p c.quantify.new.t c.quantify.new.s (Ok c.in_ok-x.x) c.in_ok-x.ensures in
    let high = high_works p low c.quantify-2.new.t c.quantify-2.new.s (Ok c.in_ok-y.y) c.in_ok-y.ensures in
    let error = err_from_is_err_and c.from_residual-in_err-at.result c.from_residual-in_err-at.ensures.1 in
    rw error.1 (node_fails p low before c.node.new.t c.node.new.s error.0 high c.in_err-at.ensures)

-- split, made and remembered
pub returns : goal.returns
returns t c =
    let looks = looking c.args.every c.requires.ready c.requires.level c.requires.known c.top-i.ensures in
    let p = halving looks c.if-l-i.false c.split-halves.ensures in
    let before : c.top-i.result < c.args.l = omega (arith, c.if-i-l.false, c.if-l-i.false) in
    let low = low_works p c.quantify.new.t c.quantify.new.s (Ok c.in_ok-x.x) c.in_ok-x.ensures in
    let high = high_works p low c.quantify-2.new.t c.quantify-2.new.s (Ok c.in_ok-y.y) c.in_ok-y.ensures in
    let whole = quantify_works p low before c.node.new.t c.node.new.s (Ok c.in_ok-at.field-0) high c.in_ok-at.ensures in
    noted_quantifies looks _ c.remember.new.self c.code.ensures c.key-key.ensures whole c.remember.ensures.memo c.remember.ensures.index
