-- `formula::compare::agree_bit` meets its contract: an unknown bit, or two steps.
use native.Mathlib.Omega.{arith}
use mathlib.Core.Path.{sym}
use mathlib.Core.Logic.{inl, inr}
use borrow.Author.Tests.{eqb-true, eqb-false}
use Rattle.std.proofs.lemmas.Result.{err_from_is_err_and}
use Rattle.diagram.proofs.Laws.After.{after_known}
use Rattle.term.specs.Row.{mark}
use Rattle.term.proofs.Laws.Rows.{known_unmarked}
use Rattle.formula.proofs.Laws.Work.{step_some, tree_known}
use Rattle.formula.proofs.Laws.Compare.{agree_skip, agree_fails, agree_works}
use Rattle.formula.proofs.compare.agree_bit.Goals as goal

pub returns-then-eq : goal.returns-then-eq
returns-then-eq c = agree_skip c.requires.ready (inl (eqb-true c.args.x mark (sym c.if-eq.ensures)))

pub returns-then-unknown : goal.returns-then-unknown
returns-then-unknown c = agree_skip c.requires.ready (inr (eqb-true c.args.y mark (sym c.if-unknown.ensures)))

pub returns-in_err-agree : goal.returns-in_err-agree
returns-in_err-agree c =
    let other_x = eqb-false c.args.x mark (sym c.if-eq.ensures) in
    let other_y = eqb-false c.args.y mark (sym c.if-unknown.ensures) in
    rw (err_from_is_err_and c.from_residual.result c.from_residual.ensures.1).1
    (agree_fails other_x other_y c.step.new.t c.step.new.s c.args.r c.in_err-agree.field-0.0
    c.in_err-agree.ensures)

pub step-requires-2-clause-ready : goal.step-requires-2-clause-ready
step-requires-2-clause-ready c =
    let other_x = eqb-false c.args.x mark (sym c.if-eq.ensures) in
    let other_y = eqb-false c.args.y mark (sym c.if-unknown.ensures) in
    let known_x = known_unmarked c.args.b c.args.x c.requires.bits.0 other_x in
    let known_y = known_unmarked c.args.b c.args.y c.requires.bits.1 other_y in
    (step_some c.step.new.t c.step.new.s c.in_ok-agree.agree 195 c.requires.ready known_x known_y (omega arith)
    c.in_ok-agree.ensures).after.ready

pub step-requires-2-clause-known : goal.step-requires-2-clause-known
step-requires-2-clause-known c =
    let other_x = eqb-false c.args.x mark (sym c.if-eq.ensures) in
    let other_y = eqb-false c.args.y mark (sym c.if-unknown.ensures) in
    let known_x = known_unmarked c.args.b c.args.x c.requires.bits.0 other_x in
    let known_y = known_unmarked c.args.b c.args.y c.requires.bits.1 other_y in
    let made = step_some c.step.new.t c.step.new.s c.in_ok-agree.agree 195 c.requires.ready known_x known_y (omega arith)
    c.in_ok-agree.ensures in
    (after_known made.after c.requires.known, (tree_known made.means, omega arith))

pub returns : goal.returns
returns c =
    let other_x = eqb-false c.args.x mark (sym c.if-eq.ensures) in
    let other_y = eqb-false c.args.y mark (sym c.if-unknown.ensures) in
    agree_works other_x other_y c.step.new.t c.step.new.s c.args.r c.in_ok-agree.agree
    c.step-2.new.t c.step-2.new.s c.step-2.result c.in_ok-agree.ensures c.step-2.ensures
