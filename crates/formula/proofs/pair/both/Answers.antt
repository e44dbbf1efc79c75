-- `formula::pair::both` meets its contract: must's step, then may's.
use native.Mathlib.Omega.{arith}
use mathlib.Core.List.{[], ◌++◌}
use mathlib.Core.Bool.{false}
use Rattle.std.specs.Prelude.{Ok, Err}
use Rattle.std.proofs.lemmas.Result.{err_from_is_err_and}
use Rattle.meaning.specs.Step.{step, unused}
use Rattle.meaning.specs.Formula.{both}
use Rattle.diagram.specs.Function.{table_of}
use Rattle.diagram.proofs.Laws.After.{after_known, lacks_more}
use Rattle.formula.proofs.Laws.Work.{step_some, step_makes, tree_later, leaf_means}
use Rattle.formula.proofs.Laws.Pair.{pair_done, pair_lacks}
use Rattle.formula.proofs.pair.both.Goals as goal

pub returns-in_err-must : goal.returns-in_err-must
unfolding both
returns-in_err-must c = λ n x y le is_p is_q.
    let none = leaf_means n c.args.t.now c.args.b false in
    let lacks = step_makes c.step.new.t c.step.new.s c.args.f (Err c.in_err-must.field-0.0) c.in_err-must.ensures le
    is_p.must is_q.must none in
    let may = step n (table_of c.args.f) x.may y.may unused in
    rw (err_from_is_err_and c.from_residual.result c.from_residual.ensures.1).1 (lacks_more (may.steps ++ []) lacks)

pub step-requires-2-clause-ready : goal.step-requires-2-clause-ready
step-requires-2-clause-ready c =
    (step_some c.step.new.t c.step.new.s c.in_ok-must.must c.args.f c.requires.ready c.requires.known.0.must
    c.requires.known.1.must (omega arith) c.in_ok-must.ensures).after.ready

pub step-requires-2-clause-known : goal.step-requires-2-clause-known
step-requires-2-clause-known c =
    let after = (step_some c.step.new.t c.step.new.s c.in_ok-must.must c.args.f c.requires.ready c.requires.known.0.must
    c.requires.known.1.must (omega arith) c.in_ok-must.ensures).after in
    (after_known after c.requires.known.0.may, (after_known after c.requires.known.1.may, omega arith))

pub returns-in_err-may : goal.returns-in_err-may
unfolding both
returns-in_err-may c = λ n x y le is_p is_q.
    let none = leaf_means n c.args.t.now c.args.b false in
    let must = step_makes c.step.new.t c.step.new.s c.args.f (Ok c.in_ok-must.must) c.in_ok-must.ensures le
    is_p.must is_q.must none in
    let none' = leaf_means n c.step.new.t c.in_ok-must.must.at false in
    let may = step_makes c.step-2.new.t c.step-2.new.s c.args.f (Err c.in_err-may.field-0.0) c.in_err-may.ensures le
    (tree_later is_p.may must.after) (tree_later is_q.may must.after) none' in
    rw (err_from_is_err_and c.from_residual-in_err-may.result c.from_residual-in_err-may.ensures.1).1
    (pair_lacks must (step n (table_of c.args.f) x.may y.may unused) may)

pub returns : goal.returns
unfolding both
returns c = λ n x y le is_p is_q.
    let none = leaf_means n c.args.t.now c.args.b false in
    let must = step_makes c.step.new.t c.step.new.s c.args.f (Ok c.in_ok-must.must) c.in_ok-must.ensures le
    is_p.must is_q.must none in
    let none' = leaf_means n c.step.new.t c.in_ok-must.must.at false in
    let may = step_makes c.step-2.new.t c.step-2.new.s c.args.f (Ok c.in_ok-may.may) c.in_ok-may.ensures le
    (tree_later is_p.may must.after) (tree_later is_q.may must.after) none' in
    rw c.must_may.ensures (pair_done must may)
