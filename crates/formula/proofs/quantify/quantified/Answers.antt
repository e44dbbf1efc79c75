-- `formula::quantify::quantified` meets its contract: the must chain, then the may chain.
use native.Mathlib.Omega.{arith}
use mathlib.Core.List.{[], ◌++◌}
use Rattle.std.specs.Prelude.{reverse}
use Rattle.std.proofs.lemmas.Result.{err_from_is_err_and}
use Rattle.meaning.specs.Lent.{tree_of}
use Rattle.meaning.specs.Formula.{quantified, quantify_all}
use Rattle.diagram.specs.State.{chooser}
use Rattle.diagram.proofs.Laws.After.{lacks_more, after_known}
use Rattle.formula.proofs.Laws.Work.{some_tree, tree_later}
use Rattle.formula.proofs.Laws.Pair.{pair_done, pair_lacks}
use Rattle.formula.proofs.quantify.quantified.Goals as goal

pub returns-in_err-must : goal.returns-in_err-must
unfolding quantified
returns-in_err-must c = λ n x le is_p.
    let may = quantify_all n (chooser c.args.every) (reverse c.args.levels.now) x.may in
    rw (err_from_is_err_and c.from_residual.result c.from_residual.ensures.1).1
    (lacks_more (may.steps ++ []) (c.in_err-must.ensures n x.must le is_p.must))

pub chain-requires-2-clause-ready : goal.chain-requires-2-clause-ready
chain-requires-2-clause-ready c =
    let some = some_tree c.args.p.must c.requires.ready c.requires.known.must in
    (c.in_ok-must.ensures 128 (tree_of c.args.t.now c.args.p.must) (omega arith) some).after.ready

pub chain-requires-2-clause-known : goal.chain-requires-2-clause-known
chain-requires-2-clause-known c =
    let some = some_tree c.args.p.must c.requires.ready c.requires.known.must in
    let must = c.in_ok-must.ensures 128 (tree_of c.args.t.now c.args.p.must) (omega arith) some in
    omega (arith, after_known must.after c.requires.known.must, after_known must.after c.requires.known.may)

pub returns-in_err-may : goal.returns-in_err-may
unfolding quantified
returns-in_err-may c = λ n x le is_p.
    let must = c.in_ok-must.ensures n x.must le is_p.must in
    let may = c.in_err-may.ensures n x.may le (tree_later is_p.may must.after) in
    rw (err_from_is_err_and c.from_residual-in_err-may.result c.from_residual-in_err-may.ensures.1).1
    (pair_lacks must (quantify_all n (chooser c.args.every) (reverse c.args.levels.now) x.may) may)

pub returns : goal.returns
unfolding quantified
returns c = λ n x le is_p.
    let must = c.in_ok-must.ensures n x.must le is_p.must in
    let may = c.in_ok-may.ensures n x.may le (tree_later is_p.may must.after) in
    rw c.must_may.ensures (pair_done must may)
