-- `formula::compare::at_most` meets its contract: the must chain, then the may chain.
use native.Mathlib.Omega.{arith}
use mathlib.Core.Bool.{true, false}
use mathlib.Core.List.{[], ◌++◌}
use Rattle.std.proofs.lemmas.Result.{err_from_is_err_and}
use Rattle.meaning.specs.Diagram.{leaf}
use Rattle.meaning.specs.Formula.{at_most, chain}
use Rattle.diagram.proofs.Laws.After.{lacks_more}
use Rattle.term.proofs.Laws.Rows.{row_of, row_some, row_known, after_row}
use Rattle.formula.proofs.Laws.Pair.{pair_done, pair_lacks}
use Rattle.formula.proofs.compare.at_most.Goals as goal

pub returns-in_err-must : goal.returns-in_err-must
unfolding at_most
returns-in_err-must c = λ n p q le is_x is_y.
    let may = chain n c.args.signed false (leaf true) p q in
    rw (err_from_is_err_and c.from_residual.result c.from_residual.ensures.1).1
    (lacks_more (may.steps ++ []) (c.in_err-must.ensures n p q le is_x is_y))

pub chain-requires-2-clause-ready : goal.chain-requires-2-clause-ready
chain-requires-2-clause-ready c =
    let row_x = row_some c.requires.ready c.requires.known.0 in
    let row_y = row_some c.requires.ready c.requires.known.1 in
    (c.in_ok-must.ensures 128 (row_of c.args.t.now c.args.x) (row_of c.args.t.now c.args.y) (omega arith) row_x row_y).after.ready

pub chain-requires-2-clause-known : goal.chain-requires-2-clause-known
chain-requires-2-clause-known c =
    let row_x = row_some c.requires.ready c.requires.known.0 in
    let row_y = row_some c.requires.ready c.requires.known.1 in
    let must = c.in_ok-must.ensures 128 (row_of c.args.t.now c.args.x) (row_of c.args.t.now c.args.y) (omega arith) row_x row_y in
    (row_known (after_row must.after row_x), row_known (after_row must.after row_y))

pub returns-in_err-may : goal.returns-in_err-may
unfolding at_most
returns-in_err-may c = λ n p q le is_x is_y.
    let must = c.in_ok-must.ensures n p q le is_x is_y in
    let may = c.in_err-may.ensures n p q le (after_row must.after is_x) (after_row must.after is_y) in
    rw (err_from_is_err_and c.from_residual-in_err-may.result c.from_residual-in_err-may.ensures.1).1
    (pair_lacks must (chain n c.args.signed false (leaf true) p q) may)

pub returns : goal.returns
unfolding at_most
returns c = λ n p q le is_x is_y.
    let must = c.in_ok-must.ensures n p q le is_x is_y in
    let may = c.in_ok-may.ensures n p q le (after_row must.after is_x) (after_row must.after is_y) in
    rw c.must_may.ensures (pair_done must may)
