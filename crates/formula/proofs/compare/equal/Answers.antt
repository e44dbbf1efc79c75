-- `formula::compare::equal` meets its contract: the conjunction, and the test of both rows.
use mathlib.Core.List.{[]}
use Rattle.std.proofs.lemmas.Result.{err_from_is_err_and}
use Rattle.meaning.specs.Formula.{equal}
use Rattle.diagram.proofs.Laws.After.{lacks_more}
use Rattle.formula.proofs.Laws.Compare.{sure_row}
use Rattle.formula.proofs.Laws.Pair.{equal_done}
use Rattle.formula.proofs.compare.equal.Goals as goal

pub returns-in_err-may : goal.returns-in_err-may
unfolding equal
returns-in_err-may c = λ n p q le is_x is_y.
    rw (err_from_is_err_and c.from_residual.result c.from_residual.ensures.1).1
    (lacks_more [] (c.in_err-may.ensures n p q le is_x is_y))

pub returns : goal.returns
returns c = λ n p q le is_x is_y.
    rw c.must_may.ensures
    (equal_done p q (c.in_ok-may.ensures n p q le is_x is_y) (sure_row c.requires.ready is_x c.sure.ensures)
    (sure_row c.requires.ready is_y c.sure-2.ensures) c.kept-must.ensures)
