-- `solve` is the definition's: a refusal, or the run and its end.
use mathlib.Core.Path.{◌≡◌}
use lib.ListN.{length, replicate}
use borrow.Author.Rules.{rules}
use Rattle.std.proofs.lemmas.Result.{err_from_is_err_and}
use Rattle.prover.proofs.Laws.Answer.{meets_refused, meets_worked, meets_lacking, meets_reached}
use Rattle.prover.proofs.solve.solve.Goals as goal

pub returns-in_err-sheet : goal.returns-in_err-sheet
returns-in_err-sheet c =
    let error = err_from_is_err_and c.from_residual.result c.from_residual.ensures.1 in
    rw (error.1, error.2) (meets_refused _ _ _ _ c.in_err-sheet.field-0.0 c.in_err-sheet.ensures.refusal)

-- no room
pub returns-in_err-at : goal.returns-in_err-at
returns-in_err-at c =
    let error = err_from_is_err_and c.from_residual-in_err-at.result c.from_residual-in_err-at.ensures.1 in
    let ran = rw (c.in_err-at.was, c.in_ok-sheet.ensures.bytes) at c.run_somewhere-end.ensures in
    let cleared = rw c.in_err-at.was at c.clear_rest.ensures in
    let zeros : c.fill.new.self ≡ replicate (length c.args.work.now) 0 = search rules in
    rw (error.1, error.2, cleared)
    (meets_worked _ _ _ _ _ _ _ _ c.in_ok-sheet.ensures.refusal zeros (meets_lacking _ ran))

pub returns : goal.returns
returns c =
    let ran = rw (c.in_ok-at.was, c.in_ok-sheet.ensures.bytes) at c.run_somewhere-end.ensures in
    let cleared = rw c.in_ok-at.was at c.clear_rest.ensures in
    let zeros : c.fill.new.self ≡ replicate (length c.args.work.now) 0 = search rules in
    rw cleared
    (meets_worked _ _ _ _ _ _ _ _ c.in_ok-sheet.ensures.refusal zeros (meets_reached _ ran c.of.result c.of.ensures))
