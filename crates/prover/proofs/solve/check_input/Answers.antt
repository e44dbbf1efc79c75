-- `check_input` gives the first of 1 to 10, or the sheet.
use Rattle.std.proofs.lemmas.Result.{err_from_is_err_and}
use Rattle.prover.specs.declared.answer.Refusal.TheVariants.{Sheet}
use Rattle.prover.proofs.Laws.Answer.{input_check, some_number}
use Rattle.prover.proofs.solve.check_input.Goals as goal

pub returns-in_err-sheet-clause-refusal : goal.returns-in_err-sheet-clause-refusal
returns-in_err-sheet-clause-refusal c =
    let error = err_from_is_err_and c.from_residual.result c.from_residual.ensures.1 in
    let some = some_number (Sheet c.in_err-sheet.field-0.0) in
    rw (error.1, error.2) (input_check _ _ _ _ c.in_err-sheet.ensures.refusal some)
