-- `witness::witness` meets its contract.
use Rattle.std.proofs.Common.{rules}
use mathlib.Core.Path.{sym, ◌∙◌}
use Rattle.lent.proofs.Laws.Refusal.{result_err}
use Rattle.lent.proofs.Laws.Witness.{witness_buffers, witness_diagram, witness_never, witness_answered}
use Rattle.lent.proofs.witness.witness.Goals as goal

pub returns-in_err-check_buffers : goal.returns-in_err-check_buffers
returns-in_err-check_buffers c =
    let error = result_err _ c.from_residual.ensures.1 in search (rules, witness_buffers)

pub returns-in_err-check_diagram : goal.returns-in_err-check_diagram
returns-in_err-check_diagram c =
    let error = result_err _ c.from_residual-in_err-check_diagram.ensures.1 in search (rules, witness_diagram)

pub returns-then-eq : goal.returns-then-eq
returns-then-eq c = search (rules, witness_never)

pub returns : goal.returns
returns c =
    witness_answered _ _ _ _ c.in_ok-check_buffers.ensures.number c.in_ok-check_diagram.ensures.number
    (sym c.eq.ensures ∙ c.if-eq.false) c.fill.ensures
