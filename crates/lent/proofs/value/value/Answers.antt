-- `value::value` meets its contract.
use Rattle.std.proofs.Common.{rules}
use Rattle.lent.proofs.Laws.Refusal.{result_err}
use Rattle.lent.proofs.Laws.Value.{value_buffers, value_bits, value_diagram}
use Rattle.lent.proofs.value.value.Goals as goal

pub returns-in_err-check_buffers : goal.returns-in_err-check_buffers
returns-in_err-check_buffers c =
    let error = result_err _ c.from_residual.ensures.1 in search (rules, value_buffers)

pub returns-in_err-check_bits : goal.returns-in_err-check_bits
returns-in_err-check_bits c =
    let error = result_err _ c.from_residual-in_err-check_bits.ensures.1 in search (rules, value_bits)

pub returns-in_err-check_diagram : goal.returns-in_err-check_diagram
returns-in_err-check_diagram c =
    let error = result_err _ c.from_residual-in_err-check_diagram.ensures.1 in search (rules, value_diagram)
