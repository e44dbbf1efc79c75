-- `operand_width` is the definition's.
use Rattle.std.proofs.Common.{arith}
use Rattle.sheet.proofs.Laws.Sheet.{entry_operand, record_inside}
use Rattle.sheet.proofs.Laws.Widths.{suited_count, suited_width}
use Rattle.sheet.proofs.widths.Fitted.operand_width.Goals as goal

pub operand-requires : goal.operand-requires
operand-requires c = entry_operand c.args.self.own.is_laid_out c.args.self.own.is_entry c.args.k c.requires

pub width-requires : goal.width-requires
width-requires c =
    record_inside c.args.self.own.is_laid_out _
    (suited_count c.args.self.own.is_entry c.args.self.fit c.requires c.operand.ensures.value)

pub returns-clause-value : goal.returns-clause-value
returns-clause-value c =
    suited_width c.args.self.own.is_entry c.args.self.fit c.requires c.operand.ensures.value c.width.ensures.value

pub returns-clause-few : goal.returns-clause-few
returns-clause-few c = omega (
  arith,
  c.width.ensures.value,
  c.args.self.own.is_laid_out.narrow c.operand.result
      (suited_count c.args.self.own.is_entry c.args.self.fit c.requires c.operand.ensures.value),
)
