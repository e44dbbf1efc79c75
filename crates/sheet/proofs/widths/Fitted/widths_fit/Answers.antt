-- `widths_fit` is the definition's: the operands that a way of fitting looks at are there.
use Rattle.std.proofs.Common.{◌∙◌, arith}
use borrow.Author.Tests.{eqb-true}
use Rattle.sheet.specs.declared.kind.Fit.TheVariants.{Sum, Span, NoneWider, Alike}
use Rattle.sheet.proofs.Laws.Widths.{entry_widths, has_looked, has_four}
use Rattle.sheet.proofs.widths.Fitted.widths_fit.Goals as goal

pub operand_width-requires : goal.operand_width-requires
operand_width-requires c = omega (arith, has_looked c.args.self.own.is_entry Sum c.in-Sum.is (c.fit.ensures ∙ entry_widths c.args.self.own.is_entry))

pub operand_width-requires-in-Sum : goal.operand_width-requires-in-Sum
operand_width-requires-in-Sum c = has_looked c.args.self.own.is_entry Sum c.in-Sum.is (c.fit.ensures ∙ entry_widths c.args.self.own.is_entry)

pub spans-requires : goal.spans-requires
spans-requires c =
    eqb-true _ 4 (has_four c.args.self.own.is_entry Span c.in-Span.is (c.fit.ensures ∙ entry_widths c.args.self.own.is_entry) c.args.self.own.is_laid_out)

pub operand_width-requires-in-NoneWider : goal.operand_width-requires-in-NoneWider
operand_width-requires-in-NoneWider c = has_looked c.args.self.own.is_entry NoneWider c.in-NoneWider.is (c.fit.ensures ∙ entry_widths c.args.self.own.is_entry)

pub operand_width-requires-in-Alike : goal.operand_width-requires-in-Alike
operand_width-requires-in-Alike c = omega (arith, has_looked c.args.self.own.is_entry Alike c.in-Alike.is (c.fit.ensures ∙ entry_widths c.args.self.own.is_entry))

pub operand_width-requires-in-Alike-2 : goal.operand_width-requires-in-Alike-2
operand_width-requires-in-Alike-2 c = has_looked c.args.self.own.is_entry Alike c.in-Alike.is (c.fit.ensures ∙ entry_widths c.args.self.own.is_entry)
