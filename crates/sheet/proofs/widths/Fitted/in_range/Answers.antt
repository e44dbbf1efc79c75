-- `in_range` is the definition's.
use Rattle.std.proofs.Common.{◌∙◌, arith}
use borrow.Author.Tests.{eqb-true}
use Rattle.sheet.specs.declared.kind.Fit.TheVariants.{Below, Span}
use Rattle.sheet.proofs.Laws.Widths.{entry_widths, has_looked, has_four}
use Rattle.sheet.proofs.widths.Fitted.in_range.Goals as goal

pub constant-requires : goal.constant-requires
constant-requires c =
    eqb-true _ 4 (has_four c.args.self.own.is_entry Below c.in-Below.is (c.fit.ensures ∙ entry_widths c.args.self.own.is_entry) c.args.self.own.is_laid_out)

pub upper-requires : goal.upper-requires
upper-requires c = omega (
  arith,
  eqb-true _ 4 (has_four c.args.self.own.is_entry Span c.in-Span.is (c.fit.ensures ∙ entry_widths c.args.self.own.is_entry) c.args.self.own.is_laid_out),
)

pub operand_width-first-requires : goal.operand_width-first-requires
operand_width-first-requires c = has_looked c.args.self.own.is_entry Span c.in-Span.is (c.fit.ensures ∙ entry_widths c.args.self.own.is_entry)
