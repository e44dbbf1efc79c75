-- `operand_fits` is the definition's test of one operand; an operand of an unknown kind is of neither sort.
use Rattle.std.proofs.Common.{refl, sym, ap, ◌∙◌}
use Rattle.meaning.specs.Kind.{Rule, rule_of}
use Rattle.sheet.proofs.Laws.Sheet.{entry_operand}
use Rattle.sheet.proofs.Laws.Operands.{operand_early, need_is, suits_neither}
use Rattle.sheet.proofs.sheet.Placed.operand_fits.Goals as goal

pub operand-j-requires : goal.operand-j-requires
operand-j-requires c = entry_operand c.args.self.is_laid_out c.args.self.is_entry c.args.k c.requires

pub returns-in-Some : goal.returns-in-Some
returns-in-Some c =
    operand_early c.args.self.is_entry c.args.k c.operand-j.ensures.value c.if-not-below.false
    (need_is c.args.self.is_entry c.args.k c.need.ensures c.unwrap.ensures)
    (ap (λ (r : Rule). r.sort) (c.rule.ensures ∙ ap rule_of c.in-Some.ensures)) c.suits.ensures

pub returns-in-None : goal.returns-in-None
returns-in-None c =
    operand_early c.args.self.is_entry c.args.k c.operand-j.ensures.value c.if-not-below.false refl
    (sym (ap (λ (r : Rule). r.sort) c.in-None.ensures)) (suits_neither _)
