-- An operand of a checked sheet's entry is an entry below it.
use Rattle.std.proofs.Common.{arith}
use Rattle.sheet.proofs.Laws.Check.{checked_laid}
use Rattle.sheet.proofs.Laws.Sheet.{entry_operand}
use Rattle.sheet.proofs.Laws.Passed.{operand_below}
use Rattle.sheet.proofs.checked.CheckedEntry.operand.Goals as goal

pub operand-requires : goal.operand-requires
operand-requires c =
    omega (arith, entry_operand (checked_laid _ c.args.self.sheet.passed) c.args.self.is_entry c.args.k c.requires)

pub entry-requires : goal.entry-requires
entry-requires c = omega (
  arith,
  operand_below c.args.self.sheet.passed c.args.self.is_entry c.args.k c.operand.result c.requires c.operand.ensures.value,
  c.args.self.is_entry.inside,
)

pub returns-clause-below : goal.returns-clause-below
returns-clause-below c = omega (
  arith,
  operand_below c.args.self.sheet.passed c.args.self.is_entry c.args.k c.operand.result c.requires c.operand.ensures.value,
  c.entry.ensures.index,
)
