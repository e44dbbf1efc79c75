-- A shift's body is three bytes long.
use Rattle.std.proofs.Common.{arith}
use Rattle.sheet.proofs.Laws.Check.{checked_laid}
use Rattle.sheet.proofs.Laws.Sheet.{shift_long}
use Rattle.sheet.proofs.checked.CheckedEntry.amount.Goals as goal

pub amount-requires : goal.amount-requires
amount-requires c =
    omega (arith, shift_long (checked_laid _ c.args.self.sheet.passed) c.args.self.is_entry c.requires)
