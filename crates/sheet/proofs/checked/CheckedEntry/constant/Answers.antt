-- A constant's body is four bytes long.
use Rattle.sheet.proofs.Laws.Check.{checked_laid}
use Rattle.sheet.proofs.Laws.Sheet.{constant_long}
use Rattle.sheet.proofs.checked.CheckedEntry.constant.Goals as goal

pub constant-requires : goal.constant-requires
constant-requires c = constant_long (checked_laid _ c.args.self.sheet.passed) c.args.self.is_entry c.requires
