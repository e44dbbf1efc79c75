-- A variable's levels are among the sheet's.
use Rattle.sheet.proofs.Laws.Passed.{passed_level}
use Rattle.sheet.proofs.checked.CheckedEntry.level.Goals as goal

pub returns-clause-below : goal.returns-clause-below
returns-clause-below c =
    rw c.level.ensures (passed_level c.args.self.sheet.passed c.args.self.is_entry c.args.bit c.requires)
