-- A variable of a checked sheet is at most 32 bits wide.
use Rattle.sheet.proofs.Laws.Passed.{passed_bits}
use Rattle.sheet.proofs.checked.CheckedEntry.bits.Goals as goal

pub returns-clause-few : goal.returns-clause-few
returns-clause-few c = passed_bits c.args.self.sheet.passed c.args.self.is_entry c.bits.ensures
