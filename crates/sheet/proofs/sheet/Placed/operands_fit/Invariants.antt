-- `operands_fit` is the definition's. The loop's invariant: what is left from operand k on decides the whole.
use Rattle.meaning.specs.Sheet.{rule_at, entry_at, entries}
use Rattle.sheet.specs.Entry.{operands_fit_at}
use Rattle.sheet.proofs.Laws.Operands.{Left, fits_at}
use Rattle.sheet.proofs.sheet.Placed.operands_fit.Given as goal

abbrev pub invariant-loop-k : goal.invariant-loop-k
invariant-loop-k l =
    let s = l.self.bytes.now in
    let i = l.self.index in
    Left (fits_at (entries s) i (entry_at s i)) (rule_at s i).operands l.k (operands_fit_at s i)
