-- `own_widths` is the definition's. The loop's invariant: what is left from operand k on decides the whole.
use Rattle.meaning.specs.Sheet.{rule_at, entry_at, entries}
use Rattle.sheet.specs.Entry.{own_widths_at}
use Rattle.sheet.proofs.Laws.Operands.{Left}
use Rattle.sheet.proofs.Laws.Widths.{owns_at}
use Rattle.sheet.proofs.widths.Fitted.own_widths.Given as goal

abbrev pub invariant-loop-k : goal.invariant-loop-k
invariant-loop-k l =
    let s = l.self.own.bytes.now in
    let i = l.self.own.index in
    Left (owns_at (entries s) (entry_at s i)) (rule_at s i).operands l.k (own_widths_at s i)
