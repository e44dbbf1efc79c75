-- `entries_refusal` is the definition's. The loop's invariant: what is left from entry i on decides the whole.
use Rattle.sheet.proofs.Laws.Check.{Refused}
use Rattle.sheet.proofs.check.entries_refusal.Given as goal

abbrev pub invariant-loop-i : goal.invariant-loop-i
invariant-loop-i l = Refused l.sheet.bytes.now l.i-end l.i
