-- `kinds_fit` is the definition's. The loop's invariant: what is left from record i on decides the whole.
use Rattle.std.proofs.Common.{◌-◌, ◌≡◌}
use Rattle.meaning.specs.Check.{kinds_fit}
use Rattle.sheet.proofs.contents.kinds_fit.Given as goal

abbrev pub invariant-loop-i : goal.invariant-loop-i
invariant-loop-i l = kinds_fit l.s 0 l.n ≡ kinds_fit l.s l.i (l.n - l.i)
