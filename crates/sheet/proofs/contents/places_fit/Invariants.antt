-- `places_fit` is the definition's. The loop's invariant: what is left from body i on decides the whole.
use Rattle.std.proofs.Common.{◌+◌, ◌-◌, ◌*◌, ◌≤◌, ◌≡◌}
use Rattle.meaning.specs.Sheet.{record_at}
use Rattle.meaning.specs.Check.{places_fit}
use Rattle.sheet.proofs.contents.places_fit.Given as goal

abbrev pub invariant-loop-i : goal.invariant-loop-i
invariant-loop-i l =
    (l.at ≤ 1026 + 256 * l.i) × (places_fit l.s 0 l.n (record_at l.n) ≡ places_fit l.s l.i (l.n - l.i) l.at)
