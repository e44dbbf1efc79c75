-- `before` is the definition's. The loop's invariant: what was counted, and what is left from entry j on, is the whole.
use Rattle.std.proofs.Common.{◌*◌, ◌≤◌}
use Rattle.sheet.proofs.Laws.Level.{Counted}
use Rattle.sheet.proofs.level.before.Given as goal

abbrev pub invariant-loop-j : goal.invariant-loop-j
invariant-loop-j l = (l.total ≤ 256 * l.j) × Counted l.s l.i l.b l.j-end l.total l.j
