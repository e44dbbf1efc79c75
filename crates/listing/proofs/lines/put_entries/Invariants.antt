-- The loop's invariant: what stands there, with the lines from entry i on, is the whole; each line has at most 34 bytes.
use Rattle.std.proofs.Common.{◌+◌, ◌*◌, ◌≤◌, length}
use Rattle.listing.proofs.Laws.Entry.{Going}
use Rattle.listing.proofs.lines.put_entries.Given as goal

abbrev pub invariant-loop-i : goal.invariant-loop-i
invariant-loop-i g l = record {
  going : Going l.values.sheet.now l.values.assignment.now l.i-end l.initial.page l.page l.i;
  short : length l.page ≤ length l.initial.page + 34 * l.i;
}
