-- The loop of `variable`: the nodes of the first bits are made.
use Rattle.entry.proofs.Laws.Levels.{Growing}
use Rattle.entry.proofs.value.variable.Given as goal

abbrev pub invariant-loop-bit : goal.invariant-loop-bit
invariant-loop-bit l =
    Growing l.entry.sheet.bytes.now l.entry.index l.initial.t l.initial.at l.bit l.t l.s l.at l.bits
