-- The loop of `levels_of`: the levels of the first bits are read.
use Rattle.std.proofs.Common.{◌≡◌, ◌<◌, ℕ}
use lib.ListN.{length, get_or}
use Rattle.meaning.specs.Sheet.{entries}
use Rattle.meaning.specs.Level.{level}
use Rattle.entry.proofs.value.levels_of.Given as goal

abbrev pub invariant-loop-bit : goal.invariant-loop-bit
invariant-loop-bit l =
    (length l.levels ≡ 32)
    × ((k : ℕ) → k < l.bit → get_or l.levels k 0 ≡ level (entries l.variable.sheet.bytes.now) l.variable.index k)
