-- `levels_of` meets its contract.
use native.Mathlib.Omega.{arith}
use Rattle.entry.proofs.Laws.Levels.{levels_read}
use Rattle.entry.proofs.value.levels_of.Goals as goal

pub returns-clause-levels : goal.returns-clause-levels
returns-clause-levels c =
    levels_read c.loop-bit.levels c.bits-count.ensures.value
    (omega (arith, c.loop-bit.invariant.0, c.bits-count.ensures.few))
    (λ k below. c.loop-bit.invariant.1 k (omega (arith, c.loop-bit-test.false)))
