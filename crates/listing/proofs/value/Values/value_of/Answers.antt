-- `value_of` is the definition's: one bit more fits too.
use Rattle.std.proofs.Common.{arith, refl}
use Rattle.listing.proofs.Laws.Value.{summed_more, summed_small, bits_narrow}
use Rattle.listing.proofs.value.Values.value_of.Goals as goal

pub overflow_mul-value : goal.overflow_mul-value
overflow_mul-value c =
    let more = summed_more c.loop-b.invariant _ c.loop-b-test.true refl in
    let narrow = bits_narrow c.args.self.is_laid_out _ c.requires.inside in
    omega (arith, summed_small more (omega (arith, c.bits_of-b.ensures)))

pub overflow_add-value : goal.overflow_add-value
overflow_add-value c =
    let more = summed_more c.loop-b.invariant _ c.loop-b-test.true c.bit.ensures in
    let narrow = bits_narrow c.args.self.is_laid_out _ c.requires.inside in
    omega (arith, summed_small more (omega (arith, c.bits_of-b.ensures)))
