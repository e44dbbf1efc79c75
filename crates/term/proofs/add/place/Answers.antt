-- `add::place` meets its contract, by a law for each path.
use Rattle.std.proofs.Common.{rules}
use Rattle.std.proofs.lemmas.Result.{err_from_is_err_and}
use Rattle.term.proofs.Laws.Bit.{equal, unequal}
use Rattle.term.proofs.Laws.OnePlace.{place_left, place_right, place_lacks, place_over, place_on, carry_lacks}
use Rattle.term.proofs.Laws.OnePlace.{place_countable, place_ready, place_known, place_tallies}
use Rattle.term.proofs.add.place.Goals as goal

-- an operand bit is unknown
pub returns-then-eq-clause-place : goal.returns-then-eq-clause-place
returns-then-eq-clause-place c =
    place_left c.args.limit c.requires.summing c.args.x c.args.y c.args.top (equal c.if-eq.ensures)

pub returns-then-eq-2-clause-place : goal.returns-then-eq-2-clause-place
returns-then-eq-2-clause-place c =
    place_right c.args.limit c.requires.summing c.args.x c.args.y c.args.top (equal c.if-eq-2.ensures)

-- the sum bit lacks room
pub returns-in_err-made-clause-place : goal.returns-in_err-made-clause-place
returns-in_err-made-clause-place c =
    rw (err_from_is_err_and c.from_residual.result c.from_residual.ensures.1).1
    (place_lacks c.args.limit c.requires.summing c.args.x c.args.y c.args.top (unequal c.if-eq.ensures) (unequal c.if-eq-2.ensures)
    c.sum_bit.new.t c.sum_bit.new.s c.in_err-made.field-0.0 c.in_err-made.ensures)

pub walk-tally-requires : goal.walk-tally-requires
walk-tally-requires c =
    let countable =
    place_countable c.args.limit c.requires.summing c.args.x c.args.y c.args.top (unequal c.if-eq.ensures)
    (unequal c.if-eq-2.ensures) c.sum_bit.new.t c.sum_bit.new.s c.in_ok-made.made c.in_ok-made.ensures (search rules) c.requires.known in
    record { countable = rw c.number.ensures countable }

-- too many nodes
pub returns-then-too_many-clause-place : goal.returns-then-too_many-clause-place
returns-then-too_many-clause-place c =
    place_over c.args.limit c.requires.summing c.args.x c.args.y c.args.top (unequal c.if-eq.ensures) (unequal c.if-eq-2.ensures)
    c.sum_bit.new.t c.sum_bit.new.s c.in_ok-made.made c.in_ok-made.ensures (search rules) (rw c.number.ensures at c.walk-tally.ensures)
    c.if-too_many.true

pub carry_bit-requires-clause-ready : goal.carry_bit-requires-clause-ready
carry_bit-requires-clause-ready c =
    place_ready c.args.limit c.requires.summing c.args.x c.args.y c.args.top (unequal c.if-eq.ensures) (unequal c.if-eq-2.ensures)
    c.sum_bit.new.t c.sum_bit.new.s c.in_ok-made.made c.in_ok-made.ensures (search rules) c.requires.known

pub carry_bit-requires-clause-known : goal.carry_bit-requires-clause-known
carry_bit-requires-clause-known c =
    place_known c.args.limit c.requires.summing c.args.x c.args.y c.args.top (unequal c.if-eq.ensures) (unequal c.if-eq-2.ensures)
    c.sum_bit.new.t c.sum_bit.new.s c.in_ok-made.made c.in_ok-made.ensures (search rules) c.requires.known

-- the next carry lacks room
pub returns-in_err-next-clause-place : goal.returns-in_err-next-clause-place
returns-in_err-next-clause-place c =
    rw (err_from_is_err_and c.from_residual-in_err-next.result c.from_residual-in_err-next.ensures.1).1
    (carry_lacks c.args.limit c.requires.summing c.args.x c.args.y c.args.top (unequal c.if-eq.ensures) (unequal c.if-eq-2.ensures)
    c.sum_bit.new.t c.sum_bit.new.s c.in_ok-made.made c.in_ok-made.ensures (search rules) (rw c.number.ensures at c.walk-tally.ensures)
    c.if-too_many.false c.carry_bit.new.t c.carry_bit.new.s c.in_err-next.field-0.0 c.in_err-next.ensures)

-- the bit is kept
pub returns-clause-place : goal.returns-clause-place
returns-clause-place c =
    rw c.number.ensures
    (place_on c.args.limit c.requires.summing c.args.x c.args.y c.args.top (unequal c.if-eq.ensures) (unequal c.if-eq-2.ensures)
    c.sum_bit.new.t c.sum_bit.new.s c.in_ok-made.made c.in_ok-made.ensures (search rules) (rw c.number.ensures at c.walk-tally.ensures)
    c.if-too_many.false c.carry_bit.new.t c.carry_bit.new.s c.in_ok-next.next c.in_ok-next.ensures)

pub returns-clause-tally : goal.returns-clause-tally
returns-clause-tally c =
    rw c.number.ensures
    (place_tallies c.args.limit c.requires.summing c.args.x c.args.y c.args.top (unequal c.if-eq.ensures)
    (unequal c.if-eq-2.ensures) c.sum_bit.new.t c.sum_bit.new.s c.in_ok-made.made c.in_ok-made.ensures (search rules) c.requires.known
    c.in_ok-next.next c.carry_bit.new.t c.carry_bit.new.s c.in_ok-next.ensures
    (rw c.number.ensures at (c.walk-tally.ensures.tallies c.if-too_many.false)))
