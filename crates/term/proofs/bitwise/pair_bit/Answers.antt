-- `bitwise::pair_bit` meets its contract, by a law for each path.
use Rattle.term.proofs.Laws.Bit.{equal, unequal, quiet, stepped, pair_left, pair_right, pair_known}
use Rattle.term.proofs.bitwise.pair_bit.Goals as goal

pub returns-then-eq : goal.returns-then-eq
returns-then-eq c n p q le is_x is_y =
    rw (c.still.ensures, c.decided.ensures)
    (quiet c.requires.ready (pair_left c.requires.ready n _ _ _ _ p q is_x is_y (equal c.if-eq.ensures)))

pub returns-then-eq-2 : goal.returns-then-eq-2
returns-then-eq-2 c n p q le is_x is_y =
    rw (c.still-then-eq-2.ensures, c.decided-then-eq-2.ensures)
    (quiet c.requires.ready
    (pair_right c.requires.ready n _ _ _ _ p q is_x is_y (unequal c.if-eq.ensures) (equal c.if-eq-2.ensures)))

pub returns : goal.returns
returns c n p q le is_x is_y =
    stepped _ _ _ le
    (pair_known c.requires.ready n _ c.args.decider _ _ p q is_x is_y (unequal c.if-eq.ensures)
    (unequal c.if-eq-2.ensures))
    c.step.ensures
