-- `bitwise::chosen` meets its contract, by a law for each path.
use Rattle.term.proofs.Laws.Bit.{equal, unequal, quiet, stepped}
use Rattle.term.proofs.Laws.Bit.{chosen_true, chosen_false, chosen_left, chosen_right, chosen_known}
use Rattle.term.proofs.bitwise.chosen.Goals as goal

pub returns-then-eq : goal.returns-then-eq
returns-then-eq c n d p q le is_d is_x is_y =
    rw c.still.ensures
    (quiet c.requires.ready (chosen_true c.requires.ready n _ d is_d _ _ p q is_x is_y (equal c.if-eq.ensures)))

pub returns-then-eq-2 : goal.returns-then-eq-2
returns-then-eq-2 c n d p q le is_d is_x is_y =
    rw c.still-then-eq-2.ensures
    (quiet c.requires.ready (chosen_false c.requires.ready n _ d is_d _ _ p q is_x is_y (equal c.if-eq-2.ensures)))

pub returns-then-eq-3 : goal.returns-then-eq-3
returns-then-eq-3 c n d p q le is_d is_x is_y =
    rw c.still-then-eq-3.ensures
    (quiet c.requires.ready
    (chosen_left c.requires.ready n _ d is_d _ _ p q is_x is_y (unequal c.if-eq.ensures)
    (unequal c.if-eq-2.ensures) (equal c.if-eq-3.ensures)))

pub returns-then-eq-4 : goal.returns-then-eq-4
returns-then-eq-4 c n d p q le is_d is_x is_y =
    rw c.still-then-eq-4.ensures
    (quiet c.requires.ready
    (chosen_right c.requires.ready n _ d is_d _ _ p q is_x is_y (unequal c.if-eq.ensures)
    (unequal c.if-eq-2.ensures) (unequal c.if-eq-3.ensures) (equal c.if-eq-4.ensures)))

pub returns : goal.returns
returns c n d p q le is_d is_x is_y =
    stepped _ _ _ le
    (chosen_known c.requires.ready n _ d is_d _ _ p q is_x is_y (unequal c.if-eq.ensures)
    (unequal c.if-eq-2.ensures) (unequal c.if-eq-3.ensures) (unequal c.if-eq-4.ensures))
    c.step.ensures
