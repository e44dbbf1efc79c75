-- `bitwise::choose_bit` meets its contract, by a law for each path.
use Rattle.term.proofs.Laws.Bit.{equal, unequal, quiet, choose_same, choose_apart, choose_chosen}
use Rattle.term.proofs.bitwise.choose_bit.Goals as goal

pub returns-then-eq : goal.returns-then-eq
returns-then-eq c n must may p q le is_m is_k is_x is_y =
    rw c.still.ensures
    (quiet c.requires.ready
    (choose_same c.requires.ready n _ _ must may is_m is_k _ _ p q is_x is_y (equal c.if-eq.ensures)))

pub returns-then-eq-2 : goal.returns-then-eq-2
returns-then-eq-2 c n must may p q le is_m is_k is_x is_y =
    rw (choose_chosen c.requires.ready n _ _ must may is_m is_k _ _ p q is_x is_y (unequal c.if-eq.ensures)
    (equal c.if-eq-2.ensures))
    (c.chosen.ensures n must p q le is_m is_x is_y)

pub returns : goal.returns
returns c n must may p q le is_m is_k is_x is_y =
    rw c.still-2.ensures
    (quiet c.requires.ready
    (choose_apart c.requires.ready n _ _ must may is_m is_k _ _ p q is_x is_y (unequal c.if-eq.ensures)
    (unequal c.if-eq-2.ensures)))
