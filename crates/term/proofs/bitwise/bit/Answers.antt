-- `bitwise::bit` meets its contract. An arm knows its operation; and, or and xor are a pair's work by their truth tables
-- and deciding terminals.
use Rattle.meaning.specs.Step.{is_and, is_or, is_xor}
use Rattle.term.proofs.Laws.Levels.{table_function, and_table, or_table, xor_table}
use Rattle.term.proofs.Laws.Bit.{equal, unequal, quiet, stepped, not_unknown, not_known}
use Rattle.term.proofs.bitwise.bit.Goals as goal

pub returns-then-eq : goal.returns-then-eq
returns-then-eq c n must may p q le under is_x is_y =
    rw (c.in-Not.is, c.still.ensures)
    (quiet c.requires.ready (not_unknown c.requires.ready n _ p is_x (equal c.if-eq.ensures)))

pub returns-else-eq : goal.returns-else-eq
returns-else-eq c n must may p q le under is_x is_y =
    rw c.in-Not.is (stepped _ _ _ le (not_known c.requires.ready n _ p is_x (unequal c.if-eq.ensures)) c.step.ensures)

pub returns-in-And : goal.returns-in-And
returns-in-And c n must may p q le under is_x is_y =
    rw c.in-And.is (rw (table_function 192 is_and and_table) at (c.pair_bit.ensures n p q le is_x is_y))

pub returns-in-Or : goal.returns-in-Or
returns-in-Or c n must may p q le under is_x is_y =
    rw c.in-Or.is (rw (table_function 252 is_or or_table) at (c.pair_bit-in-Or.ensures n p q le is_x is_y))

pub returns-in-Xor : goal.returns-in-Xor
returns-in-Xor c n must may p q le under is_x is_y =
    rw c.in-Xor.is (rw (table_function 60 is_xor xor_table) at (c.pair_bit-in-Xor.ensures n p q le is_x is_y))
