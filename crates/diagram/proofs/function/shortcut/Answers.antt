-- `shortcut` answers what it is asked: one law for constants and operands, one for a row.
use Rattle.std.proofs.Common.{◌<◌, rules}
use mathlib.Core.Path.{refl}
use mathlib.Core.Logic.{inl, inr}
use Rattle.diagram.specs.Function.{table_of}
use Rattle.diagram.proofs.Laws.Function.{answer_pick, answer_row}
use Rattle.diagram.proofs.Laws.Function.{first, second, third, never, always, is_a, is_b, is_c, is_0, is_1}
use Rattle.diagram.proofs.function.shortcut.Goals as goal

pub returns-in-0 : goal.returns-in-0
unfolding table_of
returns-in-0 c = answer_pick never is_0 (inl (search rules)) c.in-0.is refl

pub returns-in-255 : goal.returns-in-255
unfolding table_of
returns-in-255 c = answer_pick always is_1 (inl (search rules)) c.in-255.is refl

pub returns-in-240 : goal.returns-in-240
unfolding table_of
returns-in-240 c = answer_pick first is_a (inr (inl refl)) c.in-240.is refl

pub returns-in-204 : goal.returns-in-204
unfolding table_of
returns-in-204 c = answer_pick second is_b (inr (inr (inl refl))) c.in-204.is refl

pub returns-in-170 : goal.returns-in-170
unfolding table_of
returns-in-170 c = answer_pick third is_c (inr (inr (inr refl))) c.in-170.is refl

pub returns-then-is_terminal-3 : goal.returns-then-is_terminal-3
returns-then-is_terminal-3 c =
    let a : c.args.q.a < 2 = search rules in
    let b : c.args.q.b < 2 = search rules in
    let d : c.args.q.c < 2 = search rules in
    rw (c.new.ensures, c.number.ensures, c.number-then-is_terminal-3.ensures, c.number-then-is_terminal-3-2.ensures)
    (answer_row c.args.q a b d)
