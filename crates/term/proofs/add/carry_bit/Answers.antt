-- `add::carry_bit` meets its contract.
use Rattle.std.proofs.Common.{arith}
use Rattle.std.proofs.lemmas.Result.{err_from_is_err_and}
use Rattle.meaning.specs.Step.{is_and, is_or}
use Rattle.diagram.proofs.Laws.After.{after_known, lacks_more, lacks_then, works_done}
use Rattle.term.proofs.Laws.Levels.{and_table, or_table}
use Rattle.term.proofs.Laws.Sum.{means_known, means_after, stepped, known_stepped, works_stepped, lacking}
use Rattle.term.proofs.Laws.Sum.{carry_none, carry_is, carry_made}
use Rattle.term.proofs.add.carry_bit.Goals as goal

pub returns-then-top : goal.returns-then-top
returns-then-top c n h p q d rest le top is_h is_x is_y is_d =
    rw (carry_none n h p q d rest top c.if-top.true) (works_done c.requires.ready is_d)

pub returns-in_err-made : goal.returns-in_err-made
returns-in_err-made c n h p q d rest le top is_h is_x is_y is_d =
    let lacks = lacking le 192 is_and and_table is_x is_y c.in_err-made.ensures in
    let e = err_from_is_err_and c.from_residual.result c.from_residual.ensures.1 in
    rw (e.1, carry_is n h p q d rest top c.if-top.false) (lacks_more _ lacks)

pub step-requires-2-clause-ready : goal.step-requires-2-clause-ready
step-requires-2-clause-ready c =
    let known = c.requires.known.1 in
    let made = known_stepped c.requires.ready 192 is_and and_table c.args.x c.args.y known.0 known.1.0 c.in_ok-made.ensures in
    made.after.ready

pub step-requires-2-clause-known : goal.step-requires-2-clause-known
step-requires-2-clause-known c =
    let known = c.requires.known.1 in
    let made = known_stepped c.requires.ready 192 is_and and_table c.args.x c.args.y known.0 known.1.0 c.in_ok-made.ensures in
    let half = after_known made.after c.requires.known.0 in
    (half, (after_known made.after known.1.1, omega arith))

pub returns-in_err-passed : goal.returns-in_err-passed
returns-in_err-passed c n h p q d rest le top is_h is_x is_y is_d =
    let made = stepped le 192 is_and and_table is_x is_y c.in_ok-made.ensures in
    let is_h' = means_after made.after is_h in
    let is_d' = means_after made.after is_d in
    let lacks = lacking le 192 is_and and_table is_h' is_d' c.in_err-passed.ensures in
    let e = err_from_is_err_and c.from_residual-in_err-passed.result c.from_residual-in_err-passed.ensures.1 in
    rw (e.1, carry_is n h p q d rest top c.if-top.false) (lacks_then made.after (lacks_more _ lacks))

pub step-requires-3-clause-ready : goal.step-requires-3-clause-ready
step-requires-3-clause-ready c =
    let known = c.requires.known.1 in
    let made = known_stepped c.requires.ready 192 is_and and_table c.args.x c.args.y known.0 known.1.0 c.in_ok-made.ensures in
    let half = after_known made.after c.requires.known.0 in
    let carry = after_known made.after known.1.1 in
    let passed = known_stepped made.after.ready 192 is_and and_table c.args.half c.args.carry half carry c.in_ok-passed.ensures in
    passed.after.ready

pub step-requires-3-clause-known : goal.step-requires-3-clause-known
step-requires-3-clause-known c =
    let known = c.requires.known.1 in
    let made = known_stepped c.requires.ready 192 is_and and_table c.args.x c.args.y known.0 known.1.0 c.in_ok-made.ensures in
    let half = after_known made.after c.requires.known.0 in
    let carry = after_known made.after known.1.1 in
    let passed = known_stepped made.after.ready 192 is_and and_table c.args.half c.args.carry half carry c.in_ok-passed.ensures in
    (after_known passed.after (means_known made.means), (means_known passed.means, omega arith))

pub returns : goal.returns
returns c n h p q d rest le top is_h is_x is_y is_d =
    let made = stepped le 192 is_and and_table is_x is_y c.in_ok-made.ensures in
    let is_h' = means_after made.after is_h in
    let is_d' = means_after made.after is_d in
    let passed = stepped le 192 is_and and_table is_h' is_d' c.in_ok-passed.ensures in
    let is_g = means_after passed.after made.means in
    let last = works_stepped le 252 is_or or_table is_g passed.means _ _ _ c.step-3.ensures in
    rw (carry_is n h p q d rest top c.if-top.false) (carry_made h p q d _ _ _ made passed last)
