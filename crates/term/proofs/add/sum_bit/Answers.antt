-- `add::sum_bit` meets its contract.
use Rattle.std.proofs.Common.{arith}
use Rattle.std.proofs.lemmas.Result.{err_from_is_err_and}
use Rattle.meaning.specs.Step.{is_xor}
use Rattle.diagram.proofs.Laws.After.{after_known, lacks_more, lacks_then}
use Rattle.term.proofs.Laws.Levels.{xor_table}
use Rattle.term.proofs.Laws.Sum.{means_known, means_after, stepped, known_stepped, lacking, sum_made}
use Rattle.term.proofs.add.sum_bit.Goals as goal

pub returns-in_err-half : goal.returns-in_err-half
returns-in_err-half c n p q d le is_x is_y is_d =
    let lacks = lacking le 60 is_xor xor_table is_x is_y c.in_err-half.ensures in
    let e = err_from_is_err_and c.from_residual.result c.from_residual.ensures.1 in
    rw e.1 (lacks_more _ lacks)

pub step-requires-2-clause-ready : goal.step-requires-2-clause-ready
step-requires-2-clause-ready c =
    let known = c.requires.known in
    let half = known_stepped c.requires.ready 60 is_xor xor_table c.args.x c.args.y known.0 known.1.0 c.in_ok-half.ensures in
    half.after.ready

pub step-requires-2-clause-known : goal.step-requires-2-clause-known
step-requires-2-clause-known c =
    let known = c.requires.known in
    let half = known_stepped c.requires.ready 60 is_xor xor_table c.args.x c.args.y known.0 known.1.0 c.in_ok-half.ensures in
    (means_known half.means, (after_known half.after known.1.1, omega arith))

pub returns-in_err-sum : goal.returns-in_err-sum
returns-in_err-sum c n p q d le is_x is_y is_d =
    let half = stepped le 60 is_xor xor_table is_x is_y c.in_ok-half.ensures in
    let is_d' = means_after half.after is_d in
    let lacks = lacking le 60 is_xor xor_table half.means is_d' c.in_err-sum.ensures in
    let e = err_from_is_err_and c.from_residual-in_err-sum.result c.from_residual-in_err-sum.ensures.1 in
    rw e.1 (lacks_then half.after (lacks_more _ lacks))

pub returns : goal.returns
returns c n p q d le is_x is_y is_d =
    let half = stepped le 60 is_xor xor_table is_x is_y c.in_ok-half.ensures in
    let is_d' = means_after half.after is_d in
    let sum = stepped le 60 is_xor xor_table half.means is_d' c.in_ok-sum.ensures in
    sum_made p q d half sum
