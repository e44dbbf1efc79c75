-- `shorten` asks the same: each of nine rewritings of the table does, and an operand becomes 0 only if it isn't looked at.
use Rattle.std.proofs.Common.{arith, rules}
use Rattle.diagram.proofs.Laws.Function.{all_equal, shorter}
use Rattle.diagram.proofs.function.shorten.Goals as goal

pub overflow_cast-result : goal.overflow_cast-result
overflow_cast-result c =
    let same =
    all_equal {q = c.args.q} (omega arith) c.equal-f.ensures c.equal-f-2.ensures c.equal-f-3.ensures c.equal-f-4.ensures
    c.equal-f-5.ensures c.equal-f-6.ensures c.equal-f-7.ensures c.equal-f-8.ensures c.equal-f-9.ensures in
    search rules

pub returns : goal.returns
returns c =
    let same =
    all_equal {q = c.args.q} (omega arith) c.equal-f.ensures c.equal-f-2.ensures c.equal-f-3.ensures c.equal-f-4.ensures
    c.equal-f-5.ensures c.equal-f-6.ensures c.equal-f-7.ensures c.equal-f-8.ensures c.equal-f-9.ensures in
    shorter same c.kept.ensures c.kept-2.ensures c.kept-3.ensures
