-- `multiply::negate` meets its contract.
use Rattle.std.proofs.lemmas.Result.{err_from_is_err_and}
use Rattle.term.proofs.Laws.Multiply.{negate_lacks, negate_addable, negated}
use Rattle.term.proofs.multiply.negate.Goals as goal

pub returns-in_err-flipped : goal.returns-in_err-flipped
returns-in_err-flipped c n r le is =
    rw (err_from_is_err_and c.from_residual.result c.from_residual.ensures.1).1
    (negate_lacks c.args.limit c.requires.addable c.work.new.t c.work.new.s c.in_err-flipped.field-0.0 c.in_err-flipped.ensures n r le is)

pub add-requires : goal.add-requires
add-requires c =
    let addable =
    negate_addable c.args.limit c.requires.addable c.work.new.t c.work.new.s c.in_ok-flipped.flipped c.in_ok-flipped.ensures
    c.constant.result (c.constant.ensures.width, c.constant.ensures.places) in
    record { addable = addable }

pub returns : goal.returns
returns c =
    negated c.args.limit c.requires.addable c.work.new.t c.work.new.s c.in_ok-flipped.flipped c.in_ok-flipped.ensures c.constant.result
    (c.constant.ensures.width, c.constant.ensures.places) c.add.new.t c.add.new.s c.add.result c.add.ensures
