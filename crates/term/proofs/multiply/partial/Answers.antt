-- `multiply::partial` meets its contract.
use Rattle.std.proofs.Common.{arith, length, rules, ◌≡◌}
use Rattle.std.proofs.lemmas.Result.{err_from_is_err_and}
use Rattle.term.proofs.Laws.Multiply.{parting, partial_known, partial_width, partial_lacks, partial_made}
use Rattle.term.proofs.multiply.partial.Goals as goal

pub work-requires-clause-known : goal.work-requires-clause-known
work-requires-clause-known c =
    let whole : length c.args.x.bits ≡ 32 = search rules in
    let low = c.low_part-low.ensures in
    let many = c.filled-many.ensures in
    let parted = parting c.requires.inside whole (low.width, low.places) (many.width, many.places) in
    partial_known parted c.requires.ready c.requires.known.0 c.requires.known.1

pub returns-in_err-made : goal.returns-in_err-made
returns-in_err-made c n r bit le is_x is_y =
    let whole : length c.args.x.bits ≡ 32 = search rules in
    let low = c.low_part-low.ensures in
    let many = c.filled-many.ensures in
    let parted = parting c.requires.inside whole (low.width, low.places) (many.width, many.places) in
    rw (err_from_is_err_and c.from_residual.result c.from_residual.ensures.1).1
    (partial_lacks parted c.work.new.t c.work.new.s c.in_err-made.field-0.0 c.in_err-made.ensures n r bit le is_x is_y)

pub placed-row-requires-clause-narrow : goal.placed-row-requires-clause-narrow
placed-row-requires-clause-narrow c =
    let whole : length c.args.x.bits ≡ 32 = search rules in
    let low = c.low_part-low.ensures in
    let many = c.filled-many.ensures in
    let parted = parting c.requires.inside whole (low.width, low.places) (many.width, many.places) in
    let wide =
    partial_width parted c.work.new.t c.work.new.s c.in_ok-made.made c.in_ok-made.ensures c.requires.ready c.requires.known.0
    c.requires.known.1 in
    let narrow = c.requires.known.0.narrow in
    (omega (arith, c.filled-zeros.ensures.width), omega arith)

pub placed-row-requires-clause-inside : goal.placed-row-requires-clause-inside
placed-row-requires-clause-inside c =
    let whole : length c.args.x.bits ≡ 32 = search rules in
    let low = c.low_part-low.ensures in
    let many = c.filled-many.ensures in
    let parted = parting c.requires.inside whole (low.width, low.places) (many.width, many.places) in
    let wide =
    partial_width parted c.work.new.t c.work.new.s c.in_ok-made.made c.in_ok-made.ensures c.requires.ready c.requires.known.0
    c.requires.known.1 in
    omega arith

pub returns : goal.returns
returns c =
    let whole : length c.args.x.bits ≡ 32 = search rules in
    let low = c.low_part-low.ensures in
    let many = c.filled-many.ensures in
    let parted = parting c.requires.inside whole (low.width, low.places) (many.width, many.places) in
    let whole_high : length c.in_ok-made.made.value.bits ≡ 32 = search rules in
    partial_made parted c.work.new.t c.work.new.s c.in_ok-made.made c.in_ok-made.ensures c.filled-zeros.result whole_high
    (c.filled-zeros.ensures.width, c.filled-zeros.ensures.places) (c.placed-row.ensures.width, c.placed-row.ensures.places)
