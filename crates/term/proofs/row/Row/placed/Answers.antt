-- `Row::placed` meets its contract.
use Rattle.std.proofs.Common.{arith, length, rules, ◌≡◌, ◌≤◌, ◌+◌, ◌-◌, take, drop, sym}
use Rattle.std.proofs.lemmas.Slice.{put_mid-paste}
use Rattle.std.proofs.lemmas.List.{length-take-le, length-drop}
use Rattle.term.proofs.Laws.Places.{put_in}
use Rattle.term.proofs.row.Row.placed.Goals as goal

pub returns-clause-places : goal.returns-clause-places
returns-clause-places c =
    let long : length c.args.self.bits ≡ 32 = search rules in
    let long_of : length c.args.of.bits ≡ 32 = search rules in
    let many : c.args.from + c.args.count - c.args.from ≡ c.args.count = omega arith in
    let left : c.args.count ≤ length (drop c.args.from c.args.of.bits) =
    rw (length-drop c.args.from c.args.of.bits) (omega (arith, c.requires.narrow, c.requires.inside)) in
    let part : length (take c.args.count (drop c.args.from c.args.of.bits)) ≡ c.args.count = length-take-le _ _ left in
    put_in c.args.self.bits c.args.of.bits _ c.args.at _ c.args.from _ c.args.count
    (put_mid-paste _ _ _ _ _ _ (rw many at c.copy_from_slice.ensures.after) (omega arith) (sym part)) long long_of
    c.requires.narrow.0 c.requires.narrow.1 c.requires.fits c.requires.inside
