-- A read more: its bytes lie behind those that came before.
use Rattle.std.proofs.Common.{rules, length, ◌-◌}
use Rattle.listing.proofs.Laws.Input.{take_read, consumes_both}
use Rattle.listing.proofs.input.read_full.Goals as goal

pub loop-n-preserved : goal.loop-n-preserved
loop-n-preserved g c =
    let more = c.in_ok-more.ensures in
    let before = c.loop-n.invariant in
    let taken = take_read _ _ (length c.loop-n.buffer - c.loop-n.n) _ _ before.inside more.bound.0 in
    record { inside = search rules; bytes = rw taken (consumes_both _ _ _ _ _ before.bytes more.bytes.0) }
