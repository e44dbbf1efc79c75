-- `value::walk` meets its contract.
use Prim.Native.Nat.{◌≤◌, ◌<◌}
use native.Mathlib.Omega.{arith}
use Rattle.lent.proofs.Laws.Value.{way_start, way_next, way_done}
use Rattle.lent.proofs.value.walk.Goals as goal

pub loop-at-init : goal.loop-at-init
loop-at-init c = way_start c.args.t.now c.args.n c.args.a.now c.requires.follows

pub loop-at-preserved : goal.loop-at-preserved
loop-at-preserved c =
    let big : 2 ≤ c.loop-at.at = grind arith in
    way_next c.loop-at.invariant (record {
      big = big;
      place = c.slot_of.ensures;
      here = c.node_at-node.ensures;
      chosen = c.chosen-at.ensures;
    })

pub returns : goal.returns
returns c =
    let small : c.loop-at.at < 2 = grind arith in
    rw c.eq.ensures (way_done c.loop-at.invariant small)
