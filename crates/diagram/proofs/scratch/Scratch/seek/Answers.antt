-- `seek` meets its contract, by the laws of a walk along a chain.
use Rattle.std.proofs.Common.{arith}
use Rattle.diagram.proofs.Laws.Index.{walk_start, walk_next, walk_slot, walk_found, walk_miss}
use Rattle.diagram.proofs.scratch.Scratch.seek.Goals as goal

pub loop-at-init : goal.loop-at-init
loop-at-init c =
    walk_start _ _ _ _ c.requires.ready.right.indexed _ (c.home-home.ensures.inside (omega (arith, c.if-covered-eq0.false)))
    c.home-home.ensures.place

pub node_at-requires : goal.node_at-requires
node_at-requires c = walk_slot _ _ _ _ _ c.loop-at.invariant c.loop-at-test.true c.requires.ready.room

pub returns-then-eq : goal.returns-then-eq
returns-then-eq c =
    walk_found _ _ _ _ _ c.loop-at.invariant c.loop-at-test.true _ _ c.node_at.ensures c.eq.ensures
    c.requires.ready.single c.if-eq.true

pub loop-at-preserved : goal.loop-at-preserved
loop-at-preserved c =
    walk_next _ _ _ _ c.requires.ready.right.indexed _ c.loop-at-test.true c.loop-at.invariant
    (walk_miss _ _ _ _ _ c.loop-at.invariant c.loop-at-test.true _ _ c.node_at.ensures c.eq.ensures c.if-eq.false)
