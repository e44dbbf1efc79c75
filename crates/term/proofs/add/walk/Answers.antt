-- `add::walk` meets its contract, by a law for each step of the loop.
use Rattle.std.proofs.Common.{arith, ◌≡◌}
use Rattle.term.proofs.Laws.Count.{told_few, walk_start, walk_next, told_counted, visit_room}
use Rattle.term.proofs.add.walk.Goals as goal

pub returns-then-b-limit : goal.returns-then-b-limit
returns-then-b-limit c = told_few c.requires.countable c.if-b-limit.true

pub loop-i-init : goal.loop-i-init
loop-i-init c = walk_start c.requires.countable c.clear.ensures

pub visit-nodes-requires : goal.visit-nodes-requires
visit-nodes-requires c = rw c.new.ensures (visit_room c.requires.countable c.loop-i-test.true c.loop-i.marks.enough)

pub loop-i-preserved : goal.loop-i-preserved
loop-i-preserved c =
    walk_next c.requires.countable.laid.single c.loop-i.invariant c.loop-i-test.true (rw c.new.ensures at c.visit-nodes.ensures)

pub returns : goal.returns
returns c =
    let end : c.loop-i.i ≡ c.args.k = omega (arith, c.loop-i.invariant.inside) in
    told_counted (rw end at c.loop-i.invariant)
