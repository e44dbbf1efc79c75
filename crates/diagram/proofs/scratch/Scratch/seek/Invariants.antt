-- `seek` meets its contract. The invariant: `at` names a slot of the node's chain, or none, and no slot that has a link holds the
-- node from there on. The measure is `at`: a chain runs to ever lower slots.
use Rattle.diagram.specs.Table.{nodes_of, slot_as}
use Rattle.diagram.proofs.Laws.Index.{Walks}
use Rattle.diagram.proofs.scratch.Scratch.seek.Given as goal

abbrev pub invariant-loop-at : goal.invariant-loop-at
invariant-loop-at l = Walks (nodes_of l.t l.used) l.covered (slot_as l.node) l.at

abbrev pub decreases-loop-at : goal.decreases-loop-at
decreases-loop-at l = l.at
