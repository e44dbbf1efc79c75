-- `scan` meets its contract. The invariant: no slot before k holds the node.
use Rattle.diagram.specs.Table.{nodes_of, slot_as}
use Rattle.diagram.specs.Scratch.{Passed}
use Rattle.diagram.proofs.scratch.Scratch.scan.Given as goal

abbrev pub invariant-loop-k : goal.invariant-loop-k
invariant-loop-k l = Passed (nodes_of l.t l.used) l.k (slot_as l.node)
