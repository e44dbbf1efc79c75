use Rattle.diagram.proofs.Laws.Index.{scan_found}
use Rattle.diagram.proofs.scratch.Scratch.scan.Goals as goal

pub returns-then-eq : goal.returns-then-eq
returns-then-eq c =
    scan_found _ _ _ _ _ _ c.loop-k.invariant c.loop-k-test.true c.node_at.ensures c.eq.ensures c.if-eq.true
