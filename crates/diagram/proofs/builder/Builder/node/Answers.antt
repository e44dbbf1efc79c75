-- `Builder::node` meets its contract, by a law for each path.
use borrow.Author.Tests.{eqb-true, eqb-false}
use Rattle.std.proofs.Common.{sym}
use Rattle.diagram.proofs.Laws.Node.{node_same, node_found, node_lacks, node_added}
use Rattle.diagram.proofs.builder.Builder.node.Goals as goal

pub returns-then-eq : goal.returns-then-eq
returns-then-eq c d e ok_d ok_e low high =
    node_same c.requires.ready c.requires.level ok_d ok_e low high (eqb-true c.args.node.low c.args.node.high (sym c.if-eq.ensures))

pub returns-in-Some : goal.returns-in-Some
returns-in-Some c d e ok_d ok_e low high =
    node_found c.requires.ready c.requires.level ok_d ok_e low high _ _ (eqb-false c.args.node.low c.args.node.high (sym c.if-eq.ensures)) c.in-Some.ensures c.number_of.ensures

pub returns-then-slots-used : goal.returns-then-slots-used
returns-then-slots-used c d e ok_d ok_e low high =
    node_lacks c.requires.ready c.requires.level ok_d ok_e low high (eqb-false c.args.node.low c.args.node.high (sym c.if-eq.ensures)) c.in_default.ensures
    (rw c.slots-slots.ensures at c.if-slots-used.true)

pub returns : goal.returns
returns c d e ok_d ok_e low high =
    node_added c.requires.ready c.requires.level ok_d ok_e low high (eqb-false c.args.node.low c.args.node.high (sym c.if-eq.ensures)) c.in_default.ensures
    (rw c.slots-slots.ensures at c.if-slots-used.false) c.put.ensures c.cover.ensures.index c.cover.ensures.memo c.number_of-2.ensures
