-- A part's number is lower than its node's.
use Rattle.diagram.proofs.builder.Builder.+quantify.Given as goal

abbrev pub decreases-quantify : goal.decreases-quantify
decreases-quantify l = l.n
