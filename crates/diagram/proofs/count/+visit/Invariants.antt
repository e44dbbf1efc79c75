-- Numbers fall on the way down.
use Rattle.diagram.proofs.count.+visit.Given as goal

abbrev pub decreases-visit : goal.decreases-visit
decreases-visit l = l.n
