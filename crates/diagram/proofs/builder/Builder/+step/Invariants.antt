-- A part's number is lower than its node's.
use Rattle.std.proofs.Common.{◌+◌}
use Rattle.diagram.proofs.builder.Builder.+step.Given as goal

abbrev pub decreases-step : goal.decreases-step
decreases-step l = l.a + l.b + l.c
