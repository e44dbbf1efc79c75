-- `refusal::bad_nodes` meets its contract. The loop's invariant: every node passed is sound.
use mathlib.Core.Path.{◌≡◌}
use mathlib.Core.Bool.{true}
use Rattle.meaning.specs.Lent.{sound_nodes}
use Rattle.lent.proofs.refusal.bad_nodes.Given as goal

abbrev pub invariant-loop-k : goal.invariant-loop-k
invariant-loop-k l = sound_nodes l.t l.k ≡ true
