-- `solve_unnamed` is `solve` at the definition's limit.
use mathlib.Core.Path.{ap, ◌∙◌}
use Rattle.meaning.specs.Solve.{unnamed_limit}
use Rattle.prover.proofs.Laws.Answer.{meets_unnamed}
use Rattle.prover.proofs.solve.solve_unnamed.Goals as goal

pub returns : goal.returns
returns c =
    meets_unnamed _ c.args.t.now c.args.work.now _ _ _ _ (c.unnamed_limit.ensures ∙ ap unnamed_limit c.slots.ensures)
    c.solve.ensures
