-- The verdict's line: every number but 1 and 2 is unknown.
use Rattle.std.proofs.Common.{arith, ℕ, List, ◌++◌, ap, ◌∙◌}
use Rattle.listing.proofs.Laws.Listing.{verdict_unknown}
use Rattle.listing.proofs.text.Page.put_verdict.Goals as goal

pub returns-in_default-clause-text : goal.returns-in_default-clause-text
returns-in_default-clause-text g c =
    c.put-in_default.ensures
    ∙ ap (λ (l : List ℕ). c.args.self.now ++ l) (verdict_unknown c.args.verdict (omega arith) (omega arith))
