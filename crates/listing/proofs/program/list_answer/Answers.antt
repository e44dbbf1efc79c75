-- Each answer is listed by its numbers and the witness that was asked for.
use Rattle.std.proofs.Common.{◌∙◌}
use Rattle.listing.proofs.Laws.Answered.{number_checked, listing_answered}
use Rattle.listing.proofs.program.list_answer.Goals as goal

pub listing-requires : goal.listing-requires
listing-requires c = record { passed = number_checked _ _ (c.from-n.ensures ∙ c.requires.numbers) }

pub returns-clause-text : goal.returns-clause-text
returns-clause-text c =
    listing_answered _ c.requires c.from-n.ensures c.must_witness-bytes.ensures c.listing.ensures.text
