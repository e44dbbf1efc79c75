-- The listing of the answer that solve gives with these buffers.
use Rattle.listing.proofs.Laws.Answered.{meets_answered}
use Rattle.listing.proofs.program.listing.Goals as goal

pub list_answer-requires : goal.list_answer-requires
list_answer-requires c = meets_answered _ _ _ _ _ _ c.solved-answer.ensures
