-- `new` meets its contract: heads and entries are parts of zeros.
use Rattle.std.proofs.Common.{arith, ◌≡◌, ◌-◌, length, ℕ}
use Rattle.std.proofs.lemmas.List.{take-replicate, drop-replicate, length-take}
use mathlib.Core.Path.{◌∙◌}
use lib.ListN.{replicate}
use Rattle.diagram.proofs.Laws.Begin.{ready_empty, entries_zero}
use Rattle.diagram.proofs.scratch.Scratch.new.Goals as goal

pub returns : goal.returns
returns c =
    let n : ℕ = length c.args.words.now in
    let covered : ℕ = c.min-covered.result in
    let zeros : c.fill.new.self ≡ replicate n 0 = c.fill.ensures.after (λ y e. e) in
    let heads : c.split_at_mut-heads.result.0.now ≡ replicate covered 0 =
    c.split_at_mut-heads.ensures.front ∙ rw zeros (take-replicate covered n 0 (omega arith)) in
    let links : c.split_at_mut-heads.result.1.now ≡ replicate (n - covered) 0 =
    c.split_at_mut-heads.ensures.back ∙ rw zeros (drop-replicate covered n 0) in
    let rest : c.split_at_mut-links.result.1.now ≡ replicate (n - covered - covered) 0 =
    c.split_at_mut-links.ensures.back ∙ rw links (drop-replicate covered (n - covered) 0) in
    ready_empty covered c.requires heads
    (λ e below. rw c.as_chunks_mut-entries.ensures.front
    (entries_zero _ _ _ c.min-many.result e rest
    (omega (arith, below, length-take c.min-many.result c.as_chunks_mut-entries.result.0.now))))
