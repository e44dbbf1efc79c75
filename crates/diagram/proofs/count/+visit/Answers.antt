-- `visit` meets its contract.
use Rattle.std.proofs.Common.{arith, rules, refl, sym, ◌∙◌, ◌≤◌}
use Rattle.diagram.proofs.Laws.Visit.{visited_terminal, visited_over, visited_marked, visited_stopped, visited_node}
use Rattle.diagram.proofs.Laws.Visit.{opens, opened_lower, visitable_inside, visitable_lower}
use Rattle.diagram.proofs.count.+visit.Goals as goal

pub returns-then-is_terminal : goal.returns-then-is_terminal
returns-then-is_terminal t c = visited_terminal _ _ _ _ _ (search rules)

pub returns-then-most-count : goal.returns-then-most-count
returns-then-most-count t c = visited_over _ _ _ _ _ c.if-most-count.true

pub returns-then-is_marked : goal.returns-then-is_marked
returns-then-is_marked t c =
    let big : 2 ≤ c.args.n = search rules in
    visited_marked _ _ _ _ _ _ big c.slot_of-k.ensures (sym c.is_marked.ensures ∙ c.if-is_marked.true)

pub visit-with_low-requires : goal.visit-with_low-requires
visit-with_low-requires t c =
    let big : 2 ≤ c.args.n = search rules in
    let node = opens big c.slot_of-k.ensures c.is_marked.ensures c.if-is_marked.false c.node_at-node.ensures in
    let less = opened_lower c.requires node in
    (omega (arith, c.decreases), visitable_lower c.requires _ less.0 refl)

pub visit-with_high-requires : goal.visit-with_high-requires
visit-with_high-requires t c =
    let big : 2 ≤ c.args.n = search rules in
    let node = opens big c.slot_of-k.ensures c.is_marked.ensures c.if-is_marked.false c.node_at-node.ensures in
    let less = opened_lower c.requires node in
    (omega (arith, c.decreases), visitable_lower c.requires _ less.1 c.visit-with_low.auto.words)

pub returns-then-most-with_high : goal.returns-then-most-with_high
returns-then-most-with_high t c =
    let big : 2 ≤ c.args.n = search rules in
    let node = opens big c.slot_of-k.ensures c.is_marked.ensures c.if-is_marked.false c.node_at-node.ensures in
    visited_stopped node c.visit-with_low.ensures c.visit-with_high.ensures c.if-most-with_high.true

pub returns : goal.returns
returns t c =
    let big : 2 ≤ c.args.n = search rules in
    let node = opens big c.slot_of-k.ensures c.is_marked.ensures c.if-is_marked.false c.node_at-node.ensures in
    let room = visitable_inside c.requires _ big c.slot_of-k.ensures in
    visited_node node c.visit-with_low.ensures c.visit-with_high.ensures c.if-most-with_high.false
    (omega (arith, room.1, c.visit-with_low.auto.words, c.visit-with_high.auto.words)) c.mark.ensures
