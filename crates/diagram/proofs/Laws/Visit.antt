-- A visit counts a number's diagram: a law a return of the code, what a visit needs, and what a caller that counts some
-- diagrams learns (count_next).
use Prim.Native.Nat.{ℕ, ◌+◌, ◌-◌, ◌*◌, ◌≤◌, ◌<◌}
use native.Mathlib.Omega.{arith}
use mathlib.Core.Path.{◌≡◌, refl, sym, ap, subst, ◌∙◌}
use mathlib.Core.Bool.{Bool, true, false}
use mathlib.Core.List.{List, [], ◌∷◌, ◌++◌}
use lib.Dec.{ltb}
use lib.ListN.{length}
use borrow.Author.Tests.{lt-ltb, le-ltb, ltb-true, ltb-false}
use Rattle.meaning.specs.Diagram.{Tree, leaf, node}
use Rattle.meaning.specs.Table.{Table, slot, enter, enter_all, count}
use Rattle.meaning.specs.Lent.{node_at, low_of, high_of}
use Rattle.meaning.proofs.Laws.Table.{slot_at, Is, Single, insert_ext, ext_length, is_one}
use Rattle.meaning.proofs.Laws.Table.{enter_again, enter_grows, enter_all_append}
use Rattle.diagram.specs.Table.{Inside, nodes_of, node_of}
use Rattle.diagram.specs.Count.{marked_at, marking, Counted, Tallied, Visitable, Visited}
use Rattle.diagram.specs.declared.table.Node.{Node}
use Rattle.diagram.proofs.Laws.Nodes.{nodes_of_length, nodes_of_at}
use Rattle.diagram.proofs.Laws.Count.{counted_node}

-- ---- visit

-- what stands under a number above 1 is a node
node_only : (P : Tree → Type 0) (T : Table) (n : ℕ) → 2 ≤ n
    → ((i : ℕ) (d e : Tree) → Is T n (node i d e) → P (node i d e)) → (x : Tree) → Is T n x → P x
node_only P T n big each (leaf true) is = absurd (omega arith)
node_only P T n big each (leaf false) is = absurd (omega arith)
node_only P T n big each (node i d e) is = each i d e is

is_inside : (x : Tree) (T : Table) (n : ℕ) → 2 ≤ n → Is T n x → n < length T + 2
is_inside x T n big is = node_only (λ u. n < length T + 2) T n big (λ i d e h. h.inside) x is

module _ (cells marks : List ℕ) (n so_far limit : ℕ) where
  -- a diagram that enters nothing new
  abbrev Old : Type 0
  Old =
      (room used : ℕ) (C : Table) (x : Tree) → Single (nodes_of cells used) → Is (nodes_of cells used) n x
      → Counted room (nodes_of cells used) marks so_far C → (enter x C).table ≡ C

  visited_old : Old → Visited cells marks n so_far limit marks so_far
  visited_old old_one =
      record {
        grows = omega arith;
        tallied = λ room used C x single is counted.
            rw (old_one room used C x single is counted)
            (record { within = λ fits. counted; beyond = λ over. omega (arith, counted.long) });
      }

  pub visited_terminal : n < 2 → Visited cells marks n so_far limit marks so_far
  visited_terminal small = visited_old (λ room used C x single is counted. alone x (nodes_of cells used) C is)
    where
      alone : (x : Tree) (T C : Table) → Is T n x → (enter x C).table ≡ C
      alone (leaf b) T C is = refl
      alone (node i d e) T C is = absurd (omega (arith, is.big))

  pub visited_over : limit < so_far → Visited cells marks n so_far limit marks so_far
  visited_over over =
      record {
        grows = omega arith;
        tallied = λ room used C x single is counted.
            record {
              within = λ fits. absurd (omega arith);
              beyond = λ more. omega (arith, counted.long, enter_grows x C);
            };
      }

  pub visited_marked : (k : ℕ) → 2 ≤ n → k ≡ n - 2 → marked_at marks k ≡ true
      → Visited cells marks n so_far limit marks so_far
  visited_marked k big place set = visited_old there
    where
      there : Old
      there room used C x single is counted =
          let T = nodes_of cells used in
          let l = counted.listed k (omega (arith, counted.covers, is_inside x T n big is)) set in
          let two : k + 2 ≡ n = omega arith in
          let one = is_one l.tree x T n (rw two at l.here) is in
          (enter_again x C l.number counted.single (rw one at l.there)).1

parts_grow : (i : ℕ) (d e : Tree) (C : Table)
    → length (enter e (enter d C).table).table ≤ length (enter (node i d e) C).table
parts_grow i d e C =
    let low = enter d C in
    let high = enter e low.table in
    ext_length (insert_ext (slot i low.number high.number) high.table)

-- what was read of number n, and that it isn't marked
pub record Opened (cells marks : List ℕ) (n k : ℕ) (x : Node) : Type 0 where
  pub big : 2 ≤ n
  pub place : k ≡ n - 2
  pub clear : marked_at marks k ≡ false
  pub is : x ≡ node_of (node_at cells k)

-- as `visit` finds it out, by what its callees say
pub opens : {cells marks : List ℕ} {n k : ℕ} {x : Node} {set : Bool} → 2 ≤ n → k ≡ n - 2 → set ≡ marked_at marks k → set ≡ false
    → x ≡ node_of (node_at cells k) → Opened cells marks n k x
opens big place is clear read = record { big = big; place = place; clear = sym is ∙ clear; is = read }

-- the slot of a used number
used_slot : (cells : List ℕ) (used n : ℕ) → 2 ≤ n → n < length (nodes_of cells used) + 2
    → slot_at (nodes_of cells used) n ≡ node_at cells (n - 2)
used_slot cells used n big inside = nodes_of_at cells used (n - 2) (omega (arith, nodes_of_length cells used))

module _ {cells marks : List ℕ} {n so_far limit k : ℕ} {x : Node} {mid : List ℕ} {r : ℕ} {last : List ℕ} {q : ℕ}
    (opened : Opened cells marks n k x)
    (first : Visited cells marks x.low so_far limit mid r) (second : Visited cells mid x.high r limit last q) where
  parts : (room used : ℕ) (C : Table) (i : ℕ) (d e : Tree) → Single (nodes_of cells used)
      → Is (nodes_of cells used) n (node i d e) → Counted room (nodes_of cells used) marks so_far C
      → Tallied room (nodes_of cells used) limit last q (enter e (enter d C).table).table
  parts room used C i d e single is counted = record { within = fits; beyond = over (ltb limit r) refl }
    where
      T : Table
      T = nodes_of cells used

      here : slot_at T n ≡ node_at cells k
      here = used_slot cells used n is.big is.inside ∙ ap (node_at cells) (sym opened.place)

      low_tallied : Tallied room T limit mid r (enter d C).table
      low_tallied =
          first.tallied room used C d single
          (subst (λ m. Is T m d) (ap low_of here ∙ sym (ap (λ (y : Node). y.low) opened.is)) is.left) counted

      high_tallied : Counted room T mid r (enter d C).table
          → Tallied room T limit last q (enter e (enter d C).table).table
      high_tallied =
          second.tallied room used (enter d C).table e single
          (subst (λ m. Is T m e) (ap high_of here ∙ sym (ap (λ (y : Node). y.high) opened.is)) is.right)

      fits : q ≤ limit → Counted room T last q (enter e (enter d C).table).table
      fits within =
          let grown = second.grows in
          (high_tallied (low_tallied.within (omega arith))).within within

      over : (b : Bool) → ltb limit r ≡ b → limit < q → limit < length (enter e (enter d C).table).table
      over true test beyond =
          let early = low_tallied.beyond (ltb-true limit r test) in
          omega (arith, enter_grows e (enter d C).table)
      over false test beyond = (high_tallied (low_tallied.within (ltb-false limit r test))).beyond beyond

  pub visited_stopped : limit < q → Visited cells marks n so_far limit last q
  visited_stopped over =
      record {
        grows = omega (arith, first.grows, second.grows);
        tallied = λ room used C x single is counted.
            let T = nodes_of cells used in
            node_only (λ u. Tallied room T limit last q (enter u C).table) T n opened.big
            (λ i d e h.
            record {
              within = λ fits. absurd (omega arith);
              beyond = λ more. omega (arith, (parts room used C i d e single h counted).beyond over, parts_grow i d e C);
            })
            x is;
      }

  pub visited_node : {after : List ℕ} → q ≤ limit → k < 32 * length last → after ≡ marking last k
      → Visited cells marks n so_far limit after (q + 1)
  visited_node fits inside marks_it =
      rw marks_it
      (record {
        grows = omega (arith, first.grows, second.grows);
        tallied = λ room used C x single is counted.
            let all = one_more room used C x single is counted in
            record { within = λ within. all; beyond = λ over. omega (arith, all.long) };
      })
    where
      one_more : (room used : ℕ) (C : Table) (x : Tree) → Single (nodes_of cells used) → Is (nodes_of cells used) n x
          → Counted room (nodes_of cells used) marks so_far C
          → Counted room (nodes_of cells used) (marking last k) (q + 1) (enter x C).table
      one_more room used C x single is counted =
          let T = nodes_of cells used in
          node_only (λ u. Counted room T (marking last k) (q + 1) (enter u C).table) T n opened.big
          (λ i d e h.
          rw opened.place
          (counted_node n i d e single h counted (rw opened.place at opened.clear)
          ((parts room used C i d e single h counted).within fits) (rw opened.place at inside)))
          x is

-- ---- what a visit needs

module _ {cells : List ℕ} {words n : ℕ} (visitable : Visitable cells words n) where
  pub visitable_inside : (k : ℕ) → 2 ≤ n → k ≡ n - 2 → Inside cells k × (k < 32 * words)
  visitable_inside k big place = omega (arith, visitable.room, visitable.inside, visitable.marks_room)

  -- numbers fall
  pub opened_lower : {marks : List ℕ} {k : ℕ} {x : Node} → Opened cells marks n k x → (x.low < n) × (x.high < n)
  opened_lower {k = k} opened =
      let big = opened.big in
      let long = nodes_of_length cells visitable.used in
      let below : n < length (nodes_of cells visitable.used) + 2 = omega (arith, visitable.inside) in
      let here = used_slot cells visitable.used n big below ∙ ap (node_at cells) (sym opened.place) in
      let falls = visitable.falls (n - 2) (omega arith) in
      let low = ap low_of here ∙ sym (ap (λ (y : Node). y.low) opened.is) in
      let high = ap high_of here ∙ sym (ap (λ (y : Node). y.high) opened.is) in
      omega (arith, falls.low.lower, falls.high.lower)

  pub visitable_lower : (m : ℕ) {words' : ℕ} → m < n → words' ≡ words → Visitable cells words' m
  visitable_lower m lower same =
      record {
        used = visitable.used;
        room = visitable.room;
        marks_room = omega (arith, visitable.marks_room, same);
        falls = visitable.falls;
        inside = omega (arith, visitable.inside);
      }

-- ---- what a caller learns

-- one diagram more has been counted, or there is more to count than the limit: the test is the definition's
pub count_next : {cells marks : List ℕ} {n so_far limit : ℕ} {after : List ℕ} {r room : ℕ} (used : ℕ) (ts : List Tree)
    (x : Tree)
    → Visited cells marks n so_far limit after r → Single (nodes_of cells used) → Is (nodes_of cells used) n x
    → Counted room (nodes_of cells used) marks so_far (enter_all ts [])
    → (ltb limit r ≡ ltb limit (count (ts ++ (x ∷ []))))
    × (r ≤ limit → Counted room (nodes_of cells used) after r (enter_all (ts ++ (x ∷ [])) []))
unfolding count
count_next {cells} {limit = limit} {after = after} {r = r} {room = room} used ts x visited single is counted =
    rw (enter_all_append ts (x ∷ []) []) (go (ltb limit r) refl, all.within)
  where
    all : Tallied room (nodes_of cells used) limit after r (enter x (enter_all ts [])).table
    all = visited.tallied room used (enter_all ts []) x single is counted

    go : (b : Bool) → ltb limit r ≡ b → b ≡ ltb limit (length (enter x (enter_all ts [])).table)
    go true over = sym (lt-ltb limit _ (all.beyond (ltb-true limit r over)))
    go false fits =
        let within = ltb-false limit r fits in
        let long = (all.within within).long in
        sym (le-ltb limit _ (omega arith))
