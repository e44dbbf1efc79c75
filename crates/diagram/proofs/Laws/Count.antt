-- The count by marks is the definition's, `enter` into an empty table: at the start, while the table grows, and when a
-- node that isn't marked is counted after its parts (counted_node).
use Prim.Native.Nat.{ℕ, suc, ◌+◌, ◌-◌, ◌*◌, ◌≤◌, ◌<◌}
use native.Mathlib.Omega.{arith}
use mathlib.Core.Path.{subst, ◌≡◌, refl, sym, ap, ◌∙◌}
use mathlib.Core.Logic.{◌≢◌}
use mathlib.Core.Bool.{Bool, true, false, false≢true}
use mathlib.Core.List.{List, [], ◌∷◌}
use lib.Dec.{eqb}
use lib.ListN.{length, length-append}
use borrow.Author.Tests.{eqb-true, eqb-false}
use Rattle.meaning.specs.Diagram.{Tree, leaf, node}
use Rattle.meaning.specs.Table.{Node, Table, Entered, slot, slot_of, insert, enter}
use Rattle.meaning.proofs.Laws.Table.{Is, Single, Ext, Inserted, old, new, insert_cases, insert_each}
use Rattle.meaning.proofs.Laws.Table.{insert_ext, is_ext, is_one, is_number, enter_is, enter_single}
use Rattle.diagram.specs.Count.{marked_at, marking, Unmarked, Marked, Listed, Counted}
use Rattle.diagram.proofs.Laws.Mark.{marked_here, marked_else, marked_stays}

-- ---- the start, and growth

-- nothing is marked, and nothing is counted
pub counted_none : (room : ℕ) (T : Table) (marks : List ℕ) → length T ≤ room → Unmarked room marks
    → Counted room T marks 0 []
counted_none room T marks covers clear =
    record {
      covers = covers;
      single = λ k inside. absurd (omega arith);
      long = refl;
      marked = λ k inside. absurd (omega arith);
      listed = λ k inside set. absurd (false≢true (sym (clear k inside) ∙ set));
    }

-- the table may grow meanwhile
pub counted_grown : {room : ℕ} {T U : Table} {marks : List ℕ} {so_far : ℕ} {C : Table} → Ext T U → length U ≤ room
    → Counted room T marks so_far C → Counted room U marks so_far C
counted_grown ext covers counted =
    record {
      covers = covers;
      single = counted.single;
      long = counted.long;
      marked = λ k inside.
          let m = counted.marked k inside in
          let there = is_ext m.tree (m.slot + 2) ext m.there in
          record { tree = m.tree; here = m.here; slot = m.slot; there = there; set = m.set };
      listed = λ k inside set.
          let l = counted.listed k inside set in
          let here = is_ext l.tree (k + 2) ext l.here in
          record { tree = l.tree; here = here; number = l.number; there = l.there };
    }

-- ---- what entering a diagram adds

abbrev size : Tree → ℕ
size (leaf b) = 0
size (node i d e) = suc (size d + size e)

-- number k + 2 stands for a diagram of which P holds
record Stood (P : Tree → Type 0) (s : Table) (k : ℕ) : Type 0 where
  tree : Tree
  here : Is s (k + 2) tree
  holds : P tree

abbrev Each : (Tree → Type 0) → Table → Type 0
Each P s = (k : ℕ) → k < length s → Stood P s k

-- the nodes of t are diagrams no larger than t
enter_each : (P : Tree → Type 0) (t : Tree) (s : Table) → ((u : Tree) → size u ≤ size t → P u) → Each P s
    → Each P (enter t s).table
enter_each P (leaf b) s small each = each
enter_each P (node i d e) s small each =
    let low = enter d s in
    let high = enter e low.table in
    let x = slot i low.number high.number in
    let left = enter_each P d s (λ u le. small u (omega arith)) each in
    let both = enter_each P e low.table (λ u le. small u (omega arith)) left in
    let whole : Is (insert x high.table) (slot_of x high.table + 2) (node i d e) = enter_is (node i d e) s in
    insert_each (λ k y. Stood P (insert x high.table) k) x high.table
    (λ k inside.
    let before = both k inside in
    let here = is_ext before.tree (k + 2) (insert_ext x high.table) before.here in
    record { tree = before.tree; here = here; holds = before.holds })
    (λ end. record { tree = node i d e; here = rw end at whole; holds = small (node i d e) (omega arith) })

-- a diagram that no node stands for has no number
not_there : (i : ℕ) (d e : Tree) (s : Table) → Each (λ u. u ≢ node i d e) s → (m : ℕ) → Is s m (node i d e) → ⊥
not_there i d e s each m is =
    let big = is.big in
    let within = is.inside in
    let other = each (m - 2) (omega arith) in
    let two : m - 2 + 2 ≡ m = omega arith in
    other.holds (is_one other.tree (node i d e) s m (rw two at other.here) is)

-- a diagram is none of its parts' diagrams
larger : (u : Tree) (i : ℕ) (d e : Tree) → size u ≤ size d + size e → u ≢ node i d e
larger u i d e small equal = omega (arith, ap size equal)

-- ---- a node that isn't marked

module _ {room : ℕ} {T : Table} {marks : List ℕ} {so_far : ℕ} {C : Table} (n i : ℕ) (d e : Tree)
    (single : Single T) (is : Is T n (node i d e)) (counted : Counted room T marks so_far C)
    (clear : marked_at marks (n - 2) ≡ false) where
  abbrev low : Entered
  low = enter d C

  abbrev high : Entered
  high = enter e low.table

  abbrev x : Node
  x = slot i low.number high.number

  whole : Is (insert x high.table) (slot_of x high.table + 2) (node i d e)
  whole = enter_is (node i d e) C

  two : n - 2 + 2 ≡ n
  two = omega (arith, is.big)

  -- it isn't counted yet
  fresh : Each (λ u. u ≢ node i d e) C
  fresh k inside =
      let m = counted.marked k inside in
      record {
        tree = m.tree;
        here = m.here;
        holds = λ equal.
            let one = is_number (node i d e) T (m.slot + 2) n single (rw equal at m.there) is in
            let here : m.slot ≡ n - 2 = omega arith in
            false≢true (sym clear ∙ ap (marked_at marks) (sym here) ∙ m.set);
      }

  -- nor after its parts
  fresh_parts : Each (λ u. u ≢ node i d e) high.table
  fresh_parts =
      enter_each (λ u. u ≢ node i d e) e low.table (λ u small. larger u i d e (omega arith))
      (enter_each (λ u. u ≢ node i d e) d C (λ u small. larger u i d e (omega arith)) fresh)

  -- so it enters as one node more
  enter_more : length (enter (node i d e) C).table ≡ length high.table + 1
  enter_more = go (insert_cases x high.table)
    where
      go : Inserted x high.table → length (insert x high.table) ≡ length high.table + 1
      go (old inside same) = absurd (not_there i d e high.table fresh_parts _ (subst (λ (s : List Node). Is s (slot_of x high.table + 2) (node i d e)) same whole))
      go (new end more) = rw (more, length-append high.table (x ∷ []))

  -- counted with its parts and marked, it is counted
  module _ {after : List ℕ} {r : ℕ} (parts : Counted room T after r high.table)
      (inside : n - 2 < 32 * length after) where
    pub counted_node : Counted room T (marking after (n - 2)) (r + 1) (enter (node i d e) C).table
    counted_node =
        record {
          covers = parts.covers;
          single = enter_single (node i d e) C counted.single;
          long = ap (λ m. m + 1) parts.long ∙ sym enter_more;
          marked = marked;
          listed = λ k within set. listed k within (eqb k (n - 2)) refl set;
        }
      where
        grown : Ext high.table (insert x high.table)
        grown = insert_ext x high.table

        marked : (k : ℕ) → k < length (insert x high.table)
            → Marked T (marking after (n - 2)) (insert x high.table) k
        marked =
            insert_each (λ k y. Marked T (marking after (n - 2)) (insert x high.table) k) x high.table
            (λ k within.
            let m = parts.marked k within in
            record {
              tree = m.tree;
              here = is_ext m.tree (k + 2) grown m.here;
              slot = m.slot;
              there = m.there;
              set = marked_stays after (n - 2) inside m.slot m.set;
            })
            (λ end.
            record {
              tree = node i d e;
              here = rw end at whole;
              slot = n - 2;
              there = rw two is;
              set = marked_here after (n - 2) inside;
            })

        listed : (k : ℕ) → k < room → (b : Bool) → eqb k (n - 2) ≡ b → marked_at (marking after (n - 2)) k ≡ true
            → Listed T (insert x high.table) k
        listed k within true here set =
            let one = eqb-true k (n - 2) here in
            record { tree = node i d e; here = rw (one, two) is; number = slot_of x high.table + 2; there = whole }
        listed k within false here set =
            let other = marked_else after (n - 2) inside k (eqb-false k (n - 2) here) in
            let l = parts.listed k within (sym other ∙ set) in
            let there = is_ext l.tree l.number grown l.there in
            record { tree = l.tree; here = l.here; number = l.number; there = there }
