-- The count of the sum bits' nodes at a limit.
--
--   tallies_..   what is counted stays so when the table grows and when there is one sum bit more
--   Walk         the loop: the first i sum bits are counted, or they are more than the limit
--   told_..      whether they exceed the limit, a law for each path of the code
use Prim.Native.Nat.{ℕ, zero, suc, ◌+◌, ◌*◌, ◌/◌, ◌≤◌, ◌<◌}
use native.Mathlib.Omega.{arith}
use native.Mathlib.Numerals.{add-one}
use mathlib.Core.Path.{◌≡◌, refl, sym, subst, ◌∙◌}
use mathlib.Core.Bool.{Bool, true, false}
use mathlib.Core.List.{List, [], ◌∷◌}
use lib.Dec.{ltb}
use lib.ListN.{length, get_or, set, take}
use lib.Seq.{take-suc, take_all, get_or-take, length-take-le, get_or-set_other}
use borrow.Author.Tests.{ltb-true, ltb-false, lt-ltb, le-ltb}
use Rattle.meaning.specs.Diagram.{Tree}
use Rattle.meaning.specs.Table.{Table, enter, enter_all, count}
use Rattle.meaning.specs.Step.{unused}
use Rattle.meaning.specs.Row.{counted}
use Rattle.meaning.specs.Lent.{tree_of}
use Rattle.meaning.proofs.Laws.Table.{Is, Single, Ext, There, is_ext, is_one, count_le, enter_grows}
use Rattle.meaning.proofs.Laws.Table.{enter_all_append, enter_all_ext}
use Rattle.diagram.specs.Table.{nodes_of}
use Rattle.diagram.specs.State.{nodes, Ready, Known, After}
use Rattle.diagram.specs.Count.{Counted, Tallied, Visitable, Visited}
use Rattle.diagram.specs.declared.builder.Builder.{Builder}
use Rattle.diagram.specs.declared.scratch.Scratch.{Scratch}
use Rattle.diagram.proofs.Laws.Nodes.{nodes_of_length}
use Rattle.diagram.proofs.Laws.After.{ready_room}
use Rattle.diagram.proofs.Laws.Parts.{tree_stands}
use Rattle.diagram.proofs.Laws.Count.{counted_none, counted_grown}
use Rattle.term.specs.Add.{Numbered, Tallies, Clears, Countable, Exceeds, Told}
use Rattle.term.specs.declared.add.Tally.{Tally}

-- ---- what is counted

-- nothing
pub tallies_none : (cells marks : List ℕ) (b : Builder) (limit : ℕ) (bits : List ℕ)
    → Tallies cells marks b limit bits 0 (record { bits = 0; nodes = 0 })
tallies_none cells marks b limit bits =
    record {
      inside = omega arith;
      fits = omega arith;
      none = λ _. refl;
      marked = λ some. absurd (omega arith);
    }

-- the table may grow: numbers keep their diagrams, and new slots aren't marked
pub tallies_after : {cells cells' marks : List ℕ} {s s' : Scratch} {b b' : Builder} {xs : List Tree} {limit : ℕ} {bits : List ℕ}
    {k : ℕ} {r : Tally}
    → After cells b xs cells' s' b' → Ready cells s b → ((i : ℕ) → i < k → Known b (get_or bits i 0))
    → Tallies cells marks b limit bits k r → Tallies cells' marks b' limit bits k r
tallies_after {cells} {cells' = cells'} {b = b} {b' = b'} {xs = xs} {bits = bits} after ready each tallies =
    record {
      inside = tallies.inside;
      fits = tallies.fits;
      none = tallies.none;
      marked = λ some ts long is.
          let inside = tallies.inside in
          let ext : Ext (nodes cells b) (nodes cells' b') =
          rw after.entered (enter_all_ext xs (nodes cells b)) in
          let same : Numbered (nodes cells b) bits ts =
          λ j below.
          let a = get_or bits j 0 in
          let stands = tree_stands ready a (each j (omega arith)) in
          let one =
          is_one (tree_of cells a) (get_or ts j unused) (nodes cells' b') a
          (is_ext (tree_of cells a) a ext stands.is) (is j below) in
          subst (Is (nodes cells b) a) one stands.is in
          let covers = ready_room after.ready in
          rw after.kept (counted_grown ext (rw after.kept at covers) (tallies.marked some ts long same));
    }

-- one number more
pub tallies_more : {cells marks : List ℕ} {b : Builder} {limit : ℕ} {bits : List ℕ} (k a : ℕ) {r : Tally}
    → Tallies cells marks b limit bits k r → Tallies cells marks b limit (set bits k a) (k + 1) r
tallies_more {cells} {b = b} {bits = bits} k a tallies =
    record {
      inside = omega (arith, tallies.inside);
      fits = tallies.fits;
      none = tallies.none;
      marked = λ some ts long is.
          let inside = tallies.inside in
          let before : Numbered (nodes cells b) bits ts =
          λ j below. rw (get_or-set_other bits k j a 0 (λ e. omega arith)) at (is j below) in
          tallies.marked some ts long before;
    }

-- ---- the loop

-- i of k sum bits have been visited
pub record Walk (cells : List ℕ) (used limit : ℕ) (bits : List ℕ) (k : ℕ) (marks : List ℕ) (so_far i : ℕ) : Type 0 where
  pub inside : i ≤ k
  pub none : i ≡ 0 → so_far ≡ 0
  pub tallied : (sums : List Tree) → length sums ≡ k → Numbered (nodes_of cells used) bits sums
      → Tallied (length cells / 3) (nodes_of cells used) limit marks so_far (enter_all (take i sums) [])

module _ {cells : List ℕ} {used limit : ℕ} {bits : List ℕ} {k : ℕ} where
  pub walk_next : {marks : List ℕ} {so_far i : ℕ} {after : List ℕ} {r : ℕ} → Single (nodes_of cells used)
      → Walk cells used limit bits k marks so_far i → i < k
      → Visited cells marks (get_or bits i 0) so_far limit after r → Walk cells used limit bits k after r (i + 1)
  walk_next {marks} {so_far} {i} {after} {r} single walk more visited =
      record {
        inside = omega arith;
        none = λ e. absurd (omega arith);
        tallied = λ sums long is.
            let x = get_or sums i unused in
            let C = enter_all (take i sums) [] in
            let one : enter_all (take (i + 1) sums) [] ≡ (enter x C).table =
            rw (add-one i, take-suc sums i unused (omega arith)) (enter_all_append (take i sums) (x ∷ []) []) in
            rw one (go x C (is i (omega arith)) (walk.tallied sums long is) (ltb limit so_far) refl);
      }
    where
      go : (x : Tree) (C : Table) → Is (nodes_of cells used) (get_or bits i 0) x
          → Tallied (length cells / 3) (nodes_of cells used) limit marks so_far C → (b : Bool) → ltb limit so_far ≡ b
          → Tallied (length cells / 3) (nodes_of cells used) limit after r (enter x C).table
      go x C is so true over =
          let before = ltb-true limit so_far over in
          let grows = visited.grows in
          record {
            within = λ fits. absurd (omega arith);
            beyond = λ more. omega (arith, so.beyond before, enter_grows x C);
          }
      go x C is so false fits =
          visited.tallied (length cells / 3) used C x single is (so.within (ltb-false limit so_far fits))

  module _ {marks : List ℕ} {so_far : ℕ} (walk : Walk cells used limit bits k marks so_far k) where
    -- all of them
    walk_whole : (sums : List Tree) → length sums ≡ k → Numbered (nodes_of cells used) bits sums
        → Tallied (length cells / 3) (nodes_of cells used) limit marks so_far (enter_all sums [])
    walk_whole sums long is = rw (take_all k sums (omega arith)) at (walk.tallied sums long is)

    walk_all : (carry : Tree) (sums : List Tree) → length sums ≡ k → Numbered (nodes_of cells used) bits sums
        → ltb limit so_far ≡ ltb limit (count (counted sums carry))
    unfolding count counted
    walk_all carry sums long is = go (ltb limit so_far) refl (walk_whole sums long is)
      where
        go : (b : Bool) → ltb limit so_far ≡ b
            → Tallied (length cells / 3) (nodes_of cells used) limit marks so_far (enter_all sums [])
            → b ≡ ltb limit (length (enter_all sums []))
        go true over so = sym (lt-ltb limit _ (so.beyond (ltb-true limit so_far over)))
        go false fits so =
            let long = (so.within (ltb-false limit so_far fits)).long in
            let low = ltb-false limit so_far fits in
            sym (le-ltb limit (length (enter_all sums [])) (omega arith))

-- ---- the paths

module _ {cells : List ℕ} {b : Builder} {limit : ℕ} {bits : List ℕ} {k : ℕ} where
  module _ {marks : List ℕ} {r : Tally} (told : Told cells marks b limit bits k r) where
    pub exceeds_over : limit < r.nodes → Exceeds cells b limit bits k true
    exceeds_over over = rw (lt-ltb limit r.nodes over) at told.exceeds

    pub exceeds_not : r.nodes ≤ limit → Exceeds cells b limit bits k false
    exceeds_not fits = rw (le-ltb limit r.nodes fits) at told.exceeds

  -- all of them were counted
  pub told_counted : {marks' : List ℕ} {so_far : ℕ} → Walk cells b.used limit bits k marks' so_far k
      → Told cells marks' b limit bits k (record { bits = k; nodes = so_far })
  told_counted walk =
      record {
        exceeds =
            record {
              counts = λ n carry sums long means.
                  walk_all walk carry sums long (λ j inside. (means.each j inside).is);
            };
        tallies = λ fits.
            record {
              inside = omega arith;
              fits = fits;
              none = walk.none;
              marked = λ some ts long is. (walk_whole walk ts long is).within fits;
            };
      }

  module _ {marks : List ℕ} {r : Tally} (countable : Countable cells marks b limit bits k r) where
    -- no more slots are used than the limit
    pub told_few : b.used ≤ limit → Told cells marks b limit bits k r
    unfolding counted
    told_few few =
        record {
          exceeds =
              record {
                counts = λ n carry sums long means.
                    let held = there sums (λ j. get_or bits j 0) (λ j inside. (means.each j inside).is) in
                    let fewer = count_le sums (nodes cells b) countable.laid.single held in
                    le-ltb limit r.nodes countable.tallies.fits
                    ∙ sym (le-ltb limit (count sums) (omega (arith, nodes_of_length cells b.used)));
              };
          tallies = λ _. countable.tallies;
        }
      where
        there : (sums : List Tree) (number : ℕ → ℕ)
            → ((j : ℕ) → j < length sums → Is (nodes cells b) (number j) (get_or sums j unused))
            → There (nodes cells b) sums
        there [] number each = tt
        there (x ∷ sums) number each =
            record {
              number = number 0;
              first = each 0 (omega arith);
              rest = there sums (λ j. number (suc j)) (λ j inside. each (suc j) (omega arith));
            }

    -- what visit needs of so many words
    pub visit_room : {i words : ℕ} → i < k → 1048576 ≤ 32 * words → Visitable cells words (get_or bits i 0)
    visit_room {i} more enough =
        let laid = countable.laid in
        record {
          used = b.used;
          room = omega (arith, laid.room);
          marks_room = omega (arith, laid.room, laid.small);
          falls = laid.falls;
          inside = countable.each i more;
        }

    -- the loop begins with what is counted
    pub walk_start : {marks₀ : List ℕ} → Clears cells r.bits marks marks₀
        → Walk cells b.used limit bits k marks₀ r.nodes r.bits
    walk_start {marks₀} clears =
        record {
          inside = tallies.inside;
          none = tallies.none;
          tallied = λ sums long is.
              record {
                within = λ _. so sums long is r.bits refl;
                beyond = λ over. absurd (omega (arith, tallies.fits));
              };
        }
      where
        tallies : Tallies cells marks b limit bits k r
        tallies = countable.tallies

        so : (sums : List Tree) → length sums ≡ k → Numbered (nodes cells b) bits sums → (i : ℕ) → r.bits ≡ i
            → Counted (length cells / 3) (nodes cells b) marks₀ r.nodes (enter_all (take r.bits sums) [])
        so sums long is zero e =
            let covers : length (nodes cells b) ≤ length cells / 3 =
            omega (arith, nodes_of_length cells b.used, countable.laid.room) in
            rw (tallies.none e, e) (counted_none (length cells / 3) (nodes cells b) marks₀ covers (clears.clear e))
        so sums long is (suc i) e =
            let inside = tallies.inside in
            let few : length (take r.bits sums) ≡ r.bits = length-take-le r.bits sums (omega arith) in
            let first : Numbered (nodes cells b) bits (take r.bits sums) =
            λ j below.
            rw (get_or-take r.bits sums j unused (omega arith)) (is j (omega arith)) in
            rw (clears.stays (omega arith)) (tallies.marked (omega arith) (take r.bits sums) few first)
