-- Find or add a node: what each path of the builder's `node` does is that `mk level d e` enters.
use Prim.Native.Nat.{ℕ, ◌+◌, ◌/◌, ◌≤◌, ◌<◌}
use native.Mathlib.Omega.{arith}
use native.Mathlib.Numerals.{add-one}
use mathlib.Core.Path.{◌≡◌, refl, sym, ap, ◌∙◌}
use mathlib.Core.Logic.{◌≢◌}
use mathlib.Core.Bool.{Bool, true, false, cond}
use mathlib.Core.List.{List, [], ◌∷◌, ◌++◌}
use lib.ListN.{length, length-append}
use Rattle.meaning.specs.Diagram.{Tree, node, same, mk}
use Rattle.meaning.specs.Table.{Node, slot, Table, slot_of, insert, enter}
use Rattle.meaning.specs.Step.{take}
use Rattle.meaning.proofs.Laws.Shape.{Ok, Good}
use Rattle.meaning.proofs.Laws.Diagram.{same_eq, mk_same, mk_ok, ok_good}
use Rattle.meaning.proofs.Laws.Table.{Is, Single, Inserted, old, new, insert_cases, is_one, is_number}
use Rattle.meaning.proofs.Laws.Table.{enter_is, enter_again, enter_single, enter_falls, enter_levels}
use Rattle.diagram.specs.Scratch.{Covers}
use Rattle.diagram.specs.State.{Ready, Means, Lacks, Does, nodes}
use Rattle.diagram.specs.Table.{nodes_of, placed}
use Rattle.diagram.specs.declared.builder.Builder.{Builder}
use Rattle.diagram.specs.declared.scratch.Scratch.{Scratch}
use Rattle.diagram.proofs.Laws.Nodes.{nodes_of_length, nodes_of_placed, placed_length}
use Rattle.diagram.proofs.Laws.After.{works_there}
use Rattle.diagram.proofs.Laws.Grow.{right_grown}

-- t enters as x, at the end
abbrev Last : Table → Node → Tree → Type 0
Last T x t = ((enter t T).number ≡ length T + 2) × ((enter t T).table ≡ T ++ (x ∷ []))

-- ---- a node whose parts are there enters

module _ (T : Table) (level low high : ℕ) (d e : Tree) (single : Single T) (is_low : Is T low d) (is_high : Is T high e)
    (differ : low ≢ high) where
  mk_node : mk level d e ≡ node level d e
  mk_node = go (same d e) refl
    where
      go : (s : Bool) → same d e ≡ s → cond s d (node level d e) ≡ node level d e
      go true is =
          absurd (differ (is_number d T low high single is_low (rw (sym (same_eq d e is)) at is_high)))
      go false is = refl

  mk_enters : ((enter (mk level d e) T).number ≡ slot_of (slot level low high) T + 2)
      × ((enter (mk level d e) T).table ≡ insert (slot level low high) T)
  mk_enters =
      let first = enter_again d T low single is_low in
      let second = enter_again e T high single is_high in
      rw (mk_node, first.1, second.1, first.0, second.0) (refl, refl)

  -- it is there
  mk_there : slot_of (slot level low high) T < length T → Is T (slot_of (slot level low high) T + 2) (mk level d e)
  mk_there inside = go (insert_cases (slot level low high) T)
    where
      go : Inserted (slot level low high) T → Is T (slot_of (slot level low high) T + 2) (mk level d e)
      go (old p q) = rw (mk_enters.1, q, mk_enters.0) at (enter_is (mk level d e) T)
      go (new p q) = absurd (omega arith)

  -- it is new
  mk_new : length T ≤ slot_of (slot level low high) T → Last T (slot level low high) (mk level d e)
  mk_new out = go (insert_cases (slot level low high) T)
    where
      go : Inserted (slot level low high) T → Last T (slot level low high) (mk level d e)
      go (old p q) = absurd (omega arith)
      go (new p q) = (mk_enters.0 ∙ ap (λ n. n + 2) p, mk_enters.1 ∙ q)

-- ---- the builder's paths

module _ {cells : List ℕ} {s : Scratch} {b : Builder} {level low high : ℕ} (ready : Ready cells s b) (below : level < 128)
    {d e : Tree} (ok_d : Ok (level + 1) 128 d) (ok_e : Ok (level + 1) 128 e) (means_d : Means cells b low d)
    (means_e : Means cells b high e) where
  abbrev T : Table
  T = nodes cells b

  abbrev x : Node
  x = slot level low high

  ok : Ok level 128 (mk level d e)
  ok = mk_ok level 128 d e below (rw (add-one level) at ok_d) (rw (add-one level) at ok_e)

  good : Good 128 (mk level d e)
  good = ok_good level 128 (mk level d e) ok

  -- equal parts are their own node
  pub node_same : low ≡ high → Does Means cells b (take (mk level d e)) cells s (record { at = b; value = low })
  node_same one =
      let trees : d ≡ e = is_one d e T low means_d.is (rw (sym one) at means_e.is) in
      let part : mk level d e ≡ d = ap (mk level d) (sym trees) ∙ mk_same level d in
      works_there ready (record { is = rw part means_d.is; good = good })

  pub node_found : (k r : ℕ) → low ≢ high → (k < b.used) × (k ≡ slot_of x T) → r ≡ k + 2
      → Does Means cells b (take (mk level d e)) cells s (record { at = b; value = r })
  node_found k r differ found number =
      let within : slot_of x T < length T = omega (arith, found.0, found.1, nodes_of_length cells b.used) in
      let there = mk_there T level low high d e ready.single means_d.is means_e.is differ within in
      works_there ready (record { is = rw (number, found.1) there; good = good })

  module _ (differ : low ≢ high) (out : b.used ≡ slot_of x T) where
    grown : Last T x (mk level d e)
    grown =
        mk_new T level low high d e ready.single means_d.is means_e.is differ
        (omega (arith, out, nodes_of_length cells b.used))

    grown_length : length (enter (mk level d e) T).table ≡ b.used + 1
    grown_length =
        ap length grown.1 ∙ length-append T (x ∷ []) ∙ ap (λ n. n + 1) (nodes_of_length cells b.used)

    pub node_lacks : length cells / 3 ≤ b.used → Lacks cells b (mk level d e ∷ []) cells
    node_lacks full = record { kept = refl; over = omega (arith, grown_length) }

    pub node_added : {cells' : List ℕ} {s' : Scratch} {r : ℕ} → b.used < length cells / 3
        → cells' ≡ placed cells b.used level low high
        → Covers s.heads.now s.links.now b.used x s'.heads.now s'.links.now → s'.memo.now ≡ s.memo.now → r ≡ b.used + 2
        → Does Means cells b (take (mk level d e)) cells' s' (record { at = record { used = b.used + 1 }; value = r })
    node_added {cells'} {s'} {r} room put covers memo number =
        record {
          after =
              record {
                kept = long;
                entered = entered;
                ready =
                    record {
                      room = omega (arith, long);
                      small = omega (arith, long, ready.small);
                      single = rw entered (enter_single (mk level d e) T ready.single);
                      falls = rw entered (enter_falls (mk level d e) level 128 T ok ready.falls);
                      levels = rw entered (enter_levels (mk level d e) level 128 T ok ready.levels);
                      right =
                          rw (entered, grown.1)
                          (right_grown ready.falls ready.right (rw (nodes_of_length cells b.used) covers) memo);
                    };
              };
          means = record { is = rw (entered, named) (enter_is (mk level d e) T); good = good };
        }
      where
        long : length cells' ≡ length cells
        long = ap length put ∙ placed_length cells b.used level low high

        entered : nodes_of cells' (b.used + 1) ≡ (enter (mk level d e) T).table
        entered =
            ap (λ c. nodes_of c (b.used + 1)) put ∙ nodes_of_placed cells b.used level low high (omega arith)
            ∙ sym grown.1

        named : r ≡ (enter (mk level d e) T).number
        named = number ∙ ap (λ n. n + 2) (sym (nodes_of_length cells b.used)) ∙ sym grown.0
