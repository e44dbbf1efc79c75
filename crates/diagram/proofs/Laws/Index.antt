-- The index: a walk along a chain, then past the slots that are in chains, finds a node's slot.
use Prim.Native.Nat.{ℕ, zero, suc, ◌+◌, ◌-◌, ◌*◌, ◌≤◌, ◌<◌}
use native.Mathlib.Omega.{arith}
use native.Mathlib.Nat.{not-suc-le-zero}
use mathlib.Core.Path.{◌≡◌, refl, sym, ap, ◌∙◌}
use mathlib.Core.Bool.{Bool, true, false, ◌&&◌}
use mathlib.Core.List.{List, [], ◌∷◌}
use Rattle.std.specs.Prelude.{Some, None}
use lib.Dec.{ltb, eqb}
use lib.ListN.{length, get_or}
use borrow.Author.Tests.{ltb-true, ltb-false, eqb-true, eqb-false}
use Rattle.meaning.specs.Table.{Node, slot, Table, alike, slot_of}
use Rattle.meaning.specs.Lent.{node_at}
use Rattle.meaning.proofs.Laws.Table.{none, Single, alike_eq}
use Rattle.diagram.specs.Table.{Inside, nodes_of, node_of, slot_as}
use Rattle.diagram.specs.declared.table.Node.{Node as Code}
use Rattle.diagram.specs.Scratch.{Finds, Indexed, Passed, home_of, head_at, link_at}
use Rattle.diagram.proofs.Laws.Nodes.{nodes_of_length, nodes_of_at}

-- ---- the first slot that holds a node

pub slot_of_first : (x : Node) (T : Table) (k : ℕ) → Passed T k x → k < length T → alike x (get_or T k none) ≡ true
    → k ≡ slot_of x T
slot_of_first x [] k passed inside hit = absurd (not-suc-le-zero inside)
slot_of_first x (y ∷ T) zero passed inside hit = rw hit
slot_of_first x (y ∷ T) (suc k) passed inside hit =
    let rest : Passed T k x = record { miss = λ j below within. passed.miss (suc j) (omega arith) (omega arith) } in
    rw (passed.miss 0 (omega arith) (omega arith)) (ap suc (slot_of_first x T k rest (omega arith) hit))

pub slot_of_nowhere : (x : Node) (T : Table) (n : ℕ) → Passed T n x → length T ≤ n → length T ≡ slot_of x T
slot_of_nowhere x [] n passed all = refl
slot_of_nowhere x (y ∷ T) n passed all =
    let rest : Passed T (length T) x =
    record { miss = λ j below within. passed.miss (suc j) (omega arith) (omega arith) } in
    rw (passed.miss 0 (omega arith) (omega arith)) (ap suc (slot_of_nowhere x T (length T) rest (omega arith)))

passed_more : (T : Table) (n : ℕ) (x : Node) → Passed T n x → alike x (get_or T n none) ≡ false → Passed T (n + 1) x
passed_more T n x passed miss = record { miss = λ k below within. go k below within (ltb k n) refl }
  where
    go : (k : ℕ) → k < n + 1 → k < length T → (b : Bool) → ltb k n ≡ b → alike x (get_or T k none) ≡ false
    go k below within true e = passed.miss k (ltb-true k n e) within
    go k below within false e =
        let beyond = ltb-false k n e in
        let last : k ≡ n = omega arith in
        rw last miss

no : (b : Bool) → (b ≡ true → ⊥) → b ≡ false
no true h = absurd (h refl)
no false h = refl

-- what `==` of nodes answers
abbrev pub equal : Code → Code → Bool
equal x y = eqb x.level y.level && (eqb x.low y.low && eqb x.high y.high)

both : (a b c : Bool) → a && (b && c) ≡ a && b && c
both true b c = refl
both false b c = refl

equal_alike : (x y : Code) (z : Node) → y ≡ node_of z → equal x y ≡ alike (slot_as x) z
equal_alike x y (slot i a b) is = rw is (both (eqb x.level i) (eqb x.low a) (eqb x.high b))

-- of a lent table's slots, where r says whether slot k, whose node is y, holds x
module _ (cells : List ℕ) (used k : ℕ) (x y : Code) (r : Bool) where
  abbrev T : Table
  T = nodes_of cells used

  pub scan_found : Passed T k (slot_as x) → k < used → y ≡ node_of (node_at cells k) → r ≡ equal x y → r ≡ true
      → Finds cells used (slot_as x) (Some k)
  scan_found passed below read test hit = (
    below,
    slot_of_first (slot_as x) T k passed (omega (arith, nodes_of_length cells used))
        (rw (nodes_of_at cells used k below) (sym (equal_alike x y (node_at cells k) read) ∙ sym test ∙ hit)),
  )

  pub scan_more : Passed T k (slot_as x) → k < used → y ≡ node_of (node_at cells k) → r ≡ equal x y → r ≡ false
      → Passed T (k + 1) (slot_as x)
  scan_more passed below read test miss =
      passed_more T k (slot_as x) passed
      (rw (nodes_of_at cells used k below) (sym (equal_alike x y (node_at cells k) read) ∙ sym test ∙ miss))

pub scan_end : (cells : List ℕ) (used k : ℕ) (x : Code) → Passed (nodes_of cells used) k (slot_as x) → used ≤ k
    → Finds cells used (slot_as x) None
scan_end cells used k x passed beyond =
    let long = nodes_of_length cells used in
    sym long ∙ slot_of_nowhere (slot_as x) (nodes_of cells used) k passed (omega arith)

-- ---- the walk

-- `at` names a slot of x's chain, or none; no covered slot from there on holds x
pub record Walks (T : Table) (covered : ℕ) (x : Node) (at : ℕ) : Type 0 where
  pub inside : at ≤ length T
  pub within : at ≤ covered
  pub home : 0 < at → home_of covered (get_or T (at - 1) none) ≡ home_of covered x
  pub passed : (k : ℕ) → at ≤ k → k < length T → k < covered → alike x (get_or T k none) ≡ false

module _ (x : Node) (T : Table) (heads links : List ℕ) (indexed : Indexed T heads links) where
  abbrev covered : ℕ
  covered = length heads

  -- a slot that holds x has its home
  same_home : (k : ℕ) → alike x (get_or T k none) ≡ true → home_of covered (get_or T k none) ≡ home_of covered x
  same_home k here = ap (home_of covered) (sym (alike_eq x (get_or T k none) here))

  pub walk_start : (h : ℕ) → h < covered → h ≡ home_of covered x → Walks T covered x (head_at heads h)
  walk_start h below is =
      record {
        inside = (indexed.head_le h below).0;
        within = (indexed.head_le h below).1;
        home = λ some. indexed.head_home h below some ∙ is;
        passed = λ k from inside within. no (alike x (get_or T k none))
            (λ here. omega (arith, rw (same_home k here ∙ sym is) at (indexed.head_reach k inside within)));
      }

  pub walk_next : (at : ℕ) → 0 < at → Walks T covered x at → alike x (get_or T (at - 1) none) ≡ false
      → Walks T covered x (link_at links (at - 1))
  walk_next at some walks miss =
      record {
        inside = omega (arith, falls, inside);
        within = omega (arith, falls, within);
        home = λ more. indexed.link_home k inside within more ∙ walks.home some;
        passed = λ j from in_table in_index. go j from in_table in_index (ltb j k) refl (eqb j k) refl;
      }
    where
      k : ℕ
      k = at - 1

      inside : k < length T
      inside = omega (arith, walks.inside)

      within : k < covered
      within = omega (arith, walks.within)

      falls : link_at links k ≤ k
      falls = indexed.link_le k inside within

      go : (j : ℕ) → link_at links k ≤ j → j < length T → j < covered → (b : Bool) → ltb j k ≡ b → (c : Bool)
          → eqb j k ≡ c → alike x (get_or T j none) ≡ false
      go j from in_table in_index true e c f =
          no (alike x (get_or T j none))
          (λ here. omega (
            arith,
            indexed.link_reach j k (ltb-true j k e) inside within
                (same_home j here ∙ sym (walks.home some)),
          ))
      go j from in_table in_index false e true f = rw (eqb-true j k f) miss
      go j from in_table in_index false e false f =
          let beyond = ltb-false j k e in
          let other : j ≡ k → ⊥ = eqb-false j k f in
          walks.passed j (omega arith) in_table in_index

-- of a lent table, where r says whether the slot that `at` names, whose node is y, holds x
module _ (cells : List ℕ) (used covered at : ℕ) (x : Code) (walks : Walks (nodes_of cells used) covered (slot_as x) at)
    (some : 0 < at) where
  below : at - 1 < used
  below = omega (arith, walks.inside, nodes_of_length cells used)

  here : get_or (nodes_of cells used) (at - 1) none ≡ node_at cells (at - 1)
  here = nodes_of_at cells used (at - 1) below

  pub walk_slot : 3 * used ≤ length cells → Inside cells (at - 1)
  walk_slot room = omega (arith, below)

  module _ (y : Code) (r : Bool) (read : y ≡ node_of (node_at cells (at - 1))) (test : r ≡ equal x y) where
    same : alike (slot_as x) (node_at cells (at - 1)) ≡ r
    same = sym (equal_alike x y (node_at cells (at - 1)) read) ∙ sym test

    pub walk_found : Single (nodes_of cells used) → r ≡ true → Finds cells used (slot_as x) (Some (at - 1))
    walk_found single hit =
        let is : slot_as x ≡ get_or (nodes_of cells used) (at - 1) none =
        alike_eq (slot_as x) (node_at cells (at - 1)) (same ∙ hit) ∙ sym here in
        (below, sym (rw is (single (at - 1) (omega (arith, below, nodes_of_length cells used)))))

    pub walk_miss : r ≡ false → alike (slot_as x) (get_or (nodes_of cells used) (at - 1) none) ≡ false
    walk_miss miss = rw here (same ∙ miss)
