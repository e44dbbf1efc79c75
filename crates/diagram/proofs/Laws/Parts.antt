-- A ready state's numbers: each stands for the diagram that its nodes spell, a part's number for the diagram's part.
--
--   enter_all_mk  low part, high part, then the node: what the node alone enters
--   tree_stands   number a stands for `tree_of cells a`, and for no other diagram (tree_one)
--   tree_part     a part's number stands for the diagram's part
--   parts_fall    the parts of three numbers at their lowest level are smaller in sum
use Prim.Native.Nat.{ℕ, zero, suc, ◌+◌, ◌-◌, ◌≤◌, ◌<◌, min}
use native.Mathlib.Omega.{arith}
use mathlib.Core.Path.{◌≡◌, refl, sym, ap, ◌∙◌}
use mathlib.Core.Logic.{◌≢◌, ◌⊎◌, inl, inr}
use mathlib.Core.Bool.{Bool, true, false, cond}
use mathlib.Core.List.{List, [], ◌∷◌}
use lib.Dec.{eqb, ltb}
use lib.ListN.{length}
use borrow.Author.Tests.{ltb-true, ltb-false, le-ltb, eqb-true, eqb-false, eq-eqb}
use Rattle.meaning.specs.Number.{digit}
use Rattle.meaning.specs.Diagram.{Tree, leaf, node, same, mk}
use Rattle.meaning.specs.Table.{Node, Table, enter, enter_all}
use Rattle.meaning.specs.Witness.{part}
use Rattle.meaning.specs.Lent.{level_of, low_of, high_of, tree_from, tree_of}
use Rattle.meaning.proofs.Laws.Shape.{Ok, Good}
use Rattle.meaning.proofs.Laws.Diagram.{same_eq, ok_at, ok_good}
use Rattle.meaning.proofs.Laws.Apply.{top_level}
use Rattle.meaning.proofs.Laws.Table.{slot_at, Is, Single, Falling, is_one, is_number}
use Rattle.meaning.proofs.Laws.Table.{is_ext, enter_ext, enter_is, enter_again, enter_single}
use Rattle.meaning.proofs.Laws.Lent.{lent_at}
use Rattle.diagram.specs.State.{nodes, Ready, Stands}
use Rattle.diagram.specs.Table.{top_of, part_of, parts_of}
use Rattle.diagram.specs.declared.builder.Builder.{Builder}
use Rattle.diagram.specs.declared.scratch.Scratch.{Scratch}
use Rattle.diagram.proofs.Laws.Nodes.{nodes_of_length, nodes_of_at}

-- ---- entering

-- low part, high part, then the node: what the node alone enters
pub enter_all_mk : (l : ℕ) (d e : Tree) (s : Table) → Single s
    → enter_all (d ∷ e ∷ mk l d e ∷ []) s ≡ enter_all (mk l d e ∷ []) s
enter_all_mk l d e s single = go (same d e) refl
  where
    s₁ : Table
    s₁ = (enter d s).table

    s₂ : Table
    s₂ = (enter e s₁).table

    low : Is s₂ (enter d s).number d
    low = is_ext d (enter d s).number (enter_ext e s₁) (enter_is d s)

    single₁ : Single s₁
    single₁ = enter_single d s single

    single₂ : Single s₂
    single₂ = enter_single e s₁ single₁

    again : (enter d s₁).table ≡ s₁
    again = (enter_again d s₁ (enter d s).number single₁ (enter_is d s)).1

    go : (b : Bool) → same d e ≡ b → (enter (cond b d (node l d e)) s₂).table ≡ (enter (cond b d (node l d e)) s).table
    go true is = rw (← same_eq d e is, again, again)
    go false is =
        let d_again = enter_again d s₂ (enter d s).number single₂ low in
        let e_again = enter_again e s₂ (enter e s₁).number single₂ (enter_is e s₁) in
        rw (d_again.1, e_again.1, d_again.0, e_again.0)

-- ---- the diagram of a number

-- a number that stands for a diagram is below the table's
is_below : (x : Tree) (s : Table) (a : ℕ) → Is s a x → a < length s + 2
is_below (leaf true) s a h = omega arith
is_below (leaf false) s a h = omega arith
is_below (node i d e) s a h = h.inside

digit_eqb : (a : ℕ) → a < 2 → a ≡ digit (eqb a 1)
digit_eqb zero small = refl
digit_eqb (suc zero) small = refl
digit_eqb (suc (suc a)) small = absurd (omega arith)

-- diagrams that aren't equal
not_same : (x y : Tree) → x ≢ y → same x y ≡ false
not_same x y other = go (same x y) refl
  where
    go : (b : Bool) → same x y ≡ b → b ≡ false
    go true e = absurd (other (same_eq x y e))
    go false e = refl

-- levels are from a diagram's top level on
top_ok : (l : ℕ) (x : Tree) → l ≤ top_level 128 x → Good 128 x → Ok l 128 x
top_ok l (leaf v) le good = tt
top_ok l (node i d e) le good = ok_at l 0 128 i d e le good

-- the least of three is the third if it isn't one of the others
third : (i j k : ℕ) → i ≢ min i (min j k) → j ≢ min i (min j k) → k ≡ min i (min j k)
third i j k p q = omega arith

-- a node's high part, or low part
abbrev child : Bool → Node → ℕ
child v x = cond v (high_of x) (low_of x)

module _ {cells : List ℕ} {s : Scratch} {b : Builder} (ready : Ready cells s b) where
  slot_at_lem : (a : ℕ) → 2 ≤ a → a < b.used + 2 → slot_at (nodes cells b) a ≡ lent_at cells a
  slot_at_lem a big inside = nodes_of_at cells b.used (a - 2) (omega arith)

  level_at_lem : (a : ℕ) → 2 ≤ a → a < b.used + 2 → level_of (lent_at cells a) < 128
  level_at_lem a big inside =
      let below : a - 2 < length (nodes cells b) = omega (arith, nodes_of_length cells b.used) in
      rw (slot_at_lem a big inside) at (ready.levels (a - 2) below)

  falling : (a : ℕ) → 2 ≤ a → a < b.used + 2 → Falling (slot_at (nodes cells b)) a (lent_at cells a)
  falling a big inside =
      let below : a - 2 < length (nodes cells b) = omega (arith, nodes_of_length cells b.used) in
      let again : a - 2 + 2 ≡ a = omega arith in
      rw (slot_at_lem a big inside, again) at (ready.falls (a - 2) below)

  child_lower : (v : Bool) (a : ℕ) → 2 ≤ a → a < b.used + 2 → child v (lent_at cells a) < a
  child_lower true a big inside = (falling a big inside).high.lower
  child_lower false a big inside = (falling a big inside).low.lower

  child_rises : (v : Bool) (a : ℕ) → 2 ≤ a → a < b.used + 2
      → let c = child v (lent_at cells a) in 2 ≤ c → level_of (lent_at cells a) < level_of (lent_at cells c)
  child_rises v a big inside more =
      let lower = child_lower v a big inside in
      rw (slot_at_lem (child v (lent_at cells a)) more (omega arith)) at (go v more)
    where
      go : (v : Bool) → let c = child v (lent_at cells a) in
          2 ≤ c → level_of (lent_at cells a) < level_of (slot_at (nodes cells b) c)
      go true = (falling a big inside).high.rises
      go false = (falling a big inside).low.rises

  -- fuel k is enough for number a; levels are from l on
  tree_from_lem : (k l a : ℕ) → a ≤ k → a < b.used + 2 → (2 ≤ a → l ≤ level_of (lent_at cells a))
      → Is (nodes cells b) a (tree_from k cells a) × Ok l 128 (tree_from k cells a)
  tree_from_lem zero l a le inside from = let is : a ≡ 0 = omega arith in rw is (refl, tt)
  tree_from_lem (suc k) l a le inside from =
      go (ltb a 2) refl (λ v. tree_from_lem k (suc (level_of (lent_at cells a))) (child v (lent_at cells a)))
    where
      x : Node
      x = lent_at cells a

      part_at : Bool → Tree
      part_at v = tree_from k cells (child v x)

      go : (s : Bool) → ltb a 2 ≡ s
          → ((v : Bool) → child v x ≤ k → child v x < b.used + 2
          → (2 ≤ child v x → level_of x < level_of (lent_at cells (child v x)))
          → Is (nodes cells b) (child v x) (part_at v) × Ok (suc (level_of x)) 128 (part_at v))
          → let t = cond s (leaf (eqb a 1)) (node (level_of x) (part_at false) (part_at true)) in
          Is (nodes cells b) a t × Ok l 128 t
      go true e below = (digit_eqb a (ltb-true a 2 e), tt)
      go false e below =
          let big : 2 ≤ a = ltb-false a 2 e in
          let here = slot_at_lem a big inside in
          let half : (v : Bool) → Is (nodes cells b) (child v x) (part_at v) × Ok (suc (level_of x)) 128 (part_at v) =
          λ v. let lower = child_lower v a big inside in
          below v (omega arith) (omega arith) (child_rises v a big inside) in
          let low = half false in
          let high = half true in
          let differ : part_at false ≢ part_at true =
          λ one. (falling a big inside).differ
          (is_number (part_at true) (nodes cells b) (low_of x) (high_of x) ready.single
          (rw one at low.0) high.0) in
          let inside_table : a < length (nodes cells b) + 2 = omega (arith, nodes_of_length cells b.used) in (
            record { big = big; inside = inside_table; at = ap level_of here; left = rw here low.0; right = rw here high.0 },
            record {
              from = from big;
              below = level_at_lem a big inside;
              low = low.1;
              high = high.1;
              differ = not_same (part_at false) (part_at true) differ;
            },
          )

  -- each number below the table's stands for the diagram that its nodes spell
  pub tree_stands : (a : ℕ) → a < b.used + 2 → Stands (nodes cells b) a (tree_of cells a)
  unfolding tree_of
  tree_stands a inside =
      let both = tree_from_lem a 0 a (omega arith) inside (λ big. omega arith) in
      record { is = both.0; good = both.1 }

  -- and for no other
  pub tree_one : (a : ℕ) (x : Tree) → Stands (nodes cells b) a x → x ≡ tree_of cells a
  tree_one a x stands =
      let below = is_below x (nodes cells b) a stands.is in
      let inside : a < b.used + 2 = rw (nodes_of_length cells b.used) at below in
      is_one x (tree_of cells a) (nodes cells b) a stands.is (tree_stands a inside).is

  pub tree_good : (a : ℕ) → a < b.used + 2 → Good 128 (tree_of cells a)
  tree_good a inside = (tree_stands a inside).good

  -- ---- its level and its parts

  -- what a node's slot holds
  module _ (a i : ℕ) (d e : Tree) (stands : Stands (nodes cells b) a (node i d e)) where
    here : slot_at (nodes cells b) a ≡ lent_at cells a
    here =
        let inside : a < b.used + 2 = rw (nodes_of_length cells b.used) at stands.is.inside in
        slot_at_lem a stands.is.big inside

    here_level : level_of (lent_at cells a) ≡ i
    here_level = ap level_of (sym here) ∙ stands.is.at

    here_child : (v : Bool) → Stands (nodes cells b) (child v (lent_at cells a)) (cond v e d)
    here_child true = record { is = rw here at stands.is.right; good = ok_good (suc i) 128 e stands.good.high }
    here_child false = record { is = rw here at stands.is.left; good = ok_good (suc i) 128 d stands.good.low }

  top_is : (a : ℕ) (x : Tree) → Stands (nodes cells b) a x → top_of cells a ≡ top_level 128 x
  top_is a (leaf true) stands = rw stands.is
  top_is a (leaf false) stands = rw stands.is
  top_is a (node i d e) stands = rw (le-ltb a 2 stands.is.big) (here_level a i d e stands)

  part_stands : (v : Bool) (l a : ℕ) (x : Tree) → Stands (nodes cells b) a x
      → Stands (nodes cells b) (part_of cells v l a) (part v l x)
  part_stands v l a (leaf true) stands = rw stands.is (record { is = refl; good = tt })
  part_stands v l a (leaf false) stands = rw stands.is (record { is = refl; good = tt })
  part_stands v l a (node i d e) stands = rw (le-ltb a 2 stands.is.big, here_level a i d e stands) (go (eqb i l))
    where
      go : (s : Bool) → Stands (nodes cells b) (cond s (child v (lent_at cells a)) a) (cond s (cond v e d) (node i d e))
      go true = here_child a i d e stands v
      go false = stands

  pub tree_top : (a : ℕ) → a < b.used + 2 → top_of cells a ≡ top_level 128 (tree_of cells a)
  tree_top a inside = top_is a (tree_of cells a) (tree_stands a inside)

  pub tree_ok : (l a : ℕ) → a < b.used + 2 → l ≤ top_of cells a → Ok l 128 (tree_of cells a)
  tree_ok l a inside le = top_ok l (tree_of cells a) (rw (tree_top a inside) at le) (tree_good a inside)

  pub tree_part : (v : Bool) (l a : ℕ) → a < b.used + 2 → tree_of cells (part_of cells v l a) ≡ part v l (tree_of cells a)
  tree_part v l a inside =
      let stands = part_stands v l a (tree_of cells a) (tree_stands a inside) in
      sym (tree_one (part_of cells v l a) (part v l (tree_of cells a)) stands)

  -- ---- numbers

  -- no part's number is larger
  pub part_le : (v : Bool) (l a : ℕ) → a < b.used + 2 → part_of cells v l a ≤ a
  part_le v l a inside = go (ltb a 2) refl (eqb (level_of (lent_at cells a)) l)
    where
      go : (s : Bool) → ltb a 2 ≡ s → (r : Bool) → cond s a (cond r (child v (lent_at cells a)) a) ≤ a
      go true e r = omega arith
      go false e true = let lower = child_lower v a (ltb-false a 2 e) inside in omega arith
      go false e false = omega arith

  -- at a node's own level it is smaller
  pub part_falls : (v : Bool) (l a : ℕ) → a < b.used + 2 → top_of cells a ≡ l → l < 128 → part_of cells v l a < a
  part_falls v l a inside = go (ltb a 2) refl
    where
      go : (s : Bool) → ltb a 2 ≡ s → cond s 128 (level_of (lent_at cells a)) ≡ l → l < 128
          → cond s a (cond (eqb (level_of (lent_at cells a)) l) (child v (lent_at cells a)) a) < a
      go true e top small = absurd (omega arith)
      go false e top small =
          rw (eq-eqb (level_of (lent_at cells a)) l top) (child_lower v a (ltb-false a 2 e) inside)

  top_node : (a : ℕ) → 2 ≤ a → a < b.used + 2 → top_of cells a < 128
  top_node a big inside = rw (le-ltb a 2 big) (level_at_lem a big inside)

  -- three numbers of which one is a node's: their lowest level, and their parts there are smaller in sum
  module _ (a c d : ℕ) (known_a : a < b.used + 2) (known_c : c < b.used + 2) (known_d : d < b.used + 2)
      (some : (2 ≤ a) ⊎ ((2 ≤ c) ⊎ (2 ≤ d))) where
    pub level_small : (parts_of cells a c d).level < 128
    level_small = go some
      where
        go : (2 ≤ a) ⊎ ((2 ≤ c) ⊎ (2 ≤ d)) → (parts_of cells a c d).level < 128
        go (inl big) = omega (arith, top_node a big known_a)
        go (inr (inl big)) = omega (arith, top_node c big known_c)
        go (inr (inr big)) = omega (arith, top_node d big known_d)

    pub parts_fall : (v : Bool) → let l = (parts_of cells a c d).level in
        part_of cells v l a + part_of cells v l c + part_of cells v l d < a + c + d
    parts_fall v =
        go (eqb (top_of cells a) l) refl (eqb (top_of cells c) l) refl
        (part_le v l a known_a) (part_le v l c known_c) (part_le v l d known_d)
        (part_falls v l a known_a) (part_falls v l c known_c) (part_falls v l d known_d)
      where
        l : ℕ
        l = (parts_of cells a c d).level

        go : (s : Bool) → eqb (top_of cells a) l ≡ s → (r : Bool) → eqb (top_of cells c) l ≡ r → {i j k : ℕ}
            → i ≤ a → j ≤ c → k ≤ d
            → (top_of cells a ≡ l → l < 128 → i < a) → (top_of cells c ≡ l → l < 128 → j < c)
            → (top_of cells d ≡ l → l < 128 → k < d) → i + j + k < a + c + d
        go true e r f le_a le_c le_d lt_a lt_c lt_d = omega (arith, lt_a (eqb-true (top_of cells a) l e) level_small)
        go false e true f le_a le_c le_d lt_a lt_c lt_d = omega (arith, lt_c (eqb-true (top_of cells c) l f) level_small)
        go false e false f le_a le_c le_d lt_a lt_c lt_d =
            let other_a : top_of cells a ≢ l = eqb-false (top_of cells a) l e in
            let other_c : top_of cells c ≢ l = eqb-false (top_of cells c) l f in
            let last : top_of cells d ≡ l = third (top_of cells a) (top_of cells c) (top_of cells d) other_a other_c in
            omega (arith, lt_d last level_small)
