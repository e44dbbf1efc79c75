-- Lent tables: a number's diagram is ordered and none of its nodes has two false parts; a table that the solver fills
-- passes refusal 12 and gives back the diagrams that entered.
--
-- Main results: tree_of_live, tree_of_node, tree_of_is, sound_falls.
use Prim.Native.Nat.{ℕ, zero, suc, ◌+◌, ◌-◌, ◌*◌, ◌≤◌, ◌<◌}
use native.Mathlib.Omega.{arith}
use mathlib.Core.Path.{◌≡◌, refl, ap, ap₂, ◌∙◌}
use mathlib.Core.Logic.{◌≢◌}
use mathlib.Core.Bool.{Bool, true, false, cond, not, ◌&&◌, ◌||◌, true≢false, and-eq-true_iff}
use mathlib.Core.List.{List, [], ◌∷◌, ◌++◌}
use lib.Dec.{eqb, ltb}
use lib.ListN.{length, get_or, length-append}
use borrow.Author.Tests.{ltb-true, ltb-false, lt-ltb, le-ltb, eqb-true, eqb-false, ne_eqb, not-true, not-false}
use Rattle.meaning.specs.Check.{max_levels}
use Rattle.meaning.specs.Diagram.{Tree, leaf, node, same}
use Rattle.meaning.specs.Table.{Node, slot, Table, lay_all}
use Rattle.meaning.specs.Solve.{slots}
use Rattle.meaning.specs.Lent.{node_at, level_of, low_of, high_of, sound_child, sound_node, sound_nodes, bad_nodes}
use Rattle.meaning.specs.Lent.{tree_from, tree_of}
use Rattle.meaning.proofs.Laws.Shape.{Ok}
use Rattle.meaning.proofs.Laws.Table.{none, slot_at, Is, Child, Falling, Falls, LevelsBelow, Agree, falling_moved}

-- levels rise, from l or above, all below n; no node has two false parts
abbrev pub Live : ℕ → ℕ → Tree → Type 0
Live l n (leaf b) = Unit {0}
Live l n (node i d e) =
    record {
      from : l ≤ i;
      below : i < n;
      low : Live (suc i) n d;
      high : Live (suc i) n e;
      live : same d (leaf false) && same e (leaf false) ≡ false;
    }

differ_live : (d e : Tree) → same d e ≡ false → same d (leaf false) && same e (leaf false) ≡ false
differ_live (leaf true) e differ = refl
differ_live (leaf false) (leaf true) differ = refl
differ_live (leaf false) (leaf false) differ = differ
differ_live (leaf false) (node j f g) differ = refl
differ_live (node i f g) e differ = refl

pub ok_live : (t : Tree) (l n : ℕ) → Ok l n t → Live l n t
ok_live (leaf b) l n o = tt
ok_live (node i d e) l n o =
    record {
      from = o.from;
      below = o.below;
      low = ok_live d (suc i) n o.low;
      high = ok_live e (suc i) n o.high;
      live = differ_live d e o.differ;
    }

-- ---- bad_nodes

-- the slot of number n in a lent table
abbrev pub lent_at : List ℕ → ℕ → Node
lent_at t n = node_at t (n - 2)

pub sound_child_lem : (t : List ℕ) (n i c : ℕ) → sound_child t n i c ≡ true → Child (lent_at t) n i c
sound_child_lem t n i c h =
    let both = (and-eq-true_iff (ltb c n) (ltb c 2 || ltb i (level_of (lent_at t c)))).0 h in
    record {
      lower = ltb-true c n both.0;
      rises = λ big. ltb-true i (level_of (lent_at t c)) (rw (le-ltb c 2 big) at both.1);
    }

pub child_sound : (t : List ℕ) (n i c : ℕ) → Child (lent_at t) n i c → sound_child t n i c ≡ true
child_sound t n i c h = rw (lt-ltb c n h.lower) (go (ltb c 2) refl)
  where
    go : (b : Bool) → ltb c 2 ≡ b → b || ltb i (level_of (lent_at t c)) ≡ true
    go true e = refl
    go false e = lt-ltb i (level_of (lent_at t c)) (h.rises (ltb-false c 2 e))

-- x in slot k of a lent table can be followed
pub record Sound (t : List ℕ) (k : ℕ) (x : Node) : Type 0 where
  pub level : level_of x < max_levels
  pub falls : Falling (lent_at t) (k + 2) x

sound_node_sound : (t : List ℕ) (k : ℕ) (x : Node) → sound_node t k x ≡ true → Sound t k x
sound_node_sound t k (slot i a b) h =
    let low = sound_child t (k + 2) i a in
    let high = sound_child t (k + 2) i b in
    let four = (and-eq-true_iff (ltb i max_levels && low && high) (not (eqb a b))).0 h in
    let three = (and-eq-true_iff (ltb i max_levels && low) high).0 four.0 in
    let two = (and-eq-true_iff (ltb i max_levels) low).0 three.0 in
    let falls : Falling (lent_at t) (k + 2) (slot i a b) =
    record {
      low = sound_child_lem t (k + 2) i a two.1;
      high = sound_child_lem t (k + 2) i b three.1;
      differ = eqb-false a b (not-true (eqb a b) four.1);
    } in
    record { level = ltb-true i max_levels two.0; falls = falls }

sound_sound_node : (t : List ℕ) (k : ℕ) (x : Node) → Sound t k x → sound_node t k x ≡ true
sound_sound_node t k (slot i a b) h =
    rw (
      lt-ltb i max_levels h.level,
      child_sound t (k + 2) i a h.falls.low,
      child_sound t (k + 2) i b h.falls.high,
      ne_eqb a b h.falls.differ,
    )

sound_nodes_sound : (t : List ℕ) (n : ℕ) → sound_nodes t n ≡ true → (k : ℕ) → k < n → Sound t k (node_at t k)
sound_nodes_sound t zero h k inside = absurd (omega arith)
sound_nodes_sound t (suc n) h k inside = go (eqb k n) refl (λ sound. sound_nodes_sound t n sound k)
  where
    both : (sound_nodes t n ≡ true) × (sound_node t n (node_at t n) ≡ true)
    both = (and-eq-true_iff (sound_nodes t n) (sound_node t n (node_at t n))).0 h

    go : (b : Bool) → eqb k n ≡ b → (sound_nodes t n ≡ true → k < n → Sound t k (node_at t k)) → Sound t k (node_at t k)
    go true e before = rw (eqb-true k n e) (sound_node_sound t n (node_at t n) both.1)
    go false e before = let other : k ≢ n = eqb-false k n e in before both.0 (omega arith)

sound_sound_nodes : (t : List ℕ) (n : ℕ) → ((k : ℕ) → k < n → Sound t k (node_at t k)) → sound_nodes t n ≡ true
sound_sound_nodes t zero h = refl
sound_sound_nodes t (suc n) h =
    (and-eq-true_iff (sound_nodes t n) (sound_node t n (node_at t n))).1
    (sound_sound_nodes t n (λ k inside. h k (omega arith)), sound_sound_node t n (node_at t n) (h n (omega arith)))

or-false : (a b : Bool) → a || b ≡ false → (a ≡ false) × (b ≡ false)
or-false true b e = absurd (true≢false e)
or-false false b e = (refl, e)

pub bad_nodes_sound : (t : List ℕ) (used : ℕ) → bad_nodes t used ≡ false → (k : ℕ) → k < used → Sound t k (node_at t k)
unfolding bad_nodes
bad_nodes_sound t used fine =
    let both = or-false (ltb (slots (length t)) used) (not (sound_nodes t used)) fine in
    sound_nodes_sound t used (not-false (sound_nodes t used) both.1)

pub bad_nodes_fits : (t : List ℕ) (used : ℕ) → bad_nodes t used ≡ false → used ≤ slots (length t)
unfolding bad_nodes
bad_nodes_fits t used fine =
    ltb-false (slots (length t)) used (or-false (ltb (slots (length t)) used) (not (sound_nodes t used)) fine).0

pub sound_bad_nodes : (t : List ℕ) (used : ℕ) → used ≤ slots (length t) → ((k : ℕ) → k < used → Sound t k (node_at t k))
    → bad_nodes t used ≡ false
unfolding bad_nodes
sound_bad_nodes t used fits sound = rw (le-ltb (slots (length t)) used fits, sound_sound_nodes t used sound)

-- ---- tree_of

-- a used number's slot
sound_at : (t : List ℕ) (used n : ℕ) → bad_nodes t used ≡ false → 2 ≤ n → n < used + 2 → Sound t (n - 2) (lent_at t n)
sound_at t used n fine big inside = bad_nodes_sound t used fine (n - 2) (omega arith)

-- a node with the diagrams of its parts, k steps on
abbrev whole : ℕ → List ℕ → Node → Tree
whole k t x = node (level_of x) (tree_from k t (low_of x)) (tree_from k t (high_of x))

-- more steps than the number change nothing
tree_from_more : (k m n : ℕ) (t : List ℕ) (used : ℕ) → bad_nodes t used ≡ false → n < used + 2 → n ≤ k → n ≤ m
    → tree_from k t n ≡ tree_from m t n
tree_from_more zero zero n t used fine inside p q = refl
tree_from_more zero (suc m) n t used fine inside p q = rw (lt-ltb n 2 (omega arith))
tree_from_more (suc k) zero n t used fine inside p q = rw (lt-ltb n 2 (omega arith))
tree_from_more (suc k) (suc m) n t used fine inside p q = go (ltb n 2) refl (λ c. tree_from_more k m c t used fine)
  where
    go : (b : Bool) → ltb n 2 ≡ b → ((c : ℕ) → c < used + 2 → c ≤ k → c ≤ m → tree_from k t c ≡ tree_from m t c)
        → cond b (leaf (eqb n 1)) (whole k t (lent_at t n)) ≡ cond b (leaf (eqb n 1)) (whole m t (lent_at t n))
    go true e below = refl
    go false e below =
        let big = ltb-false n 2 e in
        let falls = (sound_at t used n fine big inside).falls in
        let low = falls.low.lower in
        let high = falls.high.lower in
        ap₂ (node (level_of (lent_at t n))) (below (low_of (lent_at t n)) (omega arith) (omega arith) (omega arith))
        (below (high_of (lent_at t n)) (omega arith) (omega arith) (omega arith))

pub tree_of_false : (t : List ℕ) → tree_of t 0 ≡ leaf false
unfolding tree_of
tree_of_false t = refl

pub tree_of_true : (t : List ℕ) → tree_of t 1 ≡ leaf true
unfolding tree_of
tree_of_true t = refl

pub tree_of_node : (t : List ℕ) (used n : ℕ) → bad_nodes t used ≡ false → 2 ≤ n → n < used + 2
    → tree_of t n ≡ node (level_of (lent_at t n)) (tree_of t (low_of (lent_at t n))) (tree_of t (high_of (lent_at t n)))
unfolding tree_of
tree_of_node t used n fine big inside =
    let falls = (sound_at t used n fine big inside).falls in
    let low = falls.low.lower in
    let high = falls.high.lower in
    let child : (c : ℕ) → c < n → tree_from n t c ≡ tree_from c t c =
    λ c lower. tree_from_more n c c t used fine (omega arith) (omega arith) (omega arith) in
    let left = child (low_of (lent_at t n)) (omega arith) in
    let right = child (high_of (lent_at t n)) (omega arith) in
    tree_from_more n (suc n) n t used fine inside (omega arith) (omega arith)
    ∙ rw (le-ltb n 2 big) (ap₂ (node (level_of (lent_at t n))) left right)

tree_from_zero_only : (k n : ℕ) (t : List ℕ) → n ≤ k → same (tree_from k t n) (leaf false) ≡ eqb n 0
tree_from_zero_only zero n t p = let none : n ≡ 0 = omega arith in rw none
tree_from_zero_only (suc k) zero t p = refl
tree_from_zero_only (suc k) (suc zero) t p = refl
tree_from_zero_only (suc k) (suc (suc n)) t p =
    let big : 2 ≤ suc (suc n) = omega arith in
    rw (le-ltb (suc (suc n)) 2 big, ne_eqb (suc (suc n)) 0 (omega arith))

-- only number 0 is false under every assignment
pub tree_of_zero_only : (t : List ℕ) (used n : ℕ) → bad_nodes t used ≡ false → n < used + 2
    → same (tree_of t n) (leaf false) ≡ eqb n 0
unfolding tree_of
tree_of_zero_only t used n fine inside = tree_from_zero_only n n t (omega arith)

not_both_zero : (a b : ℕ) → a ≢ b → eqb a 0 && eqb b 0 ≡ false
not_both_zero zero zero differ = absurd (differ refl)
not_both_zero zero (suc b) differ = ne_eqb (suc b) 0 (omega arith)
not_both_zero (suc a) b differ = rw (ne_eqb (suc a) 0 (omega arith))

tree_from_live : (k n l : ℕ) (t : List ℕ) (used : ℕ) → bad_nodes t used ≡ false → n < used + 2 → n ≤ k
    → (2 ≤ n → l ≤ level_of (lent_at t n)) → Live l max_levels (tree_from k t n)
tree_from_live zero n l t used fine inside p from = tt
tree_from_live (suc k) n l t used fine inside p from =
    go (ltb n 2) refl (λ c. tree_from_live k c (suc (level_of (lent_at t n))) t used fine)
  where
    go : (b : Bool) → ltb n 2 ≡ b
        → ((c : ℕ) → c < used + 2 → c ≤ k → (2 ≤ c → level_of (lent_at t n) < level_of (lent_at t c))
        → Live (suc (level_of (lent_at t n))) max_levels (tree_from k t c))
        → Live l max_levels (cond b (leaf (eqb n 1)) (whole k t (lent_at t n)))
    go true e below = tt
    go false e below =
        let big = ltb-false n 2 e in
        let sound = sound_at t used n fine big inside in
        let falls = sound.falls in
        let low_under = falls.low.lower in
        let high_under = falls.high.lower in
        let low = low_of (lent_at t n) in
        let high = high_of (lent_at t n) in
        let low_false = tree_from_zero_only k low t (omega arith) in
        let high_false = tree_from_zero_only k high t (omega arith) in
        record {
          from = from big;
          below = sound.level;
          low = below low (omega arith) (omega arith) falls.low.rises;
          high = below high (omega arith) (omega arith) falls.high.rises;
          live = rw (low_false, high_false) (not_both_zero low high falls.differ);
        }

pub tree_of_live : (t : List ℕ) (used n : ℕ) → bad_nodes t used ≡ false → n < used + 2 → Live 0 128 (tree_of t n)
unfolding tree_of
tree_of_live t used n fine inside = tree_from_live n n 0 t used fine inside (omega arith) (λ big. omega arith)

-- ---- lay_all

pub lay_length : (s : Table) → length (lay_all s) ≡ 3 * length s
lay_length [] = refl
lay_length (slot i a b ∷ s) = let rest = lay_length s in omega arith

pub lay_node : (s : Table) (rest : List ℕ) (k : ℕ) → k < length s → node_at (lay_all s ++ rest) k ≡ get_or s k none
lay_node [] rest k inside = absurd (omega arith)
lay_node (slot i a b ∷ s) rest zero inside = refl
lay_node (slot i a b ∷ s) rest (suc k) inside =
    let first : 3 * suc k ≡ suc (suc (suc (3 * k))) = omega arith in
    let second : 3 * suc k + 1 ≡ suc (suc (suc (3 * k + 1))) = omega arith in
    let third : 3 * suc k + 2 ≡ suc (suc (suc (3 * k + 2))) = omega arith in
    rw (second, third, first) (lay_node s rest k (omega arith))

tree_from_is : (t : Tree) (k n : ℕ) (s : Table) (rest : List ℕ) → n ≤ k → Falls s → Is s n t
    → tree_from k (lay_all s ++ rest) n ≡ t
tree_from_is (leaf true) zero n s rest p falls h = rw h
tree_from_is (leaf false) zero n s rest p falls h = rw h
tree_from_is (leaf true) (suc k) n s rest p falls h = rw h
tree_from_is (leaf false) (suc k) n s rest p falls h = rw h
tree_from_is (node i d e) zero n s rest p falls h = absurd (omega (arith, h.big))
tree_from_is (node i d e) (suc k) n s rest p falls h =
    let big = h.big in
    let within = h.inside in
    let inside : n - 2 < length s = omega arith in
    let down = falls (n - 2) inside in
    let low = down.low.lower in
    let high = down.high.lower in
    let left = tree_from_is d k (low_of (slot_at s n)) s rest (omega arith) falls h.left in
    let right = tree_from_is e k (high_of (slot_at s n)) s rest (omega arith) falls h.right in
    let here = ap (whole k (lay_all s ++ rest)) (lay_node s rest (n - 2) inside) in
    rw (le-ltb n 2 big) (here ∙ rw (h.at, left, right))

-- the table's numbers give back the diagrams that they stand for
pub tree_of_is : (t : Tree) (n : ℕ) (s : Table) (rest : List ℕ) → Falls s → Is s n t → tree_of (lay_all s ++ rest) n ≡ t
unfolding tree_of
tree_of_is t n s rest falls h = tree_from_is t n n s rest (omega arith) falls h

-- a table that the solver fills passes refusal 12
pub sound_falls : (s : Table) (rest : List ℕ) → Falls s → LevelsBelow 128 s
    → bad_nodes (lay_all s ++ rest) (length s) ≡ false
sound_falls s rest falls levels = sound_bad_nodes laid (length s) (omega (arith, long)) sound
  where
    laid : List ℕ
    laid = lay_all s ++ rest

    long : length laid ≡ 3 * length s + length rest
    long = length-append (lay_all s) rest ∙ ap (λ n. n + length rest) (lay_length s)

    agree : (n : ℕ) → n ≤ length s + 2 → Agree (slot_at s) (lent_at laid) n
    agree n within k big under = lay_node s rest (k - 2) (omega arith)

    sound : (k : ℕ) → k < length s → Sound laid k (node_at laid k)
    sound k inside =
        let near = agree (k + 2) (omega arith) in
        let moved = falling_moved (slot_at s) (lent_at laid) (k + 2) (get_or s k none) near (falls k inside) in
        rw (lay_node s rest k inside) (record { level = levels k inside; falls = moved })
