-- A new slot comes into the index: first in the chain of its place if it is covered, else into no chain.
use Prim.Native.Nat.{ℕ, ◌+◌, ◌-◌, ◌≤◌, ◌<◌}
use native.Mathlib.Omega.{arith}
use mathlib.Core.Path.{◌≡◌, refl, sym, ap, ◌∙◌}
use mathlib.Core.Logic.{◌≢◌, ◌⊎◌, inl, inr}
use mathlib.Core.Bool.{Bool, true, false}
use mathlib.Core.List.{List, [], ◌∷◌, ◌++◌}
use lib.Dec.{ltb, eqb}
use lib.ListN.{length, get_or, set, length-set, length-append, get_or-append}
use lib.Seq.{get_or-set_same, get_or-set_other, get_or-append_seam}
use borrow.Author.Tests.{ltb-true, ltb-false, eqb-true, eqb-false}
use Rattle.meaning.specs.Table.{Node, slot, Table}
use Rattle.meaning.proofs.Laws.Table.{none}
use Rattle.diagram.specs.Scratch.{Indexed, Covers, home_of, head_at, link_at}
use Rattle.diagram.proofs.Laws.Hash.{place_lt}

pub home_below : (covered : ℕ) (x : Node) → 0 < covered → home_of covered x < covered
home_below covered (slot i a b) some = place_lt covered i a b 0 some

-- ---- the index of the grown table

below_or_last : (n k : ℕ) → k < n + 1 → (k < n) ⊎ (k ≡ n)
below_or_last n k below = go (ltb k n) refl
  where
    go : (b : Bool) → ltb k n ≡ b → (k < n) ⊎ (k ≡ n)
    go true e = inl (ltb-true k n e)
    go false e = inr (omega (arith, ltb-false k n e))

equal_or_not : (m n : ℕ) → (m ≡ n) ⊎ (m ≢ n)
equal_or_not m n = go (eqb m n) refl
  where
    go : (b : Bool) → eqb m n ≡ b → (m ≡ n) ⊎ (m ≢ n)
    go true e = inl (eqb-true m n e)
    go false e = inr (eqb-false m n e)

module _ (T : Table) (heads links : List ℕ) (x : Node) (indexed : Indexed T heads links) where
  abbrev covered : ℕ
  covered = length heads

  long : length (T ++ (x ∷ [])) ≡ length T + 1
  long = length-append T (x ∷ [])

  old : (k : ℕ) → k < length T → get_or (T ++ (x ∷ [])) k none ≡ get_or T k none
  old k inside = get_or-append T (x ∷ []) none k inside

  old_home : (k : ℕ) → k < length T → home_of covered (get_or (T ++ (x ∷ [])) k none) ≡ home_of covered (get_or T k none)
  old_home k inside = ap (home_of covered) (old k inside)

  new : get_or (T ++ (x ∷ [])) (length T) none ≡ x
  new = get_or-append_seam T x [] none

  indexed_past : covered ≤ length T → Indexed (T ++ (x ∷ [])) heads links
  indexed_past past =
      record {
        head_le = λ h below. let le = indexed.head_le h below in (omega (arith, long), le.1);
        head_home = λ h below some.
            old_home (head_at heads h - 1) (omega (arith, indexed.head_le h below)) ∙ indexed.head_home h below some;
        link_le = λ k inside below. indexed.link_le k (omega arith) below;
        link_home = λ k inside below some.
            old_home (link_at links k - 1) (omega (arith, indexed.link_le k (omega arith) below))
            ∙ indexed.link_home k (omega arith) below some ∙ sym (old_home k (omega arith));
        head_reach = λ k inside below. rw (old k (omega arith)) (indexed.head_reach k (omega arith) below);
        link_reach = λ j k less inside below same. indexed.link_reach j k less (omega arith) below
            (sym (old_home j (omega arith)) ∙ same ∙ old_home k (omega arith));
      }

  module _ (h : ℕ) (home : h ≡ home_of covered x) (head : h < covered) (covers : length T < covered)
      (one_each : length links ≡ covered) where
    abbrev n : ℕ
    n = length T

    abbrev heads' : List ℕ
    heads' = set heads h (length T + 1)

    abbrev links' : List ℕ
    links' = set links (length T) (head_at heads h)

    head_new : head_at heads' h ≡ n + 1
    head_new = get_or-set_same heads h (n + 1) 0 head

    head_old : (g : ℕ) → g ≢ h → head_at heads' g ≡ head_at heads g
    head_old g other = get_or-set_other heads h g (n + 1) 0 other

    link_new : link_at links' n ≡ head_at heads h
    link_new = get_or-set_same links n (head_at heads h) 0 (omega arith)

    link_old : (k : ℕ) → k < n → link_at links' k ≡ link_at links k
    link_old k less = get_or-set_other links n k (head_at heads h) 0 (omega arith)

    head_le' : (g : ℕ) → g < covered → (g ≡ h) ⊎ (g ≢ h)
        → (head_at heads' g ≤ length (T ++ (x ∷ []))) × (head_at heads' g ≤ covered)
    head_le' g below (inl e) = rw (e, head_new, long) (omega arith, omega arith)
    head_le' g below (inr other) =
        let le = indexed.head_le g below in
        rw (head_old g other, long) (omega arith, le.1)

    head_home' : (g : ℕ) → g < covered → 0 < head_at heads' g → (g ≡ h) ⊎ (g ≢ h)
        → home_of covered (get_or (T ++ (x ∷ [])) (head_at heads' g - 1) none) ≡ g
    head_home' g below some (inl e) =
        let at : head_at heads' g - 1 ≡ n = omega (arith, ap (head_at heads') e, head_new) in
        rw at (ap (home_of covered) new ∙ sym home ∙ sym e)
    head_home' g below some (inr other) =
        let same = head_old g other in
        rw same
        (old_home (head_at heads g - 1) (omega (arith, indexed.head_le g below))
        ∙ indexed.head_home g below (rw same at some))

    link_le' : (k : ℕ) → k < covered → (k < n) ⊎ (k ≡ n) → link_at links' k ≤ k
    link_le' k below (inl less) = rw (link_old k less) (indexed.link_le k less below)
    link_le' k below (inr e) = rw (e, link_new) (indexed.head_le h head).0

    link_home' : (k : ℕ) → k < covered → 0 < link_at links' k → (k < n) ⊎ (k ≡ n)
        → home_of covered (get_or (T ++ (x ∷ [])) (link_at links' k - 1) none)
        ≡ home_of covered (get_or (T ++ (x ∷ [])) k none)
    link_home' k below some (inl less) =
        let same = link_old k less in
        rw same
        (old_home (link_at links k - 1) (omega (arith, indexed.link_le k less below))
        ∙ indexed.link_home k less below (rw same at some) ∙ sym (old_home k less))
    link_home' k below some (inr e) =
        let same : link_at links' k ≡ head_at heads h = ap (link_at links') e ∙ link_new in
        rw (same, e)
        (old_home (head_at heads h - 1) (omega (arith, indexed.head_le h head, same))
        ∙ indexed.head_home h head (rw same at some) ∙ home ∙ sym (ap (home_of covered) new))

    head_reach' : (k : ℕ) → k < covered → (k < n) ⊎ (k ≡ n)
        → k < head_at heads' (home_of covered (get_or (T ++ (x ∷ [])) k none))
    head_reach' k below (inl less) = rw (old k less) (go (equal_or_not g h))
      where
        g : ℕ
        g = home_of covered (get_or T k none)

        go : (g ≡ h) ⊎ (g ≢ h) → k < head_at heads' g
        go (inl e) = rw (e, head_new) (omega arith)
        go (inr other) =
            rw (head_old g other) (indexed.head_reach k less below)
    head_reach' k below (inr e) = rw (e, new, ← home, head_new) (omega arith)

    link_reach' : (j k : ℕ) → j < k → k < covered
        → home_of covered (get_or (T ++ (x ∷ [])) j none) ≡ home_of covered (get_or (T ++ (x ∷ [])) k none)
        → (k < n) ⊎ (k ≡ n) → j < link_at links' k
    link_reach' j k less below same (inl in_old) =
        rw (link_old k in_old)
        (indexed.link_reach j k less in_old below (sym (old_home j (omega arith)) ∙ same ∙ old_home k in_old))
    link_reach' j k less below same (inr e) =
        let j_home : home_of covered (get_or T j none) ≡ h =
        sym (old_home j (omega arith)) ∙ same ∙ ap (λ i. home_of covered (get_or (T ++ (x ∷ [])) i none)) e
        ∙ ap (home_of covered) new ∙ sym home in
        rw (e, link_new) (rw j_home at (indexed.head_reach j (omega arith) (omega arith)))

    indexed_linked : Indexed (T ++ (x ∷ [])) heads' links'
    indexed_linked =
        record {
          head_le = λ g below. rw kept (head_le' g (omega (arith, kept)) (equal_or_not g h));
          head_home = λ g below some. rw kept (head_home' g (omega (arith, kept)) some (equal_or_not g h));
          link_le = λ k inside below. link_le' k (omega (arith, kept)) (place k inside);
          link_home = λ k inside below some. rw kept (link_home' k (omega (arith, kept)) some (place k inside));
          head_reach = λ k inside below. rw kept (head_reach' k (omega (arith, kept)) (place k inside));
          link_reach = λ j k less inside below same.
              link_reach' j k less (omega (arith, kept)) (rw kept at same) (place k inside);
        }
      where
        kept : length heads' ≡ covered
        kept = length-set heads h (length T + 1)

        place : (k : ℕ) → k < length (T ++ (x ∷ [])) → (k < n) ⊎ (k ≡ n)
        place k inside = below_or_last n k (omega (arith, long))

  -- the grown table, its last slot in the index if it has a link
  pub indexed_covers : {heads' links' : List ℕ} → length links ≡ covered → Covers heads links (length T) x heads' links'
      → Indexed (T ++ (x ∷ [])) heads' links'
  indexed_covers {heads'} {links'} one_each p = go (ltb (length T) covered) refl
    where
      h : ℕ
      h = home_of covered x

      go : (b : Bool) → ltb (length T) covered ≡ b → Indexed (T ++ (x ∷ [])) heads' links'
      go true e =
          let below = ltb-true (length T) covered e in
          let heads_are : heads' ≡ set heads h (length T + 1) = rw e at p.heads_are in
          let links_are : links' ≡ set links (length T) (head_at heads h) = rw e at p.links_are in
          rw (heads_are, links_are) (indexed_linked h refl (home_below covered x (omega arith)) below one_each)
      go false e =
          let heads_are : heads' ≡ heads = rw e at p.heads_are in
          let links_are : links' ≡ links = rw e at p.links_are in
          rw (heads_are, links_are) (indexed_past (ltb-false (length T) covered e))
