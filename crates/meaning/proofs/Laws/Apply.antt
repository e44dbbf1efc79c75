-- How steps and quantifiers split: a step's diagram is `mk` of the steps of the parts, of leaves the function's value.
--
-- Main results, `apply_step` and `quantify_down_lem`: recursion on trees gives what `step_tree` and `quantify_tree` define.
use Prim.Native.Nat.{ℕ, zero, suc, ◌+◌, ◌≤◌, ◌<◌, min}
use native.Mathlib.Omega.{arith}
use mathlib.Core.Path.{◌≡◌, refl, sym, ap, ap₂, ◌∙◌}
use mathlib.Core.Bool.{Bool, true, false, cond}
use lib.Dec.{eqb, ltb}
use borrow.Author.Tests.{ltb-true, ltb-false, eqb-true, eqb-false}
use Rattle.meaning.specs.Diagram.{Tree, leaf, node, Assignment, holds, mk, put}
use Rattle.meaning.specs.Step.{Function, step_tree, quantify_tree, unused}
use Rattle.meaning.specs.Witness.{part}
use Rattle.meaning.proofs.Laws.Shape.{Ok, Good}
use Rattle.meaning.proofs.Laws.Diagram.{ok_at, ok_good, holds_agree, put_agree, put_above, put_else}
use Rattle.meaning.proofs.Laws.Diagram.{cond_pick, mk_same, mk_pick, mk_ok}
use Rattle.meaning.proofs.Laws.Diagram.{part_holds, part_ok, part_put, part_mk, node_put}
use Rattle.meaning.proofs.Laws.Diagram.{canonical, step_good, step_holds, quantify_good, quantify_holds}

-- ---- levels that a diagram does not look at

-- level l is not looked at
level_free : (l n : ℕ) (t : Tree) → Ok l n t →
    ((ρ : Assignment) → holds t (put l false ρ) ≡ holds t (put l true ρ)) → Ok (suc l) n t
level_free l n t ok h = rw (← whole) (part_ok false l n t ok)
  where
    good : (b : Bool) → Good n (part b l t)
    good b = ok_good (suc l) n (part b l t) (part_ok b l n t ok)

    parts : part false l t ≡ part true l t
    parts = canonical n (part false l t) (part true l t) (good false) (good true)
        (λ ρ. part_put false l n t ok ρ ∙ h ρ ∙ sym (part_put true l n t ok ρ))

    whole : part false l t ≡ t
    whole = sym (mk_same l (part false l t)) ∙ ap (mk l (part false l t)) parts ∙ part_mk l n t ok

-- no level below l is looked at
levels_free : (l n : ℕ) (t : Tree) → Good n t →
    ((ρ τ : Assignment) → ((k : ℕ) → l ≤ k → k < n → ρ k ≡ τ k) → holds t ρ ≡ holds t τ) → Ok l n t
levels_free zero n t good h = good
levels_free (suc l) n t good h =
    level_free l n t (levels_free l n t good (λ ρ τ is. h ρ τ (λ k from below. is k (omega arith) below))) free
  where
    else : (b : Bool) (ρ : Assignment) (k : ℕ) → l < k → put l b ρ k ≡ ρ k
    else b ρ k from = put_else l b ρ k (omega arith)

    free : (ρ : Assignment) → holds t (put l false ρ) ≡ holds t (put l true ρ)
    free ρ = h (put l false ρ) (put l true ρ) (λ k from below. else false ρ k from ∙ sym (else true ρ k from))

pub step_ok : (l n : ℕ) (f : Function) (a b c : Tree) → Ok l n a → Ok l n b → Ok l n c → Ok l n (step_tree n f a b c)
step_ok l n f a b c p q r = levels_free l n (step_tree n f a b c) (step_good n f a b c) agree
  where
    all : (ρ : Assignment) → holds (step_tree n f a b c) ρ ≡ f (holds a ρ) (holds b ρ) (holds c ρ)
    all ρ = step_holds n f a b c (ok_good l n a p) (ok_good l n b q) (ok_good l n c r) ρ

    agree : (ρ τ : Assignment) → ((k : ℕ) → l ≤ k → k < n → ρ k ≡ τ k) →
        holds (step_tree n f a b c) ρ ≡ holds (step_tree n f a b c) τ
    agree ρ τ is =
        cc (all ρ, all τ, holds_agree l n a p ρ τ is, holds_agree l n b q ρ τ is, holds_agree l n c r ρ τ is)

pub quantify_ok : (m n : ℕ) (f : Bool → Bool → Bool) (l : ℕ) (t : Tree) → Ok m n t → Ok m n (quantify_tree n f l t)
quantify_ok m n f l t ok = levels_free m n (quantify_tree n f l t) (quantify_good n f l t) agree
  where
    all : (ρ : Assignment) → holds (quantify_tree n f l t) ρ ≡ f (holds t (put l false ρ)) (holds t (put l true ρ))
    all ρ = quantify_holds n f l t (ok_good m n t ok) ρ

    agree : (ρ τ : Assignment) → ((k : ℕ) → m ≤ k → k < n → ρ k ≡ τ k) →
        holds (quantify_tree n f l t) ρ ≡ holds (quantify_tree n f l t) τ
    agree ρ τ is = all ρ ∙ ap₂ f (half false) (half true) ∙ sym (all τ)
      where
        half : (b : Bool) → holds t (put l b ρ) ≡ holds t (put l b τ)
        half b = holds_agree m n t ok (put l b ρ) (put l b τ) (λ k from below. put_agree l b ρ τ k (is k from below))

-- ---- step_tree

-- the step's diagram is any well formed one that holds where f does
pub step_is : (n : ℕ) (f : Function) (a b c t : Tree) → Good n a → Good n b → Good n c → Good n t →
    ((ρ : Assignment) → f (holds a ρ) (holds b ρ) (holds c ρ) ≡ holds t ρ) → step_tree n f a b c ≡ t
step_is n f a b c t p q r good h =
    canonical n (step_tree n f a b c) t (step_good n f a b c) good (λ ρ. step_holds n f a b c p q r ρ ∙ h ρ)

pub step_function : (n : ℕ) (f g : Function) (a b c : Tree) (a' b' c' : Tree) →
    Good n a → Good n b → Good n c → Good n a' → Good n b' → Good n c' →
    ((ρ : Assignment) → f (holds a ρ) (holds b ρ) (holds c ρ) ≡ g (holds a' ρ) (holds b' ρ) (holds c' ρ)) →
    step_tree n f a b c ≡ step_tree n g a' b' c'
step_function n f g a b c a' b' c' p q r p' q' r' h =
    step_is n f a b c (step_tree n g a' b' c') p q r (step_good n g a' b' c')
    (λ ρ. h ρ ∙ sym (step_holds n g a' b' c' p' q' r' ρ))

pub step_leaves : (n : ℕ) (f : Function) (a b c : Bool) → step_tree n f (leaf a) (leaf b) (leaf c) ≡ leaf (f a b c)
step_leaves n f a b c = step_is n f (leaf a) (leaf b) (leaf c) (leaf (f a b c)) tt tt tt tt (λ ρ. refl)

pub step_split : (n : ℕ) (f : Function) (l : ℕ) (a b c : Tree) → l < n → Ok l n a → Ok l n b → Ok l n c →
    mk l (step_tree n f (part false l a) (part false l b) (part false l c))
    (step_tree n f (part true l a) (part true l b) (part true l c)) ≡ step_tree n f a b c
step_split n f l a b c below p q r =
    sym (step_is n f a b c (mk l (side false) (side true)) (ok_good l n a p) (ok_good l n b q) (ok_good l n c r) good value)
  where
    side : Bool → Tree
    side s = step_tree n f (part s l a) (part s l b) (part s l c)

    above : (s : Bool) (t : Tree) → Ok l n t → Ok (suc l) n (part s l t)
    above s t ok = part_ok s l n t ok

    side_ok : (s : Bool) → Ok (suc l) n (side s)
    side_ok s = step_ok (suc l) n f (part s l a) (part s l b) (part s l c) (above s a p) (above s b q) (above s c r)

    good : Good n (mk l (side false) (side true))
    good =
        let ok = mk_ok l n (side false) (side true) below (side_ok false) (side_ok true) in
        ok_good l n (mk l (side false) (side true)) ok

    value : (ρ : Assignment) → f (holds a ρ) (holds b ρ) (holds c ρ) ≡ holds (mk l (side false) (side true)) ρ
    value ρ =
        let s = ρ l in
        let good_at : (t : Tree) → Ok l n t → Good n (part s l t) = λ t ok. ok_good (suc l) n (part s l t) (above s t ok) in
        let split = mk_pick l side ρ in
        let at = step_holds n f (part s l a) (part s l b) (part s l c) (good_at a p) (good_at b q) (good_at c r) in
        cc (at ρ, part_holds l a ρ, part_holds l b ρ, part_holds l c ρ)

-- ---- apply

abbrev pub top_level : ℕ → Tree → ℕ
top_level n (leaf b) = n
top_level n (node i d e) = i

abbrev pub top3 : ℕ → Tree → Tree → Tree → ℕ
top3 n a b c = min (top_level n a) (min (top_level n b) (top_level n c))

-- a leaf's value
abbrev pub bit : Tree → Bool
bit (leaf b) = b
bit (node i d e) = false

-- the step by recursion, with fuel: split at the first level, until only leaves are left
unfoldable pub apply : Function → ℕ → ℕ → Tree → Tree → Tree → Tree
apply f n zero a b c = leaf (f (bit a) (bit b) (bit c))
apply f n (suc k) a b c =
    let l = top3 n a b c in
    let low = apply f n k (part false l a) (part false l b) (part false l c) in
    let high = apply f n k (part true l a) (part true l b) (part true l c) in
    let r = mk l low high in
    cond (ltb l n) r (leaf (f (bit a) (bit b) (bit c)))

top_from : (l n : ℕ) (t : Tree) → l ≤ n → Ok l n t → l ≤ top_level n t
top_from l n (leaf b) le ok = le
top_from l n (node i d e) le ok = ok.from

top3_from : (l n : ℕ) (a b c : Tree) → l ≤ n → Ok l n a → Ok l n b → Ok l n c → l ≤ top3 n a b c
top3_from l n a b c le p q r = omega (arith, top_from l n a le p, top_from l n b le q, top_from l n c le r)

top_ok : (l m n : ℕ) (t : Tree) → m ≤ top_level n t → Ok l n t → Ok m n t
top_ok l m n (leaf b) le ok = tt
top_ok l m n (node i d e) le ok = ok_at m l n i d e le ok

top_leaf : (l n : ℕ) (t : Tree) → n ≤ top_level n t → Ok l n t → t ≡ leaf (bit t)
top_leaf l n (leaf b) le ok = refl
top_leaf l n (node i d e) le ok = absurd (omega arith)

step_bits : (l n : ℕ) (f : Function) (a b c : Tree) → n ≤ top3 n a b c → Ok l n a → Ok l n b → Ok l n c →
    leaf (f (bit a) (bit b) (bit c)) ≡ step_tree n f a b c
step_bits l n f a b c le p q r =
    cc (
      step_leaves n f (bit a) (bit b) (bit c),
      top_leaf l n a (omega arith) p,
      top_leaf l n b (omega arith) q,
      top_leaf l n c (omega arith) r,
    )

-- k bounds the levels from l on
apply_from : (k l n : ℕ) (f : Function) (a b c : Tree) → n ≤ l + k → l ≤ n → Ok l n a → Ok l n b → Ok l n c →
    apply f n k a b c ≡ step_tree n f a b c
unfolding apply
apply_from zero l n f a b c le low p q r = step_bits l n f a b c (omega (arith, top3_from l n a b c low p q r)) p q r
apply_from (suc k) l n f a b c le low p q r =
    let deeper : (s : Bool) → m < n → deep s ≡ side s =
    λ s below. apply_from k (suc m) n f (part s m a) (part s m b) (part s m c) (omega (arith, from)) below
    (part_ok s m n a here_a) (part_ok s m n b here_b) (part_ok s m n c here_c) in
    go (ltb m n) refl deeper
  where
    m : ℕ
    m = top3 n a b c

    from : l ≤ m
    from = top3_from l n a b c low p q r

    here_a : Ok m n a
    here_a = top_ok l m n a (omega arith) p

    here_b : Ok m n b
    here_b = top_ok l m n b (omega arith) q

    here_c : Ok m n c
    here_c = top_ok l m n c (omega arith) r

    deep : Bool → Tree
    deep s = apply f n k (part s m a) (part s m b) (part s m c)

    side : Bool → Tree
    side s = step_tree n f (part s m a) (part s m b) (part s m c)

    go : (s : Bool) → ltb m n ≡ s → ((s : Bool) → m < n → deep s ≡ side s) →
        cond s (mk m (deep false) (deep true)) (leaf (f (bit a) (bit b) (bit c))) ≡ step_tree n f a b c
    go true is deeper =
        let below : m < n = ltb-true m n is in
        ap₂ (mk m) (deeper false below) (deeper true below) ∙ step_split n f m a b c below here_a here_b here_c
    go false is deeper = step_bits l n f a b c (ltb-false m n is) p q r

pub apply_step : (n : ℕ) (f : Function) (a b c : Tree) → Good n a → Good n b → Good n c →
    apply f n n a b c ≡ step_tree n f a b c
apply_step n f a b c p q r = apply_from n 0 n f a b c (omega arith) (omega arith) p q r

-- ---- quantify_tree

-- f of equal values is the value: "for all" and "there is"
pub quantify_above : (n : ℕ) (f : Bool → Bool → Bool) (l : ℕ) (t : Tree) → ((b : Bool) → f b b ≡ b) →
    Good n t → Ok (suc l) n t → quantify_tree n f l t ≡ t
quantify_above n f l t idem good ok = canonical n (quantify_tree n f l t) t (quantify_good n f l t) good value
  where
    value : (ρ : Assignment) → holds (quantify_tree n f l t) ρ ≡ holds t ρ
    value ρ =
        quantify_holds n f l t good ρ
        ∙ ap₂ f (put_above l n false t ok ρ) (put_above l n true t ok ρ)
        ∙ idem (holds t ρ)

pub quantify_here : (n : ℕ) (f : Bool → Bool → Bool) (l : ℕ) (d e : Tree) → Good n (node l d e) →
    quantify_tree n f l (node l d e) ≡ step_tree n (λ a b c. f a b) d e unused
quantify_here n f l d e good = canonical n whole parts (quantify_good n f l (node l d e)) (step_good n both d e unused) value
  where
    both : Function
    both a b c = f a b

    whole : Tree
    whole = quantify_tree n f l (node l d e)

    parts : Tree
    parts = step_tree n both d e unused

    value : (ρ : Assignment) → holds whole ρ ≡ holds parts ρ
    value ρ =
        quantify_holds n f l (node l d e) good ρ
        ∙ ap₂ f (node_put false 0 n l d e good ρ) (node_put true 0 n l d e good ρ)
        ∙ sym (step_holds n both d e unused (ok_good (suc l) n d good.low) (ok_good (suc l) n e good.high) tt ρ)

pub quantify_split : (n : ℕ) (f : Bool → Bool → Bool) (l i : ℕ) (d e : Tree) → i < l → Good n (node i d e) →
    mk i (quantify_tree n f l d) (quantify_tree n f l e) ≡ quantify_tree n f l (node i d e)
quantify_split n f l i d e before good =
    let whole_good = quantify_good n f l (node i d e) in
    canonical n (mk i (side false) (side true)) (quantify_tree n f l (node i d e)) mk_good whole_good value
  where
    half : Bool → Tree
    half s = cond s e d

    side : Bool → Tree
    side s = quantify_tree n f l (half s)

    half_ok : (s : Bool) → Ok (suc i) n (half s)
    half_ok true = good.high
    half_ok false = good.low

    side_ok : (s : Bool) → Ok (suc i) n (side s)
    side_ok s = quantify_ok (suc i) n f l (half s) (half_ok s)

    mk_good : Good n (mk i (side false) (side true))
    mk_good =
        let ok = mk_ok i n (side false) (side true) good.below (side_ok false) (side_ok true) in
        ok_good i n (mk i (side false) (side true)) ok

    under : (ρ : Assignment) (b : Bool) → holds (half (ρ i)) (put l b ρ) ≡ holds (node i d e) (put l b ρ)
    under ρ b =
        let τ : Assignment = put l b ρ in
        sym (cond_pick (λ s. holds (half s) τ) (ρ i)) ∙ rw (put_else l b ρ i (omega arith))

    value : (ρ : Assignment) → holds (mk i (side false) (side true)) ρ ≡ holds (quantify_tree n f l (node i d e)) ρ
    value ρ =
        mk_pick i side ρ
        ∙ quantify_holds n f l (half (ρ i)) (ok_good (suc i) n (half (ρ i)) (half_ok (ρ i))) ρ
        ∙ ap₂ f (under ρ false) (under ρ true)
        ∙ sym (quantify_holds n f l (node i d e) good ρ)

-- ---- quantify_down

-- the quantifier by recursion on the tree
unfoldable pub quantify_down : ℕ → (Bool → Bool → Bool) → ℕ → Tree → Tree
quantify_down n f l (leaf b) = leaf b
quantify_down n f l (node i d e) =
    let low = quantify_down n f l d in
    let high = quantify_down n f l e in
    let down = mk i low high in
    let here = step_tree n (λ a b c. f a b) d e unused in
    cond (ltb i l) down (cond (eqb i l) here (node i d e))

pub quantify_down_lem : (n : ℕ) (f : Bool → Bool → Bool) (l : ℕ) (t : Tree) → ((b : Bool) → f b b ≡ b) → Good n t →
    quantify_down n f l t ≡ quantify_tree n f l t
unfolding quantify_down
quantify_down_lem n f l (leaf b) idem good = sym (quantify_above n f l (leaf b) idem tt tt)
quantify_down_lem n f l (node i d e) idem good =
    let low = quantify_down_lem n f l d idem (ok_good (suc i) n d good.low) in
    let high = quantify_down_lem n f l e idem (ok_good (suc i) n e good.high) in
    go (ltb i l) refl (eqb i l) refl low high
  where
    here : Tree
    here = step_tree n (λ a b c. f a b) d e unused

    go : (s : Bool) → ltb i l ≡ s → (r : Bool) → eqb i l ≡ r →
        quantify_down n f l d ≡ quantify_tree n f l d → quantify_down n f l e ≡ quantify_tree n f l e →
        cond s (mk i (quantify_down n f l d) (quantify_down n f l e)) (cond r here (node i d e))
        ≡ quantify_tree n f l (node i d e)
    go true before r is low high = ap₂ (mk i) low high ∙ quantify_split n f l i d e (ltb-true i l before) good
    go false before true is low high = rw (← eqb-true i l is) (sym (quantify_here n f i d e good))
    go false before false is low high =
        let ne : i ≡ l → ⊥ = eqb-false i l is in
        let after = ok_at (suc l) 0 n i d e (omega (arith, ltb-false i l before)) good in
        sym (quantify_above n f l (node i d e) idem good after)
