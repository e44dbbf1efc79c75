-- Diagrams: a reduced ordered diagram is the only one of its function; `diagram`, steps and quantifiers give that one.
--
-- The means is `part b l t`, t with the value b at level l where no level below l is left: a tree is `mk` of its parts.
use Prim.Native.Nat.{ℕ, zero, suc, ◌+◌, ◌≤◌, ◌<◌}
use native.Mathlib.Omega.{arith}
use mathlib.Core.Path.{◌≡◌, refl, sym, ap, ap₂, ◌∙◌}
use mathlib.Core.Bool.{Bool, true, false, cond, ◌&&◌, beq, true≢false, false≢true, and-eq-true_iff}
use lib.Dec.{eqb}
use borrow.Author.Tests.{eqb-true, eqb-false, eq-eqb, ne_eqb}
use Rattle.meaning.specs.Diagram.{Tree, leaf, node, Assignment, holds, same, mk, put, diagram_from, diagram, literal}
use Rattle.meaning.specs.Step.{Function, step_tree, quantify_tree}
use Rattle.meaning.specs.Witness.{part}
use Rattle.meaning.proofs.Laws.Shape.{Ok, Good, Respects}

-- ---- same

beq_eq : (a b : Bool) → beq a b ≡ true → a ≡ b
beq_eq true true e = refl
beq_eq true false e = sym e
beq_eq false true e = e
beq_eq false false e = refl

beq_refl : (a : Bool) → beq a a ≡ true
beq_refl true = refl
beq_refl false = refl

pub same_eq : (a b : Tree) → same a b ≡ true → a ≡ b
same_eq (leaf a) (leaf b) e = ap leaf (beq_eq a b e)
same_eq (leaf a) (node j f g) e = absurd (false≢true e)
same_eq (node i d e) (leaf b) h = absurd (false≢true h)
same_eq (node i d e) (node j f g) h =
    let both = (and-eq-true_iff (eqb i j && same d f) (same e g)).0 h in
    let first = (and-eq-true_iff (eqb i j) (same d f)).0 both.0 in
    cc (eqb-true i j first.0, same_eq d f first.1, same_eq e g both.1)

pub same_refl : (a : Tree) → same a a ≡ true
same_refl (leaf a) = beq_refl a
same_refl (node i d e) = rw (eq-eqb i i refl, same_refl d) (same_refl e)

-- ---- levels

pub ok_at : (m l n i : ℕ) (d e : Tree) → m ≤ i → Ok l n (node i d e) → Ok m n (node i d e)
ok_at m l n i d e le ok = record { from = le; below = ok.below; low = ok.low; high = ok.high; differ = ok.differ }

pub ok_from : (m l n : ℕ) (t : Tree) → m ≤ l → Ok l n t → Ok m n t
ok_from m l n (leaf b) le ok = tt
ok_from m l n (node i d e) le ok = ok_at m l n i d e (omega arith) ok

pub ok_lower : (l n : ℕ) (t : Tree) → Ok (suc l) n t → Ok l n t
ok_lower l n t ok = ok_from l (suc l) n t (omega arith) ok

pub ok_good : (l n : ℕ) (t : Tree) → Ok l n t → Good n t
ok_good l n t ok = ok_from 0 l n t (omega arith) ok

pub ok_wider : (l n m : ℕ) (t : Tree) → n ≤ m → Ok l n t → Ok l m t
ok_wider l n m (leaf b) le ok = tt
ok_wider l n m (node i d e) le ok =
    record {
      from = ok.from;
      below = omega arith;
      low = ok_wider (suc i) n m d le ok.low;
      high = ok_wider (suc i) n m e le ok.high;
      differ = ok.differ;
    }

-- a diagram looks only at the levels from l to n - 1
pub holds_agree : (l n : ℕ) (t : Tree) → Ok l n t → (ρ τ : Assignment) →
    ((k : ℕ) → l ≤ k → k < n → ρ k ≡ τ k) → holds t ρ ≡ holds t τ
holds_agree l n (leaf b) ok ρ τ h = refl
holds_agree l n (node i d e) ok ρ τ h =
    let above : (k : ℕ) → suc i ≤ k → k < n → ρ k ≡ τ k = λ k from below. h k (omega arith) below in
    let low = holds_agree (suc i) n d ok.low ρ τ above in
    let high = holds_agree (suc i) n e ok.high ρ τ above in
    cc (h i ok.from ok.below)

pub holds_respects : (n : ℕ) (t : Tree) → Good n t → Respects n (holds t)
holds_respects n t good ρ τ h = holds_agree 0 n t good ρ τ (λ k from below. h k below)

-- ---- put

pub put_here : (l : ℕ) (b : Bool) (ρ : Assignment) → put l b ρ l ≡ b
put_here l b ρ = rw (eq-eqb l l refl)

pub put_else : (l : ℕ) (b : Bool) (ρ : Assignment) (k : ℕ) → (k ≡ l → ⊥) → put l b ρ k ≡ ρ k
put_else l b ρ k ne = rw (ne_eqb k l ne)

pub put_agree : (l : ℕ) (b : Bool) (ρ τ : Assignment) (k : ℕ) → ρ k ≡ τ k → put l b ρ k ≡ put l b τ k
put_agree l b ρ τ k is = ap (cond (eqb k l) b) is

-- a level above which the diagram lies
pub put_above : (l n : ℕ) (b : Bool) (t : Tree) → Ok (suc l) n t → (ρ : Assignment) → holds t (put l b ρ) ≡ holds t ρ
put_above l n b t ok ρ = holds_agree (suc l) n t ok (put l b ρ) ρ (λ k from below. put_else l b ρ k (omega arith))

-- ---- mk

pub cond_pick : (g : Bool → Bool) (b : Bool) → cond b (g true) (g false) ≡ g b
cond_pick g true = refl
cond_pick g false = refl

pub mk_same : (l : ℕ) (t : Tree) → mk l t t ≡ t
mk_same l t = rw (same_refl t)

pub mk_holds : (l : ℕ) (d e : Tree) (ρ : Assignment) → holds (mk l d e) ρ ≡ cond (ρ l) (holds e ρ) (holds d ρ)
mk_holds l d e ρ = go (same d e) refl
  where
    go : (s : Bool) → same d e ≡ s → holds (cond s d (node l d e)) ρ ≡ cond (ρ l) (holds e ρ) (holds d ρ)
    go true is = rw (← same_eq d e is) (sym (cond_pick (λ b. holds d ρ) (ρ l)))
    go false is = refl

pub mk_pick : (l : ℕ) (side : Bool → Tree) (ρ : Assignment) →
    holds (mk l (side false) (side true)) ρ ≡ holds (side (ρ l)) ρ
mk_pick l side ρ = mk_holds l (side false) (side true) ρ ∙ cond_pick (λ b. holds (side b) ρ) (ρ l)

pub mk_ok : (l n : ℕ) (d e : Tree) → l < n → Ok (suc l) n d → Ok (suc l) n e → Ok l n (mk l d e)
mk_ok l n d e below low high = go (same d e) refl
  where
    go : (s : Bool) → same d e ≡ s → Ok l n (cond s d (node l d e))
    go true is = ok_lower l n d low
    go false is = record { from = omega arith; below = below; low = low; high = high; differ = is }

-- ---- part

pub part_holds : (l : ℕ) (t : Tree) (ρ : Assignment) → holds (part (ρ l) l t) ρ ≡ holds t ρ
part_holds l (leaf b) ρ = refl
part_holds l (node i d e) ρ = go (eqb i l) refl
  where
    go : (s : Bool) → eqb i l ≡ s → holds (cond s (cond (ρ l) e d) (node i d e)) ρ ≡ cond (ρ i) (holds e ρ) (holds d ρ)
    go true is = rw (eqb-true i l is) (sym (cond_pick (λ b. holds (cond b e d) ρ) (ρ l)))
    go false is = refl

pub part_ok : (b : Bool) (l n : ℕ) (t : Tree) → Ok l n t → Ok (suc l) n (part b l t)
part_ok b l n (leaf c) ok = tt
part_ok b l n (node i d e) ok = go (eqb i l) refl
  where
    half : (c : Bool) → Ok (suc i) n (cond c e d)
    half true = ok.high
    half false = ok.low

    go : (s : Bool) → eqb i l ≡ s → Ok (suc l) n (cond s (cond b e d) (node i d e))
    go true is = rw (← eqb-true i l is) (half b)
    go false is =
        let ne : i ≡ l → ⊥ = eqb-false i l is in
        ok_at (suc l) l n i d e (omega arith) ok

pub part_mk : (l n : ℕ) (t : Tree) → Ok l n t → mk l (part false l t) (part true l t) ≡ t
part_mk l n (leaf c) ok = mk_same l (leaf c)
part_mk l n (node i d e) ok = go (eqb i l) refl
  where
    go : (s : Bool) → eqb i l ≡ s → mk l (cond s d (node i d e)) (cond s e (node i d e)) ≡ node i d e
    go true is = rw (ok.differ, eqb-true i l is)
    go false is = mk_same l (node i d e)

-- the part is the diagram under the changed assignment
pub part_put : (b : Bool) (l n : ℕ) (t : Tree) → Ok l n t → (ρ : Assignment) → holds (part b l t) ρ ≡ holds t (put l b ρ)
part_put b l n t ok ρ =
    let τ : Assignment = put l b ρ in
    sym (put_above l n b (part b l t) (part_ok b l n t ok) ρ)
    ∙ ap (λ c. holds (part c l t) τ) (sym (put_here l b ρ))
    ∙ part_holds l t τ

pub node_put : (b : Bool) (l n i : ℕ) (d e : Tree) → Ok l n (node i d e) → (ρ : Assignment) →
    holds (node i d e) (put i b ρ) ≡ holds (cond b e d) ρ
node_put b l n i d e ok ρ =
    sym (part_put b i n (node i d e) (ok_at i l n i d e (omega arith) ok) ρ) ∙ rw (eq-eqb i i refl)

-- ---- canonical

-- k bounds the levels from l on
canonical_from : (k l n : ℕ) (a b : Tree) → n ≤ l + k → Ok l n a → Ok l n b →
    ((ρ : Assignment) → holds a ρ ≡ holds b ρ) → a ≡ b
canonical_from zero l n (leaf a) (leaf b) le p q h = ap leaf (h (λ k. false))
canonical_from zero l n (leaf a) (node j f g) le p q h = absurd (omega arith)
canonical_from zero l n (node i d e) (leaf b) le p q h = absurd (omega arith)
canonical_from zero l n (node i d e) (node j f g) le p q h = absurd (omega arith)
canonical_from (suc k) l n a b le p q h =
    let half : (c : Bool) → part c l a ≡ part c l b =
    λ c. canonical_from k (suc l) n (part c l a) (part c l b) (omega arith) (above c a p) (above c b q) (under c) in
    sym (part_mk l n a p) ∙ ap₂ (mk l) (half false) (half true) ∙ part_mk l n b q
  where
    above : (c : Bool) (t : Tree) → Ok l n t → Ok (suc l) n (part c l t)
    above c t ok = part_ok c l n t ok

    under : (c : Bool) (ρ : Assignment) → holds (part c l a) ρ ≡ holds (part c l b) ρ
    under c ρ = part_put c l n a p ρ ∙ h (put l c ρ) ∙ sym (part_put c l n b q ρ)

-- two reduced ordered diagrams of the same function are the same diagram
pub canonical : (n : ℕ) (a b : Tree) → Good n a → Good n b → ((ρ : Assignment) → holds a ρ ≡ holds b ρ) → a ≡ b
canonical n a b p q h = canonical_from n 0 n a b (omega arith) p q h

-- ---- diagram

diagram_from_ok : (k l n : ℕ) (f : Assignment → Bool) (ρ : Assignment) → l + k ≡ n → Ok l n (diagram_from k l f ρ)
diagram_from_ok zero l n f ρ is = tt
diagram_from_ok (suc k) l n f ρ is =
    let side : Bool → Tree = λ b. diagram_from k (suc l) f (put l b ρ) in
    let half : (b : Bool) → Ok (suc l) n (side b) = λ b. diagram_from_ok k (suc l) n f (put l b ρ) (omega arith) in
    mk_ok l n (side false) (side true) (omega arith) (half false) (half true)

-- where τ is as ρ below level l
diagram_from_holds : (k l n : ℕ) (f : Assignment → Bool) (ρ τ : Assignment) → l + k ≡ n → Respects n f →
    ((j : ℕ) → j < l → ρ j ≡ τ j) → holds (diagram_from k l f ρ) τ ≡ f τ
diagram_from_holds zero l n f ρ τ is resp h = resp ρ τ (λ j below. h j (omega arith))
diagram_from_holds (suc k) l n f ρ τ is resp h =
    mk_pick l (λ b. diagram_from k (suc l) f (put l b ρ)) τ
    ∙ diagram_from_holds k (suc l) n f (put l (τ l) ρ) τ (omega arith) resp (λ j below. agree j below (eqb j l) refl)
  where
    agree : (j : ℕ) → j < suc l → (s : Bool) → eqb j l ≡ s → cond s (τ l) (ρ j) ≡ τ j
    agree j below true is = ap τ (sym (eqb-true j l is))
    agree j below false is = let ne : j ≡ l → ⊥ = eqb-false j l is in h j (omega arith)

pub diagram_ok : (n : ℕ) (f : Assignment → Bool) → Good n (diagram n f)
unfolding diagram
diagram_ok n f = diagram_from_ok n 0 n f (λ l. false) (omega arith)

pub diagram_holds : (n : ℕ) (f : Assignment → Bool) → Respects n f → (ρ : Assignment) → holds (diagram n f) ρ ≡ f ρ
unfolding diagram
diagram_holds n f resp ρ = diagram_from_holds n 0 n f (λ l. false) ρ (omega arith) resp (λ j below. absurd (omega arith))

-- the reduced ordered diagram of f is the only one
pub diagram_one : (n : ℕ) (f : Assignment → Bool) (t : Tree) → Respects n f → Good n t →
    ((ρ : Assignment) → holds t ρ ≡ f ρ) → diagram n f ≡ t
diagram_one n f t resp good h =
    canonical n (diagram n f) t (diagram_ok n f) good (λ ρ. diagram_holds n f resp ρ ∙ sym (h ρ))

-- ---- literal

pub literal_good : (n l : ℕ) → l < n → Good n (literal l)
literal_good n l below = record { from = omega arith; below = below; low = tt; high = tt; differ = refl }

-- ---- step_tree

step_respects : (n : ℕ) (f : Function) (a b c : Tree) → Good n a → Good n b → Good n c →
    Respects n (λ ρ. f (holds a ρ) (holds b ρ) (holds c ρ))
step_respects n f a b c p q r ρ τ h =
    cc (holds_respects n a p ρ τ h, holds_respects n b q ρ τ h, holds_respects n c r ρ τ h)

pub step_good : (n : ℕ) (f : Function) (a b c : Tree) → Good n (step_tree n f a b c)
unfolding step_tree
step_good n f a b c = diagram_ok n (λ ρ. f (holds a ρ) (holds b ρ) (holds c ρ))

pub step_holds : (n : ℕ) (f : Function) (a b c : Tree) → Good n a → Good n b → Good n c → (ρ : Assignment) →
    holds (step_tree n f a b c) ρ ≡ f (holds a ρ) (holds b ρ) (holds c ρ)
unfolding step_tree
step_holds n f a b c p q r ρ =
    diagram_holds n (λ τ. f (holds a τ) (holds b τ) (holds c τ)) (step_respects n f a b c p q r) ρ

-- ---- quantify_tree

quantify_respects : (n : ℕ) (f : Bool → Bool → Bool) (l : ℕ) (t : Tree) → Good n t →
    Respects n (λ ρ. f (holds t (put l false ρ)) (holds t (put l true ρ)))
quantify_respects n f l t good ρ τ h =
    ap₂ f (half false) (half true)
  where
    half : (b : Bool) → holds t (put l b ρ) ≡ holds t (put l b τ)
    half b = holds_respects n t good (put l b ρ) (put l b τ) (λ k below. put_agree l b ρ τ k (h k below))

pub quantify_good : (n : ℕ) (f : Bool → Bool → Bool) (l : ℕ) (t : Tree) → Good n (quantify_tree n f l t)
unfolding quantify_tree
quantify_good n f l t = diagram_ok n (λ ρ. f (holds t (put l false ρ)) (holds t (put l true ρ)))

pub quantify_holds : (n : ℕ) (f : Bool → Bool → Bool) (l : ℕ) (t : Tree) → Good n t → (ρ : Assignment) →
    holds (quantify_tree n f l t) ρ ≡ f (holds t (put l false ρ)) (holds t (put l true ρ))
unfolding quantify_tree
quantify_holds n f l t good ρ =
    diagram_holds n (λ τ. f (holds t (put l false τ)) (holds t (put l true τ))) (quantify_respects n f l t good) ρ

-- ---- the diagram false

somewhere_from : (l n : ℕ) (t : Tree) → Ok l n t → same t (leaf false) ≡ false → (ρ : Assignment) × (holds t ρ ≡ true)
somewhere_from l n (leaf true) ok ne = (λ k. false, refl)
somewhere_from l n (leaf false) ok ne = absurd (true≢false ne)
somewhere_from l n (node i d e) ok ne =
    go (same d (leaf false)) refl (somewhere_from (suc i) n d ok.low) (somewhere_from (suc i) n e ok.high)
  where
    Found : Tree → Type 0
    Found t = (ρ : Assignment) × (holds t ρ ≡ true)

    whole : (b : Bool) → Found (cond b e d) → Found (node i d e)
    whole b w = (put i b w.0, node_put b l n i d e ok w.0 ∙ w.1)

    other : same d (leaf false) ≡ true → (s : Bool) → same e (leaf false) ≡ s → s ≡ false
    other is true too =
        sym (same_refl d) ∙ ap (same d) (same_eq d (leaf false) is ∙ sym (same_eq e (leaf false) too)) ∙ ok.differ
    other is false too = refl

    go : (s : Bool) → same d (leaf false) ≡ s → (same d (leaf false) ≡ false → Found d) →
        (same e (leaf false) ≡ false → Found e) → Found (node i d e)
    go false is low high = whole false (low is)
    go true is low high = whole true (high (other is (same e (leaf false)) refl))

-- every diagram but `leaf false` is true somewhere
pub somewhere : (n : ℕ) (t : Tree) → Good n t → same t (leaf false) ≡ false → (ρ : Assignment) × (holds t ρ ≡ true)
somewhere n t good ne = somewhere_from 0 n t good ne

pub nowhere : (n : ℕ) (t : Tree) → Good n t → ((ρ : Assignment) → holds t ρ ≡ false) → t ≡ leaf false
nowhere n t good h = canonical n t (leaf false) good tt h
