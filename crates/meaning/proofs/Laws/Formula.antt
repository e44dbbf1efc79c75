-- Formulas: not, and, or, exists, forall, equal. Each pair encloses the plain truth (-encloses), is wider than the same
-- of operands that know more (-wider), and is one diagram where the operands are known (-exact).
use Prim.Native.Nat.{ℕ}
use mathlib.Core.Path.{◌≡◌, refl, sym, ap, ◌∙◌, fun_ext}
use mathlib.Core.Bool.{Bool, true, false, cond, not, ◌&&◌, ◌||◌, beq, false≢true, and-eq-true_iff}
use mathlib.Core.List.{List, [], ◌∷◌}
use Rattle.meaning.specs.Diagram.{Tree, leaf, Assignment, holds, put}
use Rattle.meaning.specs.Step.{step, quantify, quantify_tree, Function, is_not, is_and, agree, unused}
use Rattle.meaning.specs.Row.{Bit, known, unknown, Row}
use Rattle.meaning.specs.Formula.{Pair, equal_from, sure, equal, negation, both, quantify_all, quantified}
use Rattle.meaning.proofs.Laws.Shape.{Good}
use Rattle.meaning.proofs.Laws.Plain as Plain
use Rattle.meaning.proofs.Laws.Over.{over}
use Rattle.meaning.proofs.Laws.Diagram.{step_good, step_holds, quantify_good, quantify_holds}
use Rattle.meaning.proofs.Laws.Fits.{Fits, bit, any, Below, keep, more, Encloses, Wider}
use Rattle.meaning.proofs.Laws.Row.{FitsBit, BelowBit, Says, says_holds, leaf_says, step_says, fits_head}
use Rattle.meaning.proofs.Laws.Row.{fits_tail, below_head, below_tail}

-- ---- pairs

pub record GoodPair (n : ℕ) (p : Pair) : Type 0 where
  pub must : Good n p.must
  pub may : Good n p.may

pub encloses_good : {n : ℕ} {ρ : Assignment} {p : Pair} {b : Bool} → Encloses n ρ p b → GoodPair n p
encloses_good inside = record { must = inside.must_good; may = inside.may_good }

-- true stays true where the arguments do
abbrev pub Monotone : (Bool → Bool → Bool) → Type 0
Monotone f = (a b a' b' : Bool) → (a ≡ true → a' ≡ true) → (b ≡ true → b' ≡ true) → f a b ≡ true → f a' b' ≡ true

pub and_monotone : Monotone ◌&&◌
and_monotone true b a' b' h k e = (and-eq-true_iff a' b').1 (h refl, k e)
and_monotone false b a' b' h k e = absurd (false≢true e)

pub or_monotone : Monotone ◌||◌
or_monotone a b true b' h k e = refl
or_monotone true b false b' h k e = absurd (false≢true (h refl))
or_monotone false b false b' h k e = k e

-- ---- not

opposite : {a b : Bool} → (a ≡ true → b ≡ true) → not b ≡ true → not a ≡ true
opposite {a = true} {b = true} h e = e
opposite {a = true} {b = false} h e = h refl
opposite {a = false} {b} h e = refl

not_holds : (n : ℕ) (t : Tree) → Good n t → (ρ : Assignment) →
    holds (step n is_not t unused unused).value ρ ≡ not (holds t ρ)
unfolding step
not_holds n t good ρ = step_holds n is_not t unused unused good tt tt ρ

pub negation_encloses : {n : ℕ} {ρ : Assignment} {p : Pair} {b : Bool} → Encloses n ρ p b →
    Encloses n ρ (negation n p).value (not b)
unfolding negation step
negation_encloses {n} {ρ} {p} {b} inside = record {
  must_good = step_good n is_not p.may unused unused;
  may_good = step_good n is_not p.must unused unused;
  must = λ e. opposite inside.may (sym (not_holds n p.may inside.may_good ρ) ∙ e);
  may = λ e. not_holds n p.must inside.must_good ρ ∙ opposite inside.must e;
}

not_falling : (n : ℕ) (t u : Tree) → Good n t → Good n u → (ρ : Assignment) → (holds t ρ ≡ true → holds u ρ ≡ true) →
    holds (step n is_not u unused unused).value ρ ≡ true → holds (step n is_not t unused unused).value ρ ≡ true
not_falling n t u good good' ρ h e = not_holds n t good ρ ∙ opposite h (sym (not_holds n u good' ρ) ∙ e)

pub negation_wider : (n : ℕ) {p q : Pair} → GoodPair n p → GoodPair n q → Wider p q →
    Wider (negation n p).value (negation n q).value
unfolding negation
negation_wider n {p} {q} good good' wider = record {
  must = λ ρ. not_falling n q.may p.may good'.may good.may ρ (wider.may ρ);
  may = λ ρ. not_falling n p.must q.must good.must good'.must ρ (wider.must ρ);
}

pub negation_exact : (n : ℕ) (p : Pair) → p.must ≡ p.may → (negation n p).value.must ≡ (negation n p).value.may
unfolding negation
negation_exact n p one = rw one refl

-- ---- and, or: any monotone function of two

both_holds : (n : ℕ) (f : Function) (t u : Tree) → Good n t → Good n u → (ρ : Assignment) →
    holds (step n f t u unused).value ρ ≡ f (holds t ρ) (holds u ρ) false
unfolding step
both_holds n f t u good good' ρ = step_holds n f t u unused good good' tt ρ

pub both_encloses : {n : ℕ} {ρ : Assignment} (f : Function) → Monotone (λ x y. f x y false) → {p q : Pair} {x y : Bool} →
    Encloses n ρ p x → Encloses n ρ q y → Encloses n ρ (both n f p q).value (f x y false)
unfolding both step
both_encloses {n} {ρ} f monotone {p} {q} {x} {y} a b = record {
  must_good = step_good n f p.must q.must unused;
  may_good = step_good n f p.may q.may unused;
  must = λ e. monotone _ _ _ _ a.must b.must
      (sym (both_holds n f p.must q.must a.must_good b.must_good ρ) ∙ e);
  may = λ e. both_holds n f p.may q.may a.may_good b.may_good ρ ∙ monotone _ _ _ _ a.may b.may e;
}

both_monotone : (n : ℕ) (f : Function) → Monotone (λ x y. f x y false) → (t u t' u' : Tree) →
    Good n t → Good n u → Good n t' → Good n u' → (ρ : Assignment) →
    (holds t ρ ≡ true → holds t' ρ ≡ true) → (holds u ρ ≡ true → holds u' ρ ≡ true) →
    holds (step n f t u unused).value ρ ≡ true → holds (step n f t' u' unused).value ρ ≡ true
both_monotone n f monotone t u t' u' gt gu gt' gu' ρ h k e =
    both_holds n f t' u' gt' gu' ρ ∙ monotone _ _ _ _ h k (sym (both_holds n f t u gt gu ρ) ∙ e)

pub both_wider : (n : ℕ) (f : Function) → Monotone (λ x y. f x y false) → {p q p' q' : Pair} →
    GoodPair n p → GoodPair n q → GoodPair n p' → GoodPair n q' →
    Wider p p' → Wider q q' → Wider (both n f p q).value (both n f p' q').value
unfolding both
both_wider n f monotone {p} {q} {p'} {q'} gp gq gp' gq' a b = record {
  must = λ ρ. both_monotone n f monotone p.must q.must p'.must q'.must
      gp.must gq.must gp'.must gq'.must ρ (a.must ρ) (b.must ρ);
  may = λ ρ. both_monotone n f monotone p'.may q'.may p.may q.may
      gp'.may gq'.may gp.may gq.may ρ (a.may ρ) (b.may ρ);
}

pub both_exact : (n : ℕ) (f : Function) (p q : Pair) → p.must ≡ p.may → q.must ≡ q.may →
    (both n f p q).value.must ≡ (both n f p q).value.may
unfolding both
both_exact n f p q one one' = rw (one, one') refl

-- ---- exists, forall

pub quantify_all_good : (n : ℕ) (f : Bool → Bool → Bool) (ls : List ℕ) (t : Tree) → Good n t →
    Good n (quantify_all n f ls t).value
unfolding quantify
quantify_all_good n f [] t good = good
quantify_all_good n f (l ∷ ls) t good = quantify_all_good n f ls (quantify_tree n f l t) (quantify_good n f l t)

pub quantify_all_holds : (n : ℕ) (f : Bool → Bool → Bool) (ls : List ℕ) (t : Tree) → Good n t → (ρ : Assignment) →
    holds (quantify_all n f ls t).value ρ ≡ over f ls (holds t) ρ
unfolding quantify
quantify_all_holds n f [] t good ρ = refl
quantify_all_holds n f (l ∷ ls) t good ρ =
    quantify_all_holds n f ls (quantify_tree n f l t) (quantify_good n f l t) ρ
    ∙ ap (λ g. over f ls g ρ) (fun_ext (quantify_holds n f l t good))

pub over_monotone : (f : Bool → Bool → Bool) → Monotone f → (ls : List ℕ) (g h : Assignment → Bool) →
    ((τ : Assignment) → g τ ≡ true → h τ ≡ true) → (ρ : Assignment) → over f ls g ρ ≡ true → over f ls h ρ ≡ true
over_monotone f monotone [] g h up ρ e = up ρ e
over_monotone f monotone (l ∷ ls) g h up ρ e =
    over_monotone f monotone ls _ _ (λ τ. monotone _ _ _ _ (up (put l false τ)) (up (put l true τ))) ρ e

pub quantified_encloses : {n : ℕ} {ρ : Assignment} (f : Bool → Bool → Bool) → Monotone f →
    (ls : List ℕ) {p : Pair} (t : Assignment → Bool) →
    ((τ : Assignment) → Encloses n τ p (t τ)) → Encloses n ρ (quantified n f ls p).value (over f ls t ρ)
unfolding quantified
quantified_encloses {n} {ρ} f monotone ls {p} t inside = record {
  must_good = quantify_all_good n f ls p.must (inside ρ).must_good;
  may_good = quantify_all_good n f ls p.may (inside ρ).may_good;
  must = λ e. over_monotone f monotone ls (holds p.must) t (λ τ. (inside τ).must) ρ
      (sym (quantify_all_holds n f ls p.must (inside ρ).must_good ρ) ∙ e);
  may = λ e. quantify_all_holds n f ls p.may (inside ρ).may_good ρ
      ∙ over_monotone f monotone ls t (holds p.may) (λ τ. (inside τ).may) ρ e;
}

-- one diagram of the pair
quantify_all_monotone : (n : ℕ) (f : Bool → Bool → Bool) → Monotone f → (ls : List ℕ) (t u : Tree) → Good n t → Good n u →
    ((τ : Assignment) → holds t τ ≡ true → holds u τ ≡ true) → (ρ : Assignment) →
    holds (quantify_all n f ls t).value ρ ≡ true → holds (quantify_all n f ls u).value ρ ≡ true
quantify_all_monotone n f monotone ls t u good good' up ρ e =
    quantify_all_holds n f ls u good' ρ
    ∙ over_monotone f monotone ls (holds t) (holds u) up ρ (sym (quantify_all_holds n f ls t good ρ) ∙ e)

pub quantified_wider : (n : ℕ) (f : Bool → Bool → Bool) → Monotone f → (ls : List ℕ) {p q : Pair} → GoodPair n p →
    GoodPair n q → Wider p q → Wider (quantified n f ls p).value (quantified n f ls q).value
unfolding quantified
quantified_wider n f monotone ls {p} {q} good good' wider = record {
  must = quantify_all_monotone n f monotone ls p.must q.must good.must good'.must wider.must;
  may = quantify_all_monotone n f monotone ls q.may p.may good'.may good.may wider.may;
}

pub quantified_exact : (n : ℕ) (f : Bool → Bool → Bool) (ls : List ℕ) (p : Pair) → p.must ≡ p.may →
    (quantified n f ls p).value.must ≡ (quantified n f ls p).value.may
unfolding quantified
quantified_exact n f ls p one = rw one refl

-- ---- equal: one place

-- the conjunction so far, after a place
abbrev next : ℕ → Tree → Bit → Bit → Tree
next n t (known a) (known b) = (step n is_and t (step n agree a b unused).value unused).value
next n t (known a) unknown = t
next n t unknown b = t

equal_from_next : (n : ℕ) (t : Tree) (a : Bit) (ar : Row) (b : Bit) (br : Row) →
    (equal_from n t (a ∷ ar) (b ∷ br)).value ≡ (equal_from n (next n t a b) ar br).value
equal_from_next n t (known a) ar (known b) br = refl
equal_from_next n t (known a) ar unknown br = refl
equal_from_next n t unknown ar b br = refl

next_good : (n : ℕ) (t : Tree) (a b : Bit) → Good n t → Good n (next n t a b)
unfolding step
next_good n t (known a) (known b) good = step_good n is_and t (step n agree a b unused).value unused
next_good n t (known a) unknown good = good
next_good n t unknown b good = good

agree_holds : (n : ℕ) (t a b : Tree) → Good n t → (ρ : Assignment) →
    holds (next n t (known a) (known b)) ρ ≡ (holds t ρ && holds (step n agree a b unused).value ρ)
unfolding step
agree_holds n t a b good ρ = both_holds n is_and t (step n agree a b unused).value good (step_good n agree a b unused) ρ

next_down : (n : ℕ) (t : Tree) (a b : Bit) → Good n t → (ρ : Assignment) → holds (next n t a b) ρ ≡ true →
    holds t ρ ≡ true
next_down n t (known a) (known b) good ρ e = ((and-eq-true_iff (holds t ρ) _).0 (sym (agree_holds n t a b good ρ) ∙ e)).0
next_down n t (known a) unknown good ρ e = e
next_down n t unknown b good ρ e = e

next_may : {n : ℕ} {ρ : Assignment} (t : Tree) (r : Bool) {a b : Bit} {x y : Bool} → Good n t →
    (r ≡ true → holds t ρ ≡ true) → FitsBit n ρ a x → FitsBit n ρ b y → r && beq x y ≡ true →
    holds (next n t a b) ρ ≡ true
next_may {n} {ρ} t r {x} {y} good h (bit {t = a} ga ia p) (bit {t = b} gb ib q) e =
    let here = says_holds (step_says agree (bit ga ia p) (bit gb ib q) (leaf_says false)) in
    agree_holds n t a b good ρ ∙ and_monotone r (beq x y) _ _ h (λ k. here ∙ k) e
next_may t r good h (bit ga ia p) (any q) e = h ((and-eq-true_iff r _).0 e).0
next_may t r good h (any p) q e = h ((and-eq-true_iff r _).0 e).0

next_wider : (n : ℕ) (t t' : Tree) {a b a' b' : Bit} → Good n t → Good n t' → BelowBit a a' → BelowBit b b' →
    (ρ : Assignment) → (holds t' ρ ≡ true → holds t ρ ≡ true) → holds (next n t' a' b') ρ ≡ true →
    holds (next n t a b) ρ ≡ true
next_wider n t t' good good' (keep {t = a} p) (keep {t = b} q) ρ h e =
    agree_holds n t a b good ρ ∙ and_monotone (holds t' ρ) _ _ _ h (λ k. k) (sym (agree_holds n t' a b good' ρ) ∙ e)
next_wider n t t' {a'} good good' (keep p) (more {b = b'} q) ρ h e = h (next_down n t' a' b' good' ρ e)
next_wider n t t' {b'} good good' (more {b = a'} p) q ρ h e = h (next_down n t' a' b' good' ρ e)

-- ---- equal: all places

equal_from_good : (n : ℕ) (t : Tree) (a b : Row) → Good n t → Good n (equal_from n t a b).value
equal_from_good n t [] b good = good
equal_from_good n t (a ∷ ar) [] good = good
equal_from_good n t (a ∷ ar) (b ∷ br) good =
    rw (equal_from_next n t a ar b br) (equal_from_good n (next n t a b) ar br (next_good n t a b good))

module _ {n : ℕ} {ρ : Assignment} where
  -- where every bit is known the diagram says what the plain bits say
  equal_from_says : {t : Tree} {r : Bool} (a b : Row) (xs ys : List Bool) → Says n ρ t r → Fits n ρ a xs → Fits n ρ b ys →
      sure a ≡ true → sure b ≡ true → Says n ρ (equal_from n t a b).value (Plain.equal_from r xs ys)
  equal_from_says [] b [] ys s p q sure_a sure_b = s
  equal_from_says (a ∷ ar) [] (x ∷ xs) [] s p q sure_a sure_b = s
  equal_from_says {t = t} (known a ∷ ar) (known b ∷ br) (x ∷ xs) (y ∷ ys) s p q sure_a sure_b =
      let e = step_says agree (fits_head p) (fits_head q) (leaf_says false) in
      equal_from_says {t = next n t (known a) (known b)} ar br xs ys (step_says is_and s e (leaf_says false)) (fits_tail p) (fits_tail q) sure_a sure_b
  equal_from_says (known a ∷ ar) (unknown ∷ br) (x ∷ xs) (y ∷ ys) s p q sure_a sure_b = absurd (false≢true sure_b)
  equal_from_says (unknown ∷ ar) (b ∷ br) (x ∷ xs) (y ∷ ys) s p q sure_a sure_b = absurd (false≢true sure_a)
  equal_from_says {t = t} {r = r} [] b (x ∷ xs) ys s p q sure_a sure_b = elim p [ ]
  equal_from_says {t = t} {r = r} (a ∷ ar) [] [] ys s p q sure_a sure_b = elim p [ ]
  equal_from_says {t = t} {r = r} (a ∷ ar) [] (x ∷ xs) (y ∷ ys) s p q sure_a sure_b = elim q [ ]
  equal_from_says {t = t} {r = r} (known a ∷ ar) (known b ∷ br) [] ys s p q sure_a sure_b = elim p [ ]
  equal_from_says {t = t} {r = r} (known a ∷ ar) (known b ∷ br) (x ∷ xs) [] s p q sure_a sure_b = elim q [ ]
  equal_from_says {t = t} {r = r} (known a ∷ ar) (unknown ∷ br) [] ys s p q sure_a sure_b = elim p [ ]
  equal_from_says {t = t} {r = r} (known a ∷ ar) (unknown ∷ br) (x ∷ xs) [] s p q sure_a sure_b = elim q [ ]
  equal_from_says {t = t} {r = r} (unknown ∷ ar) (b ∷ br) [] ys s p q sure_a sure_b = elim p [ ]
  equal_from_says {t = t} {r = r} (unknown ∷ ar) (b ∷ br) (x ∷ xs) [] s p q sure_a sure_b = elim q [ ]

  -- else it holds wherever the plain bits are equal
  equal_from_may : (t : Tree) (r : Bool) (a b : Row) (xs ys : List Bool) → Good n t → (r ≡ true → holds t ρ ≡ true) →
      Fits n ρ a xs → Fits n ρ b ys → Plain.equal_from r xs ys ≡ true → holds (equal_from n t a b).value ρ ≡ true
  equal_from_may t r [] b [] ys good h p q e = h e
  equal_from_may t r (a ∷ ar) [] (x ∷ xs) [] good h p q e = h e
  equal_from_may t r (a ∷ ar) (b ∷ br) (x ∷ xs) (y ∷ ys) good h p q e =
      rw (equal_from_next n t a ar b br)
      (equal_from_may (next n t a b) (r && beq x y) ar br xs ys (next_good n t a b good)
      (next_may t r good h (fits_head p) (fits_head q)) (fits_tail p) (fits_tail q) e)
  equal_from_may t r [] b (x ∷ xs) ys good h p q e = elim p [ ]
  equal_from_may t r (a ∷ ar) [] [] ys good h p q e = elim p [ ]
  equal_from_may t r (a ∷ ar) [] (x ∷ xs) (y ∷ ys) good h p q e = elim q [ ]
  equal_from_may t r (a ∷ ar) (b ∷ br) [] ys good h p q e = elim p [ ]
  equal_from_may t r (a ∷ ar) (b ∷ br) (x ∷ xs) [] good h p q e = elim q [ ]

  pub equal_encloses : {a b : Row} {xs ys : List Bool} → Fits n ρ a xs → Fits n ρ b ys →
      Encloses n ρ (equal n a b).value (Plain.equal_from true xs ys)
  unfolding equal
  equal_encloses {a} {b} {xs} {ys} p q = record {
    must_good = must_good (sure a && sure b);
    may_good = good;
    must = must (sure a && sure b) refl;
    may = equal_from_may (leaf true) true a b xs ys tt (λ e. e) p q;
  }
    where
      r : Tree
      r = (equal_from n (leaf true) a b).value

      good : Good n r
      good = equal_from_good n (leaf true) a b tt

      must_good : (s : Bool) → Good n (cond s r (leaf false))
      must_good true = good
      must_good false = tt

      must : (s : Bool) → sure a && sure b ≡ s → holds (cond s r (leaf false)) ρ ≡ true →
          Plain.equal_from true xs ys ≡ true
      must true all h =
          let parts = (and-eq-true_iff (sure a) (sure b)).0 all in
          sym (says_holds (equal_from_says a b xs ys (leaf_says true) p q parts.0 parts.1)) ∙ h
      must false all h = absurd (false≢true h)

-- where fewer bits are known the diagram holds more often
equal_from_wider : (n : ℕ) (t t' : Tree) (a b a' b' : Row) → Good n t → Good n t' → Below a a' → Below b b' →
    (ρ : Assignment) → (holds t' ρ ≡ true → holds t ρ ≡ true) → holds (equal_from n t' a' b').value ρ ≡ true →
    holds (equal_from n t a b).value ρ ≡ true
equal_from_wider n t t' [] b [] b' good good' p q ρ h e = h e
equal_from_wider n t t' (a ∷ ar) [] (a' ∷ ar') [] good good' p q ρ h e = h e
equal_from_wider n t t' (a ∷ ar) (b ∷ br) (a' ∷ ar') (b' ∷ br') good good' p q ρ h e =
    rw (equal_from_next n t a ar b br)
    (equal_from_wider n (next n t a b) (next n t' a' b') ar br ar' br'
    (next_good n t a b good) (next_good n t' a' b' good') (below_tail p) (below_tail q) ρ
    (next_wider n t t' good good' (below_head p) (below_head q) ρ h)
    (rw (equal_from_next n t' a' ar' b' br') at e))
equal_from_wider n t t' [] b (a' ∷ ar') b' good good' p q ρ h e = elim p [ ]
equal_from_wider n t t' (a ∷ ar) [] [] b' good good' p q ρ h e = elim p [ ]
equal_from_wider n t t' (a ∷ ar) [] (a' ∷ ar') (b' ∷ br') good good' p q ρ h e = elim q [ ]
equal_from_wider n t t' (a ∷ ar) (b ∷ br) [] b' good good' p q ρ h e = elim p [ ]
equal_from_wider n t t' (a ∷ ar) (b ∷ br) (a' ∷ ar') [] good good' p q ρ h e = elim q [ ]

below_sure : (a a' : Row) → Below a a' → sure a ≡ true → a ≡ a'
below_sure [] [] p s = refl
below_sure (known t ∷ a) (b ∷ a') (keep p) s = ap (λ r. known t ∷ r) (below_sure a a' p s)
below_sure (unknown ∷ a) (b ∷ a') p s = absurd (false≢true s)
below_sure [] (b ∷ a') p s = elim p [ ]
below_sure (known t ∷ a) [] p s = elim p [ ]
below_sure (unknown ∷ a) [] p s = elim p [ ]

pub equal_wider : (n : ℕ) {a b a' b' : Row} → Below a a' → Below b b' → Wider (equal n a b).value (equal n a' b').value
unfolding equal
equal_wider n {a} {b} {a'} {b'} p q = record {
  must = must (sure a && sure b) refl;
  may = λ ρ. equal_from_wider n (leaf true) (leaf true) a b a' b' tt tt p q ρ (λ e. e);
}
  where
    must : (s : Bool) → sure a && sure b ≡ s → (ρ : Assignment) →
        holds (cond s (equal_from n (leaf true) a b).value (leaf false)) ρ ≡ true →
        holds (cond (sure a' && sure b') (equal_from n (leaf true) a' b').value (leaf false)) ρ ≡ true
    must true all ρ h =
        let parts = (and-eq-true_iff (sure a) (sure b)).0 all in
        rw (← (below_sure a a' p parts.0), ← (below_sure b b' q parts.1), all) h
    must false all ρ h = absurd (false≢true h)

pub equal_exact : (n : ℕ) (a b : Row) → sure a ≡ true → sure b ≡ true → (equal n a b).value.must ≡ (equal n a b).value.may
unfolding equal
equal_exact n a b sure_a sure_b = rw (sure_a, sure_b) refl
