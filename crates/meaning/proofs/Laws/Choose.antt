-- If-then-else on rows: it fits the plain choice, and knows no more than the same of a condition and rows that know more.
use Prim.Native.Nat.{ℕ}
use native.Mathlib.Omega.{arith}
use mathlib.Core.Path.{◌≡◌, refl, sym, ap, ◌∙◌}
use mathlib.Core.Bool.{Bool, true, false, cond, false≢true}
use mathlib.Core.List.{List, [], ◌∷◌}
use native.Mathlib.Nat.{not-suc-le-zero}
use lib.ListN.{length}
use Rattle.meaning.specs.Diagram.{Tree, leaf, node, Assignment, holds, same}
use Rattle.meaning.specs.Step.{done, choice}
use Rattle.meaning.specs.BitVector.{zip_bits}
use Rattle.meaning.specs.Row.{Bit, known, unknown, Row, same_bit, chosen, choose_bit, choose}
use Rattle.meaning.specs.Formula.{Pair, pair, sure}
use Rattle.meaning.proofs.Laws.Diagram.{same_eq, same_refl, canonical}
use Rattle.meaning.proofs.Laws.Fits.{Fits, bit, any, Below, keep, more, Encloses, Wider}
use Rattle.meaning.proofs.Laws.Row.{FitsBit, BelowBit, Says, sure_bit, step_says}
use Rattle.meaning.proofs.Laws.Formula.{GoodPair}
use Rattle.meaning.proofs.Laws.Bitwise.{both_bits_fits, both_bits_below, both_bits_sure}

-- ---- a condition that is known: must and may are one diagram

either_way : (a b : Bool) → (a ≡ true → b ≡ true) → (b ≡ true → a ≡ true) → a ≡ b
either_way true b h k = sym (h refl)
either_way false true h k = k refl
either_way false false h k = refl

pub encloses_says : {n : ℕ} {ρ : Assignment} {must may : Tree} {c : Bool} → Encloses n ρ (pair must may) c → must ≡ may →
    Says n ρ must c
encloses_says {ρ} inside one =
    let is = either_way _ _ inside.must (λ e. ap (λ t. holds t ρ) one ∙ inside.may e) in
    bit inside.must_good is Fits.end

-- what encloses no more than one diagram is that diagram
narrowed : (n : ℕ) (p q : Pair) → Wider p q → GoodPair n p → GoodPair n q →
    ((ρ : Assignment) → holds q.must ρ ≡ true → holds q.may ρ ≡ true) →
    p.must ≡ p.may → (q.must ≡ p.must) × (q.may ≡ p.must)
narrowed n p q wider good good' inside one =
    let down : (ρ : Assignment) → holds q.may ρ ≡ true → holds p.must ρ ≡ true = λ ρ h. rw one (wider.may ρ h) in (
      canonical n q.must p.must good'.must good.must
          (λ ρ. either_way _ _ (λ h. down ρ (inside ρ h)) (wider.must ρ)),
      canonical n q.may p.must good'.may good.must
          (λ ρ. either_way _ _ (down ρ) (λ h. inside ρ (wider.must ρ h))),
    )

-- ---- fits

same_bit_fits : {n : ℕ} {ρ : Assignment} {a b : Bit} {x y : Bool} (c : Bool) → FitsBit n ρ a x → FitsBit n ρ b y →
    same_bit a b ≡ true → FitsBit n ρ a (cond c x y)
same_bit_fits true p q e = p
same_bit_fits {ρ} false (bit {t} good is p) (bit {t = u} good' is' q) e =
    bit good (ap (λ v. holds v ρ) (same_eq t u e) ∙ is') Fits.end
same_bit_fits false (bit good is p) (any q) e = absurd (false≢true e)
same_bit_fits false (any p) q e = any Fits.end

chosen_fits : {n : ℕ} {ρ : Assignment} (t : Tree) {c : Bool} {a b : Bit} {x y : Bool} → Says n ρ t c → FitsBit n ρ a x →
    FitsBit n ρ b y → FitsBit n ρ (chosen n t a b).value (cond c x y)
chosen_fits (leaf true) (bit good is r) p q = rw (← is) p
chosen_fits (leaf false) (bit good is r) p q = rw (← is) q
chosen_fits (node i d e) r (bit good is p) (bit good' is' q) = step_says choice r (bit good is p) (bit good' is' q)
chosen_fits (node i d e) r (bit good is p) (any q) = any Fits.end
chosen_fits (node i d e) r (any p) q = any Fits.end

choose_bit_fits : {n : ℕ} {ρ : Assignment} {must may : Tree} {c : Bool} {a b : Bit} {x y : Bool} →
    Encloses n ρ (pair must may) c → FitsBit n ρ a x → FitsBit n ρ b y →
    FitsBit n ρ (choose_bit n must may a b).value (cond c x y)
choose_bit_fits {n} {ρ} {must} {may} {c} {a} {b} {x} {y} inside p q = go (same_bit a b) refl (same must may) refl
  where
    go : (s : Bool) → same_bit a b ≡ s → (m : Bool) → same must may ≡ m →
        FitsBit n ρ (cond s (done a) (cond m (chosen n must a b) (done unknown))).value (cond c x y)
    go true e m e' = same_bit_fits c p q e
    go false e true e' = chosen_fits must (encloses_says inside (same_eq must may e')) p q
    go false e false e' = any Fits.end

choice_each : (c : Bool) (xs ys : List Bool) → length xs ≡ length ys → zip_bits (λ x y. cond c x y) xs ys ≡ cond c xs ys
choice_each true [] [] even = refl
choice_each false [] [] even = refl
choice_each c [] (y ∷ ys) even = absurd (not-suc-le-zero {n = length ys} (omega arith))
choice_each c (x ∷ xs) [] even = absurd (not-suc-le-zero {n = length xs} (omega arith))
choice_each true (x ∷ xs) (y ∷ ys) even = ap (λ r. x ∷ r) (choice_each true xs ys (omega arith))
choice_each false (x ∷ xs) (y ∷ ys) even = ap (λ r. y ∷ r) (choice_each false xs ys (omega arith))

pub choose_fits : {n : ℕ} {ρ : Assignment} {must may : Tree} {c : Bool} {a b : Row} {xs ys : List Bool} →
    Encloses n ρ (pair must may) c → Fits n ρ a xs → Fits n ρ b ys → length xs ≡ length ys →
    Fits n ρ (choose n must may a b).value (cond c xs ys)
unfolding choose
choose_fits {n} {must} {may} {c} {a} {b} {xs} {ys} inside p q even =
    rw (← (choice_each c xs ys even))
    (both_bits_fits (choose_bit n must may) (λ x y. cond c x y) (λ d e x y. choose_bit_fits inside) a b xs ys p q)

-- ---- knows no more

same_bit_eq : (a b : Bit) → same_bit a b ≡ true → a ≡ b
same_bit_eq (known t) (known u) e = ap known (same_eq t u e)
same_bit_eq (known t) unknown e = absurd (false≢true e)
same_bit_eq unknown b e = absurd (false≢true e)

same_bit_below : {a b a' b' : Bit} → BelowBit a a' → BelowBit b b' → same_bit a b ≡ true → same_bit a' b' ≡ true
same_bit_below (keep p) (keep q) e = e
same_bit_below (keep p) (more q) e = absurd (false≢true e)
same_bit_below (more p) q e = absurd (false≢true e)

chosen_below : (n : ℕ) (t : Tree) {a b a' b' : Bit} → BelowBit a a' → BelowBit b b' → same_bit a b ≡ false → (s : Bool) →
    same_bit a' b' ≡ s → BelowBit (chosen n t a b).value (cond s (done a') (chosen n t a' b')).value
chosen_below n (leaf true) p q e true e' = p
chosen_below n (leaf true) p q e false e' = p
chosen_below n (leaf false) {a'} {b'} p q e true e' = rw (same_bit_eq a' b' e') q
chosen_below n (leaf false) p q e false e' = q
chosen_below n (node i d f) (keep p) (keep q) e true e' = absurd (false≢true (sym e ∙ e'))
chosen_below n (node i d f) (keep p) (keep q) e false e' = keep Below.end
chosen_below n (node i d f) (keep p) (more q) e s e' = more Below.end
chosen_below n (node i d f) (more p) q e s e' = more Below.end

choose_bit_below : (n : ℕ) (p q : Pair) → (p.must ≡ p.may → (q.must ≡ p.must) × (q.may ≡ p.must)) →
    {a b a' b' : Bit} → BelowBit a a' → BelowBit b b' →
    BelowBit (choose_bit n p.must p.may a b).value (choose_bit n q.must q.may a' b').value
choose_bit_below n p q one {a} {b} {a'} {b'} r s = go (same_bit a b) refl (same p.must p.may) refl
  where
    go : (u : Bool) → same_bit a b ≡ u → (m : Bool) → same p.must p.may ≡ m →
        BelowBit (cond u (done a) (cond m (chosen n p.must a b) (done unknown))).value
        (choose_bit n q.must q.may a' b').value
    go true e m e' = rw (same_bit_below r s e) r
    go false e true e' =
        let is = one (same_eq _ _ e') in
        rw (is.0, is.1, same_refl p.must) (chosen_below n p.must r s e (same_bit a' b') refl)
    go false e false e' = more Below.end

pub choose_below : (n : ℕ) {p q : Pair} → Wider p q → GoodPair n p → GoodPair n q →
    ((ρ : Assignment) → holds q.must ρ ≡ true → holds q.may ρ ≡ true) → {a b a' b' : Row} → Below a a' →
    Below b b' → Below (choose n p.must p.may a b).value (choose n q.must q.may a' b').value
unfolding choose
choose_below n {p} {q} wider good good' inside {a} {b} {a'} {b'} r s =
    both_bits_below (choose_bit n p.must p.may) (choose_bit n q.must q.may)
    (λ c d c' d'. choose_bit_below n p q (narrowed n p q wider good good' inside)) a b a' b' r s

-- ---- no unknown bit

chosen_sure : (n : ℕ) (c t u : Tree) → sure_bit (chosen n c (known t) (known u)).value ≡ true
chosen_sure n (leaf true) t u = refl
chosen_sure n (leaf false) t u = refl
chosen_sure n (node i d e) t u = refl

pub choose_sure : (n : ℕ) (must may : Tree) → must ≡ may → (a b : Row) → sure a ≡ true → sure b ≡ true →
    sure (choose n must may a b).value ≡ true
unfolding choose
choose_sure n must may one a b p q = both_bits_sure (choose_bit n must may) rule a b p q
  where
    go : (t u : Tree) (s : Bool) → sure_bit (cond s (done (known t)) (chosen n may (known t) (known u))).value ≡ true
    go t u true = refl
    go t u false = chosen_sure n may t u

    rule : (t u : Tree) → sure_bit (choose_bit n must may (known t) (known u)).value ≡ true
    rule t u = rw (one, same_refl may) (go t u (same t u))
