-- Unsigned and signed ≤: the pair encloses the plain order, is wider than that of rows that know more, and is one diagram
-- where every bit is known.
use Prim.Native.Nat.{ℕ}
use mathlib.Core.Path.{◌≡◌, refl}
use mathlib.Core.Bool.{Bool, true, false, cond, not, false≢true}
use mathlib.Core.List.{List, [], ◌∷◌}
use Rattle.meaning.specs.Diagram.{Tree, leaf, Assignment, holds}
use Rattle.meaning.specs.Step.{step, less_or_equal, signed_top}
use Rattle.meaning.specs.Row.{Bit, known, unknown, Row}
use Rattle.meaning.specs.Formula.{sure, read, signed_here, order_step, chain, at_most}
use Rattle.meaning.proofs.Laws.Shape.{Good}
use Rattle.meaning.proofs.Laws.Plain as Plain
use Rattle.meaning.proofs.Laws.Diagram.{step_good, step_holds}
use Rattle.meaning.proofs.Laws.Fits.{Fits, bit, any, Below, keep, more, Encloses, Wider}
use Rattle.meaning.proofs.Laws.Row.{FitsBit, BelowBit, GoodBit, GoodRow, fits_good, fits_head, fits_tail}
use Rattle.meaning.proofs.Laws.Row.{below_head, below_tail}

-- ---- one place. The must chain (z = true) errs to false, the may chain (z = false) to true

-- u is on z's side of v
abbrev Side : Bool → Bool → Bool → Type 0
Side true u v = u ≡ true → v ≡ true
Side false u v = v ≡ true → u ≡ true

side_refl : (z u : Bool) → Side z u u
side_refl true u = λ e. e
side_refl false u = λ e. e

-- how an unknown a is read
abbrev read_for : Bool → Bool → Bool
read_for here z = cond here (not z) z

less_monotone : (u v c x y r : Bool) → (x ≡ true → u ≡ true) → (v ≡ true → y ≡ true) → (c ≡ true → r ≡ true) →
    less_or_equal u v c ≡ true → less_or_equal x y r ≡ true
less_monotone true false c x y r f g h e = absurd (false≢true e)
less_monotone true true c x false r f g h e = absurd (false≢true (g refl))
less_monotone true true c true true r f g h e = h e
less_monotone true true c false true r f g h e = refl
less_monotone false v c true y r f g h e = absurd (false≢true (f refl))
less_monotone false v c false true r f g h e = refl
less_monotone false true c false false r f g h e = absurd (false≢true (g refl))
less_monotone false false c false false r f g h e = h e

-- at a signed top bit the two change places
signed_swap : (x y r : Bool) → signed_top x y r ≡ less_or_equal y x r
signed_swap true true r = refl
signed_swap true false r = refl
signed_swap false true r = refl
signed_swap false false r = refl

order_side : (here z u v c x y r : Bool) → Side (not (read_for here z)) u x → Side (not (not (read_for here z))) v y →
    Side z c r → Side z (order_step here u v c) (order_step here x y r)
order_side false true u v c x y r f g h = less_monotone u v c x y r f g h
order_side false false u v c x y r f g h = less_monotone x y r u v c f g h
order_side true true u v c x y r f g h = rw (signed_swap u v c, signed_swap x y r) (less_monotone v u c y x r g f h)
order_side true false u v c x y r f g h = rw (signed_swap u v c, signed_swap x y r) (less_monotone y x r v u c g f h)

-- a bit that is read as z errs to z
read_fits : {n : ℕ} {ρ : Assignment} (z : Bool) {a : Bit} {x : Bool} → FitsBit n ρ a x →
    Side (not z) (holds (read z a) ρ) x
read_fits z (bit good is p) = rw is (side_refl (not z) _)
read_fits true (any p) = λ e. refl
read_fits false (any p) = λ e. absurd (false≢true e)

read_below : (ρ : Assignment) (z : Bool) {a b : Bit} → BelowBit a b →
    Side (not z) (holds (read z a) ρ) (holds (read z b) ρ)
read_below ρ z (keep {t} p) = side_refl (not z) (holds t ρ)
read_below ρ true (more p) = λ e. refl
read_below ρ false (more p) = λ e. absurd (false≢true e)

read_good : (n : ℕ) (z : Bool) (a : Bit) → GoodBit n a → Good n (read z a)
read_good n z (known t) good = good
read_good n z unknown good = tt

-- the chain so far, after a place
abbrev place : ℕ → Bool → Bool → Tree → Bit → Bit → Tree
place n here z t a b = (step n (order_step here) (read (read_for here z) a) (read (not (read_for here z)) b) t).value

place_good : (n : ℕ) (here z : Bool) (t : Tree) (a b : Bit) → Good n (place n here z t a b)
unfolding step
place_good n here z t a b = step_good n (order_step here) (read (read_for here z) a) (read (not (read_for here z)) b) t

place_holds : (n : ℕ) (here z : Bool) (t : Tree) (a b : Bit) → GoodBit n a → GoodBit n b → Good n t → (ρ : Assignment) →
    holds (place n here z t a b) ρ
    ≡ order_step here (holds (read (read_for here z) a) ρ) (holds (read (not (read_for here z)) b) ρ) (holds t ρ)
unfolding step
place_holds n here z t a b good_a good_b good ρ =
    let za = read_for here z in
    step_holds n (order_step here) _ _ t (read_good n za a good_a) (read_good n (not za) b good_b) good ρ

-- ---- all places

chain_good : (n : ℕ) (signed z : Bool) (t : Tree) (a b : Row) → Good n t → Good n (chain n signed z t a b).value
chain_good n signed z t [] b good = good
chain_good n signed z t (a ∷ ar) [] good = good
chain_good n signed z t (a ∷ ar) (b ∷ br) good =
    let here = signed_here signed ar in
    chain_good n signed z (place n here z t a b) ar br (place_good n here z t a b)

signed_here_fits : {n : ℕ} {ρ : Assignment} (signed : Bool) {a : Row} {xs : List Bool} → Fits n ρ a xs →
    signed_here signed a ≡ Plain.signed_here signed xs
signed_here_fits signed Fits.end = refl
signed_here_fits signed (bit good is p) = refl
signed_here_fits signed (any p) = refl

plain_step : (here x y r : Bool) → cond here (signed_top x y r) (less_or_equal x y r) ≡ order_step here x y r
plain_step true x y r = refl
plain_step false x y r = refl

chain_fits : {n : ℕ} {ρ : Assignment} (signed z : Bool) (t : Tree) (r : Bool) (a b : Row) (xs ys : List Bool) → Good n t →
    Side z (holds t ρ) r → Fits n ρ a xs → Fits n ρ b ys →
    Side z (holds (chain n signed z t a b).value ρ) (Plain.chain signed r xs ys)
chain_fits signed z t r [] b [] ys good h p q = h
chain_fits signed z t r (a ∷ ar) [] (x ∷ xs) [] good h p q = h
chain_fits {n} {ρ} signed z t r (a ∷ ar) (b ∷ br) (x ∷ xs) (y ∷ ys) good h p q =
    let here = signed_here signed ar in
    let za = read_for here z in
    let side : Side z (holds (place n here z t a b) ρ) (order_step here x y r) =
    rw (place_holds n here z t a b (fits_good p).0 (fits_good q).0 good ρ)
    (order_side here z _ _ _ x y r (read_fits za (fits_head p)) (read_fits (not za) (fits_head q)) h) in
    rw (← (signed_here_fits signed (fits_tail p)), plain_step here x y r)
    (chain_fits signed z (place n here z t a b) (order_step here x y r) ar br xs ys
    (place_good n here z t a b) side (fits_tail p) (fits_tail q))
chain_fits {n = n} {ρ = ρ} signed z t r [] b (x ∷ xs) ys good h p q = elim p [ ]
chain_fits {n = n} {ρ = ρ} signed z t r (a ∷ ar) [] [] ys good h p q = elim p [ ]
chain_fits {n = n} {ρ = ρ} signed z t r (a ∷ ar) [] (x ∷ xs) (y ∷ ys) good h p q = elim q [ ]
chain_fits {n = n} {ρ = ρ} signed z t r (a ∷ ar) (b ∷ br) [] ys good h p q = elim p [ ]
chain_fits {n = n} {ρ = ρ} signed z t r (a ∷ ar) (b ∷ br) (x ∷ xs) [] good h p q = elim q [ ]

-- the known bits of the row that knows no more are known in the other
below_good_bit : (n : ℕ) {a b : Bit} → BelowBit a b → GoodBit n b → GoodBit n a
below_good_bit n (keep p) good = good
below_good_bit n (more p) good = tt

signed_here_below : (signed : Bool) {a b : Row} → Below a b → signed_here signed a ≡ signed_here signed b
signed_here_below signed Below.end = refl
signed_here_below signed (keep p) = refl
signed_here_below signed (more p) = refl

chain_below : (n : ℕ) (signed z : Bool) (ρ : Assignment) (t t' : Tree) (a b a' b' : Row) → Good n t → Good n t' →
    GoodRow n a' → GoodRow n b' → Side z (holds t ρ) (holds t' ρ) → Below a a' → Below b b' →
    Side z (holds (chain n signed z t a b).value ρ) (holds (chain n signed z t' a' b').value ρ)
chain_below n signed z ρ t t' [] b [] b' good good' good_a good_b h p q = h
chain_below n signed z ρ t t' (a ∷ ar) [] (a' ∷ ar') [] good good' good_a good_b h p q = h
chain_below n signed z ρ t t' (a ∷ ar) (b ∷ br) (a' ∷ ar') (b' ∷ br') good good' good_a good_b h p q =
    let here = signed_here signed ar in
    let za = read_for here z in
    let pa = below_head p in
    let pb = below_head q in
    let side : Side z (holds (place n here z t a b) ρ) (holds (place n here z t' a' b') ρ) =
    rw (
      place_holds n here z t a b (below_good_bit n pa good_a.0) (below_good_bit n pb good_b.0) good ρ,
      place_holds n here z t' a' b' good_a.0 good_b.0 good' ρ,
    )
    (order_side here z _ _ _ _ _ _ (read_below ρ za pa) (read_below ρ (not za) pb) h) in
    rw (← (signed_here_below signed (below_tail p)))
    (chain_below n signed z ρ (place n here z t a b) (place n here z t' a' b') ar br ar' br'
    (place_good n here z t a b) (place_good n here z t' a' b') good_a.1 good_b.1 side
    (below_tail p) (below_tail q))
chain_below n signed z ρ t t' [] b (a' ∷ ar') b' good good' good_a good_b h p q = elim p [ ]
chain_below n signed z ρ t t' (a ∷ ar) [] [] b' good good' good_a good_b h p q = elim p [ ]
chain_below n signed z ρ t t' (a ∷ ar) [] (a' ∷ ar') (b' ∷ br') good good' good_a good_b h p q = elim q [ ]
chain_below n signed z ρ t t' (a ∷ ar) (b ∷ br) [] b' good good' good_a good_b h p q = elim p [ ]
chain_below n signed z ρ t t' (a ∷ ar) (b ∷ br) (a' ∷ ar') [] good good' good_a good_b h p q = elim q [ ]

chain_exact : (n : ℕ) (signed : Bool) (t : Tree) (a b : Row) → sure a ≡ true → sure b ≡ true →
    (chain n signed true t a b).value ≡ (chain n signed false t a b).value
chain_exact n signed t [] b sure_a sure_b = refl
chain_exact n signed t (a ∷ ar) [] sure_a sure_b = refl
chain_exact n signed t (known a ∷ ar) (known b ∷ br) sure_a sure_b =
    chain_exact n signed (step n (order_step (signed_here signed ar)) a b t).value ar br sure_a sure_b
chain_exact n signed t (known a ∷ ar) (unknown ∷ br) sure_a sure_b = absurd (false≢true sure_b)
chain_exact n signed t (unknown ∷ ar) (b ∷ br) sure_a sure_b = absurd (false≢true sure_a)

-- ---- the pair

pub at_most_encloses : {n : ℕ} {ρ : Assignment} (signed : Bool) {a b : Row} {xs ys : List Bool} → Fits n ρ a xs →
    Fits n ρ b ys → Encloses n ρ (at_most n signed a b).value (Plain.chain signed true xs ys)
unfolding at_most
at_most_encloses {n} signed {a} {b} {xs} {ys} p q = record {
  must_good = chain_good n signed true (leaf true) a b tt;
  may_good = chain_good n signed false (leaf true) a b tt;
  must = chain_fits signed true (leaf true) true a b xs ys tt (λ e. e) p q;
  may = chain_fits signed false (leaf true) true a b xs ys tt (λ e. e) p q;
}

pub at_most_wider : (n : ℕ) (signed : Bool) {a b a' b' : Row} → GoodRow n a' → GoodRow n b' → Below a a' → Below b b' →
    Wider (at_most n signed a b).value (at_most n signed a' b').value
unfolding at_most
at_most_wider n signed {a} {b} {a'} {b'} good_a good_b p q = record {
  must = λ ρ. chain_below n signed true ρ (leaf true) (leaf true) a b a' b' tt tt good_a good_b (λ e. e) p q;
  may = λ ρ. chain_below n signed false ρ (leaf true) (leaf true) a b a' b' tt tt good_a good_b (λ e. e) p q;
}

pub at_most_exact : (n : ℕ) (signed : Bool) (a b : Row) → sure a ≡ true → sure b ≡ true →
    (at_most n signed a b).value.must ≡ (at_most n signed a b).value.may
unfolding at_most
at_most_exact n signed a b sure_a sure_b = chain_exact n signed (leaf true) a b sure_a sure_b
