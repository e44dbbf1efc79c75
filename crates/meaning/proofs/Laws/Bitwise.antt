-- Place by place: bitwise not, and, or, xor. The rows fit the plain bits, know no more than the same of rows that know
-- more, and have no unknown bit where the operands have none.
use Prim.Native.Nat.{ℕ, suc}
use mathlib.Core.Path.{◌≡◌, refl, sym, ap, ◌∙◌}
use mathlib.Core.Bool.{Bool, true, false, cond, not, ◌&&◌, ◌||◌, false≢true}
use mathlib.Core.List.{List, [], ◌∷◌, map}
use lib.ListN.{length}
use Rattle.meaning.specs.Diagram.{Tree, leaf, Assignment, holds, same}
use Rattle.meaning.specs.Step.{Work, step, step_tree, Function, is_not, is_and, is_or, is_xor, unused}
use Rattle.meaning.specs.BitVector.{zip_bits, differ}
use Rattle.meaning.specs.Row.{Bit, known, unknown, Row, each_bit, both_bits, not_bit, bit_not, decided_by, undecided}
use Rattle.meaning.specs.Row.{pair_bit, and_bit, bit_and, bit_or, bit_xor}
use Rattle.meaning.specs.Formula.{sure}
use Rattle.meaning.proofs.Laws.Diagram.{same_eq, diagram_one}
use Rattle.meaning.proofs.Laws.Fits.{Fits, bit, any, Below, keep, more}
use Rattle.meaning.proofs.Laws.Row.{FitsBit, BelowBit, sure_bit, fits_head, fits_tail, below_head, below_tail}
use Rattle.meaning.proofs.Laws.Row.{leaf_says, step_says, append_fits, append_below, append_sure, below_refl}

-- ---- each bit of a row

pub each_bit_fits : {n : ℕ} {ρ : Assignment} (f : Bit → Work Bit) (g : Bool → Bool) →
    ((a : Bit) (x : Bool) → FitsBit n ρ a x → FitsBit n ρ (f a).value (g x)) →
    (a : Row) (xs : List Bool) → Fits n ρ a xs → Fits n ρ (each_bit f a).value (map g xs)
each_bit_fits f g rule [] [] p = Fits.end
each_bit_fits f g rule (a ∷ ar) (x ∷ xs) p =
    append_fits (rule a x (fits_head p)) (each_bit_fits f g rule ar xs (fits_tail p))
each_bit_fits {n = n} {ρ = ρ} f g rule [] (x ∷ xs) p = elim p [ ]
each_bit_fits {n = n} {ρ = ρ} f g rule (a ∷ ar) [] p = elim p [ ]

pub each_bit_below : (f g : Bit → Work Bit) → ((a b : Bit) → BelowBit a b → BelowBit (f a).value (g b).value) →
    (a b : Row) → Below a b → Below (each_bit f a).value (each_bit g b).value
each_bit_below f g rule [] [] p = Below.end
each_bit_below f g rule (a ∷ ar) (b ∷ br) p =
    append_below (rule a b (below_head p)) (each_bit_below f g rule ar br (below_tail p))
each_bit_below f g rule [] (b ∷ br) p = elim p [ ]
each_bit_below f g rule (a ∷ ar) [] p = elim p [ ]

pub each_bit_length : (f : Bit → Work Bit) (a : Row) → length (each_bit f a).value ≡ length a
each_bit_length f [] = refl
each_bit_length f (a ∷ ar) = ap suc (each_bit_length f ar)

pub each_bit_sure : (f : Bit → Work Bit) → ((t : Tree) → sure_bit (f (known t)).value ≡ true) →
    (a : Row) → sure a ≡ true → sure (each_bit f a).value ≡ true
each_bit_sure f rule [] p = refl
each_bit_sure f rule (known t ∷ ar) p =
    append_sure ((f (known t)).value ∷ []) (each_bit f ar).value (rule t) (each_bit_sure f rule ar p)
each_bit_sure f rule (unknown ∷ ar) p = absurd (false≢true p)

-- ---- each place of two rows

pub both_bits_fits : {n : ℕ} {ρ : Assignment} (f : Bit → Bit → Work Bit) (g : Bool → Bool → Bool) →
    ((a b : Bit) (x y : Bool) → FitsBit n ρ a x → FitsBit n ρ b y → FitsBit n ρ (f a b).value (g x y)) →
    (a b : Row) (xs ys : List Bool) → Fits n ρ a xs → Fits n ρ b ys → Fits n ρ (both_bits f a b).value (zip_bits g xs ys)
both_bits_fits f g rule [] b [] ys p q = Fits.end
both_bits_fits f g rule (a ∷ ar) [] (x ∷ xs) [] p q = Fits.end
both_bits_fits f g rule (a ∷ ar) (b ∷ br) (x ∷ xs) (y ∷ ys) p q =
    append_fits (rule a b x y (fits_head p) (fits_head q))
    (both_bits_fits f g rule ar br xs ys (fits_tail p) (fits_tail q))
both_bits_fits {n = n} {ρ = ρ} f g rule [] b (x ∷ xs) ys p q = elim p [ ]
both_bits_fits {n = n} {ρ = ρ} f g rule (a ∷ ar) [] [] ys p q = elim p [ ]
both_bits_fits {n = n} {ρ = ρ} f g rule (a ∷ ar) [] (x ∷ xs) (y ∷ ys) p q = elim q [ ]
both_bits_fits {n = n} {ρ = ρ} f g rule (a ∷ ar) (b ∷ br) [] ys p q = elim p [ ]
both_bits_fits {n = n} {ρ = ρ} f g rule (a ∷ ar) (b ∷ br) (x ∷ xs) [] p q = elim q [ ]

pub both_bits_below : (f g : Bit → Bit → Work Bit) →
    ((a b a' b' : Bit) → BelowBit a a' → BelowBit b b' → BelowBit (f a b).value (g a' b').value) →
    (a b a' b' : Row) → Below a a' → Below b b' → Below (both_bits f a b).value (both_bits g a' b').value
both_bits_below f g rule [] b [] b' p q = Below.end
both_bits_below f g rule (a ∷ ar) [] (a' ∷ ar') [] p q = Below.end
both_bits_below f g rule (a ∷ ar) (b ∷ br) (a' ∷ ar') (b' ∷ br') p q =
    append_below (rule a b a' b' (below_head p) (below_head q))
    (both_bits_below f g rule ar br ar' br' (below_tail p) (below_tail q))
both_bits_below f g rule [] b (a' ∷ ar') b' p q = elim p [ ]
both_bits_below f g rule (a ∷ ar) [] [] b' p q = elim p [ ]
both_bits_below f g rule (a ∷ ar) [] (a' ∷ ar') (b' ∷ br') p q = elim q [ ]
both_bits_below f g rule (a ∷ ar) (b ∷ br) [] b' p q = elim p [ ]
both_bits_below f g rule (a ∷ ar) (b ∷ br) (a' ∷ ar') [] p q = elim q [ ]

pub both_bits_sure : (f : Bit → Bit → Work Bit) → ((t u : Tree) → sure_bit (f (known t) (known u)).value ≡ true) →
    (a b : Row) → sure a ≡ true → sure b ≡ true → sure (both_bits f a b).value ≡ true
both_bits_sure f rule [] b p q = refl
both_bits_sure f rule (a ∷ ar) [] p q = refl
both_bits_sure f rule (known t ∷ ar) (known u ∷ br) p q =
    append_sure ((f (known t) (known u)).value ∷ []) (both_bits f ar br).value (rule t u) (both_bits_sure f rule ar br p q)
both_bits_sure f rule (known t ∷ ar) (unknown ∷ br) p q = absurd (false≢true q)
both_bits_sure f rule (unknown ∷ ar) (b ∷ br) p q = absurd (false≢true p)

-- ---- not

not_bit_fits : {n : ℕ} {ρ : Assignment} {a : Bit} {x : Bool} → FitsBit n ρ a x → FitsBit n ρ (not_bit n a).value (not x)
not_bit_fits (bit good is p) = step_says is_not (bit good is p) (leaf_says false) (leaf_says false)
not_bit_fits (any p) = any Fits.end

not_bit_below : (n : ℕ) {a b : Bit} → BelowBit a b → BelowBit (not_bit n a).value (not_bit n b).value
not_bit_below n (keep p) = keep Below.end
not_bit_below n (more p) = more Below.end

pub bit_not_fits : {n : ℕ} {ρ : Assignment} {a : Row} {xs : List Bool} → Fits n ρ a xs →
    Fits n ρ (bit_not n a).value (map not xs)
unfolding bit_not
bit_not_fits {n} {a} {xs} p = each_bit_fits (not_bit n) not (λ b y. not_bit_fits) a xs p

pub bit_not_below : (n : ℕ) {a a' : Row} → Below a a' → Below (bit_not n a).value (bit_not n a').value
unfolding bit_not
bit_not_below n {a} {a'} p = each_bit_below (not_bit n) (not_bit n) (λ b b'. not_bit_below n) a a' p

pub bit_not_length : (n : ℕ) (a : Row) → length (bit_not n a).value ≡ length a
unfolding bit_not
bit_not_length n a = each_bit_length (not_bit n) a

pub bit_not_sure : (n : ℕ) (a : Row) → sure a ≡ true → sure (bit_not n a).value ≡ true
unfolding bit_not
bit_not_sure n a p = each_bit_sure (not_bit n) (λ t. refl) a p

-- ---- two bits. `mark t` is what a known bit t and an unknown one give

-- it is right whatever the unknown bit is
abbrev MarkFits : ℕ → Assignment → (Tree → Bit) → (Bool → Bool → Bool) → Type 0
MarkFits n ρ mark g =
    (t : Tree) (x y : Bool) → FitsBit n ρ (known t) x → FitsBit n ρ (mark t) (g x y) × FitsBit n ρ (mark t) (g y x)

-- it knows no more than what two known bits give
abbrev MarkBelow : ℕ → (Tree → Bit) → Function → Type 0
MarkBelow n mark f =
    (t u : Tree) →
    BelowBit (mark t) (known (step_tree n f t u unused)) × BelowBit (mark t) (known (step_tree n f u t unused))

pair_bit_fits : {n : ℕ} {ρ : Assignment} (f : Function) (g : Bool → Bool → Bool) (mark : Tree → Bit) →
    ((x y : Bool) → f x y false ≡ g x y) → MarkFits n ρ mark g →
    {a b : Bit} {x y : Bool} → FitsBit n ρ a x → FitsBit n ρ b y → FitsBit n ρ (pair_bit n f mark a b).value (g x y)
pair_bit_fits {n} {ρ} f g mark alike rule (bit {t} {x} good is p) (bit {x = y} good' is' q) =
    rw (← (alike x y)) (step_says f (bit good is p) (bit good' is' q) (leaf_says false))
pair_bit_fits f g mark alike rule (bit {t} {x} good is p) (any {x = y} q) = (rule t x y (bit good is Fits.end)).0
pair_bit_fits f g mark alike rule (any {x} p) (bit {t} {x = y} good is q) = (rule t y x (bit good is Fits.end)).1
pair_bit_fits f g mark alike rule (any p) (any q) = any Fits.end

pair_bit_below : (n : ℕ) (f : Function) (mark : Tree → Bit) → MarkBelow n mark f →
    {a b a' b' : Bit} → BelowBit a a' → BelowBit b b' →
    BelowBit (pair_bit n f mark a b).value (pair_bit n f mark a' b').value
unfolding step
pair_bit_below n f mark rule (keep p) (keep q) = keep Below.end
pair_bit_below n f mark rule (keep {t} p) (more {b = known u} q) = (rule t u).0
pair_bit_below n f mark rule (keep {t} p) (more {b = unknown} q) = below_refl (mark t ∷ [])
pair_bit_below n f mark rule (more {b = known u} p) (keep {t} q) = (rule t u).1
pair_bit_below n f mark rule (more {b = unknown} p) (keep {t} q) = below_refl (mark t ∷ [])
pair_bit_below n f mark rule (more p) (more q) = more Below.end

-- a value z that decides alone
decided_fits : {n : ℕ} {ρ : Assignment} (z : Bool) (g : Bool → Bool → Bool) → ((y : Bool) → (g z y ≡ z) × (g y z ≡ z)) →
    MarkFits n ρ (decided_by z) g
decided_fits {n} {ρ} z g decides t x y (bit good is p) = go (same t (leaf z)) refl
  where
    go : (s : Bool) → same t (leaf z) ≡ s →
        FitsBit n ρ (cond s (known t) unknown) (g x y) × FitsBit n ρ (cond s (known t) unknown) (g y x)
    go true e =
        let z_is : z ≡ x = sym (ap (λ u. holds u ρ) (same_eq t (leaf z) e)) ∙ is in (
          bit good (is ∙ sym z_is ∙ sym (decides y).0 ∙ ap (λ u. g u y) z_is) Fits.end,
          bit good (is ∙ sym z_is ∙ sym (decides y).1 ∙ ap (g y) z_is) Fits.end,
        )
    go false e = (any Fits.end, any Fits.end)

step_constant : (n : ℕ) (f : Function) (a b c : Tree) (z : Bool) →
    ((ρ : Assignment) → f (holds a ρ) (holds b ρ) (holds c ρ) ≡ z) → step_tree n f a b c ≡ leaf z
unfolding step_tree
step_constant n f a b c z h = diagram_one n _ (leaf z) (λ ρ τ alike. h ρ ∙ sym (h τ)) tt (λ ρ. sym (h ρ))

decided_below : (n : ℕ) (z : Bool) (f : Function) → ((y : Bool) → (f z y false ≡ z) × (f y z false ≡ z)) →
    MarkBelow n (decided_by z) f
decided_below n z f decides t u = go (same t (leaf z)) refl
  where
    go : (s : Bool) → same t (leaf z) ≡ s → BelowBit (cond s (known t) unknown) (known (step_tree n f t u unused))
        × BelowBit (cond s (known t) unknown) (known (step_tree n f u t unused))
    go true e =
        rw (same_eq t (leaf z) e) (
          rw (step_constant n f (leaf z) u unused z (λ ρ. (decides (holds u ρ)).0)) (keep Below.end),
          rw (step_constant n f u (leaf z) unused z (λ ρ. (decides (holds u ρ)).1)) (keep Below.end),
        )
    go false e = (more Below.end, more Below.end)

-- ---- and, or, xor

and_decided : (y : Bool) → (false && y ≡ false) × (y && false ≡ false)
and_decided true = (refl, refl)
and_decided false = (refl, refl)

or_decided : (y : Bool) → (true || y ≡ true) × (y || true ≡ true)
or_decided true = (refl, refl)
or_decided false = (refl, refl)

undecided_fits : {n : ℕ} {ρ : Assignment} (g : Bool → Bool → Bool) → MarkFits n ρ undecided g
undecided_fits g t x y p = (any Fits.end, any Fits.end)

undecided_below : (n : ℕ) (f : Function) → MarkBelow n undecided f
undecided_below n f t u = (more Below.end, more Below.end)

pub and_bit_fits : {n : ℕ} {ρ : Assignment} {a b : Bit} {x y : Bool} → FitsBit n ρ a x → FitsBit n ρ b y →
    FitsBit n ρ (and_bit n a b).value (x && y)
and_bit_fits = pair_bit_fits is_and ◌&&◌ (decided_by false) (λ x y. refl) (decided_fits false ◌&&◌ and_decided)

pub and_bit_below : (n : ℕ) {a b a' b' : Bit} → BelowBit a a' → BelowBit b b' →
    BelowBit (and_bit n a b).value (and_bit n a' b').value
and_bit_below n = pair_bit_below n is_and (decided_by false) (decided_below n false is_and and_decided)

-- any of the three
module _ {n : ℕ} {ρ : Assignment} (f : Function) (g : Bool → Bool → Bool) (mark : Tree → Bit)
    (alike : (x y : Bool) → f x y false ≡ g x y) (rule : MarkFits n ρ mark g) where
  pair_bits_fits : {a b : Row} {xs ys : List Bool} → Fits n ρ a xs → Fits n ρ b ys →
      Fits n ρ (both_bits (pair_bit n f mark) a b).value (zip_bits g xs ys)
  pair_bits_fits {a} {b} {xs} {ys} p q =
      both_bits_fits (pair_bit n f mark) g (λ c d x y. pair_bit_fits f g mark alike rule) a b xs ys p q

pub bit_and_fits : {n : ℕ} {ρ : Assignment} {a b : Row} {xs ys : List Bool} → Fits n ρ a xs → Fits n ρ b ys →
    Fits n ρ (bit_and n a b).value (zip_bits ◌&&◌ xs ys)
unfolding bit_and
bit_and_fits = pair_bits_fits is_and ◌&&◌ (decided_by false) (λ x y. refl) (decided_fits false ◌&&◌ and_decided)

pub bit_or_fits : {n : ℕ} {ρ : Assignment} {a b : Row} {xs ys : List Bool} → Fits n ρ a xs → Fits n ρ b ys →
    Fits n ρ (bit_or n a b).value (zip_bits ◌||◌ xs ys)
unfolding bit_or
bit_or_fits = pair_bits_fits is_or ◌||◌ (decided_by true) (λ x y. refl) (decided_fits true ◌||◌ or_decided)

pub bit_xor_fits : {n : ℕ} {ρ : Assignment} {a b : Row} {xs ys : List Bool} → Fits n ρ a xs → Fits n ρ b ys →
    Fits n ρ (bit_xor n a b).value (zip_bits differ xs ys)
unfolding bit_xor
bit_xor_fits = pair_bits_fits is_xor differ undecided (λ x y. refl) (undecided_fits differ)

pair_bits_below : (n : ℕ) (f : Function) (mark : Tree → Bit) → MarkBelow n mark f → {a b a' b' : Row} → Below a a' →
    Below b b' → Below (both_bits (pair_bit n f mark) a b).value (both_bits (pair_bit n f mark) a' b').value
pair_bits_below n f mark rule {a} {b} {a'} {b'} p q =
    both_bits_below (pair_bit n f mark) (pair_bit n f mark) (λ c d c' d'. pair_bit_below n f mark rule) a b a' b' p q

pub bit_and_below : (n : ℕ) {a b a' b' : Row} → Below a a' → Below b b' →
    Below (bit_and n a b).value (bit_and n a' b').value
unfolding bit_and
bit_and_below n = pair_bits_below n is_and (decided_by false) (decided_below n false is_and and_decided)

pub bit_or_below : (n : ℕ) {a b a' b' : Row} → Below a a' → Below b b' → Below (bit_or n a b).value (bit_or n a' b').value
unfolding bit_or
bit_or_below n = pair_bits_below n is_or (decided_by true) (decided_below n true is_or or_decided)

pub bit_xor_below : (n : ℕ) {a b a' b' : Row} → Below a a' → Below b b' →
    Below (bit_xor n a b).value (bit_xor n a' b').value
unfolding bit_xor
bit_xor_below n = pair_bits_below n is_xor undecided (undecided_below n is_xor)

pub bit_and_sure : (n : ℕ) (a b : Row) → sure a ≡ true → sure b ≡ true → sure (bit_and n a b).value ≡ true
unfolding bit_and
bit_and_sure n a b = both_bits_sure (pair_bit n is_and (decided_by false)) (λ t u. refl) a b

pub bit_or_sure : (n : ℕ) (a b : Row) → sure a ≡ true → sure b ≡ true → sure (bit_or n a b).value ≡ true
unfolding bit_or
bit_or_sure n a b = both_bits_sure (pair_bit n is_or (decided_by true)) (λ t u. refl) a b

pub bit_xor_sure : (n : ℕ) (a b : Row) → sure a ≡ true → sure b ≡ true → sure (bit_xor n a b).value ≡ true
unfolding bit_xor
bit_xor_sure n a b = both_bits_sure (pair_bit n is_xor undecided) (λ t u. refl) a b
