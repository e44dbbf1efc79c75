-- Addition at a limit, and negation: the sum row fits the plain sum, and knows no more than at a limit not below,
-- of rows that know more.
use Prim.Native.Nat.{ℕ, suc, ◌≤◌}
use native.Mathlib.Omega.{arith}
use native.Mathlib.Nat.{not-suc-le-zero}
use borrow.Author.Tests.{ltb-true, ltb-false}
use mathlib.Core.Path.{◌≡◌, refl, sym, ap, ◌∙◌}
use mathlib.Core.Bool.{Bool, true, false, cond, not, ◌&&◌, ◌||◌}
use mathlib.Core.List.{List, [], ◌∷◌, ◌++◌, map}
use lib.Dec.{ltb}
use lib.ListN.{length, length-map, length-replicate}
use Rattle.meaning.specs.Diagram.{Tree, leaf, Assignment}
use Rattle.meaning.specs.Number.{bits}
use Rattle.meaning.specs.BitVector.{differ}
use Rattle.meaning.specs.Table.{count}
use Rattle.meaning.specs.Step.{step, is_and, is_or, is_xor, unused}
use Rattle.meaning.specs.Row.{known, unknown, Row, unknowns, constant, counted, next_carry, add_from, add, bit_not}
use Rattle.meaning.specs.Row.{negate}
use Rattle.meaning.proofs.Laws.Plain as Plain
use Rattle.meaning.proofs.Laws.Number.{bits_length}
use Rattle.meaning.proofs.Laws.Fits.{Fits, Below, keep, more}
use Rattle.meaning.proofs.Laws.Row.{Says, leaf_says, step_says, fits_length, fits_head, fits_tail, append_fits}
use Rattle.meaning.proofs.Laws.Row.{unknowns_fits, constant_fits, below_length, below_refl, unknowns_below}
use Rattle.meaning.proofs.Laws.Bitwise.{bit_not_fits, bit_not_below, bit_not_length}

-- ---- one place where both bits are known

abbrev pub sum_bit : ℕ → Tree → Tree → Tree → Tree
sum_bit n a b carry = (step n is_xor (step n is_xor a b unused).value carry unused).value

abbrev pub carry_out : ℕ → Tree → Tree → Tree → Row → Tree
carry_out n a b carry ar = (next_carry n (step n is_xor a b unused).value a b carry ar).value

-- are the sum bits, these and the next, too many nodes?
abbrev too_many : ℕ → ℕ → Tree → List Tree → Tree → Tree → Bool
too_many n L carry sums a b = ltb L (count (counted (sums ++ (sum_bit n a b carry ∷ [])) carry))

-- the sum from here on, if they aren't
abbrev sum_on : ℕ → ℕ → Tree → List Tree → Tree → Row → Tree → Row → Row
sum_on n L carry sums a ar b br =
    known (sum_bit n a b carry) ∷ (add_from n L (carry_out n a b carry ar) (sums ++ (sum_bit n a b carry ∷ [])) ar br).value

add_from_known : (n L : ℕ) (carry : Tree) (sums : List Tree) (a : Tree) (ar : Row) (b : Tree) (br : Row) →
    (add_from n L carry sums (known a ∷ ar) (known b ∷ br)).value
    ≡ cond (too_many n L carry sums a b) (unknowns (suc (length ar))) (sum_on n L carry sums a ar b br)
add_from_known n L carry sums a ar b br = go (too_many n L carry sums a b) refl
  where
    go : (s : Bool) → too_many n L carry sums a b ≡ s →
        (add_from n L carry sums (known a ∷ ar) (known b ∷ br)).value
        ≡ cond s (unknowns (suc (length ar))) (sum_on n L carry sums a ar b br)
    go true e = rw e refl
    go false e = rw e refl

-- ---- add fits

pub sum_length : (c : Bool) (xs ys : List Bool) → length xs ≡ length ys → length (Plain.sum c xs ys) ≡ length xs
sum_length c [] ys even = refl
sum_length c (x ∷ xs) [] even = sym even
sum_length c (x ∷ xs) (y ∷ ys) even = ap suc (sum_length _ xs ys (omega arith))

module _ {n : ℕ} {ρ : Assignment} where
  next_carry_says : {x a b carry : Tree} {u v c : Bool} → Says n ρ x (differ u v) → Says n ρ a u → Says n ρ b v →
      Says n ρ carry c → (ar : Row) → 1 ≤ length ar →
      Says n ρ (next_carry n x a b carry ar).value ((u && v) || (differ u v && c))
  next_carry_says px pa pb pc [] some = absurd (not-suc-le-zero some)
  next_carry_says px pa pb pc (a' ∷ ar) some =
      step_says is_or (step_says is_and pa pb (leaf_says false)) (step_says is_and px pc (leaf_says false)) (leaf_says false)

  cut_fits : (c : Bool) (a : Row) (xs ys : List Bool) → Fits n ρ a xs → length xs ≡ length ys →
      Fits n ρ (unknowns (length a)) (Plain.sum c xs ys)
  cut_fits c a xs ys p even = unknowns_fits (length a) (Plain.sum c xs ys) (sum_length c xs ys even ∙ sym (fits_length p))

  cond_fits : (s : Bool) {a b : Row} {xs : List Bool} → Fits n ρ a xs → Fits n ρ b xs → Fits n ρ (cond s a b) xs
  cond_fits true p q = p
  cond_fits false p q = q

  -- the carry matters only where there is a bit to add it to
  add_from_fits : (L : ℕ) (carry : Tree) (sums : List Tree) (c : Bool) (a b : Row) (xs ys : List Bool) →
      (1 ≤ length a → Says n ρ carry c) → Fits n ρ a xs → Fits n ρ b ys → length xs ≡ length ys →
      Fits n ρ (add_from n L carry sums a b).value (Plain.sum c xs ys)
  add_from_fits L carry sums c [] b [] ys pc p q even = Fits.end
  add_from_fits L carry sums c (a ∷ ar) [] (x ∷ xs) [] pc p q even = Fits.end
  add_from_fits L carry sums c (known a ∷ ar) (known b ∷ br) (x ∷ xs) (y ∷ ys) pc p q even =
      let pa = fits_head p in
      let pb = fits_head q in
      let px = step_says is_xor pa pb (leaf_says false) in
      let ps = step_says is_xor px (pc (omega arith)) (leaf_says false) in
      let carried = next_carry_says px pa pb (pc (omega arith)) ar in
      let sums' = sums ++ (sum_bit n a b carry ∷ []) in
      let rest = add_from_fits L (carry_out n a b carry ar) sums' _ ar br xs ys carried (fits_tail p) (fits_tail q) (omega arith) in
      let cut = cut_fits c (known a ∷ ar) (x ∷ xs) (y ∷ ys) p even in
      rw (add_from_known n L carry sums a ar b br) (cond_fits (too_many n L carry sums a b) cut (append_fits ps rest))
  add_from_fits L carry sums c (known a ∷ ar) (unknown ∷ br) (x ∷ xs) (y ∷ ys) pc p q even =
      cut_fits c (known a ∷ ar) (x ∷ xs) (y ∷ ys) p even
  add_from_fits L carry sums c (unknown ∷ ar) (b ∷ br) (x ∷ xs) (y ∷ ys) pc p q even =
      cut_fits c (unknown ∷ ar) (x ∷ xs) (y ∷ ys) p even
  add_from_fits L carry sums c [] b (x ∷ xs) ys pc p q even = elim p [ ]
  add_from_fits L carry sums c (a ∷ ar) [] [] ys pc p q even = elim p [ ]
  add_from_fits L carry sums c (a ∷ ar) [] (x ∷ xs) (y ∷ ys) pc p q even = elim q [ ]
  add_from_fits L carry sums c (known a ∷ ar) (known b ∷ br) [] ys pc p q even = elim p [ ]
  add_from_fits L carry sums c (known a ∷ ar) (known b ∷ br) (x ∷ xs) [] pc p q even = elim q [ ]
  add_from_fits L carry sums c (known a ∷ ar) (unknown ∷ br) [] ys pc p q even = elim p [ ]
  add_from_fits L carry sums c (known a ∷ ar) (unknown ∷ br) (x ∷ xs) [] pc p q even = elim q [ ]
  add_from_fits L carry sums c (unknown ∷ ar) (b ∷ br) [] ys pc p q even = elim p [ ]
  add_from_fits L carry sums c (unknown ∷ ar) (b ∷ br) (x ∷ xs) [] pc p q even = elim q [ ]

  pub add_fits : (L : ℕ) {a b : Row} {xs ys : List Bool} → Fits n ρ a xs → Fits n ρ b ys → length xs ≡ length ys →
      Fits n ρ (add n L a b).value (Plain.sum false xs ys)
  unfolding add
  add_fits L {a} {b} {xs} {ys} p q even =
      add_from_fits L (leaf false) [] false a b xs ys (λ some. leaf_says false) p q even

-- ---- add knows no more

cond_length : (s : Bool) (a b : Row) {k : ℕ} → length a ≡ k → length b ≡ k → length (cond s a b) ≡ k
cond_length true a b p q = p
cond_length false a b p q = q

add_from_length : (n L : ℕ) (carry : Tree) (sums : List Tree) (a b : Row) → length a ≡ length b →
    length (add_from n L carry sums a b).value ≡ length a
add_from_length n L carry sums [] b even = refl
add_from_length n L carry sums (a ∷ ar) [] even = sym even
add_from_length n L carry sums (known a ∷ ar) (known b ∷ br) even =
    let rest = add_from_length n L (carry_out n a b carry ar) (sums ++ (sum_bit n a b carry ∷ [])) ar br (omega arith) in
    let cut = length-replicate (suc (length ar)) unknown in
    let whole = sum_on n L carry sums a ar b br in
    rw (add_from_known n L carry sums a ar b br)
    (cond_length (too_many n L carry sums a b) (unknowns (suc (length ar))) whole cut (ap suc rest))
add_from_length n L carry sums (known a ∷ ar) (unknown ∷ br) even = length-replicate (suc (length ar)) unknown
add_from_length n L carry sums (unknown ∷ ar) (b ∷ br) even = length-replicate (suc (length ar)) unknown

pub add_length : (n L : ℕ) (a b : Row) → length a ≡ length b → length (add n L a b).value ≡ length a
unfolding add
add_length n L a b even = add_from_length n L (leaf false) [] a b even

next_carry_same : (n : ℕ) (x a b carry : Tree) (r s : Row) → Below r s →
    (next_carry n x a b carry r).value ≡ (next_carry n x a b carry s).value
next_carry_same n x a b carry [] [] p = refl
next_carry_same n x a b carry (c ∷ r) (d ∷ s) p = refl
next_carry_same n x a b carry [] (d ∷ s) p = elim p [ ]
next_carry_same n x a b carry (c ∷ r) [] p = elim p [ ]

-- a count above M is above L
cond_below : (L M k : ℕ) → L ≤ M → {a b a' b' : Row} → Below a a' → Below a b' → Below b b' →
    Below (cond (ltb L k) a b) (cond (ltb M k) a' b')
cond_below L M k le {a} {b} {a'} {b'} p q r = go (ltb L k) refl (ltb M k) refl
  where
    go : (s : Bool) → ltb L k ≡ s → (t : Bool) → ltb M k ≡ t → Below (cond s a b) (cond t a' b')
    go true e true e' = p
    go true e false e' = q
    go false e true e' = absurd (not-suc-le-zero {n = 0} (omega (arith, ltb-false L k e, ltb-true M k e')))
    go false e false e' = r

cut_below : (n M : ℕ) (carry : Tree) (sums : List Tree) {a b a' b' : Row} → Below a a' → Below b b' →
    length a ≡ length b → Below (unknowns (length a)) (add_from n M carry sums a' b').value
cut_below n M carry sums {a} {b} {a'} {b'} p q even =
    let even' : length a' ≡ length b' = sym (below_length p) ∙ even ∙ below_length q in
    let long = add_from_length n M carry sums a' b' even' ∙ sym (below_length p) in
    unknowns_below (length a) (add_from n M carry sums a' b').value long

add_from_below : (n L M : ℕ) → L ≤ M → (carry : Tree) (sums : List Tree) (a b a' b' : Row) → Below a a' → Below b b' →
    length a ≡ length b → Below (add_from n L carry sums a b).value (add_from n M carry sums a' b').value
add_from_below n L M le carry sums [] b [] b' p q even = Below.end
add_from_below n L M le carry sums (a ∷ ar) [] (a' ∷ ar') [] p q even = Below.end
add_from_below n L M le carry sums (known a ∷ ar) (known b ∷ br) (a' ∷ ar') (b' ∷ br') (keep p) (keep q) even =
    let tail : length ar ≡ length br = omega arith in
    let sums' = sums ++ (sum_bit n a b carry ∷ []) in
    let rest = add_from_below n L M le (carry_out n a b carry ar) sums' ar br ar' br' p q tail in
    let carries = next_carry_same n (step n is_xor a b unused).value a b carry ar ar' p in
    let long = length-replicate (length ar') unknown ∙ sym (below_length p) in
    let cut = unknowns_below (length ar) (unknowns (length ar')) long in
    let cut' = cut_below n M _ sums' p q tail in
    rw (add_from_known n L carry sums a ar b br, add_from_known n M carry sums a ar' b br')
    (cond_below L M (count (counted sums' carry)) le (more cut) (more cut') (keep (rw (← carries) rest)))
add_from_below n L M le carry sums (known a ∷ ar) (unknown ∷ br) (a' ∷ ar') (b' ∷ br') p q even =
    cut_below n M carry sums p q even
add_from_below n L M le carry sums (unknown ∷ ar) (b ∷ br) (a' ∷ ar') (b' ∷ br') p q even =
    cut_below n M carry sums p q even
add_from_below n L M le carry sums [] b (a' ∷ ar') b' p q even = elim p [ ]
add_from_below n L M le carry sums (a ∷ ar) [] [] b' p q even = elim p [ ]
add_from_below n L M le carry sums (a ∷ ar) [] (a' ∷ ar') (b' ∷ br') p q even = elim q [ ]
add_from_below n L M le carry sums (known a ∷ ar) (known b ∷ br) [] b' p q even = elim p [ ]
add_from_below n L M le carry sums (known a ∷ ar) (known b ∷ br) (a' ∷ ar') [] p q even = elim q [ ]
add_from_below n L M le carry sums (known a ∷ ar) (unknown ∷ br) [] b' p q even = elim p [ ]
add_from_below n L M le carry sums (known a ∷ ar) (unknown ∷ br) (a' ∷ ar') [] p q even = elim q [ ]
add_from_below n L M le carry sums (unknown ∷ ar) (b ∷ br) [] b' p q even = elim p [ ]
add_from_below n L M le carry sums (unknown ∷ ar) (b ∷ br) (a' ∷ ar') [] p q even = elim q [ ]

pub add_below : (n : ℕ) {L M : ℕ} → L ≤ M → {a b a' b' : Row} → Below a a' → Below b b' → length a ≡ length b →
    Below (add n L a b).value (add n M a' b').value
unfolding add
add_below n {L} {M} le {a} {b} {a'} {b'} p q even = add_from_below n L M le (leaf false) [] a b a' b' p q even

-- ---- negate

constant_length : (w x : ℕ) → length (constant w x) ≡ w
constant_length w x = length-map (bits w x) (λ b. known (leaf b)) ∙ bits_length w x

pub negate_fits : {n : ℕ} {ρ : Assignment} (L : ℕ) {a : Row} {xs : List Bool} → Fits n ρ a xs →
    Fits n ρ (negate n L a).value (Plain.negative xs)
unfolding negate
negate_fits L {xs} p =
    let even : length (map not xs) ≡ length (bits (length xs) 1) = length-map xs not ∙ sym (bits_length (length xs) 1) in
    add_fits L (bit_not_fits p) (rw (fits_length p) (constant_fits (length xs) 1)) even

pub negate_below : (n : ℕ) {L M : ℕ} → L ≤ M → {a a' : Row} → Below a a' →
    Below (negate n L a).value (negate n M a').value
unfolding negate
negate_below n le {a} {a'} p =
    let even : length (bit_not n a).value ≡ length (constant (length a) 1) =
    bit_not_length n a ∙ sym (constant_length (length a) 1) in
    add_below n le (bit_not_below n p) (rw (below_length p) (below_refl (constant (length a') 1))) even
