-- Multiplication: the row fits the plain product, and knows no more than at a limit not below, of rows that know more.
use Prim.Native.Nat.{ℕ, suc, ◌+◌, ◌-◌, ◌≤◌}
use native.Mathlib.Omega.{arith}
use mathlib.Core.Path.{◌≡◌, sym, ◌∙◌}
use mathlib.Core.Bool.{Bool, false, ◌&&◌}
use mathlib.Core.List.{List, [], ◌∷◌, ◌++◌, map}
use lib.ListN.{length, take, replicate, length-append, length-map, length-take, length-replicate}
use Rattle.meaning.specs.Diagram.{leaf, Assignment}
use Rattle.meaning.specs.Row.{Bit, known, Row, zeros, each_bit, and_bit, partial, multiply_from, multiply}
use Rattle.meaning.proofs.Laws.Plain as Plain
use Rattle.meaning.proofs.Laws.Fits.{Fits, Below}
use Rattle.meaning.proofs.Laws.Row.{FitsBit, BelowBit, fits_length, fits_head, fits_tail, append_fits, take_fits}
use Rattle.meaning.proofs.Laws.Row.{zeros_fits, below_length, below_head, below_tail, below_refl, append_below}
use Rattle.meaning.proofs.Laws.Row.{take_below}
use Rattle.meaning.proofs.Laws.Bitwise.{each_bit_fits, each_bit_below, each_bit_length, and_bit_fits, and_bit_below}
use Rattle.meaning.proofs.Laws.Add.{sum_length, add_fits, add_length, add_below}

-- ---- one row to add

-- j places, then as many as are left
places_length : {A : Type 0} (j : ℕ) (low high rest : List A) → j ≤ length rest → length low ≡ j →
    length high ≡ length (take (length rest - j) rest) →
    length (low ++ high) ≡ length rest
places_length j low high rest fits e e' =
    let whole = length-append low high in
    let part = length-take (length rest - j) rest in
    omega (arith, whole, part)

partial_length : (n j : ℕ) (a : Row) (b : Bit) → j ≤ length a → length (partial n j a b).value ≡ length a
partial_length n j a b fits =
    let moved = take (length a - j) a in
    let each = each_bit_length (λ x. and_bit n x b) moved in
    let low = length-replicate j (known (leaf false)) in
    places_length j (zeros j) (each_bit (λ x. and_bit n x b) moved).value a fits low each

plain_length : (j : ℕ) (xs : List Bool) (y : Bool) → j ≤ length xs → length (Plain.partial j xs y) ≡ length xs
plain_length j xs y fits =
    let moved = take (length xs - j) xs in
    let each = length-map moved (λ x. x && y) in
    places_length j (replicate j false) (map (λ x. x && y) moved) xs fits (length-replicate j false) each

module _ {n : ℕ} {ρ : Assignment} where
  partial_fits : (j : ℕ) {a : Row} {xs : List Bool} {b : Bit} {y : Bool} → Fits n ρ a xs → FitsBit n ρ b y →
      Fits n ρ (partial n j a b).value (Plain.partial j xs y)
  partial_fits j {a} {xs} {b} {y} p q =
      let moved : Fits n ρ (take (length a - j) a) (take (length xs - j) xs) =
      rw (fits_length p) (take_fits (length xs - j) p) in
      append_fits (zeros_fits j) (each_bit_fits (λ c. and_bit n c b) (λ x. x && y) (λ c x r. and_bit_fits r q) _ _ moved)

partial_below : (n j : ℕ) {a a' : Row} {b b' : Bit} → Below a a' → BelowBit b b' →
    Below (partial n j a b).value (partial n j a' b').value
partial_below n j {a} {a'} {b} {b'} p q =
    let moved : Below (take (length a - j) a) (take (length a' - j) a') =
    rw (below_length p) (take_below (length a' - j) p) in
    let each = each_bit_below (λ c. and_bit n c b) (λ c. and_bit n c b') (λ c c' r. and_bit_below n r q) _ _ moved in
    append_below (below_refl (zeros j)) each

-- ---- all rows

module _ {n : ℕ} {ρ : Assignment} where
  multiply_from_fits : (L j : ℕ) (a sum b : Row) (xs acc ys : List Bool) → Fits n ρ a xs → Fits n ρ sum acc →
      Fits n ρ b ys → length acc ≡ length xs → j + length ys ≡ length xs →
      Fits n ρ (multiply_from n L a j sum b).value (Plain.product_from xs j acc ys)
  multiply_from_fits L j a sum [] xs acc [] p r q even left = r
  multiply_from_fits L j a sum (b ∷ br) xs acc (y ∷ ys) p r q even left =
      let same : length acc ≡ length (Plain.partial j xs y) = even ∙ sym (plain_length j xs y (omega arith)) in
      let added = add_fits L r (partial_fits j p (fits_head q)) same in
      let even' = sum_length false acc (Plain.partial j xs y) same ∙ even in
      multiply_from_fits L (suc j) a _ br xs _ ys p added (fits_tail q) even' (omega arith)
  multiply_from_fits L j a sum [] xs acc (y ∷ ys) p r q even left = elim q [ ]
  multiply_from_fits L j a sum (b ∷ br) xs acc [] p r q even left = elim q [ ]

  pub multiply_fits : (L : ℕ) {a b : Row} {xs ys : List Bool} → Fits n ρ a xs → Fits n ρ b ys → length xs ≡ length ys →
      Fits n ρ (multiply n L a b).value (Plain.product xs ys)
  unfolding multiply
  multiply_fits L {a} {b} {xs} {ys} p q even =
      let start : Fits n ρ (zeros (length a)) (replicate (length xs) false) =
      rw (fits_length p) (zeros_fits (length xs)) in
      multiply_from_fits L 0 a _ b xs _ ys p start q (length-replicate (length xs) false) (omega arith)

multiply_from_below : (n L M j : ℕ) → L ≤ M → (a sum b a' sum' b' : Row) → Below a a' → Below sum sum' → Below b b' →
    length sum ≡ length a → j + length b ≡ length a →
    Below (multiply_from n L a j sum b).value (multiply_from n M a' j sum' b').value
multiply_from_below n L M j le a sum [] a' sum' [] p r q even left = r
multiply_from_below n L M j le a sum (b ∷ br) a' sum' (b' ∷ br') p r q even left =
    let same : length sum ≡ length (partial n j a b).value = even ∙ sym (partial_length n j a b (omega arith)) in
    let added = add_below n le r (partial_below n j p (below_head q)) same in
    let even' = add_length n L sum (partial n j a b).value same ∙ even in
    multiply_from_below n L M (suc j) le a _ br a' _ br' p added (below_tail q) even' (omega arith)
multiply_from_below n L M j le a sum [] a' sum' (b' ∷ br') p r q even left = elim q [ ]
multiply_from_below n L M j le a sum (b ∷ br) a' sum' [] p r q even left = elim q [ ]

pub multiply_below : (n : ℕ) {L M : ℕ} → L ≤ M → {a b a' b' : Row} → Below a a' → Below b b' → length a ≡ length b →
    Below (multiply n L a b).value (multiply n M a' b').value
unfolding multiply
multiply_below n {L} {M} le {a} {b} {a'} {b'} p q even =
    let start : Below (zeros (length a)) (zeros (length a')) = rw (below_length p) (below_refl (zeros (length a'))) in
    multiply_from_below n L M 0 le a _ b a' _ b' p start q (length-replicate (length a) (known (leaf false))) (omega arith)
