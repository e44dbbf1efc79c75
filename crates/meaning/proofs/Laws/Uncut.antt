-- Sums that no limit cuts: where a table of at most L nodes holds every step, the sum of known rows is known, and so are
-- the negative and the product.
use Prim.Native.Nat.{ℕ, suc, ◌-◌, ◌≤◌}
use native.Mathlib.Omega.{arith}
use borrow.Author.Tests.{le-ltb}
use mathlib.Core.Path.{◌≡◌, refl}
use mathlib.Core.Bool.{true, false, false≢true}
use mathlib.Core.List.{List, [], ◌∷◌, ◌++◌}
use lib.Dec.{ltb}
use lib.ListN.{length, take}
use Rattle.meaning.specs.Diagram.{Tree, leaf}
use Rattle.meaning.specs.Table.{Table, count}
use Rattle.meaning.specs.Step.{step, is_xor, unused}
use Rattle.meaning.specs.Row.{known, unknown, Row, zeros, constant, each_bit, and_bit, counted, next_carry, add_from}
use Rattle.meaning.specs.Row.{add, bit_not, negate, partial, multiply_from, multiply}
use Rattle.meaning.specs.Formula.{sure}
use Rattle.meaning.proofs.Laws.Table.{Single, There, count_le}
use Rattle.meaning.proofs.Laws.Row.{append_sure, take_sure, zeros_sure, constant_sure}
use Rattle.meaning.proofs.Laws.Bitwise.{each_bit_sure, bit_not_sure}
use Rattle.meaning.proofs.Laws.Add.{sum_bit, carry_out}

-- ---- held diagrams

pub there_left : (s : Table) (xs ys : List Tree) → There s (xs ++ ys) → There s xs
there_left s [] ys h = tt
there_left s (x ∷ xs) ys h = record { number = h.number; first = h.first; rest = there_left s xs ys h.rest }

pub there_right : (s : Table) (xs ys : List Tree) → There s (xs ++ ys) → There s ys
there_right s [] ys h = h
there_right s (x ∷ xs) ys h = there_right s xs ys h.rest

pub there_append : (s : Table) (xs ys : List Tree) → There s xs → There s ys → There s (xs ++ ys)
there_append s [] ys h k = k
there_append s (x ∷ xs) ys h k = record { number = h.number; first = h.first; rest = there_append s xs ys h.rest k }

-- ---- add

module _ (n L : ℕ) (s : Table) (single : Single s) (short : length s ≤ L) where
  within : (carry : Tree) (ts : List Tree) → There s ts → ltb L (count (counted ts carry)) ≡ false
  unfolding counted
  within carry ts there = le-ltb L (count ts) (omega (arith, count_le ts s single there))

  add_from_sure : (carry : Tree) (sums : List Tree) (a b : Row) → There s sums →
      There s (add_from n L carry sums a b).steps → sure a ≡ true → sure b ≡ true →
      sure (add_from n L carry sums a b).value ≡ true
  unfolding step
  add_from_sure carry sums [] b held there sure_a sure_b = refl
  add_from_sure carry sums (a ∷ ar) [] held there sure_a sure_b = refl
  add_from_sure carry sums (known a ∷ ar) (known b ∷ br) held there sure_a sure_b =
      let x = (step n is_xor a b unused).value in
      let sums' = sums ++ (sum_bit n a b carry ∷ []) in
      let first : There s (sum_bit n a b carry ∷ []) =
      record { number = there.rest.number; first = there.rest.first; rest = tt } in
      let held' = there_append s sums (sum_bit n a b carry ∷ []) held first in
      let fine = within carry sums' held' in
      let others = (add_from n L (carry_out n a b carry ar) sums' ar br).steps in
      let tail = there_right s (next_carry n x a b carry ar).steps (others ++ []) (rw fine at there.rest.rest) in
      rw fine (add_from_sure (carry_out n a b carry ar) sums' ar br held' (there_left s others [] tail) sure_a sure_b)
  add_from_sure carry sums (known a ∷ ar) (unknown ∷ br) held there sure_a sure_b = absurd (false≢true sure_b)
  add_from_sure carry sums (unknown ∷ ar) (b ∷ br) held there sure_a sure_b = absurd (false≢true sure_a)

  pub add_sure : (a b : Row) → There s (add n L a b).steps → sure a ≡ true → sure b ≡ true →
      sure (add n L a b).value ≡ true
  unfolding add
  add_sure a b there sure_a sure_b = add_from_sure (leaf false) [] a b tt there sure_a sure_b

  -- ---- negate

  pub negate_sure : (a : Row) → There s (negate n L a).steps → sure a ≡ true → sure (negate n L a).value ≡ true
  unfolding negate
  negate_sure a there sure_a =
      let one = constant (length a) 1 in
      let added = there_right s (bit_not n a).steps (add n L (bit_not n a).value one).steps there in
      add_sure (bit_not n a).value one added (bit_not_sure n a sure_a) (constant_sure (length a) 1)

  -- ---- multiply

  partial_sure : (j : ℕ) (a : Row) (t : Tree) → sure a ≡ true → sure (partial n j a (known t)).value ≡ true
  partial_sure j a t sure_a =
      let moved = take (length a - j) a in
      append_sure (zeros j) (each_bit (λ x. and_bit n x (known t)) moved).value (zeros_sure j)
      (each_bit_sure (λ x. and_bit n x (known t)) (λ u. refl) moved (take_sure (length a - j) a sure_a))

  multiply_from_sure : (j : ℕ) (a sum b : Row) → There s (multiply_from n L a j sum b).steps → sure a ≡ true →
      sure sum ≡ true → sure b ≡ true → sure (multiply_from n L a j sum b).value ≡ true
  multiply_from_sure j a sum [] there sure_a sure_sum sure_b = sure_sum
  multiply_from_sure j a sum (known t ∷ br) there sure_a sure_sum sure_b =
      let r = partial n j a (known t) in
      let more = add n L sum r.value in
      let others = (multiply_from n L a (suc j) more.value br).steps in
      let rest = there_right s r.steps (more.steps ++ others) there in
      let added = there_left s more.steps others rest in
      let sure_more = add_sure sum r.value added sure_sum (partial_sure j a t sure_a) in
      multiply_from_sure (suc j) a more.value br (there_right s more.steps others rest) sure_a sure_more sure_b
  multiply_from_sure j a sum (unknown ∷ br) there sure_a sure_sum sure_b = absurd (false≢true sure_b)

  pub multiply_sure : (a b : Row) → There s (multiply n L a b).steps → sure a ≡ true → sure b ≡ true →
      sure (multiply n L a b).value ≡ true
  unfolding multiply
  multiply_sure a b there sure_a sure_b =
      multiply_from_sure 0 a (zeros (length a)) b there sure_a (zeros_sure (length a)) sure_b
