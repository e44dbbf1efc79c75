-- Marks: a slot is marked when it has been, and no other slot's mark changes.
use Prim.Native.Nat.{ℕ, zero, suc, ◌*◌, ◌/◌, ◌%◌, ◌^◌, ◌≤◌, ◌<◌}
use native.Mathlib.Omega.{arith}
use native.Mathlib.Nat.{zero-div, div-one, one-mul, pow-suc, mul-div_cancel, mul-mod_left}
use mathlib.Core.Path.{◌≡◌, refl, sym, ap, ◌∙◌}
use mathlib.Core.Logic.{◌≢◌}
use mathlib.Core.Bool.{Bool, true, false, cond, ◌||◌, or-false, or-true}
use mathlib.Core.List.{List, ◌++◌}
use lib.Dec.{eqb, eqb-suc-suc}
use lib.ListN.{length, get_or, set, replicate, length-replicate, get_or-replicate, get_or-append}
use lib.Seq.{get_or-set_same, get_or-set_other}
use lib.Bits.{bit_or, or_shr, or_mod}
use lib.Pow.{shl_exact, shr-shr}
use borrow.Author.Tests.{eqb-true, eqb-false, eq-eqb, ne_eqb}
use Rattle.meaning.specs.Number.{odd}
use Rattle.diagram.specs.Count.{word_of, bit_of, marked_at, marking, Unmarked}

-- ---- bits of a word

-- 1 shifted
shifted : (b : ℕ) → b < 32 → (1 * 2 ^ b) % 4294967296 ≡ 2 ^ b
shifted b small = shl_exact 1 b 32 (omega arith) (omega arith) ∙ one-mul (2 ^ b)

half_power : (i : ℕ) → 2 ^ suc i / 2 ≡ 2 ^ i
half_power i = rw (pow-suc 2 i) (mul-div_cancel (2 ^ i) (omega arith))

halves : (x j : ℕ) → x / 2 ^ suc j ≡ x / 2 / 2 ^ j
halves x j = sym (shr-shr x 1 j ∙ ap (λ k. x / 2 ^ k) (omega arith))

-- bit j of 2 ^ i
power_bit : (i j : ℕ) → odd (2 ^ i / 2 ^ j) ≡ eqb i j
power_bit zero zero = refl
power_bit zero (suc j) = rw (halves 1 j, zero-div (2 ^ j)) (sym (ne_eqb 0 (suc j) (omega arith)))
power_bit (suc i) zero =
    rw (div-one (2 ^ suc i), pow-suc 2 i, mul-mod_left (2 ^ i) 2) (sym (ne_eqb (suc i) 0 (omega arith)))
power_bit (suc i) (suc j) = rw (halves (2 ^ suc i) j, half_power i, eqb-suc-suc i j) (power_bit i j)

odd_or : (a b : ℕ) → odd (bit_or a b) ≡ odd a || odd b
odd_or a b = rw (or_mod a b 1) (go (odd a) (odd b) refl refl)
  where
    digit : (x : ℕ) (p : Bool) → odd x ≡ p → x % 2 ≡ cond p 1 0
    digit x true one = eqb-true (x % 2) 1 one
    digit x false other = let apart = eqb-false (x % 2) 1 other in omega arith

    go : (p q : Bool) → odd a ≡ p → odd b ≡ q → eqb (bit_or (a % 2) (b % 2)) 1 ≡ p || q
    go true true x y = rw (digit a true x, digit b true y)
    go true false x y = rw (digit a true x, digit b false y)
    go false true x y = rw (digit a false x, digit b true y)
    go false false x y = rw (digit a false x, digit b false y)

or_bit : (a b j : ℕ) → odd (bit_or a b / 2 ^ j) ≡ odd (a / 2 ^ j) || odd (b / 2 ^ j)
or_bit a b j = rw (or_shr a b j) (odd_or (a / 2 ^ j) (b / 2 ^ j))

-- ---- marks

pub mark_set : (marks : List ℕ) (k : ℕ)
    → set marks (word_of k) (bit_or (get_or marks (word_of k) 0) ((1 * 2 ^ bit_of k) % 4294967296)) ≡ marking marks k
unfolding marking
mark_set marks k = ap (λ v. set marks (word_of k) (bit_or (get_or marks (word_of k) 0) v)) (shifted (bit_of k) (omega arith))

module _ (marks : List ℕ) (k : ℕ) (inside : k < 32 * length marks) where
  -- a bit of the word in which slot k lies, once it is marked
  word_after : (j : ℕ) → word_of j ≡ word_of k
      → marked_at (marking marks k) j ≡ marked_at marks j || eqb (bit_of k) (bit_of j)
  unfolding marked_at marking
  word_after j one =
      let word = get_or marks (word_of k) 0 in
      let set_word = get_or-set_same marks (word_of k) (bit_or word (2 ^ bit_of k)) 0 (omega arith) in
      let here = ap (λ b. odd (word / 2 ^ bit_of j) || b) (power_bit (bit_of k) (bit_of j)) in
      rw (one, set_word) (or_bit word (2 ^ bit_of k) (bit_of j) ∙ here)

  elsewhere : (j : ℕ) → word_of j ≢ word_of k → marked_at (marking marks k) j ≡ marked_at marks j
  unfolding marked_at marking
  elsewhere j other = ap (λ w. odd (w / 2 ^ bit_of j)) (get_or-set_other marks (word_of k) (word_of j) _ 0 other)

  pub marked_here : marked_at (marking marks k) k ≡ true
  marked_here =
      word_after k refl ∙ ap (λ b. marked_at marks k || b) (eq-eqb (bit_of k) (bit_of k) refl)
      ∙ or-true (marked_at marks k)

  pub marked_else : (j : ℕ) → j ≢ k → marked_at (marking marks k) j ≡ marked_at marks j
  marked_else j other = go (eqb (word_of j) (word_of k)) refl
    where
      go : (b : Bool) → eqb (word_of j) (word_of k) ≡ b → marked_at (marking marks k) j ≡ marked_at marks j
      go true e =
          let one = eqb-true (word_of j) (word_of k) e in
          word_after j one ∙ ap (λ b. marked_at marks j || b) (ne_eqb (bit_of k) (bit_of j) (λ same. other (omega arith)))
          ∙ or-false (marked_at marks j)
      go false e = elsewhere j (eqb-false (word_of j) (word_of k) e)

  pub marked_stays : (j : ℕ) → marked_at marks j ≡ true → marked_at (marking marks k) j ≡ true
  marked_stays j before = go (eqb j k) refl
    where
      go : (b : Bool) → eqb j k ≡ b → marked_at (marking marks k) j ≡ true
      go true e = rw (eqb-true j k e) marked_here
      go false e = marked_else j (eqb-false j k e) ∙ before

-- ---- begin

-- a first part of the marks is cleared, enough for `room` slots
pub cleared : (room : ℕ) (part : List ℕ) {zeros : List ℕ} (rest : List ℕ) → zeros ≡ replicate (length part) 0
    → room ≤ 32 * length part → Unmarked room (zeros ++ rest)
unfolding marked_at
cleared room part {zeros} rest is enough k below =
    let inside : word_of k < length part = omega arith in
    let long : length zeros ≡ length part = ap length is ∙ length-replicate {A = ℕ} (length part) 0 in
    let word : get_or (zeros ++ rest) (word_of k) 0 ≡ 0 =
    get_or-append zeros rest 0 (word_of k) (omega arith)
    ∙ ap (λ l. get_or l (word_of k) 0) is ∙ get_or-replicate (length part) (word_of k) 0 0 inside in
    rw (word, zero-div (2 ^ bit_of k))
