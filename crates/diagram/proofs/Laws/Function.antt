-- Laws of truth tables. A fact about all tables is one test that is computed at each number below 256 and each row.
--
--   every p n      p passes at each number below n
--   rows p         p passes at each row
--   same_equal     a table rewritten for two equal numbers asks the same of the operands
--   false_a ..     the nine rewritings of `shorten`
--   shorter        so it does with 0 for each operand that it does not look at
--   answer_..      what `shortcut` answers
use Prim.Native.Nat.{ℕ, zero, suc, ◌+◌, ◌*◌, ◌/◌, ◌%◌, ◌^◌, ◌≤◌, ◌<◌}
use native.Mathlib.Nat.{not-suc-le-zero, mul-le-mul, div-le_self}
use native.Mathlib.Omega.{arith}
use mathlib.Core.Path.{◌≡◌, refl, sym, ap, ◌∙◌}
use mathlib.Core.Bool.{Bool, true, false, cond, not, ◌&&◌, ◌||◌, beq, false≢true, and-eq-true_iff}
use mathlib.Core.Logic.{◌⊎◌, inl, inr}
use lib.Bits.{bit_and, and_le_r}
use lib.Dec.{eqb, ltb}
use borrow.Author.Tests.{eqb-true, eqb-false, ltb-true}
use Rattle.meaning.specs.Number.{odd, digit}
use Rattle.meaning.specs.Step.{Function}
use Rattle.diagram.specs.Function.{table_of, evaluate, Terminal, Shorter, AnsweredBy, paired, equal_of, kept_of}
use Rattle.diagram.specs.declared.function.Question.{Question}

-- ---- tests

abbrev pub every : (ℕ → Bool) → ℕ → Bool
every p zero = true
every p (suc n) = p n && every p n

pub at : (p : ℕ → Bool) (n : ℕ) → every p n ≡ true → (f : ℕ) → f < n → p f ≡ true
at p zero passed f lt = absurd (not-suc-le-zero lt)
at p (suc n) passed f lt = go (eqb f n) refl ((and-eq-true_iff (p n) (every p n)).0 passed) (λ rest. at p n rest f)
  where
    go :
        (same : Bool) → eqb f n ≡ same → (p n ≡ true) × (every p n ≡ true) →
        (every p n ≡ true → f < n → p f ≡ true) → p f ≡ true
    go true e both below = ap p (eqb-true f n e) ∙ both.0
    go false e both below = below both.1 (let differ : f ≡ n → ⊥ = eqb-false f n e in omega (arith, differ))

abbrev tried : (Bool → Bool) → Bool
tried p = p true && p false

try : (p : Bool → Bool) → tried p ≡ true → (b : Bool) → p b ≡ true
try p passed true = ((and-eq-true_iff (p true) (p false)).0 passed).0
try p passed false = ((and-eq-true_iff (p true) (p false)).0 passed).1

abbrev pub rows : Function → Bool
rows p = tried (λ a. tried (λ b. tried (λ c. p a b c)))

row : (p : Function) → rows p ≡ true → (a b c : Bool) → p a b c ≡ true
row p passed a b c =
    try (p a b) (try (λ y. tried (p a y)) (try (λ x. tried (λ y. tried (p x y))) passed a) b) c

-- two functions are the same
abbrev pub agree : Function → Function → Bool
agree f g = rows (λ a b c. beq (f a b c) (g a b c))

beq_true : (a b : Bool) → beq a b ≡ true → a ≡ b
beq_true true true e = refl
beq_true true false e = sym e
beq_true false true e = e
beq_true false false e = refl

beq_same : (a b : Bool) → a ≡ b → beq a b ≡ true
beq_same true true e = refl
beq_same true false e = sym e
beq_same false true e = e
beq_same false false e = refl

-- from a test that passes only where a condition holds
from_test : (a b : Bool) → not a || b ≡ true → a ≡ true → b ≡ true
from_test true b e holds = e
from_test false b e holds = absurd (false≢true holds)

pub agreed : (f g : Function) → agree f g ≡ true → (a b c : Bool) → f a b c ≡ g a b c
agreed f g passed a b c = beq_true _ _ (row (λ x y z. beq (f x y z) (g x y z)) passed a b c)

-- ---- operands

abbrev pub first : Function
first a b c = a

abbrev pub second : Function
second a b c = b

abbrev pub third : Function
third a b c = c

abbrev pub never : Function
never a b c = false

abbrev pub always : Function
always a b c = true

-- number n is true where s of q's operands is
pub record Picks (q : Question) (s : Function) (n : ℕ) : Type 0 where
  pub is : (v : ℕ → Bool) → Terminal v → v n ≡ s (v q.a) (v q.b) (v q.c)

pub is_a : {q : Question} → Picks q first q.a
is_a = record { is = λ v k. refl }

pub is_b : {q : Question} → Picks q second q.b
is_b = record { is = λ v k. refl }

pub is_c : {q : Question} → Picks q third q.c
is_c = record { is = λ v k. refl }

pub is_0 : {q : Question} → Picks q never 0
is_0 = record { is = λ v k. k.falsehood }

pub is_1 : {q : Question} → Picks q always 1
is_1 = record { is = λ v k. k.truth }

-- ---- two equal numbers

-- in every row where s and t agree the rewritten table is the table
unfoldable pub rewritten : Function → Function → ℕ → ℕ → ℕ → ℕ → Bool
rewritten s t low high d f =
    let g = paired f low high d in
    ltb g 256 && rows (λ a b c. not (beq (s a b c) (t a b c)) || beq (table_of g a b c) (table_of f a b c))

rewritten_at :
    (s t : Function) (low high d : ℕ) → every (rewritten s t low high d) 256 ≡ true → (f : ℕ) → f < 256 →
    (paired f low high d < 256) ×
    ((a b c : Bool) → s a b c ≡ t a b c → table_of (paired f low high d) a b c ≡ table_of f a b c)
unfolding rewritten
rewritten_at s t low high d passed f lt =
    let g = paired f low high d in
    let p : Function = λ a b c. not (beq (s a b c) (t a b c)) || beq (table_of g a b c) (table_of f a b c) in
    let both = (and-eq-true_iff (ltb g 256) (rows p)).0 (at (rewritten s t low high d) 256 passed f lt) in
    let same : (a b c : Bool) → s a b c ≡ t a b c → table_of g a b c ≡ table_of f a b c =
    λ a b c e. beq_true _ _ (from_test _ _ (row p both.1 a b c) (beq_same _ _ e)) in
    (ltb-true g 256 both.0, same)

-- table g in place of q's asks the same of q's operands
pub record Same (q : Question) (g : ℕ) : Type 0 where
  pub small : g < 256
  pub same : (v : ℕ → Bool) → Terminal v → table_of g (v q.a) (v q.b) (v q.c) ≡ evaluate q v

same_start : (q : Question) → q.f < 256 → Same q q.f
unfolding evaluate
same_start q lt = record { small = lt; same = λ v k. refl }

pub same_equal :
    (s t : Function) (low high d : ℕ) {q : Question} {g r x y : ℕ} → Picks q s x → Picks q t y → Same q g →
    r ≡ equal_of g x y low high d → every (rewritten s t low high d) 256 ≡ true → Same q r
unfolding equal_of
same_equal s t low high d {q} {g} {r} {x} {y} is_x is_y before made passed = go (eqb x y) refl
  where
    go : (e : Bool) → eqb x y ≡ e → Same q r
    go true e =
        let p = rewritten_at s t low high d passed g before.small in
        let is : r ≡ paired g low high d = rw e at made in
        rw is
        record {
          small = p.0;
          same = λ v k. p.1 _ _ _ (sym (is_x.is v k) ∙ ap v (eqb-true x y e) ∙ is_y.is v k) ∙ before.same v k;
        }
    go false e = let is : r ≡ g = rw e at made in rw is before

-- each of `shorten`'s nine rewritings: an operand that is 0, one that is 1, two that are equal

module _ {q : Question} {g r : ℕ} (before : Same q g) where
  false_a : r ≡ equal_of g q.a 0 15 0 16 → Same q r
  unfolding rewritten table_of paired
  false_a made = same_equal first never 15 0 16 is_a is_0 before made refl

  true_a : r ≡ equal_of g q.a 1 0 240 16 → Same q r
  unfolding rewritten table_of paired
  true_a made = same_equal first always 0 240 16 is_a is_1 before made refl

  false_b : r ≡ equal_of g q.b 0 51 0 4 → Same q r
  unfolding rewritten table_of paired
  false_b made = same_equal second never 51 0 4 is_b is_0 before made refl

  true_b : r ≡ equal_of g q.b 1 0 204 4 → Same q r
  unfolding rewritten table_of paired
  true_b made = same_equal second always 0 204 4 is_b is_1 before made refl

  false_c : r ≡ equal_of g q.c 0 85 0 2 → Same q r
  unfolding rewritten table_of paired
  false_c made = same_equal third never 85 0 2 is_c is_0 before made refl

  true_c : r ≡ equal_of g q.c 1 0 170 2 → Same q r
  unfolding rewritten table_of paired
  true_c made = same_equal third always 0 170 2 is_c is_1 before made refl

  equal_ab : r ≡ equal_of g q.a q.b 3 192 4 → Same q r
  unfolding rewritten table_of paired
  equal_ab made = same_equal first second 3 192 4 is_a is_b before made refl

  equal_ac : r ≡ equal_of g q.a q.c 5 160 2 → Same q r
  unfolding rewritten table_of paired
  equal_ac made = same_equal first third 5 160 2 is_a is_c before made refl

  equal_bc : r ≡ equal_of g q.b q.c 17 136 2 → Same q r
  unfolding rewritten table_of paired
  equal_bc made = same_equal second third 17 136 2 is_b is_c before made refl

-- the nine of them, one after the other
pub all_equal : {q : Question} {f₁ f₂ f₃ f₄ f₅ f₆ f₇ f₈ f₉ : ℕ} → q.f < 256
    → f₁ ≡ equal_of q.f q.a 0 15 0 16 → f₂ ≡ equal_of f₁ q.a 1 0 240 16
    → f₃ ≡ equal_of f₂ q.b 0 51 0 4 → f₄ ≡ equal_of f₃ q.b 1 0 204 4
    → f₅ ≡ equal_of f₄ q.c 0 85 0 2 → f₆ ≡ equal_of f₅ q.c 1 0 170 2
    → f₇ ≡ equal_of f₆ q.a q.b 3 192 4 → f₈ ≡ equal_of f₇ q.a q.c 5 160 2 → f₉ ≡ equal_of f₈ q.b q.c 17 136 2 → Same q f₉
all_equal {q} small p₁ p₂ p₃ p₄ p₅ p₆ p₇ p₈ p₉ =
    equal_bc
    (equal_ac (equal_ab (true_c (false_c (true_b (false_b (true_a (false_a (same_start q small) p₁) p₂) p₃) p₄) p₅) p₆) p₇) p₈)
    p₉

-- ---- an operand that the function doesn't look at

-- where the rows in `low` are the rows s rows up h doesn't look at its first argument; d is 2 ^ s
unfoldable pub idle : (ℕ → Function) → ℕ → ℕ → ℕ → Bool
idle h low d f = not (eqb (bit_and f low * d) (bit_and f (low * d))) || agree (h f) (λ x y z. h f false y z)

kept_same :
    (h : ℕ → Function) (low d : ℕ) → every (idle h low d) 256 ≡ true → (f x : ℕ) → f < 256 → (v : ℕ → Bool) (y z : Bool) →
    h f (v (kept_of f x low d)) y z ≡ h f (v x) y z
unfolding kept_of idle
kept_same h low d passed f x lt v y z = go (eqb (bit_and f low * d) (bit_and f (low * d))) refl
  where
    go : (e : Bool) → eqb (bit_and f low * d) (bit_and f (low * d)) ≡ e → h f (v (cond e 0 x)) y z ≡ h f (v x) y z
    go true e =
        let fixed : Function = λ a b c. h f false b c in
        let both = from_test _ (agree (h f) fixed) (at (idle h low d) 256 passed f lt) e in
        let same : (b : Bool) → h f b y z ≡ h f false y z = λ b. agreed (h f) fixed both b y z in
        same (v 0) ∙ sym (same (v x))
    go false e = refl

kept_from : (f x low d : ℕ) → (kept_of f x low d ≡ x) ⊎ (kept_of f x low d ≡ 0)
unfolding kept_of
kept_from f x low d = go (eqb (bit_and f low * d) (bit_and f (low * d)))
  where
    go : (e : Bool) → (cond e 0 x ≡ x) ⊎ (cond e 0 x ≡ 0)
    go true = inr refl
    go false = inl refl

idle_a : every (idle table_of 15 16) 256 ≡ true
unfolding idle table_of
idle_a = refl

idle_b : every (idle (λ f x y z. table_of f y x z) 51 4) 256 ≡ true
unfolding idle table_of
idle_b = refl

idle_c : every (idle (λ f x y z. table_of f y z x) 85 2) 256 ≡ true
unfolding idle table_of
idle_c = refl

pub shorter :
    {q : Question} {g a b c : ℕ} → Same q g → a ≡ kept_of g q.a 15 16 → b ≡ kept_of g q.b 51 4 → c ≡ kept_of g q.c 85 2 →
    Shorter q (record { f = g; a = a; b = b; c = c })
unfolding evaluate
shorter {q} {g} s is_a is_b is_c =
    let small = s.small in
    rw (is_a, is_b, is_c)
    record {
      small = small;
      same = λ v k.
          kept_same table_of 15 16 idle_a g q.a small v _ _ ∙
          kept_same (λ f x y z. table_of f y x z) 51 4 idle_b g q.b small v _ _ ∙
          kept_same (λ f x y z. table_of f y z x) 85 2 idle_c g q.c small v _ _ ∙ s.same v k;
      a_from = kept_from g q.a 15 16;
      b_from = kept_from g q.b 51 4;
      c_from = kept_from g q.c 85 2;
    }

-- ---- answers

terminal_digit : {v : ℕ → Bool} (n : ℕ) → Terminal v → n < 2 → digit (v n) ≡ n
terminal_digit zero k lt = ap digit k.falsehood
terminal_digit (suc zero) k lt = ap digit k.truth
terminal_digit (suc (suc n)) k lt = omega arith

terminal_odd : {v : ℕ → Bool} (n : ℕ) → Terminal v → v (n % 2) ≡ odd n
terminal_odd {v} n k = go (odd n) refl
  where
    go : (b : Bool) → odd n ≡ b → v (n % 2) ≡ b
    go true e = ap v (eqb-true (n % 2) 1 e) ∙ k.truth
    go false e =
        let even : n % 2 ≡ 1 → ⊥ = eqb-false (n % 2) 1 e in
        let is : n % 2 ≡ 0 = omega (arith, even) in
        ap v is ∙ k.falsehood

-- number n is a terminal or one of q's operands
abbrev From : Question → ℕ → Type 0
From q n = (n < 2) ⊎ ((n ≡ q.a) ⊎ ((n ≡ q.b) ⊎ (n ≡ q.c)))

-- the table is that of a constant or of an operand
pub answer_pick :
    (s : Function) {q : Question} {n f : ℕ} → Picks q s n → From q n → q.f ≡ f → agree (table_of f) s ≡ true →
    AnsweredBy q n
unfolding evaluate
answer_pick s {q} {n} {f} is_n from is_f passed =
    record {
      same = λ v k.
          ap (λ g. table_of g (v q.a) (v q.b) (v q.c)) is_f ∙ agreed (table_of f) s passed _ _ _ ∙ sym (is_n.is v k);
      from = from;
    }

-- all operands are terminals
pub answer_row :
    (q : Question) → q.a < 2 → q.b < 2 → q.c < 2 → AnsweredBy q (q.f / 2 ^ (4 * q.a + 2 * q.b + q.c) % 2)
unfolding evaluate table_of
answer_row q a b c =
    record {
      same = λ v k.
          rw (terminal_digit q.a k a, terminal_digit q.b k b, terminal_digit q.c k c)
          (sym (terminal_odd (q.f / 2 ^ (4 * q.a + 2 * q.b + q.c)) k));
      from = inl (omega arith);
    }

-- ---- numbers that fit

pub paired_lt : (f low high d : ℕ) → low < 256 → high < 256 → d ≤ 16
    → (bit_and f low + bit_and f high / d) * (d + 1) < 4294967296
paired_lt f low high d low_lt high_lt le =
    let taken : bit_and f low + bit_and f high / d ≤ 510 =
    omega (arith, and_le_r f low, and_le_r f high, div-le_self (bit_and f high) d) in
    let most : d + 1 ≤ 17 = omega arith in
    omega (arith, mul-le-mul taken most)
