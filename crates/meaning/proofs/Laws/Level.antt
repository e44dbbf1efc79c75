-- Levels: each bit of each variable has a level of its own, below the number of levels; so a variable's value can be read
-- off an assignment and written into one. Main results: write_value (what is written is what is read, and nothing else is
-- touched) and exists_over, forall_over (trying both values at each of a variable's levels tries each of its values).
use Prim.Native.Nat.{ℕ, zero, suc, ◌+◌, ◌-◌, ◌*◌, ◌/◌, ◌%◌, ◌^◌, ◌≤◌, ◌<◌}
use mathlib.Core.Path.{◌≡◌, refl, sym, ◌∙◌, ap, ap₂, fun_ext}
use mathlib.Core.Bool.{Bool, true, false, cond, ◌&&◌, ◌||◌, and-eq-true_iff}
use mathlib.Core.Bool.{or-false, or_comm, or_assoc, and-true, and_comm, and_assoc}
use mathlib.Core.List.{List, [], ◌∷◌, ◌++◌}
use lib.Dec.{eqb, ltb}
use lib.ListN.{length, get_or}
use lib.Pow.{pow_pos, pow-add, shr-shr}
use native.Mathlib.Nat.{le_refl, add_comm, add-zero, add-suc, pow-suc, mod-eq_of_lt}
use native.Mathlib.Nat.{div-eq_of_lt, div-one, add-div_right, add-mul-div_right}
use native.Mathlib.Omega.{arith}
use borrow.Author.Tests.{eqb-true, eqb-false, lt-ltb, eq-eqb, ne_eqb}
use Rattle.meaning.specs.Number.{odd, bits, number, each, up_to}
use Rattle.meaning.specs.Sheet.{Entry, entry}
use Rattle.meaning.specs.Level.{Spot, variable_bits, having, order_from, order, find, level, levels, value_of}
use Rattle.meaning.specs.Meaning.{bind, some, every}
use Rattle.meaning.specs.Run.{down_to, levels_of}
use Rattle.meaning.specs.Diagram.{Assignment, put}
use Rattle.meaning.proofs.Laws.Over.{over}
use Rattle.meaning.proofs.Laws.Number.{number_lt, number_bits, bits_number, each_length, each_same}

-- ---- find

abbrev spot : ℕ → ℕ → Spot
spot i b = record { entry = i; bit = b }

-- bit b of entry i stands in the list
abbrev Stands : ℕ → ℕ → List Spot → Type 0
Stands i b ps = find i b ps < length ps

spot_is : (p : Spot) (i b : ℕ) → (eqb p.entry i && eqb p.bit b) ≡ true → p ≡ spot i b
spot_is p i b h =
    let both = (and-eq-true_iff (eqb p.entry i) (eqb p.bit b)).0 h in
    λ k. record { entry = eqb-true p.entry i both.0 k; bit = eqb-true p.bit b both.1 k }

find_spot : (i b : ℕ) (ps : List Spot) → Stands i b ps → get_or ps (find i b ps) (spot 0 0) ≡ spot i b
find_spot i b [] there = absurd (omega arith)
find_spot i b (p ∷ ps) there = go (eqb p.entry i && eqb p.bit b) refl there (find_spot i b ps)
  where
    go : (s : Bool) → (eqb p.entry i && eqb p.bit b) ≡ s →
        cond s 0 (suc (find i b ps)) < suc (length ps) →
        (Stands i b ps → get_or ps (find i b ps) (spot 0 0) ≡ spot i b) →
        get_or (p ∷ ps) (cond s 0 (suc (find i b ps))) (spot 0 0) ≡ spot i b
    go true e h more = spot_is p i b e
    go false e h more = more (omega arith)

-- a spot of a part stands in the whole
append_left : (i b : ℕ) (ps qs : List Spot) → Stands i b ps → Stands i b (ps ++ qs)
append_left i b [] qs there = absurd (omega arith)
append_left i b (p ∷ ps) qs there = go (eqb p.entry i && eqb p.bit b) there (append_left i b ps qs)
  where
    go : (s : Bool) → cond s 0 (suc (find i b ps)) < suc (length ps) → (Stands i b ps → Stands i b (ps ++ qs)) →
        cond s 0 (suc (find i b (ps ++ qs))) < suc (length (ps ++ qs))
    go true h more = omega arith
    go false h more = let rest = more (omega arith) in omega arith

cons_right : (i b : ℕ) (p : Spot) (ps : List Spot) → Stands i b ps → Stands i b (p ∷ ps)
cons_right i b p ps there = go (eqb p.entry i && eqb p.bit b)
  where
    go : (s : Bool) → cond s 0 (suc (find i b ps)) < suc (length ps)
    go true = omega arith
    go false = omega arith

append_right : (i b : ℕ) (ps qs : List Spot) → Stands i b qs → Stands i b (ps ++ qs)
append_right i b [] qs there = there
append_right i b (p ∷ ps) qs there = cons_right i b p (ps ++ qs) (append_right i b ps qs there)

cons_here : (i b : ℕ) (ps : List Spot) → Stands i b (spot i b ∷ ps)
cons_here i b ps = rw (eq-eqb i i refl, eq-eqb b b refl) (omega arith)

-- ---- order

having_stands : (b k : ℕ) (es : List Entry) (i n : ℕ) → n ≡ k + i → b < variable_bits (entry es i) →
    Stands n b (having b k es)
having_stands b k [] i n at has = absurd (omega arith)
having_stands b k (e ∷ es) zero n at has =
    let here : n ≡ k = omega arith in
    rw (lt-ltb b (variable_bits e) has) (rw (← here) (cons_here n b (having b (suc n) es)))
having_stands b k (e ∷ es) (suc i) n at has =
    go (ltb b (variable_bits e)) (having_stands b (suc k) es i n (omega arith) has)
  where
    go : (s : Bool) → Stands n b (having b (suc k) es) →
        Stands n b (cond s (spot k b ∷ having b (suc k) es) (having b (suc k) es))
    go true there = cons_right n b (spot k b) (having b (suc k) es) there
    go false there = there

from_stands : (from k : ℕ) (es : List Entry) (i b : ℕ) → b < variable_bits (entry es i) → from ≤ b → b < from + k →
    Stands i b (order_from from k es)
from_stands from zero es i b has low high = absurd (omega arith)
from_stands from (suc k) es i b has low high = go (eqb from b) refl (from_stands (suc from) k es i b has)
  where
    go : (s : Bool) → eqb from b ≡ s → (suc from ≤ b → b < suc from + k → Stands i b (order_from (suc from) k es)) →
        Stands i b (having from 0 es ++ order_from (suc from) k es)
    go true e later =
        let here : Stands i b (having b 0 es) = having_stands b 0 es i i (omega arith) has in
        rw (eqb-true from b e) (append_left i b (having b 0 es) (order_from (suc b) k es) here)
    go false e later =
        let other = eqb-false from b e in
        append_right i b (having from 0 es) (order_from (suc from) k es) (later (omega arith) (omega arith))

order_stands : (es : List Entry) (i b : ℕ) → b < variable_bits (entry es i) → b < 32 → Stands i b (order es)
unfolding order
order_stands es i b has wide = from_stands 0 32 es i b has (omega arith) (omega arith)

-- ---- level

pub level_lt : (es : List Entry) (i b : ℕ) → b < variable_bits (entry es i) → b < 32 → level es i b < levels es
unfolding level levels
level_lt es i b has wide = order_stands es i b has wide

-- what stands at a bit's level is that very bit
level_spot : (es : List Entry) (i b : ℕ) → b < variable_bits (entry es i) → b < 32 →
    get_or (order es) (level es i b) (spot 0 0) ≡ spot i b
unfolding level
level_spot es i b has wide = find_spot i b (order es) (order_stands es i b has wide)

-- no two bits share a level
pub level_one : (es : List Entry) (i b j c : ℕ) → b < variable_bits (entry es i) → b < 32 →
    c < variable_bits (entry es j) → c < 32 → level es i b ≡ level es j c → (i ≡ j) × (b ≡ c)
level_one es i b j c has_b wide_b has_c wide_c same =
    let spots : spot i b ≡ spot j c =
    sym (level_spot es i b has_b wide_b) ∙ ap (λ (l : ℕ). get_or (order es) l (spot 0 0)) same
    ∙ level_spot es j c has_c wide_c in
    (ap (λ (p : Spot). p.entry) spots, ap (λ (p : Spot). p.bit) spots)

-- ---- value_of

pub value_of_lt : (es : List Entry) (ρ : Assignment) (i : ℕ) → value_of es ρ i < 2 ^ variable_bits (entry es i)
unfolding value_of
value_of_lt es ρ i =
    let read : List Bool = up_to (λ b. ρ (level es i b)) (variable_bits (entry es i)) in
    rw (each_length (λ b. ρ (level es i b)) 0 (variable_bits (entry es i))) at (number_lt read)

pub value_of_bits : (es : List Entry) (ρ : Assignment) (i : ℕ) →
    bits (variable_bits (entry es i)) (value_of es ρ i) ≡ up_to (λ b. ρ (level es i b)) (variable_bits (entry es i))
unfolding value_of
value_of_bits es ρ i =
    let read : List Bool = up_to (λ b. ρ (level es i b)) (variable_bits (entry es i)) in
    rw (each_length (λ b. ρ (level es i b)) 0 (variable_bits (entry es i))) at (bits_number read)

-- ---- write

-- ρ with the lowest w bits of x at variable i's levels
abbrev pub write : List Entry → ℕ → ℕ → ℕ → Assignment → Assignment
write es i zero x ρ = ρ
write es i (suc w) x ρ = put (level es i w) (odd (x / 2 ^ w)) (write es i w x ρ)

-- a level that was written
write_there : (es : List Entry) (i w x : ℕ) (ρ : Assignment) → w ≤ variable_bits (entry es i) → w ≤ 32 →
    (b : ℕ) → b < w → write es i w x ρ (level es i b) ≡ odd (x / 2 ^ b)
write_there es i zero x ρ has wide b low = absurd (omega arith)
write_there es i (suc w) x ρ has wide b low =
    go (eqb (level es i b) (level es i w)) refl (write_there es i w x ρ (omega arith) (omega arith) b)
  where
    go : (s : Bool) → eqb (level es i b) (level es i w) ≡ s →
        (b < w → write es i w x ρ (level es i b) ≡ odd (x / 2 ^ b)) →
        cond s (odd (x / 2 ^ w)) (write es i w x ρ (level es i b)) ≡ odd (x / 2 ^ b)
    go true e below =
        let same = level_one es i b i w (omega arith) (omega arith) (omega arith) (omega arith) (eqb-true _ _ e) in
        rw same.1 refl
    go false e below =
        let other : b ≡ w → ⊥ = λ q. eqb-false _ _ e (ap (level es i) q) in
        below (omega arith)

-- a level of another variable
write_other : (es : List Entry) (i w x : ℕ) (ρ : Assignment) → w ≤ variable_bits (entry es i) → w ≤ 32 →
    (j c : ℕ) → (j ≡ i → ⊥) → c < variable_bits (entry es j) → c < 32 → write es i w x ρ (level es j c) ≡ ρ (level es j c)
write_other es i zero x ρ has wide j c other has_c wide_c = refl
write_other es i (suc w) x ρ has wide j c other has_c wide_c =
    let apart : level es j c ≡ level es i w → ⊥ =
    λ q. other (level_one es j c i w has_c wide_c (omega arith) (omega arith) q).0 in
    rw (ne_eqb (level es j c) (level es i w) apart)
    (write_other es i w x ρ (omega arith) (omega arith) j c other has_c wide_c)

each_bits : (x k w : ℕ) → each (λ b. odd (x / 2 ^ b)) k w ≡ bits w (x / 2 ^ k)
each_bits x k zero = refl
each_bits x k (suc w) =
    let next : x / 2 ^ suc k ≡ x / 2 ^ k / 2 = ap (λ (n : ℕ). x / 2 ^ n) (omega arith) ∙ sym (shr-shr x k 1) in
    ap {B = List Bool} (λ r. odd (x / 2 ^ k) ∷ r) (each_bits x (suc k) w ∙ ap (bits w) next)

-- the variable that was written has the value that was written
write_own : (es : List Entry) (i x : ℕ) (ρ : Assignment) → variable_bits (entry es i) ≤ 32 →
    x < 2 ^ variable_bits (entry es i) → value_of es (write es i (variable_bits (entry es i)) x ρ) i ≡ x
unfolding value_of
write_own es i x ρ wide low =
    let w = variable_bits (entry es i) in
    let τ : Assignment = write es i w x ρ in
    let read : up_to (λ b. τ (level es i b)) w ≡ bits w (x / 1) =
    each_same (λ b. τ (level es i b)) (λ b. odd (x / 2 ^ b)) 0 w
    (λ b from high. write_there es i w x ρ (omega arith) wide b (omega arith))
    ∙ each_bits x 0 w in
    ap number read ∙ number_bits w (x / 1) ∙ ap (λ (n : ℕ). n % 2 ^ w) (div-one x) ∙ mod-eq_of_lt low

-- another one has the value that it had
write_rest : (es : List Entry) (i x : ℕ) (ρ : Assignment) → (wide : (j : ℕ) → variable_bits (entry es j) ≤ 32) →
    (j : ℕ) → (j ≡ i → ⊥) → value_of es (write es i (variable_bits (entry es i)) x ρ) j ≡ value_of es ρ j
unfolding value_of
write_rest es i x ρ wide j other =
    let w = variable_bits (entry es i) in
    let τ : Assignment = write es i w x ρ in
    let within = wide j in
    ap number (each_same (λ b. τ (level es j b)) (λ b. ρ (level es j b)) 0 (variable_bits (entry es j))
    (λ b from high. write_other es i w x ρ (omega arith) (wide i) j b other (omega arith) (omega arith)))

pub write_value : (es : List Entry) (i x : ℕ) (ρ : Assignment) → (wide : (j : ℕ) → variable_bits (entry es j) ≤ 32) →
    x < 2 ^ variable_bits (entry es i) →
    value_of es (write es i (variable_bits (entry es i)) x ρ) ≡ bind (value_of es ρ) i x
write_value es i x ρ wide low = fun_ext λ j. go j (eqb j i) refl
  where
    go : (j : ℕ) (s : Bool) → eqb j i ≡ s →
        value_of es (write es i (variable_bits (entry es i)) x ρ) j ≡ cond s x (value_of es ρ j)
    go j true e = rw (eqb-true j i e) (write_own es i x ρ (wide i) low)
    go j false e = write_rest es i x ρ wide j (eqb-false j i e)

bit_low : (x w k : ℕ) → k < w → odd ((x + 2 ^ w) / 2 ^ k) ≡ odd (x / 2 ^ k)
bit_low x w k low =
    let d = w - suc k in
    let whole : 2 ^ w ≡ 2 ^ d * 2 * 2 ^ k =
    ap (λ (n : ℕ). 2 ^ n) {y = suc d + k} (omega arith) ∙ pow-add 2 (suc d) k ∙ ap (λ (n : ℕ). n * 2 ^ k) (pow-suc 2 d) in
    let moved : (x + 2 ^ w) / 2 ^ k ≡ x / 2 ^ k + 2 ^ d * 2 = rw whole (add-mul-div_right x (2 ^ d * 2) (pow_pos k)) in
    let rest : (x + 2 ^ w) / 2 ^ k % 2 ≡ x / 2 ^ k % 2 = omega arith in
    ap (λ (n : ℕ). eqb n 1) rest

-- a higher bit of x is not looked at
write_low : (es : List Entry) (i w x : ℕ) (ρ : Assignment) (k : ℕ) → k ≤ w →
    write es i k (x + 2 ^ w) ρ ≡ write es i k x ρ
write_low es i w x ρ zero low = refl
write_low es i w x ρ (suc k) low =
    ap₂ (put (level es i k)) (bit_low x w k low) (write_low es i w x ρ k (omega arith))

-- ---- gather

-- p 0 to p (n - 1) and z, taken together by f
abbrev gather : (Bool → Bool → Bool) → Bool → ℕ → (ℕ → Bool) → Bool
gather f z zero p = z
gather f z (suc n) p = f (p n) (gather f z n p)

record Gathers (f : Bool → Bool → Bool) (z : Bool) : Type 0 where
  unit : (a : Bool) → f a z ≡ a
  swap : (a b : Bool) → f a b ≡ f b a
  regroup : (a b c : Bool) → f (f a b) c ≡ f a (f b c)

module _ (f : Bool → Bool → Bool) (z : Bool) (laws : Gathers f z) where
  gather_same : (n : ℕ) (p q : ℕ → Bool) → ((x : ℕ) → x < n → p x ≡ q x) → gather f z n p ≡ gather f z n q
  gather_same zero p q same = refl
  gather_same (suc n) p q same = ap₂ f (same n (omega arith)) (gather_same n p q (λ x low. same x (omega arith)))

  inner : (a b c : Bool) → f a (f b c) ≡ f b (f a c)
  inner a b c = sym (laws.regroup a b c) ∙ ap (λ s. f s c) (laws.swap a b) ∙ laws.regroup b a c

  -- p and q in turn
  gather_both : (n : ℕ) (p q : ℕ → Bool) → gather f z n (λ x. f (p x) (q x)) ≡ f (gather f z n p) (gather f z n q)
  gather_both zero p q = sym (laws.unit z)
  gather_both (suc n) p q = rw (gather_both n p q) (simp (laws.swap, laws.regroup))

  gather_add : (m n : ℕ) (p : ℕ → Bool) → gather f z (n + m) p ≡ f (gather f z n p) (gather f z m (λ x. p (x + n)))
  gather_add zero n p = ap (λ (k : ℕ). gather f z k p) (add-zero n) ∙ sym (laws.unit (gather f z n p))
  gather_add (suc m) n p =
      rw (add-suc n m, gather_add m n p, add_comm m n) (inner (p (n + m)) (gather f z n p) (gather f z m (λ x. p (x + n))))

-- ---- over

over_gather : (f : Bool → Bool → Bool) (z : Bool) → Gathers f z →
    (es : List Entry) (i w : ℕ) (g : Assignment → Bool) (ρ : Assignment) →
    over f (down_to (level es i) w) g ρ ≡ gather f z (2 ^ w) (λ x. g (write es i w x ρ))
over_gather f z laws es i zero g ρ = sym (laws.unit (g ρ))
over_gather f z laws es i (suc w) g ρ =
    let at : Bool → ℕ → Bool = λ b x. g (put (level es i w) b (write es i w x ρ)) in
    let whole : ℕ → Bool = λ x. g (write es i (suc w) x ρ) in
    let low : (x : ℕ) → x < 2 ^ w → at false x ≡ whole x = λ x small. rw (div-eq_of_lt small) in
    let high : (x : ℕ) → x < 2 ^ w → at true x ≡ whole (x + 2 ^ w) =
    λ x small. rw (write_low es i w x ρ w (le_refl w), add-div_right x (pow_pos w), div-eq_of_lt small) in
    let twice : 2 ^ suc w ≡ 2 ^ w + 2 ^ w = rw (pow-suc 2 w) (omega arith) in
    over_gather f z laws es i w (λ τ. f (g (put (level es i w) false τ)) (g (put (level es i w) true τ))) ρ
    ∙ gather_both f z laws (2 ^ w) (at false) (at true)
    ∙ ap₂ f (gather_same f z laws (2 ^ w) (at false) whole low)
    (gather_same f z laws (2 ^ w) (at true) (λ x. whole (x + 2 ^ w)) high)
    ∙ sym (gather_add f z laws (2 ^ w) (2 ^ w) whole)
    ∙ ap (λ (n : ℕ). gather f z n whole) (sym twice)

or_gathers : Gathers ◌||◌ false
or_gathers = record { unit = or-false; swap = or_comm; regroup = or_assoc }

and_gathers : Gathers ◌&&◌ true
and_gathers = record { unit = and-true; swap = and_comm; regroup = and_assoc }

gather_some : (n : ℕ) (p : ℕ → Bool) → gather ◌||◌ false n p ≡ some n p
gather_some zero p = refl
gather_some (suc n) p = ap (◌||◌ (p n)) (gather_some n p)

gather_every : (n : ℕ) (p : ℕ → Bool) → gather ◌&&◌ true n p ≡ every n p
gather_every zero p = refl
gather_every (suc n) p = ap (◌&&◌ (p n)) (gather_every n p)

pub exists_over : (es : List Entry) (i : ℕ) (g : Assignment → Bool) (ρ : Assignment) →
    over ◌||◌ (levels_of es i) g ρ
    ≡ some (2 ^ variable_bits (entry es i)) (λ x. g (write es i (variable_bits (entry es i)) x ρ))
unfolding levels_of
exists_over es i g ρ =
    let w = variable_bits (entry es i) in
    over_gather ◌||◌ false or_gathers es i w g ρ ∙ gather_some (2 ^ w) (λ x. g (write es i w x ρ))

pub forall_over : (es : List Entry) (i : ℕ) (g : Assignment → Bool) (ρ : Assignment) →
    over ◌&&◌ (levels_of es i) g ρ
    ≡ every (2 ^ variable_bits (entry es i)) (λ x. g (write es i (variable_bits (entry es i)) x ρ))
unfolding levels_of
forall_over es i g ρ =
    let w = variable_bits (entry es i) in
    over_gather ◌&&◌ true and_gathers es i w g ρ ∙ gather_every (2 ^ w) (λ x. g (write es i w x ρ))
