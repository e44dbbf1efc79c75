-- A level is a count: the level of a bit is the number of bits that come before it (before_level), and the number of
-- levels is the number of bits that come before bit 32 (before_levels).
use Prim.Native.Nat.{ℕ, zero, suc, ◌+◌, ◌≤◌, ◌<◌}
use mathlib.Core.Path.{◌≡◌, refl, sym, ap, ap₂, ◌∙◌}
use mathlib.Core.Bool.{Bool, true, false, cond, and-false}
use mathlib.Core.List.{List, [], ◌∷◌, ◌++◌}
use lib.Dec.{eqb, ltb, leb}
use lib.ListN.{length, get_or, length-append}
use native.Mathlib.Numerals.{add-one}
use native.Mathlib.Omega.{arith}
use borrow.Author.Tests.{ltb-true, ltb-false, leb-true, eqb-true, eqb-false}
use borrow.Author.Tests.{lt-ltb, le-ltb, le-leb, lt-leb, eq-eqb, ne_eqb}
use Rattle.meaning.specs.Kind.{Sort}
use Rattle.meaning.specs.Sheet.{Entry, count, record_at, rule_at, width_at, entry_at, entries, entry}
use Rattle.meaning.specs.Level.{Spot, bits_of, variable_bits, having, order_from, order, find, level, levels}
use Rattle.sheet.specs.Laid.{Laid}
use Rattle.sheet.specs.Level.{ahead, before}
use Rattle.sheet.proofs.Laws.Kind.{variable_sort, other_sort_lem}
use Rattle.sheet.proofs.Laws.Sheet.{entry_at_lem, rest, rest_begin, rest_more, rest_end}

abbrev spot : ℕ → ℕ → Spot
spot i b = record { entry = i; bit = b }

-- ---- before, split: the bits below b, and those at b

abbrev low_of : ℕ → ℕ → ℕ
low_of w b = cond (leb w b) w b

abbrev low : ℕ → List Entry → ℕ
low b [] = 0
low b (e ∷ es) = low_of (variable_bits e) b + low b es

-- entry j has bit b and comes first
abbrev rank_of : ℕ → ℕ → ℕ → ℕ → ℕ
rank_of w j i b = cond (ltb b w) (cond (ltb j i) 1 0) 0

abbrev rank : ℕ → ℕ → ℕ → List Entry → ℕ
rank i b j [] = 0
rank i b j (e ∷ es) = rank_of (variable_bits e) j i b + rank i b (suc j) es

ahead_split : (w j i b : ℕ) → ahead w j i b ≡ low_of w b + rank_of w j i b
ahead_split w j i b = go (ltb b w) refl
  where
    first : (t : Bool) → cond t (b + 1) b ≡ b + cond t 1 0
    first true = refl
    first false = omega arith

    go : (t : Bool) → ltb b w ≡ t → ahead w j i b ≡ low_of w b + cond t (cond (ltb j i) 1 0) 0
    go true e = rw (lt-leb w b (ltb-true b w e)) (first (ltb j i))
    go false e = rw (le-leb w b (ltb-false b w e)) (omega arith)

before_split : (i b j : ℕ) (es : List Entry) → before i b j es ≡ low b es + rank i b j es
unfolding before
before_split i b j [] = refl
before_split i b j (e ∷ es) = omega (arith, ahead_split (variable_bits e) j i b, before_split i b (suc j) es)

-- ---- the bits below b

low_zero : (es : List Entry) → low 0 es ≡ 0
low_zero [] = refl
low_zero (e ∷ es) = go (leb (variable_bits e) 0) refl (low_zero es)
  where
    go : (t : Bool) → leb (variable_bits e) 0 ≡ t → low 0 es ≡ 0 → cond t (variable_bits e) 0 + low 0 es ≡ 0
    go true t rest = omega (arith, leb-true (variable_bits e) 0 t)
    go false t rest = omega arith

-- bit b of each that has one makes up the difference
low_next : (b j : ℕ) (es : List Entry) → low b es + length (having b j es) ≡ low (suc b) es
low_next b j [] = refl
low_next b j (e ∷ es) = go (ltb b (variable_bits e)) refl (low_next b (suc j) es)
  where
    go : (t : Bool) → ltb b (variable_bits e) ≡ t → low b es + length (having b (suc j) es) ≡ low (suc b) es →
        low_of (variable_bits e) b + low b es + length (cond t (spot j b ∷ having b (suc j) es) (having b (suc j) es))
        ≡ low_of (variable_bits e) (suc b) + low (suc b) es
    go true t rest =
        rw (lt-leb (variable_bits e) b (ltb-true b (variable_bits e) t)) (up (leb (variable_bits e) (suc b)) refl)
      where
        up : (u : Bool) → leb (variable_bits e) (suc b) ≡ u →
            b + low b es + suc (length (having b (suc j) es)) ≡ cond u (variable_bits e) (suc b) + low (suc b) es
        up true u = omega (arith, ltb-true b (variable_bits e) t, leb-true (variable_bits e) (suc b) u)
        up false u = omega arith
    go false t rest =
        let small = ltb-false b (variable_bits e) t in
        rw (le-leb (variable_bits e) b small, le-leb (variable_bits e) (suc b) (omega arith)) (omega arith)

low_order : (from k : ℕ) (es : List Entry) → low from es + length (order_from from k es) ≡ low (from + k) es
low_order from zero es = ap₂ ◌+◌ (ap (λ (n : ℕ). low n es) {x = from} {y = from + 0} (omega arith)) refl ∙ omega arith
low_order from (suc k) es =
    let next : from + suc k ≡ suc from + k = omega arith in
    rw next (omega (
      arith,
      length-append (having from 0 es) (order_from (suc from) k es),
      low_next from 0 es,
      low_order (suc from) k es,
    ))

-- ---- the bits at b

-- no entry from i on comes before i
rank_none : (i b j : ℕ) (es : List Entry) → i ≤ j → rank i b j es ≡ 0
rank_none i b j [] late = refl
rank_none i b j (e ∷ es) late =
    rw (le-ltb j i late) (go (ltb b (variable_bits e)) (rank_none i b (suc j) es (omega arith)))
  where
    go : (t : Bool) → rank i b (suc j) es ≡ 0 → cond t 0 0 + rank i b (suc j) es ≡ 0
    go true rest = omega arith
    go false rest = omega arith

-- the place of bit b of entry i = j + m among the bits b, whatever follows
find_rank : (i b j m : ℕ) (es : List Entry) (rest : List Spot) → i ≡ j + m → b < variable_bits (entry es m) →
    find i b (having b j es ++ rest) ≡ rank i b j es
find_rank i b j m [] rest at has = absurd (omega arith)
find_rank i b j zero (e ∷ es) rest at has =
    let here : j ≡ i = omega arith in
    rw (
      lt-ltb b (variable_bits e) has,
      le-ltb j i (omega arith),
      eq-eqb j i here,
      eq-eqb b b refl,
      rank_none i b (suc j) es (omega arith),
    ) refl
find_rank i b j (suc m) (e ∷ es) rest at has =
    let other : j ≡ i → ⊥ = λ q. omega arith in
    rw (lt-ltb j i (omega arith))
    (go (ltb b (variable_bits e)) other (find_rank i b (suc j) m es rest (omega arith) has))
  where
    go : (t : Bool) → (j ≡ i → ⊥) → find i b (having b (suc j) es ++ rest) ≡ rank i b (suc j) es →
        find i b (cond t (spot j b ∷ having b (suc j) es) (having b (suc j) es) ++ rest)
        ≡ cond t 1 0 + rank i b (suc j) es
    go true other more = rw (ne_eqb j i other) (omega (arith, more))
    go false other more = omega (arith, more)

-- bit b is none of the bits c
find_past : (i b c j : ℕ) (es : List Entry) (rest : List Spot) → (c ≡ b → ⊥) →
    find i b (having c j es ++ rest) ≡ length (having c j es) + find i b rest
find_past i b c j [] rest other = omega arith
find_past i b c j (e ∷ es) rest other = go (ltb c (variable_bits e)) (find_past i b c (suc j) es rest other)
  where
    go : (t : Bool) → find i b (having c (suc j) es ++ rest) ≡ length (having c (suc j) es) + find i b rest →
        find i b (cond t (spot j c ∷ having c (suc j) es) (having c (suc j) es) ++ rest)
        ≡ length (cond t (spot j c ∷ having c (suc j) es) (having c (suc j) es)) + find i b rest
    go true more = rw (ne_eqb c b other, and-false (eqb j i)) (omega (arith, more))
    go false more = more

find_order : (i b from k : ℕ) (es : List Entry) → b < variable_bits (entry es i) → from ≤ b → b < from + k →
    low from es + find i b (order_from from k es) ≡ low b es + rank i b 0 es
find_order i b from zero es has start end = absurd (omega arith)
find_order i b from (suc k) es has start end = go (eqb from b) refl (find_order i b (suc from) k es has)
  where
    go : (t : Bool) → eqb from b ≡ t →
        (suc from ≤ b → b < suc from + k →
        low (suc from) es + find i b (order_from (suc from) k es) ≡ low b es + rank i b 0 es) →
        low from es + find i b (having from 0 es ++ order_from (suc from) k es) ≡ low b es + rank i b 0 es
    go true t later =
        rw (eqb-true from b t, find_rank i b 0 i es (order_from (suc b) k es) (omega arith) has) refl
    go false t later =
        let other = eqb-false from b t in
        omega (
          arith,
          find_past i b from 0 es (order_from (suc from) k es) other,
          low_next from 0 es,
          later (omega arith) (omega arith),
        )

-- ---- level, levels

pub before_levels : (es : List Entry) → before 0 32 0 es ≡ levels es
unfolding levels order
before_levels es =
    omega (arith, before_split 0 32 0 es, rank_none 0 32 0 es (omega arith), low_order 0 32 es, low_zero es)

pub before_level : (es : List Entry) (i b : ℕ) → b < variable_bits (entry es i) → b < 32 → before i b 0 es ≡ level es i b
unfolding level order
before_level es i b has narrow =
    omega (arith, before_split i b 0 es, find_order i b 0 32 es has (omega arith) (omega arith), low_zero es)

-- ---- the levels that an entry brings, by its kind's number

bits_other : (sort : Sort) (w : ℕ) → (sort ≡ Sort.variable → ⊥) → 0 ≡ bits_of sort w
bits_other Sort.variable w other = absurd (other refl)
bits_other Sort.term w other = refl
bits_other Sort.formula w other = refl
bits_other Sort.neither w other = refl

module _ (s : List ℕ) (j k : ℕ) (is : k ≡ get_or s (record_at j) 0) where
  pub bits_none : (k ≡ 1 → ⊥) → 0 ≡ variable_bits (entry_at s j)
  bits_none other =
      bits_other (rule_at s j).sort (width_at s j) (other_sort_lem (get_or s (record_at j) 0) (λ q. other (is ∙ q)))

  pub bits_some : (w : ℕ) → k ≡ 1 → w ≡ width_at s j → w ≡ variable_bits (entry_at s j)
  bits_some w one is_w = rw (variable_sort (get_or s (record_at j) 0) (sym is ∙ one)) is_w

-- ---- the loop of `before`

-- so many were counted, and so many are left from entry j on
pub record Counted (s : List ℕ) (i b n total j : ℕ) : Type 0 where
  pub whole : before i b 0 (entries s) ≡ total + before i b j (rest s n j)

pub counted_begin : (s : List ℕ) (i b n : ℕ) → n ≡ count s → Counted s i b n 0 0
counted_begin s i b n is = record { whole = rw (← rest_begin s n is) (omega arith) }

module _ {s : List ℕ} {i b n total j : ℕ} (counted : Counted s i b n total j) where
  pub counted_more : (w a : ℕ) → j < n → w ≡ variable_bits (entry_at s j) → a ≡ ahead w j i b →
      Counted s i b n (total + a) (j + 1)
  unfolding before
  counted_more w a more is_w is_a =
      let here : before i b j (rest s n j) ≡ a + before i b (j + 1) (rest s n (j + 1)) =
      rw (rest_more s n j more, add-one j, is_a, is_w) refl in
      record { whole = omega (arith, counted.whole) }

  pub counted_end : n ≤ j → total ≡ before i b 0 (entries s)
  unfolding before
  counted_end done =
      let none : before i b j (rest s n j) ≡ 0 = rw (rest_end s n j done) refl in
      omega (arith, counted.whole)

bits_le : (sort : Sort) (w : ℕ) → bits_of sort w ≤ w
bits_le Sort.variable w = omega arith
bits_le Sort.term w = omega arith
bits_le Sort.formula w = omega arith
bits_le Sort.neither w = omega arith

-- a bit of a variable of a sheet that is laid out
pub level_at_lem : {s : List ℕ} → Laid s → (i b : ℕ) → i < count s → b < variable_bits (entry_at s i) →
    before i b 0 (entries s) ≡ level (entries s) i b
level_at_lem {s} laid i b inside has =
    let there : b < variable_bits (entry (entries s) i) = rw (entry_at_lem s i inside) has in
    before_level (entries s) i b there
    (omega (arith, laid.narrow i inside, bits_le (rule_at s i).sort (width_at s i)))
