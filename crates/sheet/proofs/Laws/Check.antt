-- The check as a whole: the paths of the code through the definitions, and what a sheet that passes gives.
use Prim.Native.Nat.{ℕ, zero, suc, ◌+◌, ◌-◌, ◌≤◌, ◌<◌}
use Rattle.std.specs.Prelude.{Result, Err}
use mathlib.Core.Path.{◌≡◌, refl, sym, ap, ◌∙◌}
use mathlib.Core.Bool.{Bool, true, false, not, ◌&&◌, ◌||◌, and-eq-true_iff, true≢false, false≢true}
use mathlib.Core.List.{List}
use lib.Dec.{eqb, ltb, leb}
use lib.ListN.{length}
use native.Mathlib.Nat.{add-zero, zero-add}
use native.Mathlib.Numerals.{add-one}
use native.Mathlib.Omega.{arith}
use borrow.Author.Tests.{ltb-false, leb-true, eqb-true, eq-eqb, ne_eqb, not-false}
use Rattle.meaning.specs.Kind.{Sort}
use Rattle.meaning.specs.Sheet.{count, record_at, rule_at, width_at, place, entry_at, entries}
use Rattle.meaning.specs.Check.{refuse, first, short, allowed, kinds_fit, places_fit}
use Rattle.meaning.specs.Check.{last_entry, entry_refusal, entries_refusal, meaning_refusal, check}
use Rattle.meaning.proofs.Laws.Checked.{entries_length}
use Rattle.sheet.specs.declared.check.Refusal.{Refusal}
use Rattle.sheet.specs.declared.check.Refusal.TheVariants.{Short, Kinds, Places, Operands, Widths, Range, Levels, Term}
use Rattle.sheet.specs.Answer.{number_of, outcome}
use Rattle.sheet.specs.Laid.{Laid, Known, contents_refusal}
use Rattle.sheet.proofs.Laws.Sheet.{entry_at_lem, rest, rest_begin, rest_more}

-- ---- 4, 5, 6 entry by entry

-- a refusal isn't 0
some_number : (refusal : Refusal) → number_of refusal ≡ 0 → ⊥
some_number Short is = omega arith
some_number Kinds is = omega arith
some_number Places is = omega arith
some_number Operands is = omega arith
some_number Widths is = omega arith
some_number Range is = omega arith
some_number Levels is = omega arith
some_number Term is = omega arith

-- what is left from entry i on decides the whole
pub record Refused (s : List ℕ) (n i : ℕ) : Type 0 where
  pub whole : entries_refusal (entries s) 0 (entries s) ≡ entries_refusal (entries s) i (rest s n i)

pub refused_begin : (s : List ℕ) (n : ℕ) → n ≡ count s → Refused s n 0
refused_begin s n is = record { whole = ap (entries_refusal (entries s) 0) (rest_begin s n is) }

module _ {s : List ℕ} {n i : ℕ} (left : Refused s n i) where
  module _ (answer : ℕ) (is : answer ≡ entry_refusal (entries s) i (entry_at s i)) (more : i < n) where
    pub refused_more : answer ≡ 0 → Refused s n (i + 1)
    refused_more none =
        record { whole = left.whole ∙ rw (rest_more s n i more, ← is, eq-eqb answer 0 none, add-one i) refl }

    pub refused_stop : (answer ≡ 0 → ⊥) → answer ≡ entries_refusal (entries s) 0 (entries s)
    refused_stop some = sym (left.whole ∙ rw (rest_more s n i more, ← is, ne_eqb answer 0 some) refl)

  -- what entry i refuses, as the code has it
  pub refused_by : i < n → {r : Result (Unit {0}) Refusal} {refusal : Refusal} → r ≡ Err refusal → {b : List ℕ} {j : ℕ} →
      outcome r ≡ entry_refusal (entries b) j (entry_at b j) → b ≡ s → j ≡ i →
      number_of refusal ≡ entries_refusal (entries s) 0 (entries s)
  refused_by more {refusal = refusal} is {b} {j} own same_bytes same_index =
      refused_stop (number_of refusal)
      (rw (is, same_bytes, same_index) at own)
      more (some_number refusal)

-- ---- 8

pub last_is : (s : List ℕ) {n : ℕ} {last : Sort} → Laid s → n ≡ count s → last ≡ (rule_at s (n - 1)).sort →
    last ≡ (last_entry (entries s)).rule.sort
last_is s {n} laid is_n is_last =
    let at : length (entries s) - 1 ≡ n - 1 = omega (arith, entries_length s) in
    rw (at, entry_at_lem s (n - 1) (omega (arith, laid.some))) is_last

-- ---- what the passes of the check give

neither : (a b : Bool) → (a || b) ≡ false → (a ≡ false) × (b ≡ false)
neither true b none = absurd (true≢false none)
neither false b none = (refl, none)

-- 1 is not there
pub record Sized (s : List ℕ) : Type 0 where
  pub two : 2 ≤ length s
  pub some : 1 ≤ count s
  pub few : count s ≤ 256
  pub records : record_at (count s) ≤ length s

pub sized : (s : List ℕ) → short s ≡ false → Sized s
unfolding short
sized s long =
    let counted = leb 1 (count s) && leb (count s) 256 in
    let outer = neither (ltb (length s) 2 || not counted) (ltb (length s) (record_at (count s))) long in
    let inner = neither (ltb (length s) 2) (not counted) outer.0 in
    let both = (and-eq-true_iff (leb 1 (count s)) (leb (count s) 256)).0 (not-false counted inner.1) in
    record {
      two = ltb-false (length s) 2 inner.0;
      some = leb-true 1 (count s) both.0;
      few = leb-true (count s) 256 both.1;
      records = ltb-false (length s) (record_at (count s)) outer.1;
    }

-- a width that is allowed is at most 32
width_le : (x : Sort) (w : ℕ) → allowed x w ≡ true → w ≤ 32
width_le Sort.variable w fits = leb-true w 32 ((and-eq-true_iff (leb 1 w) (leb w 32)).0 fits).1
width_le Sort.term w fits = leb-true w 32 ((and-eq-true_iff (leb 1 w) (leb w 32)).0 fits).1
width_le Sort.formula w fits = omega (arith, eqb-true w 0 fits)
width_le Sort.neither w fits = absurd (false≢true fits)

-- what holds at i and at each of the n after it
from_next : (P : ℕ → Type 0) (i n k : ℕ) → k < suc n → P i → ((m : ℕ) → m < n → P (suc i + m)) → P (i + k)
from_next P i n zero inside here later = rw (add-zero i) here
from_next P i n (suc m) inside here later =
    let next : i + suc m ≡ suc i + m = omega arith in
    rw next (later m (omega arith))

-- bodies from `at` on end with the sheet
places_at : (s : List ℕ) (i n at : ℕ) → places_fit s i n at ≡ true → at ≤ length s
places_at s i zero at fit = omega (arith, eqb-true at (length s) fit)
places_at s i (suc n) at fit =
    let both = (and-eq-true_iff (eqb (place s i) at) (places_fit s (suc i) n (at + (rule_at s i).body))).0 fit in
    omega (arith, places_at s (suc i) n (at + (rule_at s i).body) both.1)

places_inside : (s : List ℕ) (i n at k : ℕ) → places_fit s i n at ≡ true → k < n →
    place s (i + k) + (rule_at s (i + k)).body ≤ length s
places_inside s i zero at k fit inside = absurd (omega arith)
places_inside s i (suc n) at k fit inside =
    let end = at + (rule_at s i).body in
    let both = (and-eq-true_iff (eqb (place s i) at) (places_fit s (suc i) n end)).0 fit in
    let here : place s i + (rule_at s i).body ≤ length s =
    omega (arith, eqb-true (place s i) at both.0, places_at s (suc i) n end both.1) in
    from_next (λ (j : ℕ). place s j + (rule_at s j).body ≤ length s) i n k inside here
    (λ m. places_inside s (suc i) n end m both.1)

-- kinds_fit of each record
kinds_known : (s : List ℕ) (i n k : ℕ) → kinds_fit s i n ≡ true → k < n →
    allowed (rule_at s (i + k)).sort (width_at s (i + k)) ≡ true
kinds_known s i zero k fit inside = absurd (omega arith)
kinds_known s i (suc n) k fit inside =
    let both = (and-eq-true_iff (allowed (rule_at s i).sort (width_at s i)) (kinds_fit s (suc i) n)).0 fit in
    from_next (λ (j : ℕ). allowed (rule_at s j).sort (width_at s j) ≡ true) i n k inside both.0
    (λ m. kinds_known s (suc i) n m both.1)

pub known : (s : List ℕ) → kinds_fit s 0 (count s) ≡ true → Known s
known s kinds = record { fits = λ i inside. rw (zero-add i) at (kinds_known s 0 (count s) i kinds inside) }

pub laid : (s : List ℕ) → Sized s → kinds_fit s 0 (count s) ≡ true →
    places_fit s 0 (count s) (record_at (count s)) ≡ true → Laid s
laid s size kinds places =
    record {
      some = size.some;
      few = size.few;
      records = size.records;
      narrow = λ i inside. width_le (rule_at s i).sort (width_at s i) ((known s kinds).fits i inside);
      bodies = λ i inside. rw (zero-add i) at (places_inside s 0 (count s) (record_at (count s)) i places inside);
    }

-- ---- 1, 2, 3

module _ (s : List ℕ) (few : Bool) (is_few : few ≡ short s) (long : few ≡ false) where
  pub contents_sized : Sized s
  contents_sized = sized s (sym is_few ∙ long)

  module _ (n : ℕ) (is_n : n ≡ count s) (kinds : Bool) (is_kinds : kinds ≡ kinds_fit s 0 n) (fit : kinds ≡ true) where
    pub contents_known : Known s
    contents_known = known s (rw (← is_n) (sym is_kinds ∙ fit))

    pub contents_laid : (places : Bool) → places ≡ places_fit s 0 n (record_at n) → places ≡ true → Laid s
    contents_laid places is_places passed =
        laid s contents_sized (rw (← is_n) (sym is_kinds ∙ fit)) (rw (← is_n) (sym is_places ∙ passed))

-- ---- the whole

pub check_first : (s : List ℕ) → check s ≡ first (contents_refusal s) (meaning_refusal (entries s))
unfolding check contents_refusal
check_first s =
    go (short s) (kinds_fit s 0 (count s)) (places_fit s 0 (count s) (record_at (count s))) (meaning_refusal (entries s))
  where
    go : (a b c : Bool) (m : ℕ) → refuse 1 a (refuse 2 (not b) (refuse 3 (not c) m))
        ≡ first (refuse 1 a (refuse 2 (not b) (refuse 3 (not c) 0))) m
    go true true true m = refl
    go true true false m = refl
    go true false true m = refl
    go true false false m = refl
    go false true true m = refl
    go false true false m = refl
    go false false true m = refl
    go false false false m = refl

-- ---- a sheet that passes

refuse_none : (n : ℕ) (cause : Bool) (later : ℕ) → refuse (suc n) cause later ≡ 0 → (cause ≡ false) × (later ≡ 0)
refuse_none n true later none = absurd (omega arith)
refuse_none n false later none = (refl, none)

-- what the first three refusals leave
pub record Passed (s : List ℕ) : Type 0 where
  pub long : short s ≡ false
  pub kinds : kinds_fit s 0 (count s) ≡ true
  pub places : places_fit s 0 (count s) (record_at (count s)) ≡ true

pub checked_contents : (s : List ℕ) → check s ≡ 0 → Passed s
unfolding check
checked_contents s passed =
    let one = refuse_none 0 (short s) _ passed in
    let two = refuse_none 1 (not (kinds_fit s 0 (count s))) _ one.1 in
    let three = refuse_none 2 (not (places_fit s 0 (count s) (record_at (count s)))) _ two.1 in
    record {
      long = one.0;
      kinds = not-false (kinds_fit s 0 (count s)) two.0;
      places = not-false (places_fit s 0 (count s) (record_at (count s))) three.0;
    }

module _ (s : List ℕ) (passed : check s ≡ 0) where
  pub checked_laid : Laid s
  checked_laid =
      let past = checked_contents s passed in
      laid s (sized s past.long) past.kinds past.places

  pub checked_known : Known s
  checked_known = known s (checked_contents s passed).kinds
