-- What a sheet that passes the check gives. Main results: check_checked (every entry is Sound, there are at most 128 levels,
-- the last entry is a formula) and row_of_lem, the rows of the kind table to go by cases on.
use Prim.Native.Nat.{ℕ, zero, suc, ◌+◌, ◌≤◌, ◌<◌}
use mathlib.Core.Path.{◌≡◌, refl, sym, ◌∙◌, ap}
use mathlib.Core.Bool.{Bool, true, false, cond, not, ◌&&◌, ◌||◌, and-eq-true_iff, true≢false, false≢true}
use mathlib.Core.List.{List, [], ◌∷◌}
use lib.Dec.{eqb, ltb, leb, eqb-suc-zero}
use lib.ListN.{length, get_or, get_or-eq_default}
use native.Mathlib.Nat.{add-zero, zero-add}
use native.Mathlib.Omega.{arith}
use borrow.Author.Tests.{ltb-true, ltb-false, leb-true, not-false}
use Rattle.meaning.specs.Number.{each}
use Rattle.meaning.specs.Kind.{Kind, Sort, Operand, Widths, Rule, rule, rules, no_rule, row_of, rule_of}
use Rattle.meaning.specs.Kind.{a_variable, any, below, sum, span, none_wider, alike}
use Rattle.meaning.specs.Kind.{one_term, two_terms, one_formula, two_formulas, formula_two_terms, variable_formula}
use Rattle.meaning.specs.Sheet.{Entry, entry, no_entry, entries, entry_at, count, record_at, rule_at, width_at, operand}
use Rattle.meaning.specs.Level.{bits_of, variable_bits, levels}
use Rattle.meaning.specs.Check.{refuse, first, short, allowed, kinds_fit, places_fit, suits, operands_fit, widths_fit}
use Rattle.meaning.specs.Check.{in_range, entry_refusal, entries_refusal, is_formula, last_entry, meaning_refusal, check}
use Rattle.meaning.proofs.Laws.Number.{each_length}

-- what the check asks of entry i of es
pub record Sound (es : List Entry) (i : ℕ) (e : Entry) : Type 0 where
  pub rule_number : ℕ
  pub rule_is : e.rule ≡ rule_of rule_number
  pub width_allowed : allowed e.rule.sort e.width ≡ true
  pub operands_fit_lem : operands_fit es i e 0 e.rule.operands ≡ true
  pub widths_fit_lem : widths_fit e.rule.widths es e ≡ true
  pub in_range_lem : in_range e.rule.widths es e ≡ true

pub record Checked (es : List Entry) : Type 0 where
  pub sound : (i : ℕ) → i < length es → Sound es i (entry es i)
  pub levels_le : levels es ≤ 128
  pub last_formula : is_formula (last_entry es).rule.sort ≡ true
  pub not_empty : 0 < length es

-- ---- the rows of the kind table

pub data RowOf : Rule → Type 0 where
  is_variable : RowOf (rule 1 Kind.variable Sort.variable 0 [] any)
  is_constant : RowOf (rule 2 Kind.constant Sort.term 4 [] below)
  is_bit_not : RowOf (rule 3 Kind.bit_not Sort.term 2 one_term Widths.equal)
  is_negate : RowOf (rule 4 Kind.negate Sort.term 2 one_term Widths.equal)
  is_bit_and : RowOf (rule 5 Kind.bit_and Sort.term 4 two_terms Widths.equal)
  is_bit_or : RowOf (rule 6 Kind.bit_or Sort.term 4 two_terms Widths.equal)
  is_bit_xor : RowOf (rule 7 Kind.bit_xor Sort.term 4 two_terms Widths.equal)
  is_add : RowOf (rule 8 Kind.add Sort.term 4 two_terms Widths.equal)
  is_multiply : RowOf (rule 9 Kind.multiply Sort.term 4 two_terms Widths.equal)
  is_shift_left : RowOf (rule 10 Kind.shift_left Sort.term 3 one_term Widths.equal)
  is_shift_right : RowOf (rule 11 Kind.shift_right Sort.term 3 one_term Widths.equal)
  is_concat : RowOf (rule 12 Kind.concat Sort.term 4 two_terms sum)
  is_extract : RowOf (rule 13 Kind.extract Sort.term 4 one_term span)
  is_zero_extend : RowOf (rule 14 Kind.zero_extend Sort.term 2 one_term none_wider)
  is_sign_extend : RowOf (rule 15 Kind.sign_extend Sort.term 2 one_term none_wider)
  is_choose : RowOf (rule 16 Kind.choose Sort.term 6 formula_two_terms Widths.equal)
  is_true : RowOf (rule 32 Kind.true Sort.formula 0 [] any)
  is_false : RowOf (rule 33 Kind.false Sort.formula 0 [] any)
  is_equal : RowOf (rule 34 Kind.equal Sort.formula 4 two_terms alike)
  is_unsigned : RowOf (rule 35 Kind.unsigned Sort.formula 4 two_terms alike)
  is_signed : RowOf (rule 36 Kind.signed Sort.formula 4 two_terms alike)
  is_formula_not : RowOf (rule 40 Kind.not Sort.formula 2 one_formula any)
  is_formula_and : RowOf (rule 41 Kind.and Sort.formula 4 two_formulas any)
  is_formula_or : RowOf (rule 42 Kind.or Sort.formula 4 two_formulas any)
  is_exists : RowOf (rule 48 Kind.exists Sort.formula 4 variable_formula any)
  is_forall : RowOf (rule 49 Kind.forall Sort.formula 4 variable_formula any)
  is_absent : RowOf no_rule

infixr 20 ◌then◌
data Rows : List Rule → Type 0 where
  end : Rows []
  ◌then◌ : {r : Rule} {rs : List Rule} → RowOf r → Rows rs → Rows (r ∷ rs)

-- the row that is found is one of them, or no_rule
rows_of : (k : ℕ) (rs : List Rule) → Rows rs → RowOf (row_of k rs)
rows_of k [] end = is_absent
rows_of k (r ∷ rs) (row then rows) = go (eqb r.number k) (rows_of k rs rows)
  where
    go : (s : Bool) → RowOf (row_of k rs) → RowOf (cond s r (row_of k rs))
    go true later = row
    go false later = later

pub row_of_lem : (k : ℕ) → RowOf (rule_of k)
unfolding rule_of rules
row_of_lem k = rows_of k rules
    (is_variable then is_constant then is_bit_not then is_negate then is_bit_and then is_bit_or then is_bit_xor
    then is_add then is_multiply then is_shift_left then is_shift_right then is_concat then is_extract
    then is_zero_extend then is_sign_extend then is_choose then is_true then is_false then is_equal then is_unsigned
    then is_signed then is_formula_not then is_formula_and then is_formula_or then is_exists then is_forall then end)

-- the row that a sound entry has
pub sound_row : (es : List Entry) (i : ℕ) (e : Entry) → Sound es i e → RowOf e.rule
sound_row es i e sound = rw sound.rule_is (row_of_lem sound.rule_number)

-- ---- entries

each_get : {A : Type 0} (f : ℕ → A) (d : A) (i n k : ℕ) → k < n → get_or (each f i n) k d ≡ f (i + k)
each_get f d i zero k inside = absurd (omega arith)
each_get f d i (suc n) zero inside = ap f (sym (add-zero i))
each_get f d i (suc n) (suc k) inside = each_get f d (suc i) n k (omega arith) ∙ ap f (omega arith)

pub entries_length : (s : List ℕ) → length (entries s) ≡ count s
unfolding entries
entries_length s = each_length (entry_at s) 0 (count s)

entries_get : (s : List ℕ) (i : ℕ) → i < count s → entry (entries s) i ≡ entry_at s i
unfolding entries
entries_get s i inside = each_get (entry_at s) no_entry 0 (count s) i inside ∙ ap (entry_at s) (omega arith)

-- ---- refusals

-- no refusal: the cause is absent, and none came later
refuse_none : (n : ℕ) (cause : Bool) (later : ℕ) → refuse (suc n) cause later ≡ 0 → (cause ≡ false) × (later ≡ 0)
refuse_none n true later none = absurd (omega arith)
refuse_none n false later none = (refl, none)

first_none : (r later : ℕ) → first r later ≡ 0 → (r ≡ 0) × (later ≡ 0)
first_none zero later none = (refl, none)
first_none (suc r) later none = let left : suc r ≡ 0 = rw (eqb-suc-zero r) at none in absurd (omega arith)

-- the next number's k-th is the number's next
next : (i k : ℕ) → i + suc k ≡ suc i + k
next i k = omega arith

kinds_fit_lem : (s : List ℕ) (i n k : ℕ) → kinds_fit s i n ≡ true → k < n →
    allowed (rule_at s (i + k)).sort (width_at s (i + k)) ≡ true
kinds_fit_lem s i zero k fit inside = absurd (omega arith)
kinds_fit_lem s i (suc n) zero fit inside = rw (add-zero i) ((and-eq-true_iff _ (kinds_fit s (suc i) n)).0 fit).0
kinds_fit_lem s i (suc n) (suc k) fit inside =
    let later = ((and-eq-true_iff (allowed (rule_at s i).sort (width_at s i)) (kinds_fit s (suc i) n)).0 fit).1 in
    rw (next i k) (kinds_fit_lem s (suc i) n k later (omega arith))

entries_none : (es : List Entry) (i : ℕ) (rest : List Entry) (k : ℕ) → entries_refusal es i rest ≡ 0 → k < length rest →
    entry_refusal es (i + k) (entry rest k) ≡ 0
entries_none es i [] k none inside = absurd (omega arith)
entries_none es i (e ∷ rest) zero none inside =
    rw (add-zero i) (first_none (entry_refusal es i e) (entries_refusal es (suc i) rest) none).0
entries_none es i (e ∷ rest) (suc k) none inside =
    let later = (first_none (entry_refusal es i e) (entries_refusal es (suc i) rest) none).1 in
    rw (next i k) (entries_none es (suc i) rest k later (omega arith))

-- ---- check

-- an entry with nothing to refuse and a width that is allowed
entry_sound : (es : List Entry) (i : ℕ) (e : Entry) (k : ℕ) → e.rule ≡ rule_of k →
    allowed e.rule.sort e.width ≡ true → entry_refusal es i e ≡ 0 → Sound es i e
unfolding entry_refusal
entry_sound es i e k is fits none =
    let four = refuse_none 3 (not (operands_fit es i e 0 e.rule.operands)) _ none in
    let five = refuse_none 4 (not (widths_fit e.rule.widths es e)) _ four.1 in
    let six = refuse_none 5 (not (in_range e.rule.widths es e)) _ five.1 in
    record {
      rule_number = k;
      rule_is = is;
      width_allowed = fits;
      operands_fit_lem = not-false (operands_fit es i e 0 e.rule.operands) four.0;
      widths_fit_lem = not-false (widths_fit e.rule.widths es e) five.0;
      in_range_lem = not-false (in_range e.rule.widths es e) six.0;
    }

entries_sound : (s : List ℕ) → kinds_fit s 0 (count s) ≡ true → entries_refusal (entries s) 0 (entries s) ≡ 0 →
    (i : ℕ) → i < length (entries s) → Sound (entries s) i (entry (entries s) i)
entries_sound s fit none i inside =
    let es = entries s in
    let within : i < count s = omega (arith, entries_length s) in
    let at : entry es i ≡ entry_at s i = entries_get s i within in
    let fits : allowed (entry es i).rule.sort (entry es i).width ≡ true =
    rw (at, ← zero-add i) (kinds_fit_lem s 0 (count s) i fit within) in
    let passed : entry_refusal es i (entry es i) ≡ 0 = rw (zero-add i) at (entries_none es 0 es i none inside) in
    entry_sound es i (entry es i) (get_or s (record_at i) 0) (ap (λ (e : Entry). e.rule) at) fits passed

neither : (a b : Bool) → (a || b) ≡ false → (a ≡ false) × (b ≡ false)
neither true b none = absurd (true≢false none)
neither false b none = (refl, none)

count_pos : (s : List ℕ) → short s ≡ false → 1 ≤ count s
unfolding short
count_pos s long =
    let sized = leb 1 (count s) && leb (count s) 256 in
    let left = (neither (ltb (length s) 2 || not sized) (ltb (length s) (record_at (count s))) long).0 in
    let counted = not-false sized (neither (ltb (length s) 2) (not sized) left).1 in
    leb-true 1 (count s) ((and-eq-true_iff (leb 1 (count s)) (leb (count s) 256)).0 counted).0

pub check_checked : (s : List ℕ) → check s ≡ 0 → Checked (entries s)
unfolding check meaning_refusal
check_checked s none =
    let es = entries s in
    let one = refuse_none 0 (short s) _ none in
    let two = refuse_none 1 (not (kinds_fit s 0 (count s))) _ one.1 in
    let three = refuse_none 2 (not (places_fit s 0 (count s) (record_at (count s)))) _ two.1 in
    let four_to_six = first_none (entries_refusal es 0 es) _ three.1 in
    let seven = refuse_none 6 (ltb 128 (levels es)) _ four_to_six.1 in
    let eight = refuse_none 7 (not (is_formula (last_entry es).rule.sort)) _ seven.1 in
    record {
      sound = entries_sound s (not-false (kinds_fit s 0 (count s)) two.0) four_to_six.0;
      levels_le = ltb-false 128 (levels es) seven.0;
      last_formula = not-false (is_formula (last_entry es).rule.sort) eight.0;
      not_empty = rw (entries_length s) (count_pos s one.0);
    }

-- ---- widths

-- a width that is allowed is at most 32
bits_le : (sort : Sort) (w : ℕ) → allowed sort w ≡ true → bits_of sort w ≤ 32
bits_le Sort.variable w fits = leb-true w 32 ((and-eq-true_iff (leb 1 w) (leb w 32)).0 fits).1
bits_le Sort.term w fits = omega arith
bits_le Sort.formula w fits = omega arith
bits_le Sort.neither w fits = omega arith

pub checked_wide : {es : List Entry} → Checked es → (j : ℕ) → variable_bits (entry es j) ≤ 32
checked_wide {es} checked j = go (ltb j (length es)) refl
  where
    go : (s : Bool) → ltb j (length es) ≡ s → variable_bits (entry es j) ≤ 32
    go true e =
        let sound = checked.sound j (ltb-true j (length es) e) in
        bits_le (entry es j).rule.sort (entry es j).width sound.width_allowed
    go false e = rw (get_or-eq_default es no_entry (ltb-false j (length es) e)) (omega arith)

-- ---- operands

-- of operands k, k + 1, ... of entry i, one after the other: it is below i, and what it has to be
abbrev pub Operands : List Entry → ℕ → Entry → ℕ → List Operand → Type 0
Operands es i e k [] = Unit {0}
Operands es i e k (o ∷ os) = record {
  below : operand e k < i;
  suits : suits o (entry es (operand e k)).rule.sort ≡ true;
  rest : Operands es i e (suc k) os;
}

pub operands_each : (es : List Entry) (i : ℕ) (e : Entry) (k : ℕ) (os : List Operand) → operands_fit es i e k os ≡ true →
    Operands es i e k os
operands_each es i e k [] fit = tt
operands_each es i e k (o ∷ os) fit =
    let suited = suits o (entry es (operand e k)).rule.sort in
    let both = (and-eq-true_iff (ltb (operand e k) i && suited) (operands_fit es i e (suc k) os)).0 fit in
    let own = (and-eq-true_iff (ltb (operand e k) i) suited).0 both.0 in
    record { below = ltb-true (operand e k) i own.0; suits = own.1; rest = operands_each es i e (suc k) os both.1 }

-- with the row known: `.below`, `.suits` of operand 0, `.rest .below` of operand 1, ...
pub sound_operands : (es : List Entry) (i : ℕ) (e : Entry) → Sound es i e → Operands es i e 0 e.rule.operands
sound_operands es i e sound = operands_each es i e 0 e.rule.operands sound.operands_fit_lem

-- a bound entry has as many levels as it is wide
pub suits_bits : (sort : Sort) (w : ℕ) → suits a_variable sort ≡ true → bits_of sort w ≡ w
suits_bits Sort.variable w fits = refl
suits_bits Sort.term w fits = absurd (false≢true fits)
suits_bits Sort.formula w fits = absurd (false≢true fits)
suits_bits Sort.neither w fits = absurd (false≢true fits)
