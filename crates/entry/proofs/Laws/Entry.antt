-- One entry: what its kind says of it and of its operands.
--
--   Given                       an entry of this kind, with its operands' numbers
--   wide, one_row, two_rows ..  the widths, and what the operands' numbers are
--   term_means, terms_mean ..   the values that they stand for
use Prim.Native.Nat.{ℕ, ◌+◌, ◌-◌, ◌%◌, ◌≤◌, ◌<◌}
use native.Mathlib.Nat.{mod-lt, le_of_lt}
use native.Mathlib.Omega.{arith}
use mathlib.Core.Path.{◌≡◌, refl, sym, ap, subst, ◌∙◌}
use mathlib.Core.Bool.{Bool, true, ◌&&◌, and-eq-true_iff, false≢true}
use mathlib.Core.List.{List}
use lib.Dec.{eqb, leb}
use lib.ListN.{length}
use borrow.Author.Tests.{eqb-true, leb-true, ltb-true}
use Rattle.meaning.specs.Kind.{Sort, Operand, a_term, a_formula, Widths, Rule, rule_of, alike, sum, span, none_wider}
use Rattle.meaning.specs.Kind.{one_term, two_terms, one_formula, two_formulas, formula_two_terms, variable_formula}
use Rattle.meaning.specs.Sheet.{Entry, entry, entries, entry_at, count, operand, upper, lower}
use Rattle.meaning.specs.Level.{levels}
use Rattle.meaning.specs.Check.{suits, allowed, width_of, own_width, widths_fit, in_range}
use Rattle.meaning.specs.Run as Run
use Rattle.meaning.specs.Run.{Value, value_at, row_at, pair_at}
use Rattle.meaning.proofs.Laws.Checked as Checked
use Rattle.meaning.proofs.Laws.Checked.{Sound, sound_operands}
use Rattle.diagram.specs.State.{Ready}
use Rattle.diagram.specs.declared.builder.Builder.{Builder}
use Rattle.diagram.specs.declared.scratch.Scratch.{Scratch}
use Rattle.sheet.specs.Kind.{number_of}
use Rattle.sheet.specs.declared.checked.CheckedEntry.{CheckedEntry}
use Rattle.sheet.specs.declared.kind.Kind.{Kind}
use Rattle.sheet.proofs.Laws.Passed.{passed_levels, passed_sound}
use Rattle.sheet.proofs.Laws.Sheet.{entry_at_lem, entry_rule}
use Rattle.term.specs.Row.{RowMeans, RowKnown}
use Rattle.term.specs.Add.{Addable}
use Rattle.term.specs.declared.row.Row.{Row}
use Rattle.formula.specs.Pair.{PairMeans, PairKnown}
use Rattle.entry.specs.Value.{Held, Meant, OperandHeld, OperandMeant, pair_in}
use Rattle.entry.specs.Entry.{OperandsHeld, OperandsMeant}
use Rattle.entry.specs.declared.value.Operands.{Operands}

both_true : (a b : Bool) → a && b ≡ true → (a ≡ true) × (b ≡ true)
both_true a b = (and-eq-true_iff a b).0

-- ---- by sort

held_term : (sort : Sort) (b : Builder) (w : ℕ) (row : Row) → suits a_term sort ≡ true → Held sort b w row
    → (row.width ≡ w) × RowKnown b row
held_term Sort.variable b w row is h = h
held_term Sort.term b w row is h = h
held_term Sort.formula b w row is h = absurd (false≢true is)
held_term Sort.neither b w row is h = absurd (false≢true is)

held_formula : (sort : Sort) (b : Builder) (w : ℕ) (row : Row) → suits a_formula sort ≡ true → Held sort b w row
    → PairKnown b (pair_in row)
held_formula Sort.variable b w row is h = absurd (false≢true is)
held_formula Sort.term b w row is h = absurd (false≢true is)
held_formula Sort.formula b w row is h = h
held_formula Sort.neither b w row is h = absurd (false≢true is)

module _ (n : ℕ) (cells : List ℕ) (b : Builder) (row : Row) (v : Value) where
  meant_term : (sort : Sort) → suits a_term sort ≡ true → Meant sort n cells b row v → RowMeans n cells b row (Run.row_of v)
  meant_term Sort.variable is h = h
  meant_term Sort.term is h = h
  meant_term Sort.formula is h = absurd (false≢true is)
  meant_term Sort.neither is h = absurd (false≢true is)

  meant_formula : (sort : Sort) → suits a_formula sort ≡ true → Meant sort n cells b row v
      → PairMeans n cells b (pair_in row) (Run.pair_of v)
  meant_formula Sort.variable is h = absurd (false≢true is)
  meant_formula Sort.term is h = absurd (false≢true is)
  meant_formula Sort.formula is h = h
  meant_formula Sort.neither is h = absurd (false≢true is)

allowed_some : (w : ℕ) → leb 1 w && leb w 32 ≡ true → (1 ≤ w) × (w ≤ 32)
allowed_some w h = let s = both_true (leb 1 w) (leb w 32) h in (leb-true 1 w s.0, leb-true w 32 s.1)

-- a term operand has a bit at least
term_some : (sort : Sort) (w : ℕ) → suits a_term sort ≡ true → allowed sort w ≡ true → (1 ≤ w) × (w ≤ 32)
term_some Sort.variable w is h = allowed_some w h
term_some Sort.term w is h = allowed_some w h
term_some Sort.formula w is h = absurd (false≢true is)
term_some Sort.neither w is h = absurd (false≢true is)

-- ---- an entry by its kind

abbrev pub entries_of : CheckedEntry → List Entry
entries_of e = entries e.sheet.bytes.now

abbrev pub own : CheckedEntry → Entry
own e = entry_at e.sheet.bytes.now e.index

-- the kind's row of the table
abbrev pub row_for : Kind → Rule
row_for kind = rule_of (number_of kind)

pub record Given (kind : Kind) (e : CheckedEntry) (b : Builder) (v : Operands) : Type 0 where
  pub is : e.kind ≡ kind
  pub held : OperandsHeld e.sheet.bytes.now e.index b v

pub given : {kind : Kind} {b : Builder} {v : Operands} (e : CheckedEntry) → e.kind ≡ kind
    → OperandsHeld e.sheet.bytes.now e.index b v → Given kind e b v
given e is held = record { is = is; held = held }

module _ {kind : Kind} {e : CheckedEntry} {b : Builder} {v : Operands} (g : Given kind e b v) where
  pub few : levels (entries_of e) ≤ 128
  few = passed_levels e.sheet.bytes.now e.sheet.passed

  sound : Sound (entries_of e) e.index (own e)
  sound = passed_sound e.sheet.bytes.now e.sheet.passed e.index e.is_entry.inside

  pub rule_is : (own e).rule ≡ row_for kind
  rule_is = sym (entry_rule e.is_entry) ∙ ap (λ (k : Kind). rule_of (number_of k)) g.is

  -- the entry's own width
  pub wide : (row_for kind).sort ≡ Sort.term → (1 ≤ e.width) × (e.width ≤ 32)
  wide sorted =
      allowed_some e.width
      (rw e.is_entry.width_is
      (subst (λ (t : Sort). allowed t (own e).width ≡ true) (ap (λ (r : Rule). r.sort) rule_is ∙ sorted) sound.width_allowed))

  fits_as : {ws : Widths} → (row_for kind).widths ≡ ws → widths_fit ws (entries_of e) (own e) ≡ true
  fits_as eq =
      subst (λ (ws : Widths). widths_fit ws (entries_of e) (own e) ≡ true) (ap (λ (r : Rule). r.widths) rule_is ∙ eq)
      sound.widths_fit_lem

  range_as : {ws : Widths} → (row_for kind).widths ≡ ws → in_range ws (entries_of e) (own e) ≡ true
  range_as eq =
      subst (λ (ws : Widths). in_range ws (entries_of e) (own e) ≡ true) (ap (λ (r : Rule). r.widths) rule_is ∙ eq)
      sound.in_range_lem

  module _ {os : List Operand} (eq : (row_for kind).operands ≡ os) where
    operands_as : Checked.Operands (entries_of e) e.index (own e) 0 os
    operands_as =
        subst (λ (os : List Operand). Checked.Operands (entries_of e) e.index (own e) 0 os)
        (ap (λ (r : Rule). r.operands) rule_is ∙ eq) (sound_operands (entries_of e) e.index (own e) sound)

    pub many : length (own e).rule.operands ≡ length os
    many = ap (λ (r : Rule). length r.operands) rule_is ∙ ap length eq

    -- every term operand has the entry's own width
    own_as : (row_for kind).widths ≡ Widths.equal → own_width (entries_of e) (own e) 0 os ≡ true
    own_as equal =
        subst (λ (os : List Operand). own_width (entries_of e) (own e) 0 os ≡ true)
        (ap (λ (r : Rule). r.operands) rule_is ∙ eq) (fits_as equal)

  -- ---- operands

  term_held : (j : ℕ) (row : Row) → OperandHeld (entries_of e) (own e) b j row → j < length (own e).rule.operands
      → suits a_term (entry (entries_of e) (operand (own e) j)).rule.sort ≡ true
      → (row.width ≡ width_of (entries_of e) (own e) j) × RowKnown b row
  term_held j row held has suited =
      held_term (entry (entries_of e) (operand (own e) j)).rule.sort b (width_of (entries_of e) (own e) j) row suited (held has)

  pair_held : (j : ℕ) (row : Row) → OperandHeld (entries_of e) (own e) b j row → j < length (own e).rule.operands
      → suits a_formula (entry (entries_of e) (operand (own e) j)).rule.sort ≡ true → PairKnown b (pair_in row)
  pair_held j row held has suited =
      held_formula (entry (entries_of e) (operand (own e) j)).rule.sort b (width_of (entries_of e) (own e) j) row suited (held has)

  -- one term
  module _ (one : (row_for kind).operands ≡ one_term) where
    one_row : (v.x.width ≡ width_of (entries_of e) (own e) 0) × RowKnown b v.x
    one_row = term_held 0 v.x g.held.x (omega (arith, many one)) (operands_as one).suits

    pub one_known : RowKnown b v.x
    one_known = one_row.1

    -- its width is 1 to 32
    pub one_some : (1 ≤ v.x.width) × (v.x.width ≤ 32)
    one_some =
        let o = operand (own e) 0 in
        let below : o < count e.sheet.bytes.now = omega (arith, (operands_as one).below, e.is_entry.inside) in
        let at : entry (entries_of e) o ≡ entry_at e.sheet.bytes.now o = entry_at_lem e.sheet.bytes.now o below in
        let fits : allowed (entry (entries_of e) o).rule.sort (entry (entries_of e) o).width ≡ true =
        rw at (passed_sound e.sheet.bytes.now e.sheet.passed o below).width_allowed in
        rw one_row.0 (term_some (entry (entries_of e) o).rule.sort (entry (entries_of e) o).width (operands_as one).suits fits)

    -- of the entry's own width
    pub one_own : (row_for kind).widths ≡ Widths.equal → v.x.width ≡ e.width
    one_own equal =
        let wide = both_true (eqb (width_of (entries_of e) (own e) 0) (own e).width) true (own_as one equal) in
        one_row.0 ∙ eqb-true (width_of (entries_of e) (own e) 0) (own e).width wide.0 ∙ sym e.is_entry.width_is

    -- a shift's amount is at most the width
    pub shift_inside : (a : ℕ) → (row_for kind).sort ≡ Sort.term → (row_for kind).widths ≡ Widths.equal
        → a % e.width ≤ v.x.width
    shift_inside a sorted equal = rw (one_own equal) (le_of_lt (mod-lt a (wide sorted).0))

    -- not wider than the entry
    pub one_inside : (row_for kind).widths ≡ none_wider → v.x.width ≤ e.width
    one_inside not_wider =
        let le = leb-true (width_of (entries_of e) (own e) 0) (own e).width (fits_as not_wider) in
        rw (one_row.0, e.is_entry.width_is) le

    -- an extract's bits are in order, and inside the operand
    pub span_order : (row_for kind).widths ≡ span → lower (own e) ≤ upper (own e)
    span_order spans =
        leb-true (lower (own e)) (upper (own e))
        (both_true (leb (lower (own e)) (upper (own e))) (eqb (own e).width (upper (own e) - lower (own e) + 1))
        (fits_as spans)).0

    pub span_inside : (row_for kind).widths ≡ span → upper (own e) < v.x.width
    span_inside spans = rw one_row.0 (ltb-true (upper (own e)) (width_of (entries_of e) (own e) 0) (range_as spans))

  -- two terms
  module _ (two : (row_for kind).operands ≡ two_terms) where
    first : (v.x.width ≡ width_of (entries_of e) (own e) 0) × RowKnown b v.x
    first = term_held 0 v.x g.held.x (omega (arith, many two)) (operands_as two).suits

    second : (v.y.width ≡ width_of (entries_of e) (own e) 1) × RowKnown b v.y
    second = term_held 1 v.y g.held.y (omega (arith, many two)) (operands_as two).rest.suits

    pub two_known : RowKnown b v.x × RowKnown b v.y
    two_known = (first.1, second.1)

    -- of the entry's own width
    pub two_own : (row_for kind).widths ≡ Widths.equal → v.x.width ≡ v.y.width
    two_own equal =
        let x = width_of (entries_of e) (own e) 0 in
        let y = width_of (entries_of e) (own e) 1 in
        let wide = both_true (eqb x (own e).width) (eqb y (own e).width && true) (own_as two equal) in
        let last = both_true (eqb y (own e).width) true wide.1 in
        first.0 ∙ eqb-true x (own e).width wide.0 ∙ sym (eqb-true y (own e).width last.0) ∙ sym second.0

    -- of one width
    pub two_alike : (row_for kind).widths ≡ alike → v.x.width ≡ v.y.width
    two_alike alikes =
        first.0 ∙ eqb-true (width_of (entries_of e) (own e) 0) (width_of (entries_of e) (own e) 1) (fits_as alikes) ∙ sym second.0

    -- of widths that add up to the entry's
    pub two_sum : (row_for kind).sort ≡ Sort.term → (row_for kind).widths ≡ sum → v.x.width + v.y.width ≤ 32
    two_sum sorted sums =
        let total = eqb-true (own e).width (width_of (entries_of e) (own e) 0 + width_of (entries_of e) (own e) 1) (fits_as sums) in
        omega (arith, first.0, second.0, (wide sorted).1, total, e.is_entry.width_is)

  -- a formula and two terms of the entry's own width
  module _ (choosing : (row_for kind).operands ≡ formula_two_terms) where
    second_row : (v.y.width ≡ width_of (entries_of e) (own e) 1) × RowKnown b v.y
    second_row = term_held 1 v.y g.held.y (omega (arith, many choosing)) (operands_as choosing).rest.suits

    third_row : (v.z.width ≡ width_of (entries_of e) (own e) 2) × RowKnown b v.z
    third_row = term_held 2 v.z g.held.z (omega (arith, many choosing)) (operands_as choosing).rest.rest.suits

    pub choice_condition : PairKnown b (pair_in v.x)
    choice_condition = pair_held 0 v.x g.held.x (omega (arith, many choosing)) (operands_as choosing).suits

    pub choice_known : RowKnown b v.y × RowKnown b v.z
    choice_known = (second_row.1, third_row.1)

    pub choice_own : (row_for kind).widths ≡ Widths.equal → v.y.width ≡ v.z.width
    choice_own equal =
        let y = width_of (entries_of e) (own e) 1 in
        let z = width_of (entries_of e) (own e) 2 in
        let wide = both_true (eqb y (own e).width) (eqb z (own e).width && true) (own_as choosing equal) in
        let last = both_true (eqb z (own e).width) true wide.1 in
        second_row.0 ∙ eqb-true y (own e).width wide.0 ∙ sym (eqb-true z (own e).width last.0) ∙ sym third_row.0

  -- formulas; a variable and a formula
  pub one_pair : (row_for kind).operands ≡ one_formula → PairKnown b (pair_in v.x)
  one_pair one = pair_held 0 v.x g.held.x (omega (arith, many one)) (operands_as one).suits

  pub two_pairs : (row_for kind).operands ≡ two_formulas → PairKnown b (pair_in v.x) × PairKnown b (pair_in v.y)
  two_pairs two = (
    pair_held 0 v.x g.held.x (omega (arith, many two)) (operands_as two).suits,
    pair_held 1 v.y g.held.y (omega (arith, many two)) (operands_as two).rest.suits,
  )

  pub bound_pair : (row_for kind).operands ≡ variable_formula → PairKnown b (pair_in v.y)
  bound_pair bound = pair_held 1 v.y g.held.y (omega (arith, many bound)) (operands_as bound).rest.suits

  -- ---- their values

  module _ {cells : List ℕ} {before : List Value} (meant : OperandsMeant e.sheet.bytes.now e.index cells b before v) where
    term_meant : (j : ℕ) (row : Row) → OperandMeant (entries_of e) (own e) (levels (entries_of e)) cells b before j row
        → j < length (own e).rule.operands → suits a_term (entry (entries_of e) (operand (own e) j)).rule.sort ≡ true
        → RowMeans (levels (entries_of e)) cells b row (row_at before (own e) j)
    term_meant j row is has suited =
        meant_term (levels (entries_of e)) cells b row (value_at before (operand (own e) j))
        (entry (entries_of e) (operand (own e) j)).rule.sort suited (is has)

    pair_meant : (j : ℕ) (row : Row) → OperandMeant (entries_of e) (own e) (levels (entries_of e)) cells b before j row
        → j < length (own e).rule.operands → suits a_formula (entry (entries_of e) (operand (own e) j)).rule.sort ≡ true
        → PairMeans (levels (entries_of e)) cells b (pair_in row) (pair_at before (own e) j)
    pair_meant j row is has suited =
        meant_formula (levels (entries_of e)) cells b row (value_at before (operand (own e) j))
        (entry (entries_of e) (operand (own e) j)).rule.sort suited (is has)

    pub term_means : (row_for kind).operands ≡ one_term
        → RowMeans (levels (entries_of e)) cells b v.x (row_at before (own e) 0)
    term_means one = term_meant 0 v.x meant.x (omega (arith, many one)) (operands_as one).suits

    pub terms_mean : (row_for kind).operands ≡ two_terms
        → RowMeans (levels (entries_of e)) cells b v.x (row_at before (own e) 0)
        × RowMeans (levels (entries_of e)) cells b v.y (row_at before (own e) 1)
    terms_mean two = (
      term_meant 0 v.x meant.x (omega (arith, many two)) (operands_as two).suits,
      term_meant 1 v.y meant.y (omega (arith, many two)) (operands_as two).rest.suits,
    )

    pub choice_means : (row_for kind).operands ≡ formula_two_terms
        → PairMeans (levels (entries_of e)) cells b (pair_in v.x) (pair_at before (own e) 0)
        × (RowMeans (levels (entries_of e)) cells b v.y (row_at before (own e) 1)
        × RowMeans (levels (entries_of e)) cells b v.z (row_at before (own e) 2))
    choice_means choosing = (
      pair_meant 0 v.x meant.x (omega (arith, many choosing)) (operands_as choosing).suits,
      (
        term_meant 1 v.y meant.y (omega (arith, many choosing)) (operands_as choosing).rest.suits,
        term_meant 2 v.z meant.z (omega (arith, many choosing)) (operands_as choosing).rest.rest.suits,
      ),
    )

    pub pair_means : (row_for kind).operands ≡ one_formula
        → PairMeans (levels (entries_of e)) cells b (pair_in v.x) (pair_at before (own e) 0)
    pair_means one = pair_meant 0 v.x meant.x (omega (arith, many one)) (operands_as one).suits

    pub pairs_mean : (row_for kind).operands ≡ two_formulas
        → PairMeans (levels (entries_of e)) cells b (pair_in v.x) (pair_at before (own e) 0)
        × PairMeans (levels (entries_of e)) cells b (pair_in v.y) (pair_at before (own e) 1)
    pairs_mean two = (
      pair_meant 0 v.x meant.x (omega (arith, many two)) (operands_as two).suits,
      pair_meant 1 v.y meant.y (omega (arith, many two)) (operands_as two).rest.suits,
    )

    pub bound_means : (row_for kind).operands ≡ variable_formula
        → PairMeans (levels (entries_of e)) cells b (pair_in v.y) (pair_at before (own e) 1)
    bound_means bound = pair_meant 1 v.y meant.y (omega (arith, many bound)) (operands_as bound).rest.suits

-- what an addition asks
module _ {kind : Kind} {e : CheckedEntry} {b : Builder} {v : Operands} (g : Given kind e b v) {cells : List ℕ} {s : Scratch}
    (ready : Ready cells s b)
  where
    pub one_addable : (row_for kind).operands ≡ one_term → Addable cells s b v.x v.x
    one_addable one = record { ready = ready; left = one_known g one; right = one_known g one; even = refl }

    pub two_addable : (row_for kind).operands ≡ two_terms → (row_for kind).widths ≡ Widths.equal → Addable cells s b v.x v.y
    two_addable two equal =
        record { ready = ready; left = (two_known g two).0; right = (two_known g two).1; even = two_own g two equal }
