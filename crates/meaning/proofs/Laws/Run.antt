-- The whole sheet: every entry's value at a lower limit, its value at a higher one and its meaning are in step.
--
-- Main result: run_related, one induction over the entries of a checked sheet.
use Prim.Native.Nat.{ℕ, suc, ◌+◌, ◌-◌, ◌≤◌, ◌<◌}
use native.Mathlib.Omega.{arith}
use native.Mathlib.Nat.{mod-lt, le_of_lt, add-zero, not-suc-le-zero}
use native.Mathlib.Numerals.{add-one}
use mathlib.Core.Path.{◌≡◌, refl, sym, ap, subst, ◌∙◌}
use mathlib.Core.Bool.{Bool, true, false, ◌&&◌, ◌||◌, and-eq-true_iff, false≢true}
use mathlib.Core.List.{List, [], ◌∷◌, ◌++◌}
use lib.Dec.{eqb, ltb, leb}
use lib.ListN.{length, get_or, drop, length-append, length-drop, get_or-append}
use lib.Seq.{get_or-append_seam, get_or-drop, drop-drop}
use borrow.Author.Tests.{eqb-true, leb-true, ltb-true, ltb-false}
use Rattle.meaning.specs.Kind.{Sort, Rule, a_term, a_formula, a_variable, no_rule, two_terms}
use Rattle.meaning.specs.Sheet.{Entry, entry, no_entry, operand, pair_at, upper, lower}
use Rattle.meaning.specs.Level.{levels, variable_bits}
use Rattle.meaning.specs.Check.{suits, allowed, width_of, own_width}
use Rattle.meaning.specs.BitVector.{shift_by}
use Rattle.meaning.specs.Meaning.{Meaning, truth, number_of, truth_of, meaning_at, meaning_of, meanings_from, meanings, some, every}
use Rattle.meaning.specs.Run.{Value, row, row_of, pair_of, value_at, work_of, run_from, run}
use Rattle.meaning.proofs.Laws.Checked.{Sound, Checked, RowOf, is_variable, is_constant, is_bit_not, is_negate, is_bit_and, is_bit_or, is_bit_xor, is_add, is_multiply, is_shift_left, is_shift_right, is_concat, is_extract, is_zero_extend, is_sign_extend, is_choose, is_true, is_false, is_equal, is_unsigned, is_signed, is_formula_not, is_formula_and, is_formula_or, is_exists, is_forall, is_absent}
use Rattle.meaning.proofs.Laws.Checked.{Operands, sound_row, sound_operands, checked_wide, suits_bits}
use Rattle.meaning.proofs.Laws.Level.{exists_over, forall_over}
use Rattle.meaning.proofs.Laws.Formula.{and_monotone, or_monotone}
use Rattle.meaning.proofs.Laws.Related as Related
use Rattle.meaning.proofs.Laws.Related.{TermRelated, TruthRelated, some_same, every_same}

-- an entry's value at the lower limit, its value at the higher one and its meaning, by its sort
abbrev pub InStep : Sort → List Entry → ℕ → Value → Value → Meaning → Type 0
InStep Sort.variable es w u v m = TermRelated (levels es) es w (row_of u) (row_of v) (λ σ. number_of (m σ))
InStep Sort.term es w u v m = TermRelated (levels es) es w (row_of u) (row_of v) (λ σ. number_of (m σ))
InStep Sort.formula es w u v m = TruthRelated (levels es) es (pair_of u) (pair_of v) (λ σ. truth_of (m σ))
InStep Sort.neither es w u v m = Unit {0}

term_in_step : (sort : Sort) (es : List Entry) (w : ℕ) (u v : Value) (m : Meaning) → suits a_term sort ≡ true → InStep sort es w u v m →
    TermRelated (levels es) es w (row_of u) (row_of v) (λ σ. number_of (m σ))
term_in_step Sort.variable es w u v m is h = h
term_in_step Sort.term es w u v m is h = h
term_in_step Sort.formula es w u v m is h = absurd (false≢true is)
term_in_step Sort.neither es w u v m is h = absurd (false≢true is)

pub truth_in_step : (sort : Sort) (es : List Entry) (w : ℕ) (u v : Value) (m : Meaning) → suits a_formula sort ≡ true → InStep sort es w u v m →
    TruthRelated (levels es) es (pair_of u) (pair_of v) (λ σ. truth_of (m σ))
truth_in_step Sort.variable es w u v m is h = absurd (false≢true is)
truth_in_step Sort.term es w u v m is h = absurd (false≢true is)
truth_in_step Sort.formula es w u v m is h = h
truth_in_step Sort.neither es w u v m is h = absurd (false≢true is)

-- the first i entries are in step
abbrev pub SoFar : List Entry → List Value → List Value → List Meaning → ℕ → Type 0
SoFar es us vs ms k =
    (i : ℕ) → i < k → InStep (entry es i).rule.sort es (entry es i).width (value_at us i) (value_at vs i) (meaning_at ms i)

-- operands and widths don't look at the kind
abbrev bare : ℕ → List ℕ → Entry
bare w b = record { rule = no_rule; width = w; body = b }

both_true : (a b : Bool) → a && b ≡ true → (a ≡ true) × (b ≡ true)
both_true a b = (and-eq-true_iff a b).0

module _ (es : List Entry) (checked : Checked es) {L M : ℕ} (le : L ≤ M) (us vs : List Value) (ms : List Meaning) (k : ℕ)
    (us_long : length us ≡ k) (vs_long : length vs ≡ k) (ms_long : length ms ≡ k) (so_far : SoFar es us vs ms k) (inside : k < length es)
  where
    pub term_at : (o w : ℕ) → o < k → suits a_term (entry es o).rule.sort ≡ true → (entry es o).width ≡ w →
        TermRelated (levels es) es w (row_of (value_at us o)) (row_of (value_at vs o)) (λ σ. number_of (meaning_at ms o σ))
    term_at o w below is wide = subst
        (λ (v : ℕ). TermRelated (levels es) es v (row_of (value_at us o)) (row_of (value_at vs o)) (λ σ. number_of (meaning_at ms o σ))) wide
        (term_in_step (entry es o).rule.sort es (entry es o).width (value_at us o) (value_at vs o) (meaning_at ms o) is (so_far o below))

    truth_at : (o : ℕ) → o < k → suits a_formula (entry es o).rule.sort ≡ true →
        TruthRelated (levels es) es (pair_of (value_at us o)) (pair_of (value_at vs o)) (λ σ. truth_of (meaning_at ms o σ))
    truth_at o below is =
        truth_in_step (entry es o).rule.sort es (entry es o).width (value_at us o) (value_at vs o) (meaning_at ms o) is (so_far o below)

    allowed_some : (w : ℕ) → leb 1 w && leb w 32 ≡ true → (1 ≤ w) × (w ≤ 32)
    allowed_some w h = let s = both_true (leb 1 w) (leb w 32) h in (leb-true 1 w s.0, leb-true w 32 s.1)

    -- a term operand has a bit at least
    pub term_wide : (o : ℕ) → o < k → suits a_term (entry es o).rule.sort ≡ true → 1 ≤ (entry es o).width
    term_wide o below is = go (entry es o).rule.sort is (checked.sound o (omega arith)).width_allowed
      where
        go : (sort : Sort) → suits a_term sort ≡ true → allowed sort (entry es o).width ≡ true → 1 ≤ (entry es o).width
        go Sort.variable i h = (allowed_some (entry es o).width h).0
        go Sort.term i h = (allowed_some (entry es o).width h).0
        go Sort.formula i h = absurd (false≢true i)
        go Sort.neither i h = absurd (false≢true i)

    shift_le : (w by : ℕ) → 1 ≤ w → shift_by w by ≤ w
    unfolding shift_by
    shift_le w by some = le_of_lt (mod-lt by some)

    -- the widths of one operand, of two
    one : (e : Entry) → own_width es e 0 (a_term ∷ []) ≡ true → width_of es e 0 ≡ e.width
    one e h = eqb-true (width_of es e 0) e.width (both_true (eqb (width_of es e 0) e.width) true h).0

    two : (e : Entry) (j : ℕ) → own_width es e j (a_term ∷ a_term ∷ []) ≡ true →
        (width_of es e j ≡ e.width) × (width_of es e (suc j) ≡ e.width)
    two e j h =
        let s = both_true (eqb (width_of es e j) e.width) (eqb (width_of es e (suc j)) e.width && true) h in
        let t = both_true (eqb (width_of es e (suc j)) e.width) true s.1 in
        (eqb-true (width_of es e j) e.width s.0, eqb-true (width_of es e (suc j)) e.width t.0)

    -- what operand j's two rows and number are, as a term of width w
    abbrev OperandTerm : Entry → ℕ → ℕ → Type 0
    OperandTerm e j w =
        TermRelated (levels es) es w (row_of (value_at us (operand e j))) (row_of (value_at vs (operand e j)))
        (λ σ. number_of (meaning_at ms (operand e j) σ))

    terms : (e : Entry) → Operands es k e 0 two_terms → own_width es e 0 two_terms ≡ true → OperandTerm e 0 e.width × OperandTerm e 1 e.width
    terms e o h =
        let wide = two e 0 h in
        (term_at (operand e 0) e.width o.below o.suits wide.0, term_at (operand e 1) e.width o.rest.below o.rest.suits wide.1)

    alikes : (e : Entry) → Operands es k e 0 two_terms → eqb (width_of es e 0) (width_of es e 1) ≡ true →
        OperandTerm e 0 (width_of es e 0) × OperandTerm e 1 (width_of es e 0)
    alikes e o h = (
      term_at (operand e 0) (width_of es e 0) o.below o.suits refl,
      term_at (operand e 1) (width_of es e 0) o.rest.below o.rest.suits (sym (eqb-true (width_of es e 0) (width_of es e 1) h)),
    )

    pub work_related : (e : Entry) → entry es k ≡ e → Sound es k e →
        InStep e.rule.sort es e.width (work_of e.rule.kind es (levels es) L us e).value
        (work_of e.rule.kind es (levels es) M vs e).value (meaning_of e.rule.kind es ms e)
    unfolding work_of meaning_of
    work_related e is sound = go e.rule e.width e.body (sound_row es k e sound) is sound
      where
        -- a bound variable has as many bits as its width
        bound_wide : (b : List ℕ) → suits a_variable (entry es (pair_at 0 b)).rule.sort ≡ true →
            variable_bits (entry es (pair_at 0 b)) ≡ (entry es (pair_at 0 b)).width
        bound_wide b is = suits_bits (entry es (pair_at 0 b)).rule.sort (entry es (pair_at 0 b)).width is

        go : (r : Rule) (w : ℕ) (b : List ℕ) → RowOf r → entry es k ≡ record { rule = r; width = w; body = b } →
            Sound es k (record { rule = r; width = w; body = b }) →
            InStep r.sort es w (work_of r.kind es (levels es) L us (record { rule = r; width = w; body = b })).value
            (work_of r.kind es (levels es) M vs (record { rule = r; width = w; body = b })).value
            (meaning_of r.kind es ms (record { rule = r; width = w; body = b }))
        go _ w b is_constant is sound = Related.constant_related w _ (ltb-true _ _ sound.in_range_lem)
        go _ w b is_true is sound = Related.leaf_related true
        go _ w b is_false is sound = Related.leaf_related false
        go _ w b is_absent is sound = tt
        go _ w b is_variable is sound =
            let some = allowed_some w sound.width_allowed in
            rw (us_long, vs_long, ms_long) (Related.variable_related es k w (ap variable_bits is) some.1)
        go _ w b is_bit_not is sound =
            let o = sound_operands es k _ sound in
            Related.bit_not_related (term_at _ w o.below o.suits (one (bare w b) sound.widths_fit_lem))
        go _ w b is_negate is sound =
            let o = sound_operands es k _ sound in
            Related.negate_related le (term_at _ w o.below o.suits (one (bare w b) sound.widths_fit_lem))
        go _ w b is_bit_and is sound = let t = terms (bare w b) (sound_operands es k _ sound) sound.widths_fit_lem in Related.bit_and_related t.0 t.1
        go _ w b is_bit_or is sound = let t = terms (bare w b) (sound_operands es k _ sound) sound.widths_fit_lem in Related.bit_or_related t.0 t.1
        go _ w b is_bit_xor is sound = let t = terms (bare w b) (sound_operands es k _ sound) sound.widths_fit_lem in Related.bit_xor_related t.0 t.1
        go _ w b is_add is sound = let t = terms (bare w b) (sound_operands es k _ sound) sound.widths_fit_lem in Related.add_related t.0 t.1 le
        go _ w b is_multiply is sound = let t = terms (bare w b) (sound_operands es k _ sound) sound.widths_fit_lem in Related.multiply_related t.0 t.1 le
        go _ w b is_shift_left is sound =
            let o = sound_operands es k _ sound in
            Related.shift_left_related (term_at _ w o.below o.suits (one (bare w b) sound.widths_fit_lem)) _
            (shift_le w _ (allowed_some w sound.width_allowed).0)
        go _ w b is_shift_right is sound =
            let o = sound_operands es k _ sound in
            Related.shift_right_related (term_at _ w o.below o.suits (one (bare w b) sound.widths_fit_lem)) _
            (shift_le w _ (allowed_some w sound.width_allowed).0)
        go _ w b is_concat is sound =
            let o = sound_operands es k _ sound in
            rw (eqb-true w (width_of es (bare w b) 0 + width_of es (bare w b) 1) sound.widths_fit_lem)
            (Related.concat_related (term_at _ _ o.below o.suits refl) (term_at _ _ o.rest.below o.rest.suits refl))
        go _ w b is_extract is sound =
            let o = sound_operands es k _ sound in
            let u = upper (bare w b) in
            let l = lower (bare w b) in
            let s = both_true (leb l u) (eqb w (u - l + 1)) sound.widths_fit_lem in
            rw (eqb-true w (u - l + 1) s.1)
            (Related.extract_related (term_at (pair_at 0 b) (width_of es (bare w b) 0) o.below o.suits refl) u l (leb-true l u s.0)
            (ltb-true u (width_of es (bare w b) 0) sound.in_range_lem))
        go _ w b is_zero_extend is sound =
            let o = sound_operands es k _ sound in
            Related.zero_extend_related (term_at _ _ o.below o.suits refl) w (leb-true _ _ sound.widths_fit_lem)
        go _ w b is_sign_extend is sound =
            let o = sound_operands es k _ sound in
            Related.sign_extend_related (term_at _ _ o.below o.suits refl) w (term_wide _ o.below o.suits)
            (leb-true _ _ sound.widths_fit_lem)
        go _ w b is_choose is sound =
            let o = sound_operands es k _ sound in
            let wide = two (bare w b) 1 sound.widths_fit_lem in
            Related.choose_related (term_at _ w o.rest.below o.rest.suits wide.0)
            (term_at _ w o.rest.rest.below o.rest.rest.suits wide.1) (truth_at _ o.below o.suits)
        go _ w b is_equal is sound = let t = alikes (bare w b) (sound_operands es k _ sound) sound.widths_fit_lem in Related.equal_related t.0 t.1
        go _ w b is_unsigned is sound = let t = alikes (bare w b) (sound_operands es k _ sound) sound.widths_fit_lem in Related.unsigned_related t.0 t.1
        go _ w b is_signed is sound =
            let t = alikes (bare w b) (sound_operands es k _ sound) sound.widths_fit_lem in
            let o = sound_operands es k _ sound in
            Related.signed_related t.0 t.1 (term_wide _ o.below o.suits)
        go _ w b is_formula_not is sound = let o = sound_operands es k _ sound in Related.negation_related (truth_at _ o.below o.suits)
        go _ w b is_formula_and is sound =
            let o = sound_operands es k _ sound in
            Related.and_related (truth_at _ o.below o.suits) (truth_at _ o.rest.below o.rest.suits)
        go _ w b is_formula_or is sound =
            let o = sound_operands es k _ sound in
            Related.or_related (truth_at _ o.below o.suits) (truth_at _ o.rest.below o.rest.suits)
        go _ w b is_exists is sound =
            let o = sound_operands es k _ sound in
            rw (bound_wide b o.suits) at
            (Related.quantified_related ◌||◌ some or_monotone (exists_over es) some_same (checked_wide checked) (pair_at 0 b)
            (truth_at (pair_at 2 b) o.rest.below o.rest.suits))
        go _ w b is_forall is sound =
            let o = sound_operands es k _ sound in
            rw (bound_wide b o.suits) at
            (Related.quantified_related ◌&&◌ every and_monotone (forall_over es) every_same (checked_wide checked) (pair_at 0 b)
            (truth_at (pair_at 2 b) o.rest.below o.rest.suits))

-- ---- all entries

-- one more at the end of a list of k: the old ones stay
pub old_at : {A : Type 0} (l : List A) (x d : A) (k i : ℕ) → length l ≡ k → i < k → get_or (l ++ (x ∷ [])) i d ≡ get_or l i d
old_at l x d k i long inside = get_or-append l (x ∷ []) d i (rw long inside)

pub new_at : {A : Type 0} (l : List A) (x d : A) (k : ℕ) → length l ≡ k → get_or (l ++ (x ∷ [])) k d ≡ x
new_at l x d k long = rw (← long) (get_or-append_seam l x [] d)

pub longer : {A : Type 0} (l : List A) (x : A) (k : ℕ) → length l ≡ k → length (l ++ (x ∷ [])) ≡ suc k
longer l x k long = length-append l (x ∷ []) ∙ omega arith

-- what stands first in the rest
pub next_inside : (es rest : List Entry) (e : Entry) (k : ℕ) → drop k es ≡ e ∷ rest → k < length es
next_inside es rest e k is = let h = sym (length-drop k es) ∙ ap length is in omega arith

pub next_is : (es rest : List Entry) (e : Entry) (k : ℕ) → drop k es ≡ e ∷ rest → entry es k ≡ e
next_is es rest e k is = ap (λ (j : ℕ). entry es j) (sym (add-zero k)) ∙ sym (get_or-drop k es 0 no_entry) ∙ ap (λ (l : List Entry). entry l 0) is

pub next_rest : (es rest : List Entry) (e : Entry) (k : ℕ) → drop k es ≡ e ∷ rest → drop (suc k) es ≡ rest
next_rest es rest e k is = ap (λ (j : ℕ). drop j es) (sym (add-one k)) ∙ sym (drop-drop 1 k es) ∙ ap (λ (l : List Entry). drop 1 l) is

-- one entry more is in step
pub so_on : (es : List Entry) (us vs : List Value) (ms : List Meaning) (k : ℕ) → length us ≡ k → length vs ≡ k → length ms ≡ k →
    SoFar es us vs ms k → (u v : Value) (m : Meaning) → InStep (entry es k).rule.sort es (entry es k).width u v m →
    SoFar es (us ++ (u ∷ [])) (vs ++ (v ∷ [])) (ms ++ (m ∷ [])) (suc k)
so_on es us vs ms k us_long vs_long ms_long so_far u v m new i inside = go (ltb i k) refl
  where
    go : (b : Bool) → ltb i k ≡ b →
        InStep (entry es i).rule.sort es (entry es i).width (value_at (us ++ (u ∷ [])) i) (value_at (vs ++ (v ∷ [])) i) (meaning_at (ms ++ (m ∷ [])) i)
    go true e =
        let under = ltb-true i k e in
        rw (old_at us u (row []) k i us_long under, old_at vs v (row []) k i vs_long under, old_at ms m (λ σ. truth false) k i ms_long under)
        (so_far i under)
    go false e =
        let over = ltb-false i k e in
        let same : i ≡ k = omega arith in
        rw (same, new_at us u (row []) k us_long, new_at vs v (row []) k vs_long, new_at ms m (λ σ. truth false) k ms_long) new

module _ (es : List Entry) (checked : Checked es) {L M : ℕ} (le : L ≤ M) where
  abbrev Entries : List Value → List Value → List Meaning → ℕ → Type 0
  Entries us vs ms i = InStep (entry es i).rule.sort es (entry es i).width (value_at us i) (value_at vs i) (meaning_at ms i)

  from_related : (rest : List Entry) (us vs : List Value) (ms : List Meaning) (k : ℕ) → length us ≡ k → length vs ≡ k → length ms ≡ k →
      SoFar es us vs ms k → drop k es ≡ rest → (i : ℕ) → i < length es →
      Entries (run_from es (levels es) L us rest).value (run_from es (levels es) M vs rest).value (meanings_from es ms rest) i
  from_related [] us vs ms k us_long vs_long ms_long so_far is i inside =
      let h = sym (length-drop k es) ∙ ap length is in so_far i (omega arith)
  from_related (e ∷ rest) us vs ms k us_long vs_long ms_long so_far is i within =
      let inside = next_inside es rest e k is in
      let here = next_is es rest e k is in
      let u = (work_of e.rule.kind es (levels es) L us e).value in
      let v = (work_of e.rule.kind es (levels es) M vs e).value in
      let m = meaning_of e.rule.kind es ms e in
      from_related rest (us ++ (u ∷ [])) (vs ++ (v ∷ [])) (ms ++ (m ∷ [])) (suc k) (longer us u k us_long) (longer vs v k vs_long)
      (longer ms m k ms_long)
      (so_on es us vs ms k us_long vs_long ms_long so_far u v m
      (rw here (work_related es checked le us vs ms k us_long vs_long ms_long so_far inside e here (subst (Sound es k) here (checked.sound k inside)))))
      (next_rest es rest e k is) i within

  -- every entry of a checked sheet
  pub run_related : (i : ℕ) → i < length es → Entries (run es L).value (run es M).value (meanings es) i
  unfolding run meanings
  run_related = from_related es [] [] [] 0 refl refl refl (λ i none. absurd (not-suc-le-zero none)) refl
