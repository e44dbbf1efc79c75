-- With a limit not below the table's length nothing is cut: every bit of every term is known, and must is may.
--
-- Main result: run_exact.
use Prim.Native.Nat.{ℕ, suc, ◌≤◌, ◌<◌}
use native.Mathlib.Omega.{arith}
use native.Mathlib.Nat.{le_refl, not-suc-le-zero}
use mathlib.Core.Path.{◌≡◌, refl, sym, ap, subst, ◌∙◌}
use mathlib.Core.Bool.{Bool, true, false, ◌&&◌, ◌||◌, false≢true}
use mathlib.Core.List.{List, [], ◌∷◌, ◌++◌}
use lib.Dec.{ltb}
use lib.ListN.{length, get_or, drop, length-drop}
use borrow.Author.Tests.{ltb-true, ltb-false}
use Rattle.meaning.specs.Number.{little, up_to}
use Rattle.meaning.specs.Kind.{Sort, Rule, a_term, a_formula}
use Rattle.meaning.specs.Sheet.{Entry, entry, pair_at}
use Rattle.meaning.specs.Level.{levels}
use Rattle.meaning.specs.Check.{suits}
use Rattle.meaning.specs.BitVector.{shift_by}
use Rattle.meaning.specs.Diagram.{Tree}
use Rattle.meaning.specs.Table.{Table}
use Rattle.meaning.specs.Step.{is_and, is_or}
use Rattle.meaning.specs.Row
use Rattle.meaning.specs.Formula.{sure}
use Rattle.meaning.specs.Meaning.{Meaning, meaning_of}
use Rattle.meaning.specs.Run.{Value, row, row_of, pair_of, value_at, variable, variable_from, variable_bit, work_of, run_from, run}
use Rattle.meaning.proofs.Laws.Table.{Single, There}
use Rattle.meaning.proofs.Laws.Checked.{Sound, Checked, RowOf, is_variable, is_constant, is_bit_not, is_negate, is_bit_and, is_bit_or, is_bit_xor, is_add, is_multiply, is_shift_left, is_shift_right, is_concat, is_extract, is_zero_extend, is_sign_extend, is_choose, is_true, is_false, is_equal, is_unsigned, is_signed, is_formula_not, is_formula_and, is_formula_or, is_exists, is_forall, is_absent}
use Rattle.meaning.proofs.Laws.Checked.{sound_row, sound_operands}
use Rattle.meaning.proofs.Laws.Row as Rows
use Rattle.meaning.proofs.Laws.Bitwise as Bitwise
use Rattle.meaning.proofs.Laws.Choose as Choose
use Rattle.meaning.proofs.Laws.Formula as Formulas
use Rattle.meaning.proofs.Laws.Order as Order
use Rattle.meaning.proofs.Laws.Uncut as Uncut
use Rattle.meaning.proofs.Laws.Related.{low_length}
use Rattle.meaning.proofs.Laws.Run.{SoFar, term_at, term_wide, work_related, so_on, next_inside, next_is, next_rest, longer, old_at, new_at}

-- every bit is known; must is may
abbrev pub Exact : Sort → Value → Type 0
Exact Sort.variable v = sure (row_of v) ≡ true
Exact Sort.term v = sure (row_of v) ≡ true
Exact Sort.formula v = (pair_of v).must ≡ (pair_of v).may
Exact Sort.neither v = Unit {0}

exact_term : (sort : Sort) (v : Value) → suits a_term sort ≡ true → Exact sort v → sure (row_of v) ≡ true
exact_term Sort.variable v is h = h
exact_term Sort.term v is h = h
exact_term Sort.formula v is h = absurd (false≢true is)
exact_term Sort.neither v is h = absurd (false≢true is)

pub exact_truth : (sort : Sort) (v : Value) → suits a_formula sort ≡ true → Exact sort v → (pair_of v).must ≡ (pair_of v).may
exact_truth Sort.variable v is h = absurd (false≢true is)
exact_truth Sort.term v is h = absurd (false≢true is)
exact_truth Sort.formula v is h = h
exact_truth Sort.neither v is h = absurd (false≢true is)

variable_sure : (ts : List Tree) → sure (variable_from ts).value ≡ true
variable_sure [] = refl
variable_sure (t ∷ ts) = variable_sure ts

-- the first k entries are exact
abbrev ExactSoFar : List Entry → List Value → ℕ → Type 0
ExactSoFar es vs k = (i : ℕ) → i < k → Exact (entry es i).rule.sort (value_at vs i)

module _ (es : List Entry) (checked : Checked es) (L : ℕ) (s : Table) (single : Single s) (short : length s ≤ L) where
  -- one entry whose steps are all in s
  module _ (vs : List Value) (ms : List Meaning) (k : ℕ) (vs_long : length vs ≡ k) (ms_long : length ms ≡ k)
      (so_far : SoFar es vs vs ms k) (inside : k < length es) (exact : ExactSoFar es vs k)
    where
      sure_at : (o : ℕ) → o < k → suits a_term (entry es o).rule.sort ≡ true → sure (row_of (value_at vs o)) ≡ true
      sure_at o below is = exact_term (entry es o).rule.sort (value_at vs o) is (exact o below)

      same_at : (o : ℕ) → o < k → suits a_formula (entry es o).rule.sort ≡ true → (pair_of (value_at vs o)).must ≡ (pair_of (value_at vs o)).may
      same_at o below is = exact_truth (entry es o).rule.sort (value_at vs o) is (exact o below)

      wide_at : (o : ℕ) → o < k → suits a_term (entry es o).rule.sort ≡ true → 1 ≤ length (row_of (value_at vs o))
      wide_at o below is =
          let long = low_length (term_at es checked (le_refl L) vs vs ms k vs_long vs_long ms_long so_far inside o (entry es o).width below is refl) in
          rw long (term_wide es checked (le_refl L) vs vs ms k vs_long vs_long ms_long so_far inside o below is)

      -- the row of the operand at this place of a body
      abbrev operand_row : List ℕ → ℕ → Row.Row
      operand_row b at = row_of (value_at vs (pair_at at b))

      work_exact : (e : Entry) → Sound es k e → There s (work_of e.rule.kind es (levels es) L vs e).steps →
          Exact e.rule.sort (work_of e.rule.kind es (levels es) L vs e).value
      unfolding work_of variable
      work_exact e sound there = go e.rule e.width e.body (sound_row es k e sound) sound there
        where
          go : (r : Rule) (w : ℕ) (b : List ℕ) → RowOf r → Sound es k (record { rule = r; width = w; body = b }) →
              There s (work_of r.kind es (levels es) L vs (record { rule = r; width = w; body = b })).steps →
              Exact r.sort (work_of r.kind es (levels es) L vs (record { rule = r; width = w; body = b })).value
          go _ w b is_variable sound there = variable_sure (up_to (variable_bit es (length vs)) w)
          go _ w b is_constant sound there = Rows.constant_sure w (little b)
          go _ w b is_bit_not sound there =
              let o = sound_operands es k _ sound in Bitwise.bit_not_sure (levels es) _ (sure_at _ o.below o.suits)
          go _ w b is_negate sound there =
              let o = sound_operands es k _ sound in
              Uncut.negate_sure (levels es) L s single short (operand_row b 0)
              (Uncut.there_left s (Row.negate (levels es) L (operand_row b 0)).steps [] there) (sure_at _ o.below o.suits)
          go _ w b is_bit_and sound there =
              let o = sound_operands es k _ sound in
              Bitwise.bit_and_sure (levels es) _ _ (sure_at _ o.below o.suits) (sure_at _ o.rest.below o.rest.suits)
          go _ w b is_bit_or sound there =
              let o = sound_operands es k _ sound in
              Bitwise.bit_or_sure (levels es) _ _ (sure_at _ o.below o.suits) (sure_at _ o.rest.below o.rest.suits)
          go _ w b is_bit_xor sound there =
              let o = sound_operands es k _ sound in
              Bitwise.bit_xor_sure (levels es) _ _ (sure_at _ o.below o.suits) (sure_at _ o.rest.below o.rest.suits)
          go _ w b is_add sound there =
              let o = sound_operands es k _ sound in
              Uncut.add_sure (levels es) L s single short (operand_row b 0) (operand_row b 2)
              (Uncut.there_left s (Row.add (levels es) L (operand_row b 0) (operand_row b 2)).steps [] there) (sure_at _ o.below o.suits)
              (sure_at _ o.rest.below o.rest.suits)
          go _ w b is_multiply sound there =
              let o = sound_operands es k _ sound in
              Uncut.multiply_sure (levels es) L s single short (operand_row b 0) (operand_row b 2)
              (Uncut.there_left s (Row.multiply (levels es) L (operand_row b 0) (operand_row b 2)).steps [] there) (sure_at _ o.below o.suits)
              (sure_at _ o.rest.below o.rest.suits)
          go _ w b is_shift_left sound there =
              let o = sound_operands es k _ sound in Rows.shift_left_sure (shift_by w (get_or b 2 0)) (operand_row b 0) (sure_at (pair_at 0 b) o.below o.suits)
          go _ w b is_shift_right sound there =
              let o = sound_operands es k _ sound in Rows.shift_right_sure (shift_by w (get_or b 2 0)) (operand_row b 0) (sure_at (pair_at 0 b) o.below o.suits)
          go _ w b is_concat sound there =
              let o = sound_operands es k _ sound in
              Rows.append_sure (operand_row b 2) (operand_row b 0) (sure_at _ o.rest.below o.rest.suits) (sure_at _ o.below o.suits)
          go _ w b is_extract sound there =
              let o = sound_operands es k _ sound in Rows.extract_sure (get_or b 2 0) (get_or b 3 0) (operand_row b 0) (sure_at (pair_at 0 b) o.below o.suits)
          go _ w b is_zero_extend sound there =
              let o = sound_operands es k _ sound in Rows.zero_extend_sure w (operand_row b 0) (sure_at (pair_at 0 b) o.below o.suits)
          go _ w b is_sign_extend sound there =
              let o = sound_operands es k _ sound in
              Rows.sign_extend_sure w (operand_row b 0) (wide_at (pair_at 0 b) o.below o.suits) (sure_at (pair_at 0 b) o.below o.suits)
          go _ w b is_choose sound there =
              let o = sound_operands es k _ sound in
              Choose.choose_sure (levels es) _ _ (same_at _ o.below o.suits) _ _ (sure_at _ o.rest.below o.rest.suits)
              (sure_at _ o.rest.rest.below o.rest.rest.suits)
          go _ w b is_true sound there = refl
          go _ w b is_false sound there = refl
          go _ w b is_equal sound there =
              let o = sound_operands es k _ sound in
              Formulas.equal_exact (levels es) _ _ (sure_at _ o.below o.suits) (sure_at _ o.rest.below o.rest.suits)
          go _ w b is_unsigned sound there =
              let o = sound_operands es k _ sound in
              Order.at_most_exact (levels es) false _ _ (sure_at _ o.below o.suits) (sure_at _ o.rest.below o.rest.suits)
          go _ w b is_signed sound there =
              let o = sound_operands es k _ sound in
              Order.at_most_exact (levels es) true _ _ (sure_at _ o.below o.suits) (sure_at _ o.rest.below o.rest.suits)
          go _ w b is_formula_not sound there =
              let o = sound_operands es k _ sound in Formulas.negation_exact (levels es) _ (same_at _ o.below o.suits)
          go _ w b is_formula_and sound there =
              let o = sound_operands es k _ sound in
              Formulas.both_exact (levels es) is_and _ _ (same_at _ o.below o.suits) (same_at _ o.rest.below o.rest.suits)
          go _ w b is_formula_or sound there =
              let o = sound_operands es k _ sound in
              Formulas.both_exact (levels es) is_or _ _ (same_at _ o.below o.suits) (same_at _ o.rest.below o.rest.suits)
          go _ w b is_exists sound there =
              let o = sound_operands es k _ sound in
              Formulas.quantified_exact (levels es) ◌||◌ _ _ (same_at _ o.rest.below o.rest.suits)
          go _ w b is_forall sound there =
              let o = sound_operands es k _ sound in
              Formulas.quantified_exact (levels es) ◌&&◌ _ _ (same_at _ o.rest.below o.rest.suits)
          go _ w b is_absent sound there = tt

  exact_on : (vs : List Value) (k : ℕ) → length vs ≡ k → ExactSoFar es vs k → (v : Value) → Exact (entry es k).rule.sort v →
      ExactSoFar es (vs ++ (v ∷ [])) (suc k)
  exact_on vs k long exact v new i inside = go (ltb i k) refl
    where
      go : (b : Bool) → ltb i k ≡ b → Exact (entry es i).rule.sort (value_at (vs ++ (v ∷ [])) i)
      go true e = let under = ltb-true i k e in rw (old_at vs v (row []) k i long under) (exact i under)
      go false e = let over = ltb-false i k e in let same : i ≡ k = omega arith in rw (same, new_at vs v (row []) k long) new

  from_exact : (rest : List Entry) (vs : List Value) (ms : List Meaning) (k : ℕ) → length vs ≡ k → length ms ≡ k → SoFar es vs vs ms k →
      ExactSoFar es vs k → drop k es ≡ rest → There s (run_from es (levels es) L vs rest).steps → (i : ℕ) → i < length es →
      Exact (entry es i).rule.sort (value_at (run_from es (levels es) L vs rest).value i)
  from_exact [] vs ms k vs_long ms_long so_far exact is there i within =
      let h = sym (length-drop k es) ∙ ap length is in exact i (omega arith)
  from_exact (e ∷ rest) vs ms k vs_long ms_long so_far exact is there i within =
      let inside = next_inside es rest e k is in
      let here = next_is es rest e k is in
      let sound = subst (Sound es k) here (checked.sound k inside) in
      let v = (work_of e.rule.kind es (levels es) L vs e).value in
      let m = meaning_of e.rule.kind es ms e in
      let mine = Uncut.there_left s (work_of e.rule.kind es (levels es) L vs e).steps
      (run_from es (levels es) L (vs ++ (v ∷ [])) rest).steps there in
      let others = Uncut.there_right s (work_of e.rule.kind es (levels es) L vs e).steps
      (run_from es (levels es) L (vs ++ (v ∷ [])) rest).steps there in
      from_exact rest (vs ++ (v ∷ [])) (ms ++ (m ∷ [])) (suc k) (longer vs v k vs_long) (longer ms m k ms_long)
      (so_on es vs vs ms k vs_long vs_long ms_long so_far v v m
      (rw here (work_related es checked (le_refl L) vs vs ms k vs_long vs_long ms_long so_far inside e here sound)))
      (exact_on vs k vs_long exact v (rw here (work_exact vs ms k vs_long ms_long so_far inside exact e sound mine)))
      (next_rest es rest e k is) others i within

  -- every entry of a checked sheet, where s holds all the run's diagrams
  pub run_exact : There s (run es L).steps → (i : ℕ) → i < length es → Exact (entry es i).rule.sort (value_at (run es L).value i)
  unfolding run
  run_exact = from_exact es [] [] 0 refl refl (λ i none. absurd (not-suc-le-zero none)) (λ i none. absurd (not-suc-le-zero none)) refl
