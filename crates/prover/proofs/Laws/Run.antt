-- The run entry by entry: the values and steps of the first i entries.
--
--   values_to, steps_to  what the first i entries give
--   values_wide          a term's row is as long as its entry is wide
use Prim.Native.Nat.{ℕ, ◌+◌, ◌≤◌, ◌<◌}
use native.Mathlib.Omega.{arith}
use native.Mathlib.Nat.{le_refl}
use native.Mathlib.Numerals.{add-one}
use mathlib.Core.Path.{◌≡◌, refl, sym, ap, ◌∙◌}
use mathlib.Core.List.{List, [], ◌∷◌, ◌++◌, append_assoc, append-nil}
use lib.ListN.{length, take, drop, length-append, length-take, take-append-drop, get_or-append}
use lib.Seq.{take-suc, take_all}
use Rattle.meaning.specs.Kind.{Sort}
use Rattle.meaning.specs.Sheet.{Entry, entry, no_entry}
use Rattle.meaning.specs.Level.{levels}
use Rattle.meaning.specs.Diagram.{Tree}
use Rattle.meaning.specs.Meaning.{Meaning, meanings, meaning_at}
use Rattle.meaning.specs.Table.{Table, enter_all}
use Rattle.meaning.specs.Run.{Value, row, row_of, value_at, work_of, run_from, run}
use Rattle.meaning.proofs.Laws.Checked.{Checked}
use Rattle.meaning.proofs.Laws.Related.{low_length}
use Rattle.meaning.proofs.Laws.Table.{enter_all_append, enter_all_grows}
use Rattle.meaning.proofs.Laws.Run.{InStep, run_related}

-- ---- some entries, then some more

module _ (es : List Entry) (n L : ℕ) where
  from_values : (before : List Value) (xs ys : List Entry)
      → (run_from es n L before (xs ++ ys)).value ≡ (run_from es n L (run_from es n L before xs).value ys).value
  from_values before [] ys = refl
  from_values before (e ∷ xs) ys =
      from_values (before ++ ((work_of e.rule.kind es n L before e).value ∷ [])) xs ys

  from_steps : (before : List Value) (xs ys : List Entry)
      → (run_from es n L before (xs ++ ys)).steps
      ≡ (run_from es n L before xs).steps ++ (run_from es n L (run_from es n L before xs).value ys).steps
  from_steps before [] ys = refl
  from_steps before (e ∷ xs) ys =
      let own = work_of e.rule.kind es n L before e in
      let after = before ++ (own.value ∷ []) in
      ap (λ (l : List Tree). own.steps ++ l) (from_steps after xs ys)
      ∙ sym (append_assoc own.steps (run_from es n L after xs).steps _)

  from_length : (before : List Value) (xs : List Entry)
      → length (run_from es n L before xs).value ≡ length before + length xs
  from_length before [] = omega arith
  from_length before (e ∷ xs) =
      let own : Value = (work_of e.rule.kind es n L before e).value in
      from_length (before ++ (own ∷ [])) xs ∙ omega (arith, length-append before (own ∷ []))

  -- a value stays as it is
  from_keeps : (before : List Value) (xs : List Entry) (j : ℕ) → j < length before
      → value_at (run_from es n L before xs).value j ≡ value_at before j
  from_keeps before [] j below = refl
  from_keeps before (e ∷ xs) j below =
      let own : Value = (work_of e.rule.kind es n L before e).value in
      from_keeps (before ++ (own ∷ [])) xs j (omega (arith, length-append before (own ∷ [])))
      ∙ get_or-append before (own ∷ []) (row []) j below

-- ---- the first i entries

unfoldable pub values_to : List Entry → ℕ → ℕ → List Value
values_to es L i = (run_from es (levels es) L [] (take i es)).value

unfoldable pub steps_to : List Entry → ℕ → ℕ → List Tree
steps_to es L i = (run_from es (levels es) L [] (take i es)).steps

module _ (es : List Entry) (L : ℕ) where
  pub steps_none : steps_to es L 0 ≡ []
  unfolding steps_to
  steps_none = refl

  pub values_length : (i : ℕ) → i ≤ length es → length (values_to es L i) ≡ i
  unfolding values_to
  values_length i within =
      from_length es (levels es) L [] (take i es) ∙ omega (arith, length-take i es)

  -- one entry more
  take_more : (i : ℕ) (e : Entry) → i < length es → entry es i ≡ e → take (i + 1) es ≡ take i es ++ (e ∷ [])
  take_more i e inside is =
      ap (λ (k : ℕ). take k es) (add-one i) ∙ take-suc es i no_entry inside ∙ ap (λ (x : Entry). take i es ++
      (x ∷ [])) is

  pub values_next : (i : ℕ) (e : Entry) → i < length es → entry es i ≡ e
      → values_to es L (i + 1)
      ≡ values_to es L i ++ ((work_of e.rule.kind es (levels es) L (values_to es L i) e).value ∷ [])
  unfolding values_to
  values_next i e inside is =
      ap (λ (xs : List Entry). (run_from es (levels es) L [] xs).value) (take_more i e inside is)
      ∙ from_values es (levels es) L [] (take i es) (e ∷ [])

  pub steps_next : (i : ℕ) (e : Entry) → i < length es → entry es i ≡ e
      → steps_to es L (i + 1)
      ≡ steps_to es L i ++ (work_of e.rule.kind es (levels es) L (values_to es L i) e).steps
  unfolding values_to steps_to
  steps_next i e inside is =
      ap (λ (xs : List Entry). (run_from es (levels es) L [] xs).steps) (take_more i e inside is)
      ∙ from_steps es (levels es) L [] (take i es) (e ∷ [])
      ∙ ap (λ (l : List Tree). (run_from es (levels es) L [] (take i es)).steps ++ l)
      (append-nil (work_of e.rule.kind es (levels es) L (run_from es (levels es) L [] (take i es)).value e).steps)

  -- all of them
  pub values_all : (i : ℕ) → length es ≤ i → values_to es L i ≡ (run es L).value
  unfolding values_to run
  values_all i all = ap (λ (xs : List Entry). (run_from es (levels es) L [] xs).value) (take_all i es all)

  pub steps_all : (i : ℕ) → length es ≤ i → steps_to es L i ≡ (run es L).steps
  unfolding steps_to run
  steps_all i all = ap (λ (xs : List Entry). (run_from es (levels es) L [] xs).steps) (take_all i es all)

  -- the whole run enters no fewer nodes
  pub steps_grow : (i : ℕ) (T : Table)
      → length (enter_all (steps_to es L i) T) ≤ length (enter_all (run es L).steps T)
  unfolding steps_to run
  steps_grow i T =
      let n = levels es in
      let early = run_from es n L [] (take i es) in
      let late = run_from es n L early.value (drop i es) in
      let whole : (run es L).steps ≡ early.steps ++ late.steps =
      ap (λ (xs : List Entry). (run_from es n L [] xs).steps) (sym (take-append-drop i es))
      ∙ from_steps es n L [] (take i es) (drop i es) in
      rw (whole, enter_all_append early.steps late.steps T) (enter_all_grows late.steps (enter_all early.steps T))

  -- the whole run has the same values
  pub values_run : (i j : ℕ) → i ≤ length es → j < i → value_at (run es L).value j ≡ value_at (values_to es L i) j
  unfolding values_to run
  values_run i j within below =
      let n = levels es in
      let before = (run_from es n L [] (take i es)).value in
      let long = from_length es n L [] (take i es) in
      ap (λ (xs : List Entry). value_at (run_from es n L [] xs).value j) (sym (take-append-drop i es))
      ∙ ap (λ (vs : List Value). value_at vs j) (from_values es n L [] (take i es) (drop i es))
      ∙ from_keeps es n L before (drop i es) j (omega (arith, length-take i es))

-- ---- widths

-- a term's row is w long
abbrev pub Wide : Sort → ℕ → Value → Type 0
Wide Sort.variable w v = length (row_of v) ≡ w
Wide Sort.term w v = length (row_of v) ≡ w
Wide Sort.formula w v = Unit {0}
Wide Sort.neither w v = Unit {0}

step_wide : (sort : Sort) (es : List Entry) (w : ℕ) (v : Value) (m : Meaning) → InStep sort es w v v m → Wide sort w v
step_wide Sort.variable es w v m h = low_length h
step_wide Sort.term es w v m h = low_length h
step_wide Sort.formula es w v m h = tt
step_wide Sort.neither es w v m h = tt

pub values_wide : (es : List Entry) (L i j : ℕ) → Checked es → i ≤ length es → j < i
    → Wide (entry es j).rule.sort (entry es j).width (value_at (values_to es L i) j)
values_wide es L i j checked within below =
    rw (values_run es L i j within below) at
    (step_wide (entry es j).rule.sort es (entry es j).width (value_at (run es L).value j) (meaning_at (meanings es) j)
    (run_related es checked (le_refl L) j (omega arith)))
