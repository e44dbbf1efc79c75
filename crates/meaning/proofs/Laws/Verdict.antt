-- What an answer's diagrams and verdict say of the sheet's formula: the parts of the user's third demand, proved.
use Prim.Native.Nat.{ℕ, ◌≤◌}
use native.Mathlib.Omega.{arith}
use native.Mathlib.Nat.{le_refl}
use mathlib.Core.Path.{◌≡◌, refl, sym, ap, subst, ◌∙◌}
use mathlib.Core.Bool.{Bool, true, false, false≢true}
use mathlib.Core.List.{List, []}
use lib.Dec.{eqb}
use borrow.Author.Tests.{eqb-true, ne_eqb}
use Rattle.meaning.specs.Sheet.{entries}
use Rattle.meaning.specs.Level.{levels, value_of}
use Rattle.meaning.specs.Diagram.{Tree, leaf, Assignment, holds, same}
use Rattle.meaning.specs.Meaning.{Satisfiable, formula}
use Rattle.meaning.specs.Solve.{solve, after, slots, verdict_of}
use Rattle.meaning.proofs.Laws.Shape.{Good}
use Rattle.meaning.proofs.Laws.Diagram.{somewhere, nowhere, same_eq}
use Rattle.meaning.proofs.Laws.Formula.{encloses_good}
use Rattle.meaning.proofs.Laws.Table.{Is, is_number}
use Rattle.meaning.proofs.Laws.Checked.{Checked, check_checked, checked_wide}
use Rattle.meaning.proofs.Laws.Reached.{values_reached, within}
use Rattle.meaning.proofs.Laws.Related.{TruthRelated}
use Rattle.meaning.proofs.Laws.Solve.{tree_in, pair_at, nodes_at, Answer, solve_answer, answer_must, answer_may, answer_verdict, must_number, may_number, is_zero, pairs_related, pair_exact, nodes_single, witness_given}
use Rattle.meaning.proofs.Laws.Witness.{witnessed, witness_holds}

-- a Boolean that isn't true
no_true : {b : Bool} → (b ≡ true → ⊥) → b ≡ false
no_true {b = true} h = absurd (h refl)
no_true {b = false} h = refl

-- the diagrams of an answer are those of the run
module _ (s : List ℕ) (L table work : ℕ) (none : (solve s L table work).number ≡ 0) where
  answer : Answer s L table work
  answer = solve_answer s L table work none

  pub checked : Checked (entries s)
  checked = check_checked s answer.passed

  must_is : (ρ : Assignment) → holds (tree_in (solve s L table work) (solve s L table work).must) ρ ≡ holds (pair_at s L).must ρ
  must_is ρ = ap (λ (t : Tree). holds t ρ) (answer_must s L table work answer)

  may_is : (ρ : Assignment) → holds (tree_in (solve s L table work) (solve s L table work).may) ρ ≡ holds (pair_at s L).may ρ
  may_is ρ = ap (λ (t : Tree). holds t ρ) (answer_may s L table work answer)

  pub must_formula : (ρ : Assignment) → holds (tree_in (solve s L table work) (solve s L table work).must) ρ ≡ true →
      formula (entries s) (value_of (entries s) ρ) ≡ true
  must_formula ρ h = ((pairs_related s (le_refl L) checked).encloses ρ).must (sym (must_is ρ) ∙ h)

  pub formula_may : (ρ : Assignment) → formula (entries s) (value_of (entries s) ρ) ≡ true →
      holds (tree_in (solve s L table work) (solve s L table work).may) ρ ≡ true
  formula_may ρ h = may_is ρ ∙ ((pairs_related s (le_refl L) checked).encloses ρ).may h

  -- ---- verdicts

  -- sat: must isn't false
  sat_must : (solve s L table work).verdict ≡ 1 → (solve s L table work).must ≡ 0 → ⊥
  sat_must sat zero_number = go (eqb (solve s L table work).may 0) refl
    where
      verdict : verdict_of 0 (solve s L table work).may ≡ 1
      verdict = ap (λ (m : ℕ). verdict_of m (solve s L table work).may) (sym zero_number) ∙ sym (answer_verdict s L table work answer) ∙ sat

      go : (b : Bool) → eqb (solve s L table work).may 0 ≡ b → ⊥
      go true e = let wrong : ◌≡◌ {A = ℕ} 2 1 = rw e at verdict in omega arith
      go false e = let wrong : ◌≡◌ {A = ℕ} 3 1 = rw e at verdict in omega arith

  must_sat : ((solve s L table work).must ≡ 0 → ⊥) → (solve s L table work).verdict ≡ 1
  must_sat some = answer_verdict s L table work answer ∙ rw (ne_eqb (solve s L table work).must 0 some)

  -- unsat: may is false
  unsat_may : (solve s L table work).verdict ≡ 2 → (solve s L table work).may ≡ 0
  unsat_may unsat = go (eqb (solve s L table work).must 0) (eqb (solve s L table work).may 0) refl refl
    where
      verdict : verdict_of (solve s L table work).must (solve s L table work).may ≡ 2
      verdict = sym (answer_verdict s L table work answer) ∙ unsat

      go : (b c : Bool) → eqb (solve s L table work).must 0 ≡ b → eqb (solve s L table work).may 0 ≡ c → (solve s L table work).may ≡ 0
      go b true e f = eqb-true (solve s L table work).may 0 f
      go true false e f = let wrong : ◌≡◌ {A = ℕ} 3 2 = rw (e, f) at verdict in absurd (omega arith)
      go false false e f = let wrong : ◌≡◌ {A = ℕ} 1 2 = rw e at verdict in absurd (omega arith)

  -- the diagrams behind them
  must_good : Good (levels (entries s)) (pair_at s L).must
  must_good = (encloses_good ((pairs_related s (le_refl L) checked).encloses (λ l. false))).must

  may_good : Good (levels (entries s)) (pair_at s L).may
  may_good = (encloses_good ((pairs_related s (le_refl L) checked).encloses (λ l. false))).may

  -- a diagram whose number isn't 0 is true somewhere
  must_somewhere : ((solve s L table work).must ≡ 0 → ⊥) → (ρ : Assignment) × (holds (pair_at s L).must ρ ≡ true)
  must_somewhere some = somewhere (levels (entries s)) (pair_at s L).must must_good (go (same (pair_at s L).must (leaf false)) refl)
    where
      go : (b : Bool) → same (pair_at s L).must (leaf false) ≡ b → b ≡ false
      go true e = absurd (some (subst (λ (t : Tree). Is (nodes_at s L) (solve s L table work).must t)
          (same_eq (pair_at s L).must (leaf false) e) (must_number s L table work answer)))
      go false e = refl

  pub sat_true : (solve s L table work).verdict ≡ 1 → Satisfiable (entries s)
  sat_true sat =
      let there = must_somewhere (sat_must sat) in
      record {
        values = value_of (entries s) there.0;
        within = within (entries s) there.0;
        true_there = ((pairs_related s (le_refl L) checked).encloses there.0).must there.1;
      }

  pub unsat_true : (solve s L table work).verdict ≡ 2 → Satisfiable (entries s) → ⊥
  unsat_true unsat some =
      let reached = values_reached (entries s) some.values (checked_wide checked) some.within in
      let true_there : formula (entries s) (value_of (entries s) reached.0) ≡ true = rw reached.1 some.true_there in
      let may = ((pairs_related s (le_refl L) checked).encloses reached.0).may true_there in
      let false_tree = is_zero (pair_at s L).may _ (solve s L table work).may (may_number s L table work answer) (unsat_may unsat) in
      false≢true (sym (ap (λ (t : Tree). holds t reached.0) false_tree) ∙ may)

  -- ---- the witness of must

  pub sat_witness : (solve s L table work).verdict ≡ 1 →
      formula (entries s) (value_of (entries s) (witnessed (after (solve s L table work).table []) (solve s L table work).used
      (solve s L table work).must)) ≡ true
  sat_witness sat =
      let t = after (solve s L table work).table [] in
      let given = witness_given s L table work answer (sat_must sat) in
      must_formula (witnessed t (solve s L table work).used (solve s L table work).must)
      (witness_holds t (solve s L table work).used (solve s L table work).must given)

  -- ---- nothing is cut

  pub must_is_may : slots table ≤ L → (solve s L table work).must ≡ (solve s L table work).may
  must_is_may enough =
      let room = answer.room in
      let same_tree = pair_exact s L checked (omega arith) in
      is_number (pair_at s L).must (nodes_at s L) (solve s L table work).must (solve s L table work).may (nodes_single s L)
      (must_number s L table work answer)
      (subst (λ (t : Tree). Is (nodes_at s L) (solve s L table work).may t) (sym same_tree) (may_number s L table work answer))

  pub never_unknown : slots table ≤ L → (solve s L table work).verdict ≡ 3 → ⊥
  never_unknown enough unknown = go (eqb (solve s L table work).may 0) refl
    where
      verdict : verdict_of (solve s L table work).may (solve s L table work).may ≡ 3
      verdict =
          ap (λ (m : ℕ). verdict_of m (solve s L table work).may) (sym (must_is_may enough)) ∙ sym (answer_verdict s L table work answer) ∙ unknown

      go : (b : Bool) → eqb (solve s L table work).may 0 ≡ b → ⊥
      go true e = let wrong : ◌≡◌ {A = ℕ} 2 3 = rw e at verdict in omega arith
      go false e = let wrong : ◌≡◌ {A = ℕ} 1 3 = rw e at verdict in omega arith

-- ---- two limits

module _ (s : List ℕ) {L M : ℕ} (le : L ≤ M) (table work table' work' : ℕ)
    (first : (solve s L table work).number ≡ 0) (second : (solve s M table' work').number ≡ 0)
  where
    related : TruthRelated (levels (entries s)) (entries s) (pair_at s L) (pair_at s M) (formula (entries s))
    related = pairs_related s le (checked s L table work first)

    pub must_stays : (ρ : Assignment) → holds (tree_in (solve s L table work) (solve s L table work).must) ρ ≡ true →
        holds (tree_in (solve s M table' work') (solve s M table' work').must) ρ ≡ true
    must_stays ρ h = must_is s M table' work' second ρ ∙ related.wider.must ρ (sym (must_is s L table work first ρ) ∙ h)

    pub may_stays : (ρ : Assignment) → holds (tree_in (solve s M table' work') (solve s M table' work').may) ρ ≡ true →
        holds (tree_in (solve s L table work) (solve s L table work).may) ρ ≡ true
    may_stays ρ h = may_is s L table work first ρ ∙ related.wider.may ρ (sym (may_is s M table' work' second ρ) ∙ h)

    -- must is true somewhere at the first limit, and so at the second
    pub sat_stands : (solve s L table work).verdict ≡ 1 → (solve s M table' work').verdict ≡ 1
    sat_stands sat = must_sat s M table' work' second
        (λ zero_number.
        let there = must_somewhere s L table work first (sat_must s L table work first sat) in
        let high = related.wider.must there.0 there.1 in
        let false_tree = is_zero (pair_at s M).must (nodes_at s M) (solve s M table' work').must
        (must_number s M table' work' (answer s M table' work' second)) zero_number in
        false≢true (sym (ap (λ (t : Tree). holds t there.0) false_tree) ∙ high))

    -- may is true nowhere at the first limit, and so nowhere at the second; then must is false there too
    pub unsat_stands : (solve s L table work).verdict ≡ 2 → (solve s M table' work').verdict ≡ 2
    unsat_stands unsat =
        let low = is_zero (pair_at s L).may (nodes_at s L) (solve s L table work).may
        (may_number s L table work (answer s L table work first)) (unsat_may s L table work first unsat) in
        let never : (ρ : Assignment) → holds (pair_at s M).may ρ ≡ true → ⊥ =
        λ ρ h. false≢true (sym (ap (λ (t : Tree). holds t ρ) low) ∙ related.wider.may ρ h) in
        let may_false = nowhere (levels (entries s)) (pair_at s M).may (may_good s M table' work' second) (λ ρ. no_true (never ρ)) in
        let must_false = nowhere (levels (entries s)) (pair_at s M).must (must_good s M table' work' second)
        (λ ρ. no_true (λ h. never ρ ((related.encloses ρ).may ((related.encloses ρ).must h)))) in
        let a = answer s M table' work' second in
        answer_verdict s M table' work' a ∙ cc (
          subst (λ (t : Tree). Is (nodes_at s M) (solve s M table' work').must t) must_false (must_number s M table' work' a),
          subst (λ (t : Tree). Is (nodes_at s M) (solve s M table' work').may t) may_false (may_number s M table' work' a),
        )
