-- The user's third demand, over what solve itself gives back: its numbers, and the diagrams that they have in the table it leaves.
--
-- Take one sheet and two limits, the second not below the first, both answered and not refused. For every assignment of the
-- variables: must at the first implies must at the second, which implies the formula, which implies may at the second, which
-- implies may at the first. So sat and unsat are true of the formula and stand at the higher limit. When the limit is at least the
-- number of slots, must equals may and unknown is never given.
use Prim.Native.Nat.{ℕ, ◌≤◌}
use mathlib.Core.Path.{◌≡◌, sym, ◌∙◌}
use mathlib.Core.Bool.{true}
use mathlib.Core.List.{List, []}
use Rattle.meaning.specs.Sheet.{entries}
use Rattle.meaning.specs.Level.{value_of}
use Rattle.meaning.specs.Diagram.{Assignment, holds}
use Rattle.meaning.specs.Meaning.{Satisfiable, formula}
use Rattle.meaning.specs.Solve.{Solved, solve, after, slots}
use Rattle.meaning.specs.Value.{Valued, value}
use Rattle.meaning.specs.Witness.{Witnessed, witness}
use Rattle.meaning.proofs.Laws.Solve.{tree_in, solve_answer}
use Rattle.meaning.proofs.Laws.Witness.{witnessed}
use Rattle.meaning.proofs.Laws.Verdict as Verdict

-- an answer's must and may under an assignment of the levels; `value_of` reads the variables' values off such an assignment
abbrev pub Must : Solved → Assignment → Type 0
Must a ρ = holds (tree_in a a.must) ρ ≡ true

abbrev pub May : Solved → Assignment → Type 0
May a ρ = holds (tree_in a a.may) ρ ≡ true

abbrev pub Formula : List ℕ → Assignment → Type 0
Formula s ρ = formula (entries s) (value_of (entries s) ρ) ≡ true

-- one sheet, two limits L ≤ M, both answered; the buffers may differ
module _ (s : List ℕ) {L M : ℕ} (le : L ≤ M) (table work table' work' : ℕ)
    (first : (solve s L table work).number ≡ 0) (second : (solve s M table' work').number ≡ 0)
  where
    pub must_stays : (ρ : Assignment) → Must (solve s L table work) ρ → Must (solve s M table' work') ρ
    must_stays = Verdict.must_stays s le table work table' work' first second

    pub must_formula : (ρ : Assignment) → Must (solve s M table' work') ρ → Formula s ρ
    must_formula = Verdict.must_formula s M table' work' second

    pub formula_may : (ρ : Assignment) → Formula s ρ → May (solve s M table' work') ρ
    formula_may = Verdict.formula_may s M table' work' second

    pub may_stays : (ρ : Assignment) → May (solve s M table' work') ρ → May (solve s L table work) ρ
    may_stays = Verdict.may_stays s le table work table' work' first second

    -- both verdicts stand at the higher limit
    pub sat_stands : (solve s L table work).verdict ≡ 1 → (solve s M table' work').verdict ≡ 1
    sat_stands = Verdict.sat_stands s le table work table' work' first second

    pub unsat_stands : (solve s L table work).verdict ≡ 2 → (solve s M table' work').verdict ≡ 2
    unsat_stands = Verdict.unsat_stands s le table work table' work' first second

-- one sheet, one limit
module _ (s : List ℕ) (L table work : ℕ) (answered : (solve s L table work).number ≡ 0) where
  pub sat_true : (solve s L table work).verdict ≡ 1 → Satisfiable (entries s)
  sat_true = Verdict.sat_true s L table work answered

  pub unsat_true : (solve s L table work).verdict ≡ 2 → Satisfiable (entries s) → ⊥
  unsat_true = Verdict.unsat_true s L table work answered

  -- the witness of must makes the formula true
  pub sat_witness : (solve s L table work).verdict ≡ 1 →
      Formula s (witnessed (after (solve s L table work).table []) (solve s L table work).used (solve s L table work).must)
  sat_witness = Verdict.sat_witness s L table work answered

  -- nothing is left out when the limit is at least the number of slots
  pub must_is_may : slots table ≤ L → (solve s L table work).must ≡ (solve s L table work).may
  must_is_may = Verdict.must_is_may s L table work answered

  pub never_unknown : slots table ≤ L → (solve s L table work).verdict ≡ 3 → ⊥
  never_unknown = Verdict.never_unknown s L table work answered

-- ---- no second answer: what meets the promise is one, refusals included

pub solve_one : (s : List ℕ) (L table work : ℕ) {a b : Solved} → a ≡ solve s L table work → b ≡ solve s L table work → a ≡ b
solve_one s L table work p q = p ∙ sym q

pub value_one : (t : List ℕ) (used n : ℕ) (a : List ℕ) {u v : Valued} → u ≡ value t used n a → v ≡ value t used n a → u ≡ v
value_one t used n a p q = p ∙ sym q

pub witness_one : (t : List ℕ) (used n length : ℕ) {u v : Witnessed} → u ≡ witness t used n length → v ≡ witness t used n length → u ≡ v
witness_one t used n length p q = p ∙ sym q

-- and after an answer the table's first contents don't matter
pub table_one : (s : List ℕ) (L table work : ℕ) → (solve s L table work).number ≡ 0 → (before before' : List ℕ) →
    after (solve s L table work).table before ≡ after (solve s L table work).table before'
table_one s L table work answered before before' = rw (solve_answer s L table work answered).is
