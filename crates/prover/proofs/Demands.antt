-- The user's third demand, about the answers that solve's code gives: their own numbers, and the table that was left.
--
-- Take one sheet and two limits, the second not below the first, both answered and not refused. For every assignment of
-- the variables: must at the first implies must at the second, which implies the formula, which implies may at the
-- second, which implies may at the first. So sat and unsat are true of the formula and stand at the higher limit. When
-- the limit is at least the number of slots, must equals may and unknown is never given.
--
--   Answered s L       solve at limit L has answered sheet s and not refused it; the promise of `solve` gives one for
--                      each such call, that of `solve_unnamed` too (unnamed_answered)
--   Must, May          what the answer's two diagrams say, read off the table that was left
--   chain, ...         the demand, one theorem a clause
--   one_answer         no second answer meets the promise, refusals included
use native.Mathlib.Omega.{arith}
use mathlib.Core.Path.{◌≡◌, refl, sym, ap, ◌∙◌}
use Rattle.std.specs.Prelude.{ℕ, ◌≤◌, true, List, [], length, Result, Ok}
use Rattle.meaning.specs.Sheet.{entries}
use Rattle.meaning.specs.Level.{value_of}
use Rattle.meaning.specs.Diagram.{Assignment, holds}
use Rattle.meaning.specs.Meaning.{Values, Within, Satisfiable}
use Rattle.meaning.specs.Lent.{tree_of}
use Rattle.meaning.specs.Solve as Solve
use Rattle.meaning.specs.Solve.{solve, solve_unnamed, unnamed_limit, slots, after}
use Rattle.meaning.proofs.Laws.Checked.{checked_wide}
use Rattle.meaning.proofs.Laws.Reached.{values_reached}
use Rattle.meaning.proofs.Laws.Solve.{tree_in}
use Rattle.meaning.proofs.Laws.Verdict.{checked}
use Rattle.meaning.proofs.Laws.Witness.{witnessed}
use Rattle.meaning.proofs.Demands as Demands
use Rattle.meaning.proofs.Demands.{Formula}
use Rattle.prover.specs.Answer.{verdict_number, answer_of, Meets}
use Rattle.prover.specs.declared.answer.Verdict.{Verdict}
use Rattle.prover.specs.declared.answer.Verdict.TheVariants.{Sat, Unsat, Unknown}
use Rattle.prover.specs.declared.answer.Refusal.{Refusal}
use Rattle.prover.specs.declared.answer.Solved.{Solved}
use Rattle.prover.specs.declared.answer.Numbers.{Numbers}

-- an answer to sheet s at limit L: what was given back, the buffers lent (t, w) and what was left in them (t', w')
pub record Answered (s : List ℕ) (L : ℕ) : Type 0 where
  pub answer : Solved
  pub t : List ℕ
  pub w : List ℕ
  pub t' : List ℕ
  pub w' : List ℕ
  pub meets : Meets (solve s L (length t) (length w)) (Ok answer) t w t' w'

-- must and may under an assignment of the levels; `value_of` reads the variables' values off such an assignment
abbrev pub Must : {s : List ℕ} {L : ℕ} → Answered s L → Assignment → Type 0
Must a ρ = holds (tree_of a.t' a.answer.must) ρ ≡ true

abbrev pub May : {s : List ℕ} {L : ℕ} → Answered s L → Assignment → Type 0
May a ρ = holds (tree_of a.t' a.answer.may) ρ ≡ true

-- ---- a verdict by its number

is_sat : (v : Verdict) → verdict_number v ≡ 1 → v ≡ Sat
is_sat Sat is = refl
is_sat Unsat is = absurd (omega arith)
is_sat Unknown is = absurd (omega arith)

is_unsat : (v : Verdict) → verdict_number v ≡ 2 → v ≡ Unsat
is_unsat Sat is = absurd (omega arith)
is_unsat Unsat is = refl
is_unsat Unknown is = absurd (omega arith)

-- ---- the answer's numbers and its table are the definition's

module _ {s : List ℕ} {L : ℕ} (a : Answered s L) where
  abbrev defined : Solve.Solved
  defined = solve s L (length a.t) (length a.w)

  answered : defined.number ≡ 0
  answered = ap (λ (n : Numbers). n.number) (sym a.meets.numbers)

  verdict_is : defined.verdict ≡ verdict_number a.answer.verdict
  verdict_is = ap (λ (n : Numbers). n.verdict) (sym a.meets.numbers)

  must_is : defined.must ≡ a.answer.must
  must_is = ap (λ (n : Numbers). n.must) (sym a.meets.numbers)

  may_is : defined.may ≡ a.answer.may
  may_is = ap (λ (n : Numbers). n.may) (sym a.meets.numbers)

  used_is : defined.used ≡ a.answer.used
  used_is = ap (λ (n : Numbers). n.used) (sym a.meets.numbers)

  -- whatever the table held before
  left : after defined.table [] ≡ a.t'
  left = Demands.table_one s L (length a.t) (length a.w) answered [] a.t ∙ sym a.meets.table

  tree_is : {n m : ℕ} → n ≡ m → (ρ : Assignment) → holds (tree_in defined n) ρ ≡ holds (tree_of a.t' m) ρ
  tree_is {n} same ρ =
      ap (λ (t : List ℕ). holds (tree_of t n) ρ) left ∙ ap (λ (k : ℕ). holds (tree_of a.t' k) ρ) same

-- ---- "For every assignment of the variables: must at the first implies must at the second, which implies the formula,
-- which implies may at the second, which implies may at the first." The buffers may differ.

module _ {s : List ℕ} {L M : ℕ} (le : L ≤ M) (a : Answered s L) (b : Answered s M) where
  pub must_stays : (ρ : Assignment) → Must a ρ → Must b ρ
  must_stays ρ h =
      sym (tree_is b (must_is b) ρ)
      ∙ Demands.must_stays s le _ _ _ _ (answered a) (answered b) ρ (tree_is a (must_is a) ρ ∙ h)

  pub must_formula : (ρ : Assignment) → Must b ρ → Formula s ρ
  must_formula ρ h = Demands.must_formula s le _ _ _ _ (answered a) (answered b) ρ (tree_is b (must_is b) ρ ∙ h)

  pub formula_may : (ρ : Assignment) → Formula s ρ → May b ρ
  formula_may ρ h =
      sym (tree_is b (may_is b) ρ) ∙ Demands.formula_may s le _ _ _ _ (answered a) (answered b) ρ h

  pub may_stays : (ρ : Assignment) → May b ρ → May a ρ
  may_stays ρ h =
      sym (tree_is a (may_is a) ρ)
      ∙ Demands.may_stays s le _ _ _ _ (answered a) (answered b) ρ (tree_is b (may_is b) ρ ∙ h)

  -- the whole sentence
  pub chain : (ρ : Assignment) →
      (Must a ρ → Must b ρ) × ((Must b ρ → Formula s ρ) × ((Formula s ρ → May b ρ) × (May b ρ → May a ρ)))
  chain ρ = (must_stays ρ, (must_formula ρ, (formula_may ρ, may_stays ρ)))

  -- "So sat and unsat ... stand at the higher limit."
  pub sat_stands : a.answer.verdict ≡ Sat → b.answer.verdict ≡ Sat
  sat_stands sat =
      let is = Demands.sat_stands s le _ _ _ _ (answered a) (answered b) (verdict_is a ∙ ap verdict_number sat) in
      is_sat b.answer.verdict (sym (verdict_is b) ∙ is)

  pub unsat_stands : a.answer.verdict ≡ Unsat → b.answer.verdict ≡ Unsat
  unsat_stands unsat =
      let is = Demands.unsat_stands s le _ _ _ _ (answered a) (answered b) (verdict_is a ∙ ap verdict_number unsat) in
      is_unsat b.answer.verdict (sym (verdict_is b) ∙ is)

module _ {s : List ℕ} {L : ℕ} (a : Answered s L) where
  -- no values of the variables are left out: each that fit their widths are those of some assignment of the levels
  pub every_values : (σ : Values) → Within (entries s) σ → (ρ : Assignment) × (value_of (entries s) ρ ≡ σ)
  every_values σ fits = values_reached (entries s) σ (checked_wide (checked s L _ _ (answered a))) fits

  -- "So sat and unsat are true of the formula": some values of its free variables make it true, or none do
  pub sat_true : a.answer.verdict ≡ Sat → Satisfiable (entries s)
  sat_true sat = Demands.sat_true s L _ _ (answered a) (verdict_is a ∙ ap verdict_number sat)

  pub unsat_true : a.answer.verdict ≡ Unsat → Satisfiable (entries s) → ⊥
  unsat_true unsat = Demands.unsat_true s L _ _ (answered a) (verdict_is a ∙ ap verdict_number unsat)

  -- and the least witness of must, found in the table that was left, makes it true
  pub sat_witness : a.answer.verdict ≡ Sat → Formula s (witnessed a.t' a.answer.used a.answer.must)
  sat_witness sat =
      rw (left a, used_is a, must_is a) at (Demands.sat_witness s L _ _ (answered a) (verdict_is a ∙ ap verdict_number sat))

  -- "When the limit is at least the number of slots, must equals may and unknown is never given."
  pub must_is_may : slots (length a.t) ≤ L → a.answer.must ≡ a.answer.may
  must_is_may enough = sym (must_is a) ∙ Demands.must_is_may s L _ _ (answered a) enough ∙ may_is a

  pub never_unknown : slots (length a.t) ≤ L → a.answer.verdict ≡ Unknown → ⊥
  never_unknown enough unknown =
      Demands.never_unknown s L _ _ (answered a) enough (verdict_is a ∙ ap verdict_number unknown)

-- ---- without a named limit: an answer at the limit that this means

pub unnamed_answered : (s : List ℕ) {answer : Solved} {t w t' w' : List ℕ} →
    Meets (solve_unnamed s (length t) (length w)) (Ok answer) t w t' w' → Answered s (unnamed_limit (slots (length t)))
unfolding solve_unnamed
unnamed_answered s {answer} {t} {w} {t'} {w'} meets =
    record { answer = answer; t = t; w = w; t' = t'; w' = w'; meets = meets }

-- ---- no second answer: two that meet one promise have the same numbers and leave the same buffers, refusals included

pub one_answer : {is : Solve.Solved} {a b : Result Solved Refusal} {t w ta wa tb wb : List ℕ} → Meets is a t w ta wa →
    Meets is b t w tb wb → (answer_of a ≡ answer_of b) × ((ta ≡ tb) × (wa ≡ wb))
one_answer p q =
    (p.numbers ∙ sym q.numbers, (p.table ∙ sym q.table, p.work ∙ sym q.work))

-- what buffers of one length held before an answer doesn't matter for the table that is left
pub any_contents : {s : List ℕ} {L : ℕ} (a b : Answered s L) → length a.t ≡ length b.t →
    length a.w ≡ length b.w → a.t' ≡ b.t'
any_contents {s} {L} a b as_long as_wide =
    sym (left a)
    ∙ ap (λ (n : ℕ). after (solve s L n (length a.w)).table []) as_long
    ∙ ap (λ (n : ℕ). after (solve s L (length b.t) n).table []) as_wide
    ∙ left b
