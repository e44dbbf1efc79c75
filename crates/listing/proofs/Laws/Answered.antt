-- The listing of solve's answer: its numbers are the definition's, and on a refusal the assignment isn't read.
--
-- Main results: meets_answered from solve's promise; listing_answered, with the witness that was asked for.
use Prim.Native.Nat.{ℕ, zero, suc}
use mathlib.Core.Path.{◌≡◌, refl, sym, ap, ap₂, fun_ext, ◌∙◌}
use mathlib.Core.List.{List, []}
use lib.Dec.{eqb}
use lib.ListN.{get_or, replicate}
use borrow.Author.Tests.{ne_eqb}
use native.Mathlib.Omega.{arith}
use Rattle.std.specs.Prelude.{Result, Ok, Err}
use Rattle.meaning.specs.Sheet.{Entry, entries}
use Rattle.meaning.specs.Check.{check}
use Rattle.meaning.specs.Diagram.{Assignment}
use Rattle.meaning.specs.Solve.{Left, untouched, filled, after, solve_unnamed, unnamed_limit}
use Rattle.meaning.specs.Value.{assignment}
use Rattle.meaning.specs.Witness.{witness}
use Rattle.meaning.specs.Program.{listed, listing, must_witness}
use Rattle.meaning.proofs.Laws.Solve.{solve_answer}
use Rattle.meaning.proofs.Demands.{table_one}
use Rattle.sheet.specs.declared.check.Refusal.TheVariants.{Short, Kinds, Places, Operands, Widths, Range, Levels, Term}
use Rattle.prover.specs.Answer.{answer_of, number_of, numbers_of, Meets}
use Rattle.prover.specs.declared.answer.Numbers.{Numbers}
use Rattle.prover.specs.declared.answer.Refusal.{Refusal}
use Rattle.prover.specs.declared.answer.Refusal.TheVariants as Cause
use Rattle.prover.specs.declared.answer.Solved.{Solved}
use Rattle.listing.specs.Answered.{solved_here, Answered, MustWitness}

-- ---- the table that solve left

-- an answer that isn't refused has passed the check
pub solved_checked : (s : List ℕ) → (solved_here s).number ≡ 0 → check s ≡ 0
unfolding solved_here solve_unnamed
solved_checked s none = (solve_answer s (unnamed_limit 2048) 6144 8192 none).passed

-- solve's promise for these buffers
pub meets_answered : (s : List ℕ) (a : Result Solved Refusal) (t w t' w' : List ℕ) → Meets (solve_unnamed s 6144 8192) a t w t' w' →
    Answered s a t'
unfolding solved_here solve_unnamed
meets_answered s a t w t' w' meets = record {
  numbers = meets.numbers;
  table = λ none. meets.table ∙ table_one s (unnamed_limit 2048) 6144 8192 none t [];
}

-- ---- the assignment

-- a buffer of zeros says what an empty one says
zeros_at : (n l : ℕ) → ◌≡◌ {A = ℕ} (get_or (replicate n 0) l 0) 0
zeros_at zero l = refl
zeros_at (suc n) zero = refl
zeros_at (suc n) (suc l) = zeros_at n l

zeros_say : (left : Left) → assignment (after left (replicate 128 0)) ≡ assignment (after left [])
zeros_say untouched = fun_ext (λ l. ap (λ n. eqb n 1) (zeros_at 128 l))
zeros_say (filled bytes) = refl

-- a refusal is listed by its number alone
listed_alone : (number verdict must may used : ℕ) (es : List Entry) (ρ σ : Assignment) → (number ≡ 0 → ⊥) →
    listed number verdict must may used es ρ ≡ listed number verdict must may used es σ
unfolding listed
listed_alone number verdict must may used es ρ σ refused = rw (ne_eqb number 0 refused) refl

-- a refusal's number isn't 0
refused : (refusal : Refusal) → number_of refusal ≡ 0 → ⊥
refused (Cause.Sheet Short) none = omega arith
refused (Cause.Sheet Kinds) none = omega arith
refused (Cause.Sheet Places) none = omega arith
refused (Cause.Sheet Operands) none = omega arith
refused (Cause.Sheet Widths) none = omega arith
refused (Cause.Sheet Range) none = omega arith
refused (Cause.Sheet Levels) none = omega arith
refused (Cause.Sheet Term) none = omega arith
refused Cause.Table none = omega arith
refused Cause.Work none = omega arith
refused Cause.NoRoom none = omega arith

-- ---- the listing, from the answer's numbers

-- what is listed for these numbers
abbrev lines : List ℕ → Numbers → Assignment → List ℕ
lines s m ρ = listed m.number m.verdict m.must m.may m.used (entries s) ρ

pub number_checked : (s : List ℕ) (n : Numbers) → n ≡ numbers_of (solved_here s) → n.number ≡ 0 → check s ≡ 0
number_checked s n is none = solved_checked s (sym (ap (λ (m : Numbers). m.number) is) ∙ none)

module _ {s t : List ℕ} {n : Numbers} where
  pub listing_answered : {bytes x : List ℕ} (a : Result Solved Refusal) → Answered s a t → n ≡ answer_of a → MustWitness t a bytes →
      x ≡ lines s n (assignment bytes) → x ≡ listing s
  unfolding listing solved_here
  listing_answered (Ok v) answered is written lists =
      let left : t ≡ after (solved_here s).table [] = answered.table (sym (ap (λ (m : Numbers). m.number) answered.numbers)) in
      lists
      ∙ ap (λ (b : List ℕ). lines s n (assignment b)) written.bytes
      ∙ ap (lines s n) (zeros_say (witness t v.used v.must 128).assignment)
      ∙ ap (λ (m : Numbers). lines s m (assignment (after (witness t v.used v.must 128).assignment []))) is
      ∙ ap₂ (λ (u : List ℕ) (m : Numbers).
      lines s m (assignment (after (witness u m.used m.must 128).assignment []))) left answered.numbers
  listing_answered {bytes} (Err e) answered is written lists =
      let σ = must_witness (solved_here s) in
      lists
      ∙ listed_alone n.number n.verdict n.must n.may n.used (entries s) (assignment bytes) σ
      (λ none. refused e (sym (ap (λ (m : Numbers). m.number) is) ∙ none))
      ∙ ap (λ (m : Numbers). lines s m σ) (is ∙ answered.numbers)
