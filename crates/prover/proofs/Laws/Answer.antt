-- The answer of solve: the paths of the code through the definition.
use Prim.Native.Nat.{ℕ, ◌-◌, ◌*◌, ◌/◌, ◌≤◌, ◌<◌}
use native.Mathlib.Omega.{arith}
use mathlib.Core.Path.{◌≡◌, refl, sym, ap, ◌∙◌}
use mathlib.Core.Bool.{Bool, true, false}
use mathlib.Core.List.{List, ◌++◌}
use lib.Dec.{eqb, ltb}
use lib.ListN.{length, replicate}
use borrow.Author.Tests.{eq-eqb, ne_eqb, eqb-true, eqb-false, lt-ltb, le-ltb, ltb-false}
use Rattle.std.specs.Prelude.{◌≢◌, Result, Ok, Err}
use Rattle.meaning.specs.Sheet.{entries}
use Rattle.meaning.specs.Check.{first, check}
use Rattle.meaning.specs.Table.{enter, lay_all}
use Rattle.meaning.specs.Solve.{bad_table, input_refusal, verdict_of, worked, solve, answered}
use Rattle.meaning.specs.Solve.{unnamed_limit, solve_unnamed}
use Rattle.meaning.proofs.Laws.Table.{enter_again}
use Rattle.meaning.proofs.Laws.Value.{refuse_none}
use Rattle.meaning.proofs.Laws.Solve.{nodes_at, pair_at, nodes_single}
use Rattle.sheet.specs.declared.check.Refusal.TheVariants as Sheet
use Rattle.diagram.specs.declared.builder.Made.{Made}
use Rattle.diagram.specs.declared.builder.NoRoom.{NoRoom}
use Rattle.diagram.proofs.Laws.Nodes.{nodes_of_length}
use Rattle.diagram.proofs.Laws.Cells.{length_small}
use Rattle.formula.specs.declared.pair.Pair.{Pair}
use Rattle.prover.specs.Kept.{Ran}
use Rattle.prover.specs.Answer.{verdict_number, number_of, cleared_behind, Meets}
use Rattle.prover.specs.declared.answer.Verdict.{Verdict}
use Rattle.prover.specs.declared.answer.Refusal.{Refusal}
use Rattle.prover.specs.declared.answer.Refusal.TheVariants as Cause
use Rattle.prover.specs.declared.answer.Solved.{Solved}
use Rattle.prover.proofs.Laws.Left.{lay_nodes}

-- ---- 1 to 10

module _ (s : List ℕ) (table work checked : ℕ) (is_checked : checked ≡ check s) where
  pub input_check : (checked ≡ 0 → ⊥) → checked ≡ input_refusal s table work
  unfolding input_refusal
  input_check some = rw (← is_checked, ne_eqb checked 0 some) refl

  module _ (none : checked ≡ 0) (bad : Bool) (is_bad : bad ≡ bad_table table) where
    pub input_nine : bad ≡ true → 9 ≡ input_refusal s table work
    unfolding input_refusal
    input_nine is_true = rw (← is_checked, eq-eqb checked 0 none, ← is_bad, is_true) refl

    pub input_ten : bad ≡ false → work < 8192 → 10 ≡ input_refusal s table work
    unfolding input_refusal
    input_ten is_false short = rw (← is_checked, eq-eqb checked 0 none, ← is_bad, is_false, lt-ltb work 8192 short) refl

    pub input_none : bad ≡ false → 8192 ≤ work → 0 ≡ input_refusal s table work
    unfolding input_refusal
    input_none is_false long = rw (← is_checked, eq-eqb checked 0 none, ← is_bad, is_false, le-ltb work 8192 long) refl

-- past 1 to 10
pub record Passes (s : List ℕ) (table work : ℕ) : Type 0 where
  pub passed : check s ≡ 0
  pub small : table ≤ 3145728
  pub room : 8192 ≤ work

first_both : (r later : ℕ) → first r later ≡ 0 → (r ≡ 0) × (later ≡ 0)
first_both r later none = go (eqb r 0) refl
  where
    go : (b : Bool) → eqb r 0 ≡ b → (r ≡ 0) × (later ≡ 0)
    go true e = (eqb-true r 0 e, rw e at none)
    go false e = absurd (eqb-false r 0 e (rw e at none))

pub input_passes : (s : List ℕ) (table work : ℕ) → input_refusal s table work ≡ 0 → Passes s table work
unfolding input_refusal
input_passes s table work none =
    let eight = first_both (check s) _ none in
    let nine = refuse_none 8 (bad_table table) _ eight.1 in
    let ten = refuse_none 9 (ltb work 8192) 0 nine.1 in
    record {
      passed = eight.0;
      small = length_small table nine.0;
      room = ltb-false work 8192 ten.0;
    }

-- ---- a refusal, and none

pub some_number : (refusal : Refusal) → number_of refusal ≢ 0
some_number (Cause.Sheet Sheet.Short) is = omega arith
some_number (Cause.Sheet Sheet.Kinds) is = omega arith
some_number (Cause.Sheet Sheet.Places) is = omega arith
some_number (Cause.Sheet Sheet.Operands) is = omega arith
some_number (Cause.Sheet Sheet.Widths) is = omega arith
some_number (Cause.Sheet Sheet.Range) is = omega arith
some_number (Cause.Sheet Sheet.Levels) is = omega arith
some_number (Cause.Sheet Sheet.Term) is = omega arith
some_number Cause.Table is = omega arith
some_number Cause.Work is = omega arith
some_number Cause.NoRoom is = omega arith

module _ (s : List ℕ) (L : ℕ) (t w : List ℕ) where
  pub meets_refused : (refusal : Refusal) → number_of refusal ≡ input_refusal s (length t) (length w)
      → Meets (solve s L (length t) (length w)) (Err refusal) t w t w
  unfolding solve
  meets_refused refusal is =
      let other = ne_eqb (number_of refusal) 0 (some_number refusal) in
      record { numbers = rw (← is, other) refl; table = rw (← is, other) refl; work = rw (← is, other) refl }

  pub meets_worked : (a : Result Solved Refusal) (t' w' w'' : List ℕ) → 0 ≡ input_refusal s (length t) (length w) → w'' ≡ w'
      → Meets (worked (entries s) L (length t) (length w)) a t w t' w' → Meets (solve s L (length t) (length w)) a t w t' w''
  unfolding solve
  meets_worked a t' w' w'' none same meets =
      record { numbers = rw (← none) meets.numbers; table = rw (← none) meets.table; work = rw (← none) (same ∙ meets.work) }

pub meets_unnamed : (s : List ℕ) (t w : List ℕ) (a : Result Solved Refusal) (t' w' : List ℕ) (limit : ℕ)
    → limit ≡ unnamed_limit (length t / 3) → Meets (solve s limit (length t) (length w)) a t w t' w'
    → Meets (solve_unnamed s (length t) (length w)) a t w t' w'
unfolding solve_unnamed
meets_unnamed s t w a t' w' limit is meets = rw is at meets

-- ---- 11, and 0

module _ {s : List ℕ} {L : ℕ} {cells₀ cells : List ℕ} (w : List ℕ) where
  pub meets_lacking : {e : NoRoom} → Ran s L cells₀ cells (Err e)
      → Meets (worked (entries s) L (length cells₀) (length w)) (Err Cause.NoRoom) cells₀ w (cleared_behind 0 cells)
      (replicate (length w) 0)
  unfolding worked
  meets_lacking ran =
      let long : length cells - 0 ≡ length cells₀ = omega (arith, ran.long) in
      rw (lt-ltb (length cells₀ / 3) (length (nodes_at s L)) ran.ended)
      (record { numbers = refl; table = ap (λ n. replicate n 0) long; work = refl })

  module _ {end : Made Pair} (ran : Ran s L cells₀ cells (Ok end)) where
    must_number : (enter (pair_at s L).must (nodes_at s L)).number ≡ end.value.must
    must_number = (enter_again (pair_at s L).must (nodes_at s L) end.value.must (nodes_single s L) ran.ended.must_is).0

    may_number : (enter (pair_at s L).may (nodes_at s L)).number ≡ end.value.may
    may_number = (enter_again (pair_at s L).may (nodes_at s L) end.value.may (nodes_single s L) ran.ended.may_is).0

    used_number : length (nodes_at s L) ≡ end.at.used
    used_number = ap length (sym ran.ended.entered) ∙ nodes_of_length cells end.at.used

    inside : 3 * end.at.used ≤ length cells
    inside = omega (arith, ran.ended.room, ran.long)

    reached_worked : worked (entries s) L (length cells₀) (length w) ≡ answered (length cells₀) (length w)
        (nodes_at s L) (pair_at s L)
    unfolding worked
    reached_worked =
        rw (le-ltb (length cells₀ / 3) (length (nodes_at s L)) (omega (arith, used_number, ran.ended.room))) refl

    left : cleared_behind end.at.used cells
        ≡ lay_all (nodes_at s L) ++ replicate (length cells₀ - 3 * length (nodes_at s L)) 0
    left = rw (← lay_nodes cells end.at.used inside, ran.ended.entered, used_number, ran.long) refl

    pub meets_reached : (verdict : Verdict) → verdict_number verdict ≡ verdict_of end.value.must end.value.may
        → Meets (worked (entries s) L (length cells₀) (length w))
        (Ok (record { verdict = verdict; must = end.value.must; may = end.value.may; used = end.at.used })) cells₀ w
        (cleared_behind end.at.used cells) (replicate (length w) 0)
    meets_reached verdict is_verdict =
        rw reached_worked
        (record { numbers = rw (must_number, may_number, used_number, is_verdict) refl; table = left; work = refl })
