-- The answer of solve: its numbers stand for the diagrams of the sheet's formula, read off the table that it leaves.
--
--   mustTree a, mayTree a   the diagrams of an answer
use Prim.Native.Nat.{ℕ, ◌+◌, ◌-◌, ◌*◌, ◌≤◌, ◌<◌}
use native.Mathlib.Omega.{arith}
use native.Mathlib.Nat.{add-zero, zero-add, div-mul-le_self}
use mathlib.Core.Path.{◌≡◌, refl, sym, ap, ◌∙◌}
use mathlib.Core.Bool.{Bool, true, false}
use mathlib.Core.List.{List, [], ◌∷◌, ◌++◌}
use lib.Dec.{eqb, ltb}
use lib.ListN.{length, replicate, length-append, length-replicate}
use borrow.Author.Tests.{eqb-true, eqb-false, eq-eqb, ne_eqb, ltb-false, le-ltb}
use Rattle.meaning.specs.Sheet.{Entry, entry, entries}
use Rattle.meaning.specs.Level.{levels}
use Rattle.meaning.specs.Meaning.{meaning_at, meanings, formula}
use Rattle.meaning.specs.Check.{check, refuse, first}
use Rattle.meaning.specs.Diagram.{Tree, leaf, node}
use Rattle.meaning.specs.Table.{Table, enter, enter_all, cells, lay_all}
use Rattle.meaning.specs.Formula.{Pair}
use Rattle.meaning.specs.Run.{Value, row, truth, pair_of, value_at, work_of, run_from, run, last_pair}
use Rattle.meaning.specs.Lent.{tree_of, bad_nodes}
use Rattle.meaning.specs.Witness.{witness, witness_refusal}
use Rattle.meaning.specs.Solve.{Solved, after, solve, worked, input_refusal, answered, slots, verdict_of, bad_table, work_needed}
use Rattle.meaning.proofs.Laws.Table.{Is, Single, Falls, LevelsBelow, There, enter_again, enter_all_single, enter_all_falls, enter_all_levels}
use Rattle.meaning.proofs.Laws.Lent.{tree_of_is, lay_length, sound_falls}
use Rattle.meaning.proofs.Laws.Witness.{witness_number}
use Rattle.meaning.proofs.Laws.Checked.{Checked, check_checked}
use Rattle.meaning.proofs.Laws.Held.{HeldValue, run_held}
use Rattle.meaning.proofs.Laws.Reached.{enter_all_there, steps_good}
use Rattle.meaning.proofs.Laws.Related.{TruthRelated}
use Rattle.meaning.proofs.Laws.Run.{truth_in_step, run_related}
use Rattle.meaning.proofs.Laws.Exact.{exact_truth, run_exact}

-- the diagram of a number in the table that an answer leaves
abbrev pub tree_in : Solved → ℕ → Tree
tree_in a n = tree_of (after a.table []) n

-- the nodes and the pair of a sheet's run
abbrev pub nodes_at : List ℕ → ℕ → Table
nodes_at s L = enter_all (run (entries s) L).steps []

abbrev pub pair_at : List ℕ → ℕ → Pair
pair_at s L = last_pair (run (entries s) L).value

-- an answer is given: the check is passed, there is room, and the answer is this one
pub record Answer (s : List ℕ) (L table work : ℕ) : Type 0 where
  pub input : input_refusal s table work ≡ 0
  pub passed : check s ≡ 0
  pub room : length (nodes_at s L) ≤ slots table
  pub is : solve s L table work ≡ answered table work (nodes_at s L) (pair_at s L)

-- number 0 is given only past every refusal
solve_works : (s : List ℕ) (L table work : ℕ) → (solve s L table work).number ≡ 0 →
    (input_refusal s table work ≡ 0) × (solve s L table work ≡ worked (entries s) L table work)
unfolding solve
solve_works s L table work none = go (eqb (input_refusal s table work) 0) refl
  where
    go : (b : Bool) → eqb (input_refusal s table work) 0 ≡ b →
        (input_refusal s table work ≡ 0) × (solve s L table work ≡ worked (entries s) L table work)
    go true e = (eqb-true (input_refusal s table work) 0 e, rw e)
    go false e = absurd (eqb-false (input_refusal s table work) 0 e (rw e at none))

-- and only where there is room
worked_answers : (es : List Entry) (L table work : ℕ) → (worked es L table work).number ≡ 0 →
    (length (enter_all (run es L).steps []) ≤ slots table) ×
    (worked es L table work ≡ answered table work (enter_all (run es L).steps []) (last_pair (run es L).value))
unfolding worked
worked_answers es L table work none = go (ltb (slots table) (length (enter_all (run es L).steps []))) refl
  where
    go : (b : Bool) → ltb (slots table) (length (enter_all (run es L).steps [])) ≡ b →
        (length (enter_all (run es L).steps []) ≤ slots table) ×
        (worked es L table work ≡ answered table work (enter_all (run es L).steps []) (last_pair (run es L).value))
    go true e = let eleven : ◌≡◌ {A = ℕ} 11 0 = rw e at none in absurd (omega arith)
    go false e = (ltb-false (slots table) (length (enter_all (run es L).steps [])) e, rw e)

-- the first of two refusals is none only if both are
first_none : (r later : ℕ) → first r later ≡ 0 → r ≡ 0
first_none r later none = go (eqb r 0) refl
  where
    go : (b : Bool) → eqb r 0 ≡ b → r ≡ 0
    go true e = eqb-true r 0 e
    go false e = rw e at none

pub solve_answer : (s : List ℕ) (L table work : ℕ) → (solve s L table work).number ≡ 0 → Answer s L table work
unfolding input_refusal
solve_answer s L table work none =
    let a = solve_works s L table work none in
    let b = worked_answers (entries s) L table work (ap (λ (x : Solved). x.number) (sym a.1) ∙ none) in
    record { input = a.0; passed = first_none (check s) _ a.0; room = b.0; is = a.1 ∙ b.1 }

-- ---- what the run leaves in the table

-- the empty table
empty_single : Single []
empty_single k none = absurd (omega arith)

empty_falls : Falls []
empty_falls k none = absurd (omega arith)

empty_levels : (n : ℕ) → LevelsBelow n []
empty_levels n k none = absurd (omega arith)

pub nodes_single : (s : List ℕ) (L : ℕ) → Single (nodes_at s L)
nodes_single s L = enter_all_single (run (entries s) L).steps [] empty_single

pub nodes_falls : (s : List ℕ) (L : ℕ) → Checked (entries s) → Falls (nodes_at s L)
nodes_falls s L checked =
    enter_all_falls (run (entries s) L).steps (levels (entries s)) [] (steps_good (entries s) checked L) empty_falls

pub nodes_levels : (s : List ℕ) (L : ℕ) → Checked (entries s) → LevelsBelow 128 (nodes_at s L)
nodes_levels s L checked k inside =
    let low = enter_all_levels (run (entries s) L).steps (levels (entries s)) [] (steps_good (entries s) checked L)
    (empty_levels (levels (entries s))) k inside in
    omega (arith, checked.levels_le)

-- a formula's two diagrams have entered
held_pair : (s : Table) (v : Value) → HeldValue s v → There s ((pair_of v).must ∷ []) × There s ((pair_of v).may ∷ [])
held_pair s (row r) h = (record { number = 0; first = refl; rest = tt }, record { number = 0; first = refl; rest = tt })
held_pair s (truth p) h = (h.must, h.may)

pub pair_held : (s : List ℕ) (L : ℕ) → There (nodes_at s L) ((pair_at s L).must ∷ []) × There (nodes_at s L) ((pair_at s L).may ∷ [])
pair_held s L =
    let vs = (run (entries s) L).value in
    held_pair (nodes_at s L) (value_at vs (length vs - 1))
    (run_held (entries s) L (nodes_at s L) (enter_all_there (run (entries s) L).steps []) (length vs - 1))

-- ---- the numbers of an answer

-- the number of a diagram that has entered stands for it
entered_is : (t : Tree) (s : Table) → Single s → There s (t ∷ []) → Is s (enter t s).number t
entered_is t s single there = rw (enter_again t s there.number single there.first).0 there.first

module _ (s : List ℕ) (L table work : ℕ) (a : Answer s L table work) where
  pub answer_must : tree_in (solve s L table work) (solve s L table work).must ≡ (pair_at s L).must
  answer_must = rw a.is
      (tree_of_is (pair_at s L).must (enter (pair_at s L).must (nodes_at s L)).number (nodes_at s L) _
      (nodes_falls s L (check_checked s a.passed))
      (entered_is (pair_at s L).must (nodes_at s L) (nodes_single s L) (pair_held s L).0))

  pub answer_may : tree_in (solve s L table work) (solve s L table work).may ≡ (pair_at s L).may
  answer_may = rw a.is
      (tree_of_is (pair_at s L).may (enter (pair_at s L).may (nodes_at s L)).number (nodes_at s L) _
      (nodes_falls s L (check_checked s a.passed))
      (entered_is (pair_at s L).may (nodes_at s L) (nodes_single s L) (pair_held s L).1))

  -- must's number is 0 exactly where must is false; likewise may's
  pub must_number : Is (nodes_at s L) (solve s L table work).must (pair_at s L).must
  must_number = rw a.is (entered_is (pair_at s L).must (nodes_at s L) (nodes_single s L) (pair_held s L).0)

  pub may_number : Is (nodes_at s L) (solve s L table work).may (pair_at s L).may
  may_number = rw a.is (entered_is (pair_at s L).may (nodes_at s L) (nodes_single s L) (pair_held s L).1)

  pub answer_verdict : (solve s L table work).verdict ≡ verdict_of (solve s L table work).must (solve s L table work).may
  answer_verdict = rw a.is

-- number 0 stands for false alone
pub is_zero : (t : Tree) (s : Table) (n : ℕ) → Is s n t → n ≡ 0 → t ≡ leaf false
is_zero (leaf true) s n is zero_number = let one : ◌≡◌ {A = ℕ} 1 0 = sym is ∙ zero_number in absurd (omega arith)
is_zero (leaf false) s n is zero_number = refl
is_zero (node i d e) s n is zero_number = absurd (omega (arith, is.big))

-- ---- the last entry

run_length_from : (es : List Entry) (n L : ℕ) (before : List Value) (rest : List Entry) →
    length (run_from es n L before rest).value ≡ length before + length rest
run_length_from es n L before [] = sym (add-zero (length before))
run_length_from es n L before (e ∷ rest) =
    let v = (work_of e.rule.kind es n L before e).value in
    run_length_from es n L (before ++ (v ∷ [])) rest ∙ omega (arith, length-append before (v ∷ []))

pub run_length : (es : List Entry) (L : ℕ) → length (run es L).value ≡ length es
unfolding run
run_length es L = run_length_from es (levels es) L [] es ∙ zero-add (length es)

-- at two limits and in meaning the sheet's formula is in step
pub pairs_related : (s : List ℕ) {L M : ℕ} → L ≤ M → Checked (entries s) →
    TruthRelated (levels (entries s)) (entries s) (pair_at s L) (pair_at s M) (formula (entries s))
unfolding formula
pairs_related s {L} {M} le checked =
    let es = entries s in
    let some = checked.not_empty in
    let last = length es - 1 in
    let e = entry es last in
    rw (run_length es L, run_length es M)
    (truth_in_step e.rule.sort es e.width (value_at (run es L).value last) (value_at (run es M).value last) (meaning_at (meanings es) last)
    checked.last_formula (run_related es checked le last (omega arith)))

-- with a limit not below the table's length must is may
pub pair_exact : (s : List ℕ) (L : ℕ) → Checked (entries s) → length (nodes_at s L) ≤ L → (pair_at s L).must ≡ (pair_at s L).may
pair_exact s L checked short =
    let es = entries s in
    let some = checked.not_empty in
    let last = length es - 1 in
    let e = entry es last in
    rw (run_length es L)
    (exact_truth e.rule.sort (value_at (run es L).value last) checked.last_formula
    (run_exact es checked L (nodes_at s L) (nodes_single s L) short (enter_all_there (run es L).steps []) last (omega arith)))

-- ---- the witness of must

-- the table that an answer leaves
pub answer_table : (s : List ℕ) (L table work : ℕ) → Answer s L table work →
    after (solve s L table work).table [] ≡ lay_all (nodes_at s L) ++ replicate (table - cells * length (nodes_at s L)) 0
answer_table s L table work a = rw a.is

-- its length is the lent one's
pub answer_length : (s : List ℕ) (L table work : ℕ) → Answer s L table work → length (after (solve s L table work).table []) ≡ table
answer_length s L table work a =
    let nodes = nodes_at s L in
    let room = a.room in
    rw (
      answer_table s L table work a,
      length-append (lay_all nodes) (replicate (table - cells * length nodes) 0),
      lay_length nodes,
      length-replicate {A = ℕ} (table - cells * length nodes) 0,
    )
    (omega (arith, div-mul-le_self table 3, room))

-- it passes refusal 9 and refusal 12
answer_fits : (s : List ℕ) (L table work : ℕ) → Answer s L table work → bad_table table ≡ false
unfolding input_refusal
answer_fits s L table work a = go (bad_table table) refl
  where
    later : refuse 9 (bad_table table) (refuse 10 (ltb work work_needed) 0) ≡ 0
    later = rw (eq-eqb (check s) 0 a.passed) at a.input

    go : (b : Bool) → bad_table table ≡ b → b ≡ false
    go true e = let nine : ◌≡◌ {A = ℕ} 9 0 = rw e at later in absurd (omega arith)
    go false e = refl

pub answer_sound : (s : List ℕ) (L table work : ℕ) → Answer s L table work →
    bad_nodes (after (solve s L table work).table []) (solve s L table work).used ≡ false
answer_sound s L table work a =
    let checked = check_checked s a.passed in
    rw a.is (sound_falls (nodes_at s L) _ (nodes_falls s L checked) (nodes_levels s L checked))

-- a number of the table is at most used + 1
is_inside : (t : Tree) (s : Table) (n : ℕ) → Is s n t → n < length s + 2
is_inside (leaf true) s n is = rw is (omega arith)
is_inside (leaf false) s n is = rw is (omega arith)
is_inside (node i d e) s n is = is.inside

witness_unrefused : (t : List ℕ) (used n : ℕ) → bad_table (length t) ≡ false → bad_nodes t used ≡ false → ltb (used + 1) n ≡ false →
    eqb n 0 ≡ false → witness_refusal t used n 128 ≡ 0
unfolding witness_refusal
witness_unrefused t used n fits sound inside some = rw (fits, sound, inside, some)

-- no refusal meets the witness of a must that isn't false
pub witness_given : (s : List ℕ) (L table work : ℕ) → Answer s L table work → ((solve s L table work).must ≡ 0 → ⊥) →
    (witness (after (solve s L table work).table []) (solve s L table work).used (solve s L table work).must 128).number ≡ 0
witness_given s L table work a some =
    let t = after (solve s L table work).table [] in
    let used = (solve s L table work).used in
    let must = (solve s L table work).must in
    witness_number t used must 128 ∙ witness_unrefused t used must
    (rw (answer_length s L table work a) (answer_fits s L table work a)) (answer_sound s L table work a)
    (le-ltb (used + 1) must (let h = is_inside (pair_at s L).must (nodes_at s L) must (must_number s L table work a) in
    let u : used ≡ length (nodes_at s L) = ap (λ (x : Solved). x.used) a.is in omega arith))
    (ne_eqb must 0 some)
