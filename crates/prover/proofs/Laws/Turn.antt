-- The run's loop: one turn an entry.
--
--   Going                        the invariant: the first i entries have been worked, and their rows stand for their values
--   operands_held                what the operands' rows stand for
--   entry_worked                 what `work` promises, from the values of the entries before
--   going_start, -next, -done    the loop's begin, turn and end
--   going_lacks                  the end before the last entry, where there was no room
use Prim.Native.Nat.{ℕ, ◌+◌, ◌-◌, ◌*◌, ◌≤◌, ◌<◌}
use native.Mathlib.Omega.{arith}
use mathlib.Core.Path.{◌≡◌, refl, sym, ap, subst, ◌∙◌}
use mathlib.Core.Bool.{Bool, true, false, false≢true}
use mathlib.Core.List.{List, [], ◌∷◌, ◌++◌}
use lib.Dec.{ltb}
use lib.ListN.{length, get_or, drop}
use borrow.Author.Tests.{ltb-true, ltb-false}
use Rattle.std.specs.Prelude.{Result, Ok, Err}
use Rattle.std.proofs.lemmas.List.{get_or-drop}
use Rattle.meaning.specs.Kind.{Sort}
use Rattle.meaning.specs.Sheet.{Entry, count, rule_at, width_at, entry_at, entries, entry, operand}
use Rattle.meaning.specs.Level.{levels}
use Rattle.meaning.specs.Check.{check, is_formula}
use Rattle.meaning.specs.Table.{enter_all}
use Rattle.meaning.specs.Run.{Value, row, pair_of, value_at, work_of, run}
use Rattle.meaning.proofs.Laws.Checked.{check_checked, entries_length}
use Rattle.meaning.proofs.Laws.Run.{old_at, new_at}
use Rattle.meaning.proofs.Laws.Solve.{nodes_at, pair_at}
use Rattle.sheet.proofs.Laws.Sheet.{entry_at_lem}
use Rattle.sheet.proofs.Laws.Passed.{passed_below}
use Rattle.diagram.specs.State.{Ready, After, Lacks, nodes}
use Rattle.diagram.specs.declared.builder.Builder.{Builder}
use Rattle.diagram.specs.declared.builder.Made.{Made}
use Rattle.diagram.specs.declared.builder.NoRoom.{NoRoom}
use Rattle.diagram.specs.declared.scratch.Scratch.{Scratch}
use Rattle.diagram.proofs.Laws.Nodes.{nodes_of_none}
use Rattle.diagram.proofs.Laws.After.{after_nothing, after_then, lacks_then}
use Rattle.term.specs.declared.row.Row.{Row}
use Rattle.formula.specs.Pair.{PairMeans}
use Rattle.formula.specs.declared.pair.Pair.{Pair}
use Rattle.entry.specs.Value.{Meant, pair_in, OperandMeant, OperandHeld}
use Rattle.entry.specs.Entry.{OperandsHeld, OperandsMeant, IsWorked}
use Rattle.entry.specs.Rows.{Reads, Keeps}
use Rattle.entry.specs.declared.value.Operands.{Operands}
use Rattle.prover.specs.Kept.{OperandReads, OperandsRead, Ran}
use Rattle.prover.proofs.Laws.Run.{values_to, steps_to, steps_none, values_length}
use Rattle.prover.proofs.Laws.Run.{values_next, steps_next, values_all, steps_all, steps_grow}
use Rattle.prover.proofs.Laws.Run.{Wide, values_wide}
use Rattle.prover.proofs.Laws.Meant.{meant_after, meant_moved, meant_held}

-- entry j's row stands for its value
abbrev pub Stored : List ℕ → List Value → List ℕ → List ℕ → Builder → ℕ → Type 0
Stored s values kept cells b j =
    (r : Row) → Reads kept j (entry (entries s) j).width r →
    Meant (entry (entries s) j).rule.sort (levels (entries s)) cells b r (value_at values j)

-- the state of an empty table
abbrev empty : Builder
empty = record { used = 0 }

pub record Going (s : List ℕ) (L : ℕ) (cells₀ cells : List ℕ) (scratch : Scratch) (kept : List ℕ) (b : Builder) (i : ℕ)
    : Type 0 where
  pub after : After cells₀ empty (steps_to (entries s) L i) cells scratch b
  pub stored : (j : ℕ) → j < i → Stored s (values_to (entries s) L i) kept cells b j

pub going_start : (s : List ℕ) (L : ℕ) (cells : List ℕ) (scratch : Scratch) (kept : List ℕ) (b : Builder)
    → Ready cells scratch empty → b.used ≡ 0 → Going s L cells cells scratch kept b 0
going_start s L cells scratch kept b ready none =
    let same : empty ≡ b = ap {B = Builder} (λ (n : ℕ). record { used = n }) (sym none) in
    record {
      after = subst (λ (b : Builder). After cells empty (steps_to (entries s) L 0) cells scratch b) same
          (rw (steps_none (entries s) L) (after_nothing ready));
      stored = λ j below. absurd (omega arith);
    }

module _ {s : List ℕ} {L : ℕ} {cells₀ cells : List ℕ} {scratch : Scratch} {kept : List ℕ} {b : Builder} {i : ℕ}
    (going : Going s L cells₀ cells scratch kept b i) (passed : check s ≡ 0) (inside : i < count s) where
  -- ---- operands

  module _ (k : ℕ) (r : Row) (reads : OperandReads s kept i k r) (has : k < length (rule_at s i).operands) where
    o_below : operand (entry_at s i) k < i
    o_below = passed_below s passed i inside k has

    o_entry : entry (entries s) (operand (entry_at s i) k) ≡ entry_at s (operand (entry_at s i) k)
    o_entry = entry_at_lem s (operand (entry_at s i) k) (omega (arith, o_below))

    o_wide : (entry (entries s) (operand (entry_at s i) k)).width ≡ width_at s (operand (entry_at s i) k)
    o_wide = ap (λ (e : Entry). e.width) o_entry

    o_meant : Meant (entry (entries s) (operand (entry_at s i) k)).rule.sort (levels (entries s)) cells b r
        (value_at (values_to (entries s) L i) (operand (entry_at s i) k))
    o_meant =
        going.stored (operand (entry_at s i) k) o_below r
        (record { wide = (reads has).wide ∙ sym o_wide; places = (reads has).places })

  operand_meant : (k : ℕ) (r : Row) → OperandReads s kept i k r
      → OperandMeant (entries s) (entry_at s i) (levels (entries s)) cells b (values_to (entries s) L i) k r
  operand_meant k r reads has = o_meant k r reads has

  operand_held : (k : ℕ) (r : Row) → OperandReads s kept i k r → OperandHeld (entries s) (entry_at s i) b k r
  operand_held k r reads has =
      meant_held (entry (entries s) (operand (entry_at s i) k)).rule.sort (levels (entries s)) cells b r
      (value_at (values_to (entries s) L i) (operand (entry_at s i) k))
      (entry (entries s) (operand (entry_at s i) k)).width
      ((reads has).wide ∙ sym (o_wide k r reads has)) (o_meant k r reads has)

  -- the operands as they were read, of an entry that is entry i of the sheet
  module _ {s' : List ℕ} {i' : ℕ} {v : Operands} (is_sheet : s' ≡ s) (is_index : i' ≡ i) (reads : OperandsRead s' kept i' v)
    where
      of_entry : OperandsRead s kept i v
      of_entry = rw (is_sheet, is_index) at reads

      pub operands_held : OperandsHeld s' i' b v
      operands_held =
          let x = operand_held 0 v.x of_entry.x in
          let y = operand_held 1 v.y of_entry.y in
          rw (is_sheet, is_index) (record { x = x; y = y; z = operand_held 2 v.z of_entry.z })

      operands_meant : OperandsMeant s i cells b (values_to (entries s) L i) v
      operands_meant =
          record {
            x = operand_meant 0 v.x of_entry.x;
            y = operand_meant 1 v.y of_entry.y;
            z = operand_meant 2 v.z of_entry.z;
          }

      -- the promise of `work` about these operands, from the values of the entries before
      pub entry_worked : (cells' : List ℕ) (scratch' : Scratch) (r : Result (Made Row) NoRoom)
          → ((before : List Value) → length before ≡ i' → OperandsMeant s' i' cells b before v
          → IsWorked s' i' L before cells b cells' scratch' r)
          → IsWorked s i L (values_to (entries s) L i) cells b cells' scratch' r
      entry_worked cells' scratch' r does =
          let worked = rw (is_sheet, is_index) at does in
          worked (values_to (entries s) L i) (values_length (entries s) L i (omega (arith, entries_length s))) operands_meant

  -- ---- one turn

  within : i < length (entries s)
  within = omega (arith, entries_length s)

  before_length : length (values_to (entries s) L i) ≡ i
  before_length = values_length (entries s) L i (omega (arith, within))

  module _ {cells' : List ℕ} {scratch' : Scratch} {made : Made Row} {kept' : List ℕ}
      (worked : IsWorked s i L (values_to (entries s) L i) cells b cells' scratch' (Ok made))
      (keeps : Keeps kept i made.value kept') where
    abbrev own : Value
    own = (work_of (rule_at s i).kind (entries s) (levels (entries s)) L (values_to (entries s) L i) (entry_at s i)).value

    next_values : values_to (entries s) L (i + 1) ≡ values_to (entries s) L i ++ (own ∷ [])
    next_values = values_next (entries s) L i (entry_at s i) within (entry_at_lem s i inside)

    -- an entry before
    old_stored : (j : ℕ) → j < i → Stored s (values_to (entries s) L (i + 1)) kept' cells' made.at j
    old_stored j below r reads =
        rw (next_values, old_at (values_to (entries s) L i) own (row []) i j before_length below)
        (meant_after (entry (entries s) j).rule.sort (levels (entries s)) r (value_at (values_to (entries s) L i) j)
        worked.after
        (going.stored j below r
        (record {
          wide = reads.wide;
          places = λ k in_row. reads.places k in_row ∙ keeps.before (32 * j + k) (omega arith);
        })))

    -- this entry
    new_wide : Wide (rule_at s i).sort (width_at s i) own
    new_wide =
        rw (next_values, new_at (values_to (entries s) L i) own (row []) i before_length, entry_at_lem s i inside) at
        (values_wide (entries s) L (i + 1) i (check_checked s passed) (omega (arith, within)) (omega arith))

    new_stored : Stored s (values_to (entries s) L (i + 1)) kept' cells' made.at i
    new_stored r reads =
        let is : entry (entries s) i ≡ entry_at s i = entry_at_lem s i inside in
        let wide : r.width ≡ width_at s i = reads.wide ∙ ap (λ (e : Entry). e.width) is in
        rw (next_values, new_at (values_to (entries s) L i) own (row []) i before_length, is)
        (meant_moved (levels (entries s)) cells' made.at made.value r
        (λ k in_row. reads.places k in_row ∙ sym (keeps.reads.places k in_row))
        (rule_at s i).sort own (width_at s i) new_wide wide worked.means)

    pub going_next : Going s L cells₀ cells' scratch' kept' made.at (i + 1)
    going_next =
        record {
          after =
              rw (steps_next (entries s) L i (entry_at s i) within (entry_at_lem s i inside))
              (after_then going.after worked.after);
          stored = λ j below. go j below (ltb j i) refl;
        }
      where
        go : (j : ℕ) → j < i + 1 → (t : Bool) → ltb j i ≡ t
            → Stored s (values_to (entries s) L (i + 1)) kept' cells' made.at j
        go j below true e = old_stored j (ltb-true j i e)
        go j below false e =
            let over = ltb-false j i e in
            let same : i ≡ j = omega arith in
            subst (λ (m : ℕ). Stored s (values_to (entries s) L (i + 1)) kept' cells' made.at m) same new_stored

  -- no room: what follows needs no fewer nodes
  pub going_lacks : {cells' : List ℕ} (e : NoRoom)
      → Lacks cells b
      (work_of (rule_at s i).kind (entries s) (levels (entries s)) L (values_to (entries s) L i) (entry_at s i)).steps cells'
      → Ran s L cells₀ cells' (Err e)
  going_lacks {cells'} e own =
      let steps = steps_next (entries s) L i (entry_at s i) within (entry_at_lem s i inside) in
      let lacks : Lacks cells₀ empty (steps_to (entries s) L (i + 1)) cells' = rw steps (lacks_then going.after own) in
      let over = rw (nodes_of_none cells₀) at lacks.over in
      let grown : length (enter_all (steps_to (entries s) L (i + 1)) []) ≤ length (nodes_at s L) =
      steps_grow (entries s) L (i + 1) [] in
      record { long = lacks.kept; ended = omega (arith, over, grown) }

-- ---- the end

-- a formula's row
formula_pair : (sort : Sort) (n : ℕ) (cells : List ℕ) (b : Builder) (r : Row) (v : Value) → is_formula sort ≡ true
    → Meant sort n cells b r v → PairMeans n cells b (pair_in r) (pair_of v)
formula_pair Sort.variable n cells b r v is m = absurd (false≢true is)
formula_pair Sort.term n cells b r v is m = absurd (false≢true is)
formula_pair Sort.formula n cells b r v is m = m
formula_pair Sort.neither n cells b r v is m = absurd (false≢true is)

module _ {s : List ℕ} {L : ℕ} {cells₀ cells : List ℕ} {scratch : Scratch} {kept : List ℕ} {b : Builder} {i : ℕ}
    (going : Going s L cells₀ cells scratch kept b i) (passed : check s ≡ 0) (all : i ≡ count s) where
  ends : i ≡ length (entries s)
  ends = omega (arith, entries_length s)

  values_end : values_to (entries s) L i ≡ (run (entries s) L).value
  values_end = values_all (entries s) L i (omega (arith, ends))

  last_is : length (run (entries s) L).value - 1 ≡ length (entries s) - 1
  last_is =
      let long = values_length (entries s) L i (omega (arith, ends)) in
      omega (arith, ends, ap length values_end)

  some : 0 < length (entries s)
  some = (check_checked s passed).not_empty

  -- what stands in the buffer for the last entry
  abbrev last_row : Row
  last_row =
      let j = length (entries s) - 1 in
      record { bits = drop (32 * j) kept; width = (entry (entries s) j).width }

  last_pair_lem : PairMeans (levels (entries s)) cells b
      (record { must = get_or kept (32 * (count s - 1)) 0; may = get_or kept (32 * (count s - 1) + 1) 0 }) (pair_at s L)
  last_pair_lem =
      let j = length (entries s) - 1 in
      let reads : Reads kept j (entry (entries s) j).width last_row =
      record { wide = refl; places = λ k in_row. get_or-drop (32 * j) kept k 0 } in
      let meant = going.stored j (omega (arith, ends, some)) last_row reads in
      let pair = formula_pair (entry (entries s) j).rule.sort (levels (entries s)) cells b last_row
      (value_at (values_to (entries s) L i) j) (check_checked s passed).last_formula meant in
      let same : pair_of (value_at (values_to (entries s) L i) j) ≡ pair_at s L = rw (values_end, last_is) refl in
      let at : 32 * (count s - 1) ≡ 32 * j + 0 = omega (arith, entries_length s) in
      let next : 32 * (count s - 1) + 1 ≡ 32 * j + 1 = omega (arith, entries_length s) in
      let must : get_or kept (32 * (count s - 1)) 0 ≡ get_or (drop (32 * j) kept) 0 0 =
      rw at (sym (get_or-drop (32 * j) kept 0 0)) in
      let may : get_or kept (32 * (count s - 1) + 1) 0 ≡ get_or (drop (32 * j) kept) 1 0 =
      rw next (sym (get_or-drop (32 * j) kept 1 0)) in
      let given = rw same at pair in
      record { must = rw must given.must; may = rw may given.may }

  nodes_first : nodes cells₀ empty ≡ []
  nodes_first = nodes_of_none cells₀

  nodes_last : nodes cells b ≡ nodes_at s L
  nodes_last = going.after.entered ∙ rw (nodes_first, steps_all (entries s) L i (omega (arith, ends))) refl

  pub going_done : (end : Pair) → end ≡ record { must = get_or kept (32 * (count s - 1)) 0; may = get_or kept (32 * (count s - 1) + 1) 0 }
      → Ran s L cells₀ cells (Ok (record { at = b; value = end }))
  going_done end is =
      record {
        long = going.after.kept;
        ended =
            record {
              entered = nodes_last;
              must_is = rw (is, ← nodes_last) last_pair_lem.must.is;
              may_is = rw (is, ← nodes_last) last_pair_lem.may.is;
              room = omega (arith, going.after.ready.room, going.after.kept);
            };
      }
