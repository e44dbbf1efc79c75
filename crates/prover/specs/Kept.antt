-- The run over all entries, whose values are kept in a buffer, 32 numbers an entry.
--
--   OperandReads, OperandsRead  rows are what stands in the buffer for an entry's operands, where it has them
--   Ran                         what a run gives: the table, its last state and the pair, or the lack of room
use Rattle.std.specs.Prelude.{ℕ, ◌*◌, ◌/◌, ◌≤◌, ◌<◌, ◌≡◌, List, length, Result, Ok, Err}
use Rattle.meaning.specs.Sheet.{rule_at, width_at, entry_at, operand}
use Rattle.meaning.proofs.Laws.Table.{Is}
use Rattle.meaning.proofs.Laws.Solve.{nodes_at, pair_at}
use Rattle.diagram.specs.State.{nodes}
use Rattle.diagram.specs.declared.builder.Made.{Made}
use Rattle.diagram.specs.declared.builder.NoRoom.{NoRoom}
use Rattle.term.specs.declared.row.Row.{Row}
use Rattle.formula.specs.declared.pair.Pair.{Pair}
use Rattle.entry.specs.Rows.{Reads}
use Rattle.entry.specs.declared.value.Operands.{Operands}

abbrev pub OperandReads : List ℕ → List ℕ → ℕ → ℕ → Row → Type 0
OperandReads s kept i k row =
    k < length (rule_at s i).operands →
    Reads kept (operand (entry_at s i) k) (width_at s (operand (entry_at s i) k)) row

pub record OperandsRead (s kept : List ℕ) (i : ℕ) (v : Operands) : Type 0 where
  pub x : OperandReads s kept i 0 v.x
  pub y : OperandReads s kept i 1 v.y
  pub z : OperandReads s kept i 2 v.z

-- the nodes of the sheet's steps have entered, in order, and the pair stands for the last entry's
pub record Reached (s : List ℕ) (L : ℕ) (cells cells' : List ℕ) (end : Made Pair) : Type 0 where
  pub entered : nodes cells' end.at ≡ nodes_at s L
  pub must_is : Is (nodes_at s L) end.value.must (pair_at s L).must
  pub may_is : Is (nodes_at s L) end.value.may (pair_at s L).may
  pub room : 3 * end.at.used ≤ length cells

-- or they need more slots than there are
abbrev pub Ended : List ℕ → ℕ → List ℕ → List ℕ → Result (Made Pair) NoRoom → Type 0
Ended s L cells cells' (Ok end) = Reached s L cells cells' end
Ended s L cells cells' (Err e) = length cells / 3 < length (nodes_at s L)

pub record Ran (s : List ℕ) (L : ℕ) (cells cells' : List ℕ) (end : Result (Made Pair) NoRoom) : Type 0 where
  pub long : length cells' ≡ length cells
  pub ended : Ended s L cells cells' end
