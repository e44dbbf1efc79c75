-- How a row of numbers stands for a row of bits.
--
--   BitMeans  a number stands for a bit: a diagram's number, or the unknown mark
--   RowMeans  a row of numbers stands for a row of bits
--   RowKnown  each number is the unknown mark, a terminal or a used node's
use Rattle.std.specs.Prelude.{ℕ, ◌+◌, ◌≤◌, ◌<◌, ◌≡◌, ◌⊎◌, List, length, get_or, take}
use Rattle.meaning.specs.Table.{Table}
use Rattle.meaning.specs.Row
use Rattle.meaning.specs.Row.{Bit, known, unknown}
use Rattle.meaning.proofs.Laws.Shape.{Good}
use Rattle.meaning.proofs.Laws.Table.{Is}
use Rattle.diagram.specs.State.{nodes}
use Rattle.diagram.specs.declared.builder.Builder.{Builder}
use Rattle.term.specs.declared.row.Row as Declared

-- the unknown mark
abbrev pub mark : ℕ
mark = 4294967295

-- over n levels
abbrev pub BitIs : ℕ → Table → ℕ → Bit → Type 0
BitIs n T a (known t) = Is T a t × Good n t
BitIs n T a unknown = a ≡ mark

abbrev pub BitMeans : ℕ → List ℕ → Builder → ℕ → Bit → Type 0
BitMeans n cells b a p = BitIs n (nodes cells b) a p

pub record RowMeans (n : ℕ) (cells : List ℕ) (b : Builder) (row : Declared.Row) (r : Row.Row) : Type 0 where
  pub long : length r ≡ row.width
  pub narrow : row.width ≤ 32
  pub bits : (i : ℕ) → i < row.width → BitMeans n cells b (get_or row.bits i 0) (get_or r i unknown)

-- number a can be a row's: it is the mark, a terminal or a used node's
abbrev pub BitKnown : Builder → ℕ → Type 0
BitKnown b a = (a ≡ mark) ⊎ (a < b.used + 2)

pub record RowKnown (b : Builder) (row : Declared.Row) : Type 0 where
  pub narrow : row.width ≤ 32
  pub each : (i : ℕ) → i < row.width → BitKnown b (get_or row.bits i 0)

-- ---- moved bits, as lists of numbers

-- a row's own places
abbrev pub places : Declared.Row → List ℕ
places row = take row.width row.bits
