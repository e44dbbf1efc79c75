-- Rows of numbers, and the rows of bits that they stand for.
--
--   row_some     known numbers stand for some row, `row_of`; `bit_some` for one number
--   row_known    numbers that stand for a row are known
--   after_row    they stand for it after some steps too
--   not_mark     no diagram's number is the unknown mark
use Prim.Native.Nat.{ℕ, ◌+◌, ◌<◌}
use native.Mathlib.Omega.{arith}
use mathlib.Core.Path.{◌≡◌, refl}
use mathlib.Core.Logic.{◌≢◌, ◌⊎◌, inl, inr, ⊎_elim}
use mathlib.Core.Bool.{Bool, true, false, cond}
use mathlib.Core.List.{List}
use lib.Dec.{eqb}
use lib.ListN.{length, get_or}
use borrow.Author.Tests.{eqb-true, eqb-false}
use Rattle.meaning.specs.Number.{up_to}
use Rattle.meaning.specs.Diagram.{Tree, leaf, node}
use Rattle.meaning.specs.Table.{Table}
use Rattle.meaning.specs.Row
use Rattle.meaning.specs.Row.{Bit, known, unknown}
use Rattle.meaning.specs.Lent.{tree_of}
use Rattle.meaning.proofs.Laws.Number.{up_to_length, up_to_at}
use Rattle.meaning.proofs.Laws.Table.{Is, Ext, is_ext, enter_all_ext}
use Rattle.diagram.specs.State.{nodes, Known, Ready, After}
use Rattle.diagram.specs.declared.builder.Builder.{Builder}
use Rattle.diagram.specs.declared.scratch.Scratch.{Scratch}
use Rattle.diagram.proofs.Laws.Nodes.{nodes_of_length}
use Rattle.diagram.proofs.Laws.Parts.{tree_stands}
use Rattle.diagram.proofs.Laws.After.{after_known}
use Rattle.term.specs.Row.{mark, BitIs, BitMeans, BitKnown, RowMeans, RowKnown}
use Rattle.term.specs.declared.row.Row as Declared

-- ---- one number

-- the bit that a number stands for
abbrev pub bit_at : List ℕ → ℕ → Bit
bit_at cells a = cond (eqb a mark) unknown (known (tree_of cells a))

pub bit_some : {cells : List ℕ} {s : Scratch} {b : Builder} → Ready cells s b → (a : ℕ) → BitKnown b a
    → BitMeans 128 cells b a (bit_at cells a)
bit_some {cells} {s} {b} ready a is = go (eqb a mark) refl is
  where
    go : (s : Bool) → eqb a mark ≡ s → (a ≡ mark) ⊎ (a < b.used + 2)
        → BitMeans 128 cells b a (cond s unknown (known (tree_of cells a)))
    go true e h = eqb-true a mark e
    go false e (inl h) = absurd (eqb-false a mark e h)
    go false e (inr h) = let stands = tree_stands ready a h in (stands.is, stands.good)

is_below : (t : Tree) (s : Table) (a : ℕ) → Is s a t → a < length s + 2
is_below (leaf true) s a h = omega arith
is_below (leaf false) s a h = omega arith
is_below (node i d e) s a h = h.inside

-- a diagram's number is a terminal's or a used node's
pub is_used : (cells : List ℕ) (b : Builder) (a : ℕ) (t : Tree) → Is (nodes cells b) a t → Known b a
is_used cells b a t is = omega (arith, is_below t (nodes cells b) a is, nodes_of_length cells b.used)

pub not_mark : {cells : List ℕ} {s : Scratch} {b : Builder} → Ready cells s b → (a : ℕ) → Known b a → a ≢ mark
not_mark ready a below is = omega (arith, ready.room, ready.small)

pub known_unmarked : (b : Builder) (a : ℕ) → BitKnown b a → a ≢ mark → Known b a
known_unmarked b a is ne = ⊎_elim (λ e. absurd (ne e)) (λ below. below) is

pub bit_known : (cells : List ℕ) (b : Builder) (n a : ℕ) (p : Bit) → BitMeans n cells b a p → BitKnown b a
bit_known cells b n a (known t) is = inr (is_used cells b a t is.0)
bit_known cells b n a unknown is = inl is

bit_ext : {s u : Table} (n a : ℕ) (p : Bit) → Ext s u → BitIs n s a p → BitIs n u a p
bit_ext n a (known t) ext is = (is_ext t a ext is.0, is.1)
bit_ext n a unknown ext is = is

module _ {cells cells' : List ℕ} {s' : Scratch} {b b' : Builder} {xs : List Tree} (after : After cells b xs cells' s' b') where
  pub after_bit : (n a : ℕ) (p : Bit) → BitMeans n cells b a p → BitMeans n cells' b' a p
  after_bit n a p is = rw after.entered (bit_ext n a p (enter_all_ext xs (nodes cells b)) is)

  pub after_bit_known : (a : ℕ) → BitKnown b a → BitKnown b' a
  after_bit_known a (inl e) = inl e
  after_bit_known a (inr below) = inr (after_known after {a = a} below)

-- ---- a row

-- the row that numbers stand for
unfoldable pub row_of : List ℕ → Declared.Row → Row.Row
row_of cells row = up_to (λ i. bit_at cells (get_or row.bits i 0)) row.width

pub row_some : {cells : List ℕ} {s : Scratch} {b : Builder} {row : Declared.Row} → Ready cells s b → RowKnown b row
    → RowMeans 128 cells b row (row_of cells row)
unfolding row_of
row_some {cells} {s} {b} {row} ready is =
    record {
      long = up_to_length bit row.width;
      narrow = is.narrow;
      bits = λ i below.
          rw (up_to_at bit row.width i unknown below) (bit_some ready (get_or row.bits i 0) (is.each i below));
    }
  where
    bit : ℕ → Bit
    bit i = bit_at cells (get_or row.bits i 0)

pub row_known : {n : ℕ} {cells : List ℕ} {b : Builder} {row : Declared.Row} {r : Row.Row} → RowMeans n cells b row r
    → RowKnown b row
row_known {n} {cells} {b} {row} {r} means =
    record {
      narrow = means.narrow;
      each = λ i below. bit_known cells b n (get_or row.bits i 0) (get_or r i unknown) (means.bits i below);
    }

pub after_row : {n : ℕ} {cells cells' : List ℕ} {s' : Scratch} {b b' : Builder} {xs : List Tree} {row : Declared.Row}
    {r : Row.Row} → After cells b xs cells' s' b' → RowMeans n cells b row r → RowMeans n cells' b' row r
after_row {n} {row = row} {r} after means =
    record {
      long = means.long;
      narrow = means.narrow;
      bits = λ i below. after_bit after n (get_or row.bits i 0) (get_or r i unknown) (means.bits i below);
    }
