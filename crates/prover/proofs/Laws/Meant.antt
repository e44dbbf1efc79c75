-- Numbers that stand for an entry's value: after some steps, in another row, and for safety.
use Prim.Native.Nat.{ℕ, ◌≤◌, ◌<◌}
use native.Mathlib.Omega.{arith}
use mathlib.Core.Path.{◌≡◌, sym, ◌∙◌}
use mathlib.Core.List.{List}
use lib.ListN.{length, get_or}
use Rattle.meaning.specs.Kind.{Sort}
use Rattle.meaning.specs.Diagram.{Tree}
use Rattle.meaning.specs.Row as Rows
use Rattle.meaning.specs.Run.{Value, row_of}
use Rattle.diagram.specs.State.{After}
use Rattle.diagram.specs.declared.builder.Builder.{Builder}
use Rattle.diagram.specs.declared.scratch.Scratch.{Scratch}
use Rattle.term.specs.Row.{RowMeans}
use Rattle.term.specs.declared.row.Row.{Row}
use Rattle.term.proofs.Laws.Rows.{after_row, row_known}
use Rattle.formula.proofs.Laws.Work.{tree_later, tree_known}
use Rattle.entry.specs.Value.{Meant, Held}
use Rattle.prover.proofs.Laws.Run.{Wide}

-- they stand for it after some steps too
pub meant_after : (sort : Sort) (n : ℕ) {cells cells' : List ℕ} {s' : Scratch} {b b' : Builder} {xs : List Tree} (row : Row)
    (v : Value) → After cells b xs cells' s' b' → Meant sort n cells b row v → Meant sort n cells' b' row v
meant_after Sort.variable n row v after m = after_row after m
meant_after Sort.term n row v after m = after_row after m
meant_after Sort.formula n row v after m =
    record { must = tree_later m.must after; may = tree_later m.may after }
meant_after Sort.neither n row v after m = tt

module _ (n : ℕ) (cells : List ℕ) (b : Builder) (row row' : Row)
    (same : (k : ℕ) → k < 32 → get_or row'.bits k 0 ≡ get_or row.bits k 0) where
  row_moved : (r : Rows.Row) → length r ≡ row'.width → RowMeans n cells b row r → RowMeans n cells b row' r
  row_moved r wide m =
      let narrow : row'.width ≤ 32 = omega (arith, m.long, m.narrow) in
      record {
        long = wide;
        narrow = narrow;
        bits = λ i below. rw (same i (omega arith)) (m.bits i (omega (arith, m.long)));
      }

  -- another row of the same numbers
  pub meant_moved : (sort : Sort) (v : Value) (w : ℕ) → Wide sort w v → row'.width ≡ w → Meant sort n cells b row v
      → Meant sort n cells b row' v
  meant_moved Sort.variable v w wide is m = row_moved (row_of v) (wide ∙ sym is) m
  meant_moved Sort.term v w wide is m = row_moved (row_of v) (wide ∙ sym is) m
  meant_moved Sort.formula v w wide is m =
      record {
        must = record { is = rw (same 0 (omega arith)) m.must.is; good = m.must.good };
        may = record { is = rw (same 1 (omega arith)) m.may.is; good = m.may.good };
      }
  meant_moved Sort.neither v w wide is m = tt

pub meant_held : (sort : Sort) (n : ℕ) (cells : List ℕ) (b : Builder) (row : Row) (v : Value) (w : ℕ) → row.width ≡ w
    → Meant sort n cells b row v → Held sort b w row
meant_held Sort.variable n cells b row v w is m = (is, row_known m)
meant_held Sort.term n cells b row v w is m = (is, row_known m)
meant_held Sort.formula n cells b row v w is m = record { must = tree_known m.must; may = tree_known m.may }
meant_held Sort.neither n cells b row v w is m = tt
