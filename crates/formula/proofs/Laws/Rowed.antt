-- The loop along two rows of one width: the work of the bits from i on is left.
--
--   rowed_start, rowed_ready, rowed_next, rowed_lacks   nothing is done yet, a bit's turn can be done, is done, lacks room
use Prim.Native.Nat.{ℕ, suc, ◌+◌, ◌≤◌, ◌<◌}
use native.Mathlib.Omega.{arith}
use native.Mathlib.Numerals.{add-one}
use mathlib.Core.Path.{◌≡◌, refl, sym, ◌∙◌}
use mathlib.Core.Logic.{◌≢◌}
use mathlib.Core.Bool.{Bool, true, false, ◌&&◌}
use mathlib.Core.List.{List, ◌∷◌}
use lib.Dec.{eqb}
use lib.ListN.{length, get_or, drop}
use lib.Seq.{drop-cons, drop-length}
use borrow.Author.Tests.{eqb-true, eqb-false}
use Rattle.std.specs.Prelude.{Ok, Err}
use Rattle.meaning.specs.Diagram.{Tree, leaf}
use Rattle.meaning.specs.Step.{Work, ◌>>=◌, step, is_and, agree, unused}
use Rattle.meaning.specs.Row
use Rattle.meaning.specs.Row.{Bit, known, unknown}
use Rattle.meaning.specs.Formula.{equal_from, chain, signed_here}
use Rattle.diagram.specs.State.{Ready, Known, Lacks}
use Rattle.diagram.specs.declared.builder.Builder.{Builder}
use Rattle.diagram.specs.declared.builder.Made.{Made}
use Rattle.diagram.specs.declared.builder.NoRoom.{NoRoom}
use Rattle.diagram.specs.declared.scratch.Scratch.{Scratch}
use Rattle.term.specs.Row.{BitKnown, RowKnown, RowMeans}
use Rattle.term.specs.declared.row.Row as Declared
use Rattle.term.proofs.Laws.Rows.{row_of, row_some, row_known, after_row}
use Rattle.formula.specs.Compare.{Turns, agree_bit, order_bit, top_of}
use Rattle.formula.proofs.Laws.Work.{leaf_means, tree_known}
use Rattle.formula.proofs.Laws.Sofar.{Sofar, sofar_start, sofar_next, sofar_lacks, then_assoc}

-- work along two rows of bits, and one bit's part of it
abbrev pub Along : Type 0
Along = ℕ → Row.Row → Row.Row → Tree → Work Tree

abbrev pub Turn : Type 0
Turn = ℕ → Bit → Bit → Tree → Work Tree

-- at bit i of rows of this width it is one turn, then the work of the bits above
abbrev pub Splits : Along → Turn → ℕ → ℕ → Type 0
Splits along turn width i =
    (n : ℕ) (p q : Row.Row) (z : Tree) → length p ≡ width → length q ≡ width → i < width →
    along n (drop i p) (drop i q) z ≡
    ◌>>=◌ (turn n (get_or p i unknown) (get_or q i unknown) z) (along n (drop (i + 1) p) (drop (i + 1) q))

-- the bits below i are done, from the diagram true on
pub record Rowed (along : Along) (cells : List ℕ) (b : Builder) (x y : Declared.Row) (cells' : List ℕ) (s' : Scratch)
    (made : Made ℕ) (i : ℕ) : Type 0 where
  pub sofar : (n : ℕ) (p q : Row.Row) → n ≤ 128 → RowMeans n cells b x p → RowMeans n cells b y q
      → Sofar n cells b (along n p q (leaf true)) cells' s' made (along n (drop i p) (drop i q))

pub rowed_start : (along : Along) (x y : Declared.Row) {cells : List ℕ} {s : Scratch} {b : Builder} → Ready cells s b
    → Rowed along cells b x y cells s (record { at = b; value = 1 }) 0
rowed_start along x y {cells} {b = b} ready =
    record { sofar = λ n p q le is_x is_y. sofar_start (along n p q) ready (leaf_means n cells b true) }

-- a turn of numbers p and q can be done
pub record Turnable (cells : List ℕ) (s : Scratch) (made : Made ℕ) (p q : ℕ) : Type 0 where
  pub ready : Ready cells s made.at
  pub bits : BitKnown made.at p × BitKnown made.at q
  pub known : Known made.at made.value

module _ {along : Along} {cells : List ℕ} {b : Builder} {x y : Declared.Row} {c₁ : List ℕ} {s₁ : Scratch} {made : Made ℕ} {i : ℕ}
    (rowed : Rowed along cells b x y c₁ s₁ made i) (wide : x.width ≡ y.width) (below : i < x.width) {u v : ℕ}
    (is_u : u ≡ get_or x.bits i 0) (is_v : v ≡ get_or y.bits i 0) where
  -- bit i's turn can be done
  pub rowed_ready : {s : Scratch} → Ready cells s b → RowKnown b x → RowKnown b y → Turnable c₁ s₁ made u v
  rowed_ready ready known_x known_y =
      let row_x = row_some ready known_x in
      let row_y = row_some ready known_y in
      let does = (rowed.sofar 128 (row_of cells x) (row_of cells y) (omega arith) row_x row_y).does in
      record {
        ready = does.after.ready;
        bits =
            rw (is_u, is_v) (
              (row_known (after_row does.after row_x)).each i below,
              (row_known (after_row does.after row_y)).each i (omega (arith, wide)),
            );
        known = tree_known does.means;
      }

  pub rowed_next : (turn : Turn) (c₂ : List ℕ) (s₂ : Scratch) (next : Made ℕ) → Splits along turn x.width i
      → Turns turn c₁ made.at u v made.value c₂ s₂ (Ok next)
      → Rowed along cells b x y c₂ s₂ next (i + 1)
  rowed_next turn c₂ s₂ next splits does =
      record {
        sofar = λ n p q le is_x is_y.
            let sofar = rowed.sofar n p q le is_x is_y in
            let after = sofar.does.after in
            sofar_next sofar (turn n (get_or p i unknown) (get_or q i unknown)) (along n (drop (i + 1) p) (drop (i + 1) q))
            (λ z. splits n p q z is_x.long (is_y.long ∙ sym wide) below)
            (λ z is_z. does n (get_or p i unknown) (get_or q i unknown) z le (rw is_u ((after_row after is_x).bits i below))
            (rw is_v ((after_row after is_y).bits i (omega (arith, wide)))) is_z);
      }

  pub rowed_lacks : (turn : Turn) (c₂ : List ℕ) (s₂ : Scratch) (e : NoRoom) → Splits along turn x.width i
      → Turns turn c₁ made.at u v made.value c₂ s₂ (Err e)
      → (n : ℕ) (p q : Row.Row) → n ≤ 128 → RowMeans n cells b x p → RowMeans n cells b y q
      → Lacks cells b (along n p q (leaf true)).steps c₂
  rowed_lacks turn c₂ s₂ e splits fails n p q le is_x is_y =
      let sofar = rowed.sofar n p q le is_x is_y in
      let after = sofar.does.after in
      sofar_lacks sofar (turn n (get_or p i unknown) (get_or q i unknown)) (along n (drop (i + 1) p) (drop (i + 1) q))
      (λ z. splits n p q z is_x.long (is_y.long ∙ sym wide) below)
      (λ z is_z. fails n (get_or p i unknown) (get_or q i unknown) z le (rw is_u ((after_row after is_x).bits i below))
      (rw is_v ((after_row after is_y).bits i (omega (arith, wide)))) is_z)

-- ---- equal

abbrev pub agree_along : Along
agree_along n p q r = equal_from n r p q

agree_cons : (n : ℕ) (a b : Bit) (ar br : Row.Row) (r : Tree)
    → equal_from n r (a ∷ ar) (b ∷ br) ≡ ◌>>=◌ (agree_bit n a b r) (agree_along n ar br)
agree_cons n (known x) (known y) ar br r =
    then_assoc (step n agree x y unused) (λ e. step n is_and r e unused) (agree_along n ar br)
agree_cons n (known x) unknown ar br r = refl
agree_cons n unknown b ar br r = refl

pub agree_splits : (width i : ℕ) → Splits agree_along agree_bit width i
agree_splits width i n p q z long_p long_q below =
    let in_p : i < length p = omega arith in
    let in_q : i < length q = omega arith in
    rw (add-one i, drop-cons p i unknown in_p, drop-cons q i unknown in_q)
    (agree_cons n (get_or p i unknown) (get_or q i unknown) (drop (suc i) p) (drop (suc i) q) z)

-- ---- unsigned ≤ and signed ≤

abbrev pub order_along : Bool → Bool → Along
order_along signed z n p q r = chain n signed z r p q

-- the definition looks whether bits are left, the code at the bit's place
here_top : (signed : Bool) (i : ℕ) (p : Row.Row) → i < length p
    → signed_here signed (drop (i + 1) p) ≡ top_of signed i (length p)
here_top signed i p below = go (eqb (i + 1) (length p)) refl
  where
    other : (signed : Bool) → signed && false ≡ false
    other true = refl
    other false = refl

    only : (signed : Bool) → signed && true ≡ signed
    only true = refl
    only false = refl

    go : (s : Bool) → eqb (i + 1) (length p) ≡ s → signed_here signed (drop (i + 1) p) ≡ (signed && s)
    go true e = rw (eqb-true (i + 1) (length p) e, drop-length p) (sym (only signed))
    go false e =
        let less : i + 1 ≢ length p = eqb-false (i + 1) (length p) e in
        let more : i + 1 < length p = omega arith in
        rw (drop-cons p (i + 1) unknown more) (sym (other signed))

pub order_splits : (signed z top : Bool) (width i : ℕ) → top ≡ top_of signed i width
    → Splits (order_along signed z) (order_bit top z) width i
order_splits signed z top width i is n p q r long_p long_q below =
    let in_p : i < length p = omega arith in
    let in_q : i < length q = omega arith in
    rw (is, ← long_p, ← here_top signed i p in_p, add-one i, drop-cons p i unknown in_p, drop-cons q i unknown in_q) refl
