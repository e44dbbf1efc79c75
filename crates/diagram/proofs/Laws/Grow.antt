-- When a table grows, numbers stand for what they stood for, and scratch, with the new slot covered, is still right.
use Prim.Native.Nat.{ℕ, ◌+◌, ◌-◌, ◌<◌}
use native.Mathlib.Omega.{arith}
use mathlib.Core.Path.{◌≡◌, refl, sym, ap, ◌∙◌}
use mathlib.Core.List.{List, [], ◌∷◌, ◌++◌}
use lib.ListN.{length}
use Rattle.meaning.specs.Diagram.{Tree, leaf, node}
use Rattle.meaning.specs.Table.{Node, Table}
use Rattle.meaning.specs.Lent.{level_of, low_of, high_of}
use Rattle.meaning.proofs.Laws.Table.{Is, Falls, Ext, slot_at, ext_at, ext_length, is_ext}
use Rattle.diagram.specs.Scratch.{Covers, Result, Remembers, Right, operation}
use Rattle.diagram.specs.declared.scratch.Scratch.{Scratch}
use Rattle.diagram.proofs.Laws.Cover.{indexed_covers}

-- what a number of the smaller table stands for in the larger one it stands for in the smaller one
pub is_back : (t : Tree) (n : ℕ) {s u : Table} → Ext s u → Falls s → n < length s + 2 → Is u n t → Is s n t
is_back (leaf b) n p falls below h = h
is_back (node i d e) n {s} {u} p falls below h =
    let big = h.big in
    let here : slot_at u n ≡ slot_at s n = ext_at p (n - 2) (omega arith) in
    let down = falls (n - 2) (omega arith) in
    let low = down.low.lower in
    let high = down.high.lower in
    record {
      big = h.big;
      inside = below;
      at = ap level_of (sym here) ∙ h.at;
      left = is_back d (low_of (slot_at s n)) p falls (omega arith) (rw here at h.left);
      right = is_back e (high_of (slot_at s n)) p falls (omega arith) (rw here at h.right);
    }

-- ---- what is remembered

result_ext : {s u : Table} {op a b c r : ℕ} → Ext s u → Falls s → Result s op a b c r → Result u op a b c r
result_ext {s} {u} {op} {a} {b} {c} {r} p falls result =
    let more = ext_length p in
    record {
      known_a = omega (arith, result.known_a);
      known_b = omega (arith, result.known_b);
      known_c = omega (arith, result.known_c);
      gives = λ x y z good_x good_y good_z is_x is_y is_z.
          is_ext (operation op x y z) r p
          (result.gives x y z good_x good_y good_z (is_back x a p falls result.known_a is_x)
          (is_back y b p falls result.known_b is_y) (is_back z c p falls result.known_c is_z));
    }

remembers_ext : (s u : Table) (memo : List (List ℕ)) → Ext s u → Falls s → Remembers s memo → Remembers u memo
remembers_ext s u memo p falls remembers e op inside is =
    result_ext p falls (remembers e op inside is)

-- ---- scratch with the new slot in the index

pub right_grown : {T : Table} {s s' : Scratch} {x : Node} → Falls T → Right T s
    → Covers s.heads.now s.links.now (length T) x s'.heads.now s'.links.now → s'.memo.now ≡ s.memo.now
    → Right (T ++ (x ∷ [])) s'
right_grown {T} {s} {s'} {x} falls right covers memo =
    record {
      indexed = indexed_covers T s.heads.now s.links.now x right.indexed s.one_link_each covers;
      remembers =
          rw memo
          (remembers_ext T (T ++ (x ∷ [])) s.memo.now (record { more = x ∷ []; whole = refl }) falls right.remembers);
    }
