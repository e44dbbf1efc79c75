-- A diagram enters in parts and then by its node, and is noted; or it was noted before.
--
--   low_lacks, high_lacks   a part that lacks room
--   works_mk                low part, high part, then their node
--   enters_noted            the result is remembered
--   recalled_stands         a remembered result
use Prim.Native.Nat.{ℕ, suc, ◌+◌, ◌-◌, ◌<◌}
use native.Mathlib.Numerals.{add-one}
use mathlib.Core.Path.{◌≡◌, refl}
use mathlib.Core.Bool.{Bool, true, false, cond, ◌&&◌, ◌||◌}
use mathlib.Core.List.{List, [], ◌∷◌}
use lib.Dec.{ltb}
use lib.ListN.{length}
use Rattle.std.specs.Prelude.{Result}
use Rattle.meaning.specs.Diagram.{Tree, mk}
use Rattle.meaning.specs.Table.{enter_all}
use Rattle.meaning.specs.Step.{step_tree, quantify_tree, take, ◌>>=◌}
use Rattle.meaning.specs.Lent.{tree_of}
use Rattle.meaning.proofs.Laws.Shape.{Ok, Good}
use Rattle.meaning.proofs.Laws.Diagram.{step_good, quantify_good}
use Rattle.meaning.proofs.Laws.Table.{Is, is_one}
use Rattle.diagram.specs.Function.{table_of}
use Rattle.diagram.specs.Scratch as Memo
use Rattle.diagram.specs.Scratch.{operation, Recalled, key_of, noted}
use Rattle.diagram.specs.State.{Ready, Known, Means, Stands, Lacks, Does, Works, Joins, nodes}
use Rattle.diagram.specs.declared.builder.Builder.{Builder}
use Rattle.diagram.specs.declared.builder.Made.{Made}
use Rattle.diagram.specs.declared.builder.NoRoom.{NoRoom}
use Rattle.diagram.specs.declared.scratch.Scratch.{Scratch}
use Rattle.diagram.specs.declared.scratch.Key.{Key}
use Rattle.diagram.proofs.Laws.Nodes.{nodes_of_length}
use Rattle.diagram.proofs.Laws.After.{after_means, after_known, lacks_more, lacks_then, lacks_same}
use Rattle.diagram.proofs.Laws.After.{does_then, works_then, works_same}
use Rattle.diagram.proofs.Laws.Parts.{enter_all_mk, tree_stands}
use Rattle.diagram.proofs.Laws.Memo.{recalled_is, ready_noted}

-- from state b the diagram x enters, and is made
abbrev pub Enters : List ℕ → Builder → Tree → List ℕ → Scratch → Made ℕ → Type 0
Enters cells b x cells' s' made = Does Means cells b (take x) cells' s' made

module _ {cells : List ℕ} {s : Scratch} {b : Builder} (ready : Ready cells s b) (l : ℕ) (d e : Tree) where
  same : enter_all (d ∷ e ∷ mk l d e ∷ []) (nodes cells b) ≡ enter_all (mk l d e ∷ []) (nodes cells b)
  same = enter_all_mk l d e (nodes cells b) ready.single

  pub low_lacks : {c₁ : List ℕ} → Lacks cells b (d ∷ []) c₁ → Lacks cells b (mk l d e ∷ []) c₁
  low_lacks low = lacks_same same (lacks_more (e ∷ mk l d e ∷ []) low)

  pub high_lacks : {c₁ c₂ : List ℕ} {s₁ : Scratch} {low : Made ℕ} → Enters cells b d c₁ s₁ low
      → Lacks c₁ low.at (e ∷ []) c₂ → Lacks cells b (mk l d e ∷ []) c₂
  high_lacks low high = lacks_same same (lacks_then low.after (lacks_more (mk l d e ∷ []) high))

  pub works_mk : {c₁ c₂ : List ℕ} {s₁ s₂ : Scratch} {low high : Made ℕ} (c₃ : List ℕ) (s₃ : Scratch)
      (r : Result (Made ℕ) NoRoom) → Ok (suc l) 128 d → Ok (suc l) 128 e → Enters cells b d c₁ s₁ low
      → Enters c₁ low.at e c₂ s₂ high
      → Joins c₂ high.at (record { level = l; low = low.value; high = high.value }) c₃ s₃ r
      → Works Means cells b (take (mk l d e)) c₃ s₃ r
  works_mk c₃ s₃ r ok_d ok_e low high join =
      let last = join d e (rw (add-one l) ok_d) (rw (add-one l) ok_e) (after_means high.after low.means) high.means in
      works_same Means cells b (◌>>=◌ (◌>>=◌ (take d) (λ x. take e)) (λ x. take (mk l d e))) (take (mk l d e)) c₃ s₃ r refl same
      (works_then Means (λ x. take (mk l d e)) c₃ s₃ r (does_then low high) last)

-- ---- an operation of numbers, in a ready state

abbrev pub operation_of : List ℕ → ℕ → ℕ → ℕ → ℕ → Tree
operation_of cells op a c d = operation op (tree_of cells a) (tree_of cells c) (tree_of cells d)

pub operation_good : (op : ℕ) (x y z : Tree) → Good 128 (operation op x y z)
unfolding operation
operation_good op x y z = go (ltb op 256) (ltb op 384)
  where
    go : (s r : Bool) → Good 128 (cond s (step_tree 128 (table_of op) x y z)
        (cond r (quantify_tree 128 ◌||◌ (op - 256) x) (quantify_tree 128 ◌&&◌ (op - 384) x)))
    go true r = step_good 128 (table_of op) x y z
    go false true = quantify_good 128 ◌||◌ (op - 256) x
    go false false = quantify_good 128 ◌&&◌ (op - 384) x

module _ {cells : List ℕ} {s : Scratch} {b : Builder} (ready : Ready cells s b) (op a c d : ℕ)
    (known_a : a < b.used + 2) (known_c : c < b.used + 2) (known_d : d < b.used + 2)
    {key : Key} (entries : ℕ) (asked : key ≡ key_of entries op a c d) where
  pub recalled_stands : {r : ℕ} → Recalled s.memo.now key r → Stands (nodes cells b) r (operation_of cells op a c d)
  recalled_stands {r} said =
      let right = recalled_is ready entries op a c d asked said in
      let x = tree_stands ready a known_a in
      let y = tree_stands ready c known_c in
      let z = tree_stands ready d known_d in
      record {
        is =
            right.gives (tree_of cells a) (tree_of cells c) (tree_of cells d)
            x.good y.good z.good x.is y.is z.is;
        good = operation_good op (tree_of cells a) (tree_of cells c) (tree_of cells d);
      }

  pub enters_noted : {cells' : List ℕ} {s' : Scratch} (s'' : Scratch) {made : Made ℕ}
      → Enters cells b (operation_of cells op a c d) cells' s' made → s''.memo.now ≡ noted s'.memo.now key made.value
      → (s''.heads.now ≡ s'.heads.now) × (s''.links.now ≡ s'.links.now)
      → Enters cells b (operation_of cells op a c d) cells' s'' made
  enters_noted {cells'} {s'} s'' {made} p memo index =
      let after = p.after in
      record {
        after =
            record {
              kept = after.kept;
              entered = after.entered;
              ready = ready_noted after.ready entries op a c d asked result memo index;
            };
        means = p.means;
      }
    where
      known : (n : ℕ) → n < b.used + 2 → n < length (nodes cells' made.at) + 2
      known n inside =
          let later : Known made.at n = after_known p.after inside in
          rw (nodes_of_length cells' made.at.used) later

      one : (n : ℕ) → n < b.used + 2 → (x : Tree) → Is (nodes cells' made.at) n x → x ≡ tree_of cells n
      one n inside x is =
          let later : Means cells' made.at n (tree_of cells n) = after_means p.after (tree_stands ready n inside) in
          is_one x (tree_of cells n) (nodes cells' made.at) n is later.is

      result : Memo.Result (nodes cells' made.at) op a c d made.value
      result =
          record {
            known_a = known a known_a;
            known_b = known c known_c;
            known_c = known d known_d;
            gives = λ x y z good_x good_y good_z is_x is_y is_z.
                rw (one a known_a x is_x, one c known_c y is_y, one d known_d z is_z) p.means.is;
          }
