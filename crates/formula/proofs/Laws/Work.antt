-- Numbers that stand for diagrams over n levels, and single steps.
--
--   some_tree    a known number stands for some diagram; with it a call's promise says that the next state is ready
--   step_makes   one step by a truth table; step_named: by the function that the table is of
use Prim.Native.Nat.{ℕ, ◌≤◌}
use native.Mathlib.Omega.{arith}
use mathlib.Core.Path.{refl, subst}
use mathlib.Core.Bool.{Bool}
use mathlib.Core.List.{List}
use Rattle.std.specs.Prelude.{Result, Ok, Err}
use Rattle.meaning.specs.Number.{digit}
use Rattle.meaning.specs.Diagram.{Tree, leaf}
use Rattle.meaning.specs.Step.{Function, take, step, quantify}
use Rattle.meaning.specs.Lent.{tree_of}
use Rattle.meaning.proofs.Laws.Shape.{Good}
use Rattle.meaning.proofs.Laws.Table.{is_ext, enter_all_ext}
use Rattle.meaning.proofs.Laws.Diagram.{ok_wider, step_good, quantify_good}
use Rattle.diagram.specs.Function.{table_of}
use Rattle.diagram.specs.State.{Ready, Known, Means, After, Does, Works, nodes, chooser}
use Rattle.diagram.specs.declared.builder.Builder.{Builder}
use Rattle.diagram.specs.declared.builder.Made.{Made}
use Rattle.diagram.specs.declared.builder.NoRoom.{NoRoom}
use Rattle.diagram.specs.declared.scratch.Scratch.{Scratch}
use Rattle.diagram.proofs.Laws.Parts.{tree_stands}
use Rattle.term.proofs.Laws.Levels.{Tabled, table_function, step_levels, quantify_levels}
use Rattle.term.proofs.Laws.Rows.{is_used}
use Rattle.formula.specs.Pair.{TreeMeans}

-- ---- numbers

module _ {n : ℕ} {cells : List ℕ} {b : Builder} {a : ℕ} {x : Tree} (means : TreeMeans n cells b a x) where
  -- among the builder's 128 levels
  pub tree_means : n ≤ 128 → Means cells b a x
  tree_means le = record { is = means.is; good = ok_wider 0 n 128 x le means.good }

  pub tree_known : Known b a
  tree_known = is_used cells b a x means.is

  -- some steps later
  pub tree_later : {cells' : List ℕ} {s' : Scratch} {b' : Builder} {xs : List Tree} → After cells b xs cells' s' b'
      → TreeMeans n cells' b' a x
  tree_later {xs = xs} after =
      record { is = rw after.entered (is_ext x a (enter_all_ext xs (nodes cells b)) means.is); good = means.good }

-- a terminal
pub leaf_means : (n : ℕ) (cells : List ℕ) (b : Builder) (v : Bool) → TreeMeans n cells b (digit v) (leaf v)
leaf_means n cells b v = record { is = refl; good = tt }

-- a known number stands for the diagram that its nodes spell
pub some_tree : {cells : List ℕ} {s : Scratch} {b : Builder} (a : ℕ) → Ready cells s b → Known b a
    → TreeMeans 128 cells b a (tree_of cells a)
some_tree a ready known =
    let stands = tree_stands ready a known in
    record { is = stands.is; good = stands.good }

-- ---- steps

-- a diagram over n levels
good_works : (n : ℕ) (cells : List ℕ) (b : Builder) (t : Tree) (cells' : List ℕ) (s' : Scratch) (r : Result (Made ℕ) NoRoom)
    → Good n t → Works Means cells b (take t) cells' s' r → Works (TreeMeans n) cells b (take t) cells' s' r
good_works n cells b t cells' s' (Ok made) good p =
    record { after = p.after; means = record { is = p.means.is; good = good } }
good_works n cells b t cells' s' (Err e) good p = p

-- what `step` promises
abbrev pub Steps : List ℕ → Builder → ℕ → ℕ → ℕ → ℕ → List ℕ → Scratch → Result (Made ℕ) NoRoom → Type 0
Steps cells b k p q r cells' s' result =
    (x y z : Tree) → Means cells b p x → Means cells b q y → Means cells b r z →
    Works Means cells b (step 128 (table_of k) x y z) cells' s' result

module _ {cells : List ℕ} {b : Builder} {p q s : ℕ} (cells' : List ℕ) (s' : Scratch) (k : ℕ) (result : Result (Made ℕ) NoRoom)
    (does : Steps cells b k p q s cells' s' result) where
  -- one step by the truth table k
  pub step_makes : {n : ℕ} {x y z : Tree} → n ≤ 128 → TreeMeans n cells b p x → TreeMeans n cells b q y
      → TreeMeans n cells b s z → Works (TreeMeans n) cells b (step n (table_of k) x y z) cells' s' result
  unfolding step
  step_makes {n} {x} {y} {z} le is_x is_y is_z =
      let same = step_levels n 128 le (table_of k) x y z is_x.good is_y.good is_z.good in
      let done_at = does x y z (tree_means is_x le) (tree_means is_y le) (tree_means is_z le) in
      good_works n cells b _ cells' s' result (step_good n (table_of k) x y z)
      (subst (λ t. Works Means cells b (take t) cells' s' result) same done_at)

  -- by the function that the table is of
  pub step_named : {n : ℕ} {x y z : Tree} (f : Function) → Tabled k f → n ≤ 128 → TreeMeans n cells b p x
      → TreeMeans n cells b q y → TreeMeans n cells b s z → Works (TreeMeans n) cells b (step n f x y z) cells' s' result
  step_named {n} {x} {y} {z} f tabled le is_x is_y is_z =
      subst (λ g. Works (TreeMeans n) cells b (step n g x y z) cells' s' result) (table_function k f tabled)
      (step_makes le is_x is_y is_z)

-- a step was done, whatever its operands stand for
pub step_some : {cells : List ℕ} {w : Scratch} {b : Builder} {p q s : ℕ} (cells' : List ℕ) (s' : Scratch) (made : Made ℕ) (k : ℕ)
    → Ready cells w b → Known b p → Known b q → Known b s → Steps cells b k p q s cells' s' (Ok made)
    → Does (TreeMeans 128) cells b (step 128 (table_of k) (tree_of cells p) (tree_of cells q) (tree_of cells s)) cells' s' made
step_some {p = p} {q} {s} cells' s' made k ready known_p known_q known_s does =
    step_makes cells' s' k (Ok made) does (omega arith) (some_tree p ready known_p) (some_tree q ready known_q)
    (some_tree s ready known_s)

-- one quantifier step
pub quantify_makes : {n : ℕ} {cells : List ℕ} {b : Builder} {a : ℕ} {x : Tree} (cells' : List ℕ) (s' : Scratch) (every : Bool)
    (l : ℕ) (result : Result (Made ℕ) NoRoom)
    → ((y : Tree) → Means cells b a y → Works Means cells b (quantify 128 (chooser every) l y) cells' s' result)
    → n ≤ 128 → TreeMeans n cells b a x → Works (TreeMeans n) cells b (quantify n (chooser every) l x) cells' s' result
unfolding quantify
quantify_makes {n} {cells} {b} {x = x} cells' s' every l result does le is_x =
    let same = quantify_levels n 128 le (chooser every) l x is_x.good in
    good_works n cells b _ cells' s' result (quantify_good n (chooser every) l x)
    (subst (λ t. Works Means cells b (take t) cells' s' result) same (does x (tree_means is_x le)))
