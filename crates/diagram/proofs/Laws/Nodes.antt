-- The nodes of a lent table's first slots, and how they change when a node is laid after them.
use Prim.Native.Nat.{ℕ, zero, suc, ◌+◌, ◌*◌, ◌<◌}
use native.Mathlib.Omega.{arith}
use native.Mathlib.Numerals.{add-one}
use mathlib.Core.Path.{◌≡◌, refl, ap, ◌∙◌}
use mathlib.Core.List.{List, [], ◌∷◌, ◌++◌}
use lib.ListN.{length, get_or, set, length-set}
use lib.Seq.{get_or-set_same, get_or-set_other}
use Rattle.meaning.specs.Number.{each}
use Rattle.meaning.specs.Table.{slot, Table}
use Rattle.meaning.specs.Lent.{node_at}
use Rattle.meaning.proofs.Laws.Number.{each_same, up_to_length, up_to_at}
use Rattle.meaning.proofs.Laws.Table.{none}
use Rattle.diagram.specs.Table.{Inside, placed, nodes_of}

pub nodes_of_none : (cells : List ℕ) → nodes_of cells 0 ≡ []
unfolding nodes_of
nodes_of_none cells = refl

pub nodes_of_length : (cells : List ℕ) (used : ℕ) → length (nodes_of cells used) ≡ used
unfolding nodes_of
nodes_of_length cells used = up_to_length (node_at cells) used

pub nodes_of_at : (cells : List ℕ) (used k : ℕ) → k < used → get_or (nodes_of cells used) k none ≡ node_at cells k
unfolding nodes_of
nodes_of_at cells used k below = up_to_at (node_at cells) used k none below

pub nodes_of_same : (cells cells' : List ℕ) (used : ℕ) → ((k : ℕ) → k < used → node_at cells' k ≡ node_at cells k)
    → nodes_of cells' used ≡ nodes_of cells used
unfolding nodes_of
nodes_of_same cells cells' used same =
    each_same (node_at cells') (node_at cells) 0 used (λ k from below. same k (omega arith))

each_more : {A : Type 0} (f : ℕ → A) (i n : ℕ) → each f i (suc n) ≡ each f i n ++ (f (i + n) ∷ [])
each_more f i zero = ap (λ k. f k ∷ []) (omega arith)
each_more {A} f i (suc n) =
    ap {B = List A} (λ r. f i ∷ r)
    (each_more f (suc i) n ∙ ap {B = List A} (λ k. each f (suc i) n ++ (f k ∷ [])) (omega arith))

pub nodes_of_more : (cells : List ℕ) (used : ℕ)
    → nodes_of cells (used + 1) ≡ nodes_of cells used ++ (node_at cells used ∷ [])
unfolding nodes_of
nodes_of_more cells used =
    rw (add-one used)
    (each_more (node_at cells) 0 used
    ∙ ap {B = Table} (λ k. each (node_at cells) 0 used ++ (node_at cells k ∷ [])) (omega arith))

-- ---- a node laid into a slot

module _ (cells : List ℕ) (k i a b : ℕ) where
  pub placed_length : length (placed cells k i a b) ≡ length cells
  placed_length = simp length-set

  placed_below : (j : ℕ) → j < 3 * k → get_or (placed cells k i a b) j 0 ≡ get_or cells j 0
  placed_below j below =
      get_or-set_other (set (set cells (3 * k) i) (3 * k + 1) a) (3 * k + 2) j b 0 (omega arith)
      ∙ get_or-set_other (set cells (3 * k) i) (3 * k + 1) j a 0 (omega arith)
      ∙ get_or-set_other cells (3 * k) j i 0 (omega arith)

  placed_here : Inside cells k → node_at (placed cells k i a b) k ≡ slot i a b
  placed_here inside =
      let first : List ℕ = set cells (3 * k) i in
      let second : List ℕ = set first (3 * k + 1) a in
      let level : get_or (set second (3 * k + 2) b) (3 * k) 0 ≡ i =
      get_or-set_other second (3 * k + 2) (3 * k) b 0 (omega arith)
      ∙ get_or-set_other first (3 * k + 1) (3 * k) a 0 (omega arith)
      ∙ get_or-set_same cells (3 * k) i 0 (omega arith) in
      let low : get_or (set second (3 * k + 2) b) (3 * k + 1) 0 ≡ a =
      get_or-set_other second (3 * k + 2) (3 * k + 1) b 0 (omega arith)
      ∙ get_or-set_same first (3 * k + 1) a 0 (simp length-set (omega arith)) in
      let high : get_or (set second (3 * k + 2) b) (3 * k + 2) 0 ≡ b =
      get_or-set_same second (3 * k + 2) b 0 (simp length-set (omega arith)) in
      cc (level, low, high)

  placed_else : (j : ℕ) → j < k → node_at (placed cells k i a b) j ≡ node_at cells j
  placed_else j below =
      cc
      (placed_below (3 * j) (omega arith), placed_below (3 * j + 1) (omega arith), placed_below (3 * j + 2) (omega arith))

  -- the table grows by this node
  pub nodes_of_placed : Inside cells k → nodes_of (placed cells k i a b) (k + 1) ≡ nodes_of cells k ++ (slot i a b ∷ [])
  nodes_of_placed inside =
      nodes_of_more (placed cells k i a b) k
      ∙ cc (nodes_of_same cells (placed cells k i a b) k placed_else, placed_here inside)
