-- The quantifier step on numbers: no such level, the level itself, remembered, or split at a level before it.
use Prim.Native.Nat.{ℕ, suc, ◌+◌, ◌-◌, ◌≤◌, ◌<◌}
use native.Mathlib.Omega.{arith}
use mathlib.Core.Path.{◌≡◌, refl, sym, ap, subst, ◌∙◌}
use mathlib.Core.Bool.{Bool, true, false, cond}
use mathlib.Core.List.{List}
use borrow.Author.Tests.{lt-ltb, le-ltb, eq-eqb}
use Rattle.std.specs.Prelude.{Result, Ok, Err}
use Rattle.meaning.specs.Diagram.{Tree, leaf, node, holds, mk}
use Rattle.meaning.specs.Step.{Function, step, quantify, step_tree, quantify_tree, take, unused}
use Rattle.meaning.specs.Witness.{part}
use Rattle.meaning.specs.Lent.{tree_of}
use Rattle.meaning.proofs.Laws.Shape as Shape
use Rattle.meaning.proofs.Laws.Shape.{Good}
use Rattle.meaning.proofs.Laws.Diagram.{ok_good}
use Rattle.meaning.proofs.Laws.Apply.{top_level, step_function}
use Rattle.meaning.proofs.Laws.Apply.{quantify_ok, quantify_above, quantify_here, quantify_split}
use Rattle.diagram.specs.Function.{table_of}
use Rattle.diagram.specs.Scratch.{operation, Recalled, key_of, noted}
use Rattle.diagram.specs.State.{Ready, Known, Means, After, Works, Joins, chooser}
use Rattle.diagram.specs.Table.{top_of, part_of, halves_of}
use Rattle.diagram.specs.declared.builder.Builder.{Builder}
use Rattle.diagram.specs.declared.builder.Made.{Made}
use Rattle.diagram.specs.declared.builder.NoRoom.{NoRoom}
use Rattle.diagram.specs.declared.scratch.Scratch.{Scratch}
use Rattle.diagram.specs.declared.scratch.Key.{Key}
use Rattle.diagram.specs.declared.table.Halves.{Halves}
use Rattle.diagram.proofs.Laws.After.{after_nothing, after_means, works_there}
use Rattle.diagram.proofs.Laws.Parts.{tree_stands, tree_one, tree_good, tree_top, tree_ok, tree_part, part_falls}
use Rattle.diagram.proofs.Laws.Enters.{Enters, low_lacks, high_lacks, works_mk, operation_of, enters_noted, recalled_stands}
use Rattle.diagram.proofs.Laws.Step.{Steps}

-- what a quantifier step does
abbrev pub Quantifies : List ℕ → Builder → Bool → ℕ → ℕ → List ℕ → Scratch → Result (Made ℕ) NoRoom → Type 0
Quantifies cells b every l n cells' s' made =
    (x : Tree) → Means cells b n x → Works Means cells b (quantify 128 (chooser every) l x) cells' s' made

-- its diagram
abbrev pub quantify_of : List ℕ → Bool → ℕ → ℕ → Tree
quantify_of cells every l n = quantify_tree 128 (chooser every) l (tree_of cells n)

-- the diagram of one part, split at level i
abbrev pub part_tree : List ℕ → Bool → ℕ → ℕ → ℕ → Bool → Tree
part_tree cells every l n i v = quantify_tree 128 (chooser every) l (part v i (tree_of cells n))

-- ---- or, and

chooser_same : (every v : Bool) → chooser every v v ≡ v
chooser_same true true = refl
chooser_same true false = refl
chooser_same false true = refl
chooser_same false false = refl

-- their truth tables, with nothing in the third place
chooser_table : (every p q : Bool) → table_of (cond every 192 252) p q false ≡ chooser every p q
unfolding table_of
chooser_table true true true = refl
chooser_table true true false = refl
chooser_table true false true = refl
chooser_table true false false = refl
chooser_table false true true = refl
chooser_table false true false = refl
chooser_table false false true = refl
chooser_table false false false = refl

-- the operation of their number in the memo
operation_quantify : (every : Bool) (l : ℕ) (x y z : Tree) → l < 128
    → operation (cond every (384 + l) (256 + l)) x y z ≡ quantify_tree 128 (chooser every) l x
unfolding operation
operation_quantify true l x y z small =
    let back : 384 + l - 384 ≡ l = omega arith in
    rw (le-ltb (384 + l) 256 (omega arith), le-ltb (384 + l) 384 (omega arith), back)
operation_quantify false l x y z small =
    let back : 256 + l - 256 ≡ l = omega arith in
    rw (le-ltb (256 + l) 256 (omega arith), lt-ltb (256 + l) 384 (omega arith), back)

-- ---- on diagrams

-- a diagram whose top level is i, split there
node_parts : (i : ℕ) (x : Tree) → top_level 128 x ≡ i → i < 128 → x ≡ node i (part false i x) (part true i x)
node_parts i (leaf v) top small = absurd (omega arith)
node_parts i (node j d e) top small = rw (top, eq-eqb i i refl)

module _ (every : Bool) (l i : ℕ) (x : Tree) (good : Good 128 x) (top : top_level 128 x ≡ i) (small : i < 128) where
  split_good : Good 128 (node i (part false i x) (part true i x))
  split_good = rw (node_parts i x top small) at good

  -- the level itself: or, and of the parts
  here_tree : i ≡ l → step_tree 128 (table_of (cond every 192 252)) (part false i x) (part true i x) (leaf false)
      ≡ quantify_tree 128 (chooser every) l x
  here_tree is =
      let d = part false i x in
      let e = part true i x in
      let both : Function = λ p q r. chooser every p q in
      let good_d = ok_good (suc i) 128 d split_good.low in
      let good_e = ok_good (suc i) 128 e split_good.high in
      step_function 128 (table_of (cond every 192 252)) both d e unused d e unused good_d good_e tt good_d good_e tt
      (λ ρ. chooser_table every (holds d ρ) (holds e ρ))
      ∙ sym (quantify_here 128 (chooser every) i d e split_good)
      ∙ ap (quantify_tree 128 (chooser every) i) (sym (node_parts i x top small))
      ∙ ap (λ k. quantify_tree 128 (chooser every) k x) is

  -- a level before it
  down_tree : i < l → let half : Bool → Tree = λ v. quantify_tree 128 (chooser every) l (part v i x) in
      mk i (half false) (half true) ≡ quantify_tree 128 (chooser every) l x
  down_tree before =
      quantify_split 128 (chooser every) l i (part false i x) (part true i x) before split_good
      ∙ ap (quantify_tree 128 (chooser every) l) (sym (node_parts i x top small))

  down_ok : (v : Bool) → Shape.Ok (suc i) 128 (quantify_tree 128 (chooser every) l (part v i x))
  down_ok v = quantify_ok (suc i) 128 (chooser every) l (part v i x) (half v)
    where
      half : (v : Bool) → Shape.Ok (suc i) 128 (part v i x)
      half true = split_good.high
      half false = split_good.low

-- ---- on the way through the code

-- level l of number n is asked in a ready state; i is n's level
pub record Looks (cells : List ℕ) (s : Scratch) (b : Builder) (every : Bool) (l n i : ℕ) : Type 0 where
  pub ready : Ready cells s b
  pub known : n < b.used + 2
  pub small : l < 128
  pub top : i ≡ top_of cells n

-- by the contract and what `top` says
pub looking : {cells : List ℕ} {s : Scratch} {b : Builder} (every : Bool) {l n i : ℕ} → Ready cells s b → l < 128 → Known b n
    → i ≡ top_of cells n → Looks cells s b every l n i
looking every ready small known top = record { ready = ready; known = known; small = small; top = top }

module _ {cells : List ℕ} {s : Scratch} {b : Builder} {every : Bool} {l n i : ℕ} (looks : Looks cells s b every l n i) where
  -- whatever diagram n stands for
  looks_quantifies : (cells' : List ℕ) (s' : Scratch) (made : Result (Made ℕ) NoRoom)
      → Works Means cells b (take (quantify_of cells every l n)) cells' s' made → Quantifies cells b every l n cells' s' made
  unfolding quantify
  looks_quantifies cells' s' made p x is = rw (tree_one looks.ready n x is) p

  -- n has no such level
  pub above_quantifies : l < i → Quantifies cells b every l n cells s (Ok (record { at = b; value = n }))
  above_quantifies before =
      let x = tree_of cells n in
      let good = tree_good looks.ready n looks.known in
      let ok = tree_ok looks.ready (suc l) n looks.known (omega (arith, looks.top)) in
      let same : quantify_tree 128 (chooser every) l x ≡ x =
      quantify_above 128 (chooser every) l x (chooser_same every) good ok in
      let there : Enters cells b x cells s (record { at = b; value = n }) =
      works_there looks.ready (tree_stands looks.ready n looks.known) in
      looks_quantifies cells s (Ok (record { at = b; value = n })) (rw same there)

  -- remembered
  pub recalled_quantifies : {key : Key} (entries : ℕ) {op r : ℕ} → op ≡ cond every (384 + l) (256 + l)
      → key ≡ key_of entries op n 0 0 → Recalled s.memo.now key r
      → Quantifies cells b every l n cells s (Ok (record { at = b; value = r }))
  recalled_quantifies entries {op} {r} is asked said =
      let found = recalled_stands looks.ready op n 0 0 looks.known (omega arith) (omega arith) entries asked said in
      let same = operation_quantify every l (tree_of cells n) (tree_of cells 0) (tree_of cells 0) looks.small in
      looks_quantifies cells s (Ok (record { at = b; value = r })) (works_there looks.ready (rw (is, same) at found))

  -- once made it is remembered
  pub noted_quantifies : {key : Key} (entries : ℕ) {op : ℕ} {cells' : List ℕ} {s' : Scratch} (s'' : Scratch) {made : Made ℕ}
      → op ≡ cond every (384 + l) (256 + l) → key ≡ key_of entries op n 0 0
      → Enters cells b (quantify_of cells every l n) cells' s' made → s''.memo.now ≡ noted s'.memo.now key made.value
      → (s''.heads.now ≡ s'.heads.now) × (s''.links.now ≡ s'.links.now)
      → Quantifies cells b every l n cells' s'' (Ok made)
  noted_quantifies entries {op} {cells'} {s'} s'' {made} is asked does memo index =
      let same = operation_quantify every l (tree_of cells n) (tree_of cells 0) (tree_of cells 0) looks.small in
      let whole : Enters cells b (operation_of cells op n 0 0) cells' s' made = rw (is, same) does in
      let noted = enters_noted looks.ready op n 0 0 looks.known (omega arith) (omega arith) entries asked s'' whole memo index in
      looks_quantifies cells' s'' (Ok made) (rw (is, same) at noted)

-- n is a node, with these halves
pub record Halved (cells : List ℕ) (s : Scratch) (b : Builder) (every : Bool) (l n i : ℕ) (h : Halves) : Type 0 where
  pub looks : Looks cells s b every l n i
  pub within : i ≤ l
  pub halves : h ≡ halves_of cells i n

-- by what `split` says
pub halving : {cells : List ℕ} {s : Scratch} {b : Builder} {every : Bool} {l n i : ℕ} {h : Halves}
    → Looks cells s b every l n i → i ≤ l → h ≡ halves_of cells i n → Halved cells s b every l n i h
halving looks within halves = record { looks = looks; within = within; halves = halves }

-- one half
abbrev pub half : Bool → Halves → ℕ
half v h = cond v h.high h.low

module _ {cells : List ℕ} {s : Scratch} {b : Builder} {every : Bool} {l n i : ℕ} {h : Halves}
    (halved : Halved cells s b every l n i h) where
  ready : Ready cells s b
  ready = halved.looks.ready

  known : n < b.used + 2
  known = halved.looks.known

  pub half_level : i < 128
  half_level = omega (arith, halved.within, halved.looks.small)

  half_is : (v : Bool) → half v h ≡ part_of cells v i n
  half_is true = rw halved.halves
  half_is false = rw halved.halves

  pub half_lower : (v : Bool) → half v h < n
  half_lower v = rw (half_is v) (part_falls ready v i n known (sym halved.looks.top) half_level)

  pub half_known : (v : Bool) → half v h < b.used + 2
  half_known v = let lower = half_lower v in omega (arith, known)

  half_tree : (v : Bool) → tree_of cells (half v h) ≡ part v i (tree_of cells n)
  half_tree v = ap (tree_of cells) (half_is v) ∙ tree_part ready v i n known

  good : Good 128 (tree_of cells n)
  good = tree_good ready n known

  top : top_level 128 (tree_of cells n) ≡ i
  top = sym (tree_top ready n known) ∙ sym halved.looks.top

  -- the level itself
  pub here_quantifies : {f : ℕ} (c₁ : List ℕ) (s₁ : Scratch) (made : Result (Made ℕ) NoRoom) → i ≡ l
      → f ≡ cond every 192 252 → Steps cells b (record { f = f; a = h.low; b = h.high; c = 0 }) c₁ s₁ made
      → Quantifies cells b every l n c₁ s₁ made
  unfolding step
  here_quantifies {f} c₁ s₁ made is table does =
      let entered = does (tree_of cells h.low) (tree_of cells h.high) (leaf false)
      (tree_stands ready h.low (half_known false)) (tree_stands ready h.high (half_known true))
      (record { is = refl; good = tt }) in
      let both = step_tree 128 (table_of f) (tree_of cells h.low) (tree_of cells h.high) (leaf false) in
      let tree : both ≡ quantify_of cells every l n =
      rw (table, half_tree false, half_tree true) (here_tree every l i (tree_of cells n) good top half_level is) in
      looks_quantifies halved.looks c₁ s₁ made (subst (λ t. Works Means cells b (take t) c₁ s₁ made) tree entered)

  -- a part's quantifier step, some steps later
  part_works : (v : Bool) {c₁ : List ℕ} {s₁ : Scratch} {b₁ : Builder} {xs : List Tree} (c₂ : List ℕ) (s₂ : Scratch)
      (made : Result (Made ℕ) NoRoom) → After cells b xs c₁ s₁ b₁ → Quantifies c₁ b₁ every l (half v h) c₂ s₂ made
      → Works Means c₁ b₁ (take (part_tree cells every l n i v)) c₂ s₂ made
  unfolding quantify
  part_works v c₂ s₂ made after does =
      rw (half_tree v) at
      (does (tree_of cells (half v h)) (after_means after (tree_stands ready (half v h) (half_known v))))

  pub low_works : (c₁ : List ℕ) (s₁ : Scratch) (made : Result (Made ℕ) NoRoom)
      → Quantifies cells b every l h.low c₁ s₁ made
      → Works Means cells b (take (part_tree cells every l n i false)) c₁ s₁ made
  low_works c₁ s₁ made = part_works false c₁ s₁ made (after_nothing ready)

  -- a level before it
  module _ (before : i < l) where
    whole : mk i (part_tree cells every l n i false) (part_tree cells every l n i true) ≡ quantify_of cells every l n
    whole = down_tree every l i (tree_of cells n) good top half_level before

    -- no room for the low part
    pub low_fails : (c₁ : List ℕ) (s₁ : Scratch) (e : NoRoom) → Quantifies cells b every l h.low c₁ s₁ (Err e)
        → Quantifies cells b every l n c₁ s₁ (Err e)
    low_fails c₁ s₁ e low =
        looks_quantifies halved.looks c₁ s₁ (Err e)
        (rw whole at (low_lacks ready i (part_tree cells every l n i false) (part_tree cells every l n i true)
        (low_works c₁ s₁ (Err e) low)))

  module _ {c₁ : List ℕ} {s₁ : Scratch} {first : Made ℕ}
      (low : Enters cells b (part_tree cells every l n i false) c₁ s₁ first) where
    pub high_works : (c₂ : List ℕ) (s₂ : Scratch) (made : Result (Made ℕ) NoRoom)
        → Quantifies c₁ first.at every l h.high c₂ s₂ made
        → Works Means c₁ first.at (take (part_tree cells every l n i true)) c₂ s₂ made
    high_works c₂ s₂ made = part_works true c₂ s₂ made low.after

    module _ (before : i < l) where
      -- no room for the high part
      pub high_fails : (c₂ : List ℕ) (s₂ : Scratch) (e : NoRoom) → Quantifies c₁ first.at every l h.high c₂ s₂ (Err e)
          → Quantifies cells b every l n c₂ s₂ (Err e)
      high_fails c₂ s₂ e high =
          looks_quantifies halved.looks c₂ s₂ (Err e)
          (rw (whole before) at (high_lacks ready i (part_tree cells every l n i false) (part_tree cells every l n i true) low
          (high_works c₂ s₂ (Err e) high)))

      -- low part, high part, then the node
      pub quantify_works : {c₂ : List ℕ} {s₂ : Scratch} {second : Made ℕ} (c₃ : List ℕ) (s₃ : Scratch)
          (made : Result (Made ℕ) NoRoom) → Enters c₁ first.at (part_tree cells every l n i true) c₂ s₂ second
          → Joins c₂ second.at (record { level = i; low = first.value; high = second.value }) c₃ s₃ made
          → Works Means cells b (take (quantify_of cells every l n)) c₃ s₃ made
      quantify_works c₃ s₃ made high join =
          let ok = down_ok every l i (tree_of cells n) good top half_level in
          rw (whole before) at
          (works_mk ready i (part_tree cells every l n i false) (part_tree cells every l n i true) c₃ s₃ made
          (ok false) (ok true) low high join)

      -- no room for the node
      pub node_fails : {c₂ : List ℕ} {s₂ : Scratch} {second : Made ℕ} (c₃ : List ℕ) (s₃ : Scratch) (e : NoRoom)
          → Enters c₁ first.at (part_tree cells every l n i true) c₂ s₂ second
          → Joins c₂ second.at (record { level = i; low = first.value; high = second.value }) c₃ s₃ (Err e)
          → Quantifies cells b every l n c₃ s₃ (Err e)
      node_fails c₃ s₃ e high join =
          looks_quantifies halved.looks c₃ s₃ (Err e) (quantify_works c₃ s₃ (Err e) high join)
