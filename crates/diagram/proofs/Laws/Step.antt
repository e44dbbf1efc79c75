-- The step on numbers: shortened, answered at once, remembered, or split at the lowest level.
use Prim.Native.Nat.{ℕ, suc, ◌+◌, ◌≤◌, ◌<◌}
use native.Mathlib.Omega.{arith}
use mathlib.Core.Path.{◌≡◌, refl, sym, subst, ◌∙◌}
use mathlib.Core.Logic.{◌⊎◌, inl, inr}
use mathlib.Core.Bool.{Bool, true, false, cond}
use mathlib.Core.List.{List}
use borrow.Author.Tests.{lt-ltb}
use Rattle.std.specs.Prelude.{Result, Ok, Err}
use Rattle.meaning.specs.Diagram.{Tree, Assignment, holds, mk}
use Rattle.meaning.specs.Step.{step, step_tree, take}
use Rattle.meaning.specs.Witness.{part}
use Rattle.meaning.specs.Lent.{tree_of}
use Rattle.meaning.proofs.Laws.Shape as Shape
use Rattle.meaning.proofs.Laws.Shape.{Good}
use Rattle.meaning.proofs.Laws.Diagram.{part_ok, step_good, step_holds}
use Rattle.meaning.proofs.Laws.Apply.{step_is, step_ok, step_split}
use Rattle.diagram.specs.Function.{table_of, evaluate, Terminal, Shorter, AnsweredBy}
use Rattle.diagram.specs.Scratch.{operation, Recalled, key_of, noted}
use Rattle.diagram.specs.State.{Ready, Known, Means, Stands, After, Works, Joins, nodes}
use Rattle.diagram.specs.Table.{part_of, parts_of}
use Rattle.diagram.specs.declared.builder.Builder.{Builder}
use Rattle.diagram.specs.declared.builder.Made.{Made}
use Rattle.diagram.specs.declared.builder.NoRoom.{NoRoom}
use Rattle.diagram.specs.declared.function.Question.{Question}
use Rattle.diagram.specs.declared.scratch.Scratch.{Scratch}
use Rattle.diagram.specs.declared.scratch.Key.{Key}
use Rattle.diagram.specs.declared.table.Parts.{Parts}
use Rattle.diagram.proofs.Laws.After.{after_nothing, after_means, after_known, works_there}
use Rattle.diagram.proofs.Laws.Parts.{tree_stands, tree_one, tree_good, tree_ok, tree_part}
use Rattle.diagram.proofs.Laws.Parts.{part_le, parts_fall, level_small}
use Rattle.diagram.proofs.Laws.Enters.{Enters, low_lacks, high_lacks, works_mk, enters_noted, recalled_stands}

-- what a step does
abbrev pub Steps : List ℕ → Builder → Question → List ℕ → Scratch → Result (Made ℕ) NoRoom → Type 0
Steps cells b q cells' s' r =
    (x y z : Tree) → Means cells b q.a x → Means cells b q.b y → Means cells b q.c z →
    Works Means cells b (step 128 (table_of q.f) x y z) cells' s' r

-- its diagram
abbrev pub step_of : List ℕ → Question → Tree
step_of cells q = step_tree 128 (table_of q.f) (tree_of cells q.a) (tree_of cells q.b) (tree_of cells q.c)

-- its operands are numbers of the table
pub record Knows (b : Builder) (q : Question) : Type 0 where
  pub known_a : q.a < b.used + 2
  pub known_b : q.b < b.used + 2
  pub known_c : q.c < b.used + 2

abbrev pub size : Question → ℕ
size q = q.a + q.b + q.c

-- the lowest level of its operands, and the step of their parts there
abbrev level_at : List ℕ → Question → ℕ
level_at cells q = (parts_of cells q.a q.b q.c).level

abbrev half : List ℕ → Bool → Question → Question
half cells v q =
    let l = level_at cells q in
    record { f = q.f; a = part_of cells v l q.a; b = part_of cells v l q.b; c = part_of cells v l q.c }

-- the same by the code's record of parts
abbrev pub side : Bool → ℕ → Parts → Question
side v f p = record { f = f; a = cond v p.a.high p.a.low; b = cond v p.b.high p.b.low; c = cond v p.c.high p.c.low }

side_half : (cells : List ℕ) (v : Bool) (q : Question) (p : Parts) → p ≡ parts_of cells q.a q.b q.c
    → side v q.f p ≡ half cells v q
side_half cells true q p is = rw is
side_half cells false q p is = rw is

operation_step : (f : ℕ) (x y z : Tree) → f < 256 → operation f x y z ≡ step_tree 128 (table_of f) x y z
unfolding operation
operation_step f x y z small = rw (lt-ltb f 256 small)

-- which numbers' diagrams hold
abbrev truths : List ℕ → Assignment → ℕ → Bool
truths cells ρ n = holds (tree_of cells n) ρ

truths_terminal : (cells : List ℕ) (ρ : Assignment) → Terminal (truths cells ρ)
unfolding tree_of
truths_terminal cells ρ = record { falsehood = refl; truth = refl }

knows_shorter : {b : Builder} {q r : Question} → Shorter q r → Knows b q → Knows b r
knows_shorter {b} {q} {r} short knows =
    record {
      known_a = go short.a_from knows.known_a;
      known_b = go short.b_from knows.known_b;
      known_c = go short.c_from knows.known_c;
    }
  where
    go : {m n : ℕ} → (m ≡ n) ⊎ (m ≡ 0) → n < b.used + 2 → m < b.used + 2
    go (inl is) inside = omega arith
    go (inr is) inside = omega arith

shorter_size : (q r : Question) → Shorter q r → size r ≤ size q
shorter_size q r short = omega (arith, go short.a_from, go short.b_from, go short.c_from)
  where
    go : {m n : ℕ} → (m ≡ n) ⊎ (m ≡ 0) → m ≤ n
    go (inl is) = omega arith
    go (inr is) = omega arith

-- some steps later they still are
pub knows_later : {cells cells' : List ℕ} {s' : Scratch} {b b' : Builder} {xs : List Tree} (q : Question)
    → After cells b xs cells' s' b' → Knows b q → Known b' q.a × (Known b' q.b × Known b' q.c)
knows_later q after knows =
    (after_known after knows.known_a, (after_known after knows.known_b, after_known after knows.known_c))

module _ {cells : List ℕ} {s : Scratch} {b : Builder} (ready : Ready cells s b) where
  -- the step's diagram is any well formed one that holds where the function does
  known_is : (q : Question) (t : Tree) → Knows b q → Good 128 t
      → ((ρ : Assignment) → evaluate q (truths cells ρ) ≡ holds t ρ) → step_of cells q ≡ t
  unfolding evaluate
  known_is q t knows good h =
      step_is 128 (table_of q.f) (tree_of cells q.a) (tree_of cells q.b) (tree_of cells q.c) t
      (tree_good ready q.a knows.known_a) (tree_good ready q.b knows.known_b)
      (tree_good ready q.c knows.known_c) good h

  known_holds : (q : Question) → Knows b q → (ρ : Assignment) → holds (step_of cells q) ρ ≡ evaluate q (truths cells ρ)
  unfolding evaluate
  known_holds q knows ρ =
      step_holds 128 (table_of q.f) (tree_of cells q.a) (tree_of cells q.b) (tree_of cells q.c)
      (tree_good ready q.a knows.known_a) (tree_good ready q.b knows.known_b)
      (tree_good ready q.c knows.known_c) ρ

  -- the same of fewer operands
  shorter_same : (q r : Question) → Knows b q → Shorter q r → step_of cells r ≡ step_of cells q
  shorter_same q r knows short =
      known_is r (step_of cells q) (knows_shorter short knows)
      (step_good 128 (table_of q.f) (tree_of cells q.a) (tree_of cells q.b) (tree_of cells q.c))
      (λ ρ. short.same (truths cells ρ) (truths_terminal cells ρ) ∙ sym (known_holds q knows ρ))

  module _ (q : Question) (knows : Knows b q) where
    -- an answer that needs no node
    quick_stands : (n : ℕ) → AnsweredBy q n → Stands (nodes cells b) n (step_of cells q)
    quick_stands n answer =
        let stands = tree_stands ready n (inside answer.from) in
        rw (known_is q (tree_of cells n) knows stands.good
        (λ ρ. answer.same (truths cells ρ) (truths_terminal cells ρ)))
        stands
      where
        inside : (n < 2) ⊎ ((n ≡ q.a) ⊎ ((n ≡ q.b) ⊎ (n ≡ q.c))) → n < b.used + 2
        inside (inl small) = omega arith
        inside (inr (inl is)) = omega (arith, knows.known_a)
        inside (inr (inr (inl is))) = omega (arith, knows.known_b)
        inside (inr (inr (inr is))) = omega (arith, knows.known_c)

    -- a remembered answer
    recalled_step : {key : Key} (entries : ℕ) {r : ℕ} → q.f < 256 → key ≡ key_of entries q.f q.a q.b q.c
        → Recalled s.memo.now key r → Stands (nodes cells b) r (step_of cells q)
    recalled_step entries small asked said =
        rw (operation_step q.f (tree_of cells q.a) (tree_of cells q.b) (tree_of cells q.c) small) at
        (recalled_stands ready q.f q.a q.b q.c knows.known_a knows.known_b knows.known_c entries asked said)

    -- ---- parts

    knows_half : (v : Bool) → Knows b (half cells v q)
    knows_half v =
        record {
          known_a = omega (arith, part_le ready v (level_at cells q) q.a knows.known_a, knows.known_a);
          known_b = omega (arith, part_le ready v (level_at cells q) q.b knows.known_b, knows.known_b);
          known_c = omega (arith, part_le ready v (level_at cells q) q.c knows.known_c, knows.known_c);
        }

    ok_a : Shape.Ok (level_at cells q) 128 (tree_of cells q.a)
    ok_a = tree_ok ready (level_at cells q) q.a knows.known_a (omega arith)

    ok_b : Shape.Ok (level_at cells q) 128 (tree_of cells q.b)
    ok_b = tree_ok ready (level_at cells q) q.b knows.known_b (omega arith)

    ok_c : Shape.Ok (level_at cells q) 128 (tree_of cells q.c)
    ok_c = tree_ok ready (level_at cells q) q.c knows.known_c (omega arith)

    half_tree : (v : Bool)
        → step_of cells (half cells v q) ≡ step_tree 128 (table_of q.f) (part v (level_at cells q) (tree_of cells q.a))
        (part v (level_at cells q) (tree_of cells q.b)) (part v (level_at cells q) (tree_of cells q.c))
    half_tree v =
        rw (
          tree_part ready v (level_at cells q) q.a knows.known_a,
          tree_part ready v (level_at cells q) q.b knows.known_b,
          tree_part ready v (level_at cells q) q.c knows.known_c,
        )

    half_ok : (v : Bool) → Shape.Ok (suc (level_at cells q)) 128 (step_of cells (half cells v q))
    half_ok v =
        let l = level_at cells q in
        let x = tree_of cells q.a in
        let y = tree_of cells q.b in
        let z = tree_of cells q.c in
        rw (half_tree v)
        (step_ok (suc l) 128 (table_of q.f) (part v l x) (part v l y) (part v l z)
        (part_ok v l 128 x ok_a) (part_ok v l 128 y ok_b) (part_ok v l 128 z ok_c))

    halves_mk : level_at cells q < 128
        → mk (level_at cells q) (step_of cells (half cells false q)) (step_of cells (half cells true q)) ≡ step_of cells q
    halves_mk below =
        rw (half_tree false, half_tree true)
        (step_split 128 (table_of q.f) (level_at cells q)
        (tree_of cells q.a) (tree_of cells q.b) (tree_of cells q.c) below ok_a ok_b ok_c)

-- ---- on the way through the code

-- q is asked in a ready state; r asks the same of fewer operands
pub record Asks (cells : List ℕ) (s : Scratch) (b : Builder) (q r : Question) : Type 0 where
  pub ready : Ready cells s b
  pub known : Knows b q
  pub short : Shorter q r

-- what the call asks, by what `shorten` says and its contract
pub asking : {cells : List ℕ} {s : Scratch} {b : Builder} {q r : Question} → Shorter q r → Ready cells s b
    → Known b q.a × (Known b q.b × Known b q.c) → Asks cells s b q r
asking short ready known =
    record {
      ready = ready;
      known = record { known_a = known.0; known_b = known.1.0; known_c = known.1.1 };
      short = short;
    }

module _ {cells : List ℕ} {s : Scratch} {b : Builder} {q r : Question} (asks : Asks cells s b q r) where
  pub asks_knows : Knows b r
  asks_knows = knows_shorter asks.short asks.known

  -- whatever diagrams the operands stand for
  asks_steps : (cells' : List ℕ) (s' : Scratch) (made : Result (Made ℕ) NoRoom)
      → Works Means cells b (take (step_of cells r)) cells' s' made → Steps cells b q cells' s' made
  unfolding step
  asks_steps cells' s' made p x y z is_x is_y is_z =
      let one : (n : ℕ) (x : Tree) → Means cells b n x → x ≡ tree_of cells n = λ n x means. tree_one asks.ready n x means in
      rw (one q.a x is_x, one q.b y is_y, one q.c z is_z)
      (rw (shorter_same asks.ready q r asks.known asks.short) at p)

  pub quick_steps : {n : ℕ} → AnsweredBy r n → Steps cells b q cells s (Ok (record { at = b; value = n }))
  quick_steps {n} answer =
      asks_steps cells s (Ok (record { at = b; value = n }))
      (works_there asks.ready (quick_stands asks.ready r asks_knows n answer))

  pub recalled_steps : {key : Key} (entries : ℕ) {n : ℕ} → key ≡ key_of entries r.f r.a r.b r.c → Recalled s.memo.now key n
      → Steps cells b q cells s (Ok (record { at = b; value = n }))
  recalled_steps entries {n} asked said =
      asks_steps cells s (Ok (record { at = b; value = n }))
      (works_there asks.ready (recalled_step asks.ready r asks_knows entries asks.short.small asked said))

-- r is split at its lowest level
pub record Splits (cells : List ℕ) (s : Scratch) (b : Builder) (q r : Question) (p : Parts) : Type 0 where
  pub asks : Asks cells s b q r
  pub parts : p ≡ parts_of cells r.a r.b r.c
  pub some : (2 ≤ r.a) ⊎ ((2 ≤ r.b) ⊎ (2 ≤ r.c))

-- by what `shortcut` and `parted` say
pub splitting : {cells : List ℕ} {s : Scratch} {b : Builder} {q r : Question} {p : Parts} → Asks cells s b q r
    → (2 ≤ r.a) ⊎ ((2 ≤ r.b) ⊎ (2 ≤ r.c)) → p ≡ parts_of cells r.a r.b r.c → Splits cells s b q r p
splitting asks some parts = record { asks = asks; parts = parts; some = some }

-- the diagram of one part
abbrev pub part_tree : List ℕ → Bool → Question → Tree
part_tree cells v r = step_of cells (half cells v r)

module _ {cells : List ℕ} {s : Scratch} {b : Builder} {q r : Question} {p : Parts} (splits : Splits cells s b q r p) where
  ready : Ready cells s b
  ready = splits.asks.ready

  knows : Knows b r
  knows = asks_knows splits.asks

  pub part_knows : (v : Bool) → Knows b (side v r.f p)
  part_knows v = rw (side_half cells v r p splits.parts) (knows_half ready r knows v)

  -- the numbers fall
  pub part_size : (v : Bool) → size (side v r.f p) < size q
  part_size v =
      let falls : size (half cells v r) < size r =
      parts_fall ready r.a r.b r.c knows.known_a knows.known_b knows.known_c splits.some v in
      let less = shorter_size q r splits.asks.short in
      subst (λ (h : Question). size h < size q) (sym (side_half cells v r p splits.parts)) (omega arith)

  pub level_below : p.level < 128
  level_below =
      rw splits.parts
      (level_small ready r.a r.b r.c knows.known_a knows.known_b knows.known_c splits.some)

  whole : mk (level_at cells r) (part_tree cells false r) (part_tree cells true r) ≡ step_of cells r
  whole = halves_mk ready r knows (rw splits.parts at level_below)

  -- a part's step, some steps later
  part_works : (v : Bool) {c₁ : List ℕ} {s₁ : Scratch} {b₁ : Builder} {xs : List Tree} (c₂ : List ℕ) (s₂ : Scratch)
      (made : Result (Made ℕ) NoRoom) → After cells b xs c₁ s₁ b₁ → Steps c₁ b₁ (side v r.f p) c₂ s₂ made
      → Works Means c₁ b₁ (take (part_tree cells v r)) c₂ s₂ made
  unfolding step
  part_works v {c₁} {s₁} {b₁} {xs} c₂ s₂ made after does =
      let h = half cells v r in
      let known = knows_half ready r knows v in
      subst (λ (h : Question). Steps c₁ b₁ h c₂ s₂ made) (side_half cells v r p splits.parts) does
      (tree_of cells h.a) (tree_of cells h.b) (tree_of cells h.c)
      (after_means after (tree_stands ready h.a known.known_a))
      (after_means after (tree_stands ready h.b known.known_b))
      (after_means after (tree_stands ready h.c known.known_c))

  pub low_works : (c₁ : List ℕ) (s₁ : Scratch) (made : Result (Made ℕ) NoRoom) → Steps cells b (side false r.f p) c₁ s₁ made
      → Works Means cells b (take (part_tree cells false r)) c₁ s₁ made
  low_works c₁ s₁ made = part_works false c₁ s₁ made (after_nothing ready)

  -- no room for the low part
  pub low_fails : (c₁ : List ℕ) (s₁ : Scratch) (e : NoRoom) → Steps cells b (side false r.f p) c₁ s₁ (Err e)
      → Steps cells b q c₁ s₁ (Err e)
  low_fails c₁ s₁ e low =
      asks_steps splits.asks c₁ s₁ (Err e)
      (rw whole at (low_lacks ready (level_at cells r) (part_tree cells false r) (part_tree cells true r)
      (low_works c₁ s₁ (Err e) low)))

  module _ {c₁ : List ℕ} {s₁ : Scratch} {first : Made ℕ} (low : Enters cells b (part_tree cells false r) c₁ s₁ first) where
    pub high_works : (c₂ : List ℕ) (s₂ : Scratch) (made : Result (Made ℕ) NoRoom)
        → Steps c₁ first.at (side true r.f p) c₂ s₂ made
        → Works Means c₁ first.at (take (part_tree cells true r)) c₂ s₂ made
    high_works c₂ s₂ made = part_works true c₂ s₂ made low.after

    -- no room for the high part
    pub high_fails : (c₂ : List ℕ) (s₂ : Scratch) (e : NoRoom) → Steps c₁ first.at (side true r.f p) c₂ s₂ (Err e)
        → Steps cells b q c₂ s₂ (Err e)
    high_fails c₂ s₂ e high =
        asks_steps splits.asks c₂ s₂ (Err e)
        (rw whole at (high_lacks ready (level_at cells r) (part_tree cells false r) (part_tree cells true r) low
        (high_works c₂ s₂ (Err e) high)))

    -- low part, high part, then the node
    pub step_works : {c₂ : List ℕ} {s₂ : Scratch} {second : Made ℕ} (c₃ : List ℕ) (s₃ : Scratch)
        (made : Result (Made ℕ) NoRoom) → Enters c₁ first.at (part_tree cells true r) c₂ s₂ second
        → Joins c₂ second.at (record { level = p.level; low = first.value; high = second.value }) c₃ s₃ made
        → Works Means cells b (take (step_of cells r)) c₃ s₃ made
    step_works c₃ s₃ made high join =
        rw whole at
        (works_mk ready (level_at cells r) (part_tree cells false r) (part_tree cells true r) c₃ s₃ made
        (half_ok ready r knows false) (half_ok ready r knows true) low high (rw splits.parts at join))

    -- no room for the node
    pub node_fails : {c₂ : List ℕ} {s₂ : Scratch} {second : Made ℕ} (c₃ : List ℕ) (s₃ : Scratch) (e : NoRoom)
        → Enters c₁ first.at (part_tree cells true r) c₂ s₂ second
        → Joins c₂ second.at (record { level = p.level; low = first.value; high = second.value }) c₃ s₃ (Err e)
        → Steps cells b q c₃ s₃ (Err e)
    node_fails c₃ s₃ e high join = asks_steps splits.asks c₃ s₃ (Err e) (step_works c₃ s₃ (Err e) high join)

  -- which is then remembered
  pub noted_steps : {key : Key} (entries : ℕ) {cells' : List ℕ} {s' : Scratch} (s'' : Scratch) {made : Made ℕ}
      → key ≡ key_of entries r.f r.a r.b r.c → Enters cells b (step_of cells r) cells' s' made
      → s''.memo.now ≡ noted s'.memo.now key made.value
      → (s''.heads.now ≡ s'.heads.now) × (s''.links.now ≡ s'.links.now) → Steps cells b q cells' s'' (Ok made)
  noted_steps entries {cells'} {s'} s'' {made} asked does memo index =
      let same = operation_step r.f (tree_of cells r.a) (tree_of cells r.b) (tree_of cells r.c)
      splits.asks.short.small in
      let noted = enters_noted ready r.f r.a r.b r.c knows.known_a knows.known_b knows.known_c entries asked s''
      (rw (← same) at does) memo index in
      asks_steps splits.asks cells' s'' (Ok made) (rw same at noted)
