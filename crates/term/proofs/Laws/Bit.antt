-- One bit of an operation, a law for each path of the code.
--
--   quiet      no step: the number stands for the value of work without steps (`Still`)
--   stepped    one step: the work is the step of the operands' diagrams (`Asks`)
--   not_..     the paths of not
--   pair_..    those of and, or, xor
--   choose_..  those of if-then-else, chosen_.. where its condition is one diagram
use Prim.Native.Nat.{ℕ, ◌≤◌}
use mathlib.Core.Path.{◌≡◌, refl, sym, ap, ◌∙◌}
use mathlib.Core.Logic.{◌≢◌}
use mathlib.Core.Bool.{Bool, true, false, cond, true≢false}
use mathlib.Core.List.{List, []}
use lib.Dec.{eqb}
use borrow.Author.Tests.{eqb-true, eqb-false}
use Rattle.std.specs.Prelude.{Result, Ok, Err, Option, Some, None}
use Rattle.meaning.specs.Number.{digit}
use Rattle.meaning.specs.Diagram.{Tree, leaf, node, same}
use Rattle.meaning.specs.Table.{Table}
use Rattle.meaning.specs.Step.{Work, Function, step, step_tree, is_not, choice, unused, done}
use Rattle.meaning.specs.Row.{Bit, known, unknown, step_bit, not_bit, pair_bit, decided_by, same_bit, chosen, choose_bit}
use Rattle.meaning.proofs.Laws.Diagram.{ok_wider, same_eq, same_refl, step_good}
use Rattle.meaning.proofs.Laws.Table.{is_one, is_number}
use Rattle.diagram.specs.Function.{table_of}
use Rattle.diagram.specs.State.{nodes, Ready, Means, Does, Works}
use Rattle.diagram.specs.declared.builder.Builder.{Builder}
use Rattle.diagram.specs.declared.builder.Made.{Made}
use Rattle.diagram.specs.declared.builder.NoRoom.{NoRoom}
use Rattle.diagram.specs.declared.function.Question.{Question}
use Rattle.diagram.specs.declared.scratch.Scratch.{Scratch}
use Rattle.diagram.proofs.Laws.After.{after_nothing}
use Rattle.term.specs.Row.{mark, BitIs, BitMeans}
use Rattle.term.specs.Bit.{decides, decided_of}
use Rattle.term.proofs.Laws.Levels.{step_levels, table_function, not_table, choice_table}
use Rattle.term.proofs.Laws.Rows.{is_used, not_mark}

-- ---- what a path does

-- work without steps, for whose value r stands
pub record Still (n : ℕ) (T : Table) (m : Work Bit) (r : ℕ) : Type 0 where
  pub none : m.steps ≡ []
  pub is : BitIs n T r m.value

pub quiet : {n a : ℕ} {cells : List ℕ} {s : Scratch} {b : Builder} {m : Work Bit} → Ready cells s b
    → Still n (nodes cells b) m a → Does (BitMeans n) cells b m cells s (record { at = b; value = a })
quiet ready still = record { after = rw still.none (after_nothing ready); means = still.is }

-- work that is one step, of the diagrams that q's numbers stand for
pub record Asks (n : ℕ) (cells : List ℕ) (b : Builder) (q : Question) (m : Work Bit) : Type 0 where
  pub x : Tree
  pub y : Tree
  pub z : Tree
  pub is_x : BitMeans n cells b q.a (known x)
  pub is_y : BitMeans n cells b q.b (known y)
  pub is_z : BitMeans n cells b q.c (known z)
  pub work : m ≡ step_bit n (table_of q.f) x y z

-- what a step promises
abbrev pub Steps : List ℕ → Builder → Question → List ℕ → Scratch → Result (Made ℕ) NoRoom → Type 0
Steps cells b q cells' s' r =
    (x y z : Tree) → Means cells b q.a x → Means cells b q.b y → Means cells b q.c z
    → Works Means cells b (step 128 (table_of q.f) x y z) cells' s' r

pub stepped : {n : ℕ} {cells : List ℕ} {b : Builder} {m : Work Bit} {q : Question} (cells' : List ℕ) (s' : Scratch)
    (r : Result (Made ℕ) NoRoom) → n ≤ 128 → Asks n cells b q m → Steps cells b q cells' s' r
    → Works (BitMeans n) cells b m cells' s' r
unfolding step
stepped {n} {cells} {b} {m} {q} cells' s' r le asks steps =
    rw asks.work
    (go r (rw levels at (steps asks.x asks.y asks.z (stands asks.is_x) (stands asks.is_y) (stands asks.is_z))))
  where
    stands : {a : ℕ} {t : Tree} → BitMeans n cells b a (known t) → Means cells b a t
    stands {a} {t} is = record { is = is.0; good = ok_wider 0 n 128 t le is.1 }

    levels : step_tree 128 (table_of q.f) asks.x asks.y asks.z ≡ step_tree n (table_of q.f) asks.x asks.y asks.z
    levels = step_levels n 128 le (table_of q.f) asks.x asks.y asks.z asks.is_x.1 asks.is_y.1 asks.is_z.1

    go : (r : Result (Made ℕ) NoRoom) → Works Means cells b (step n (table_of q.f) asks.x asks.y asks.z) cells' s' r
        → Works (BitMeans n) cells b (step_bit n (table_of q.f) asks.x asks.y asks.z) cells' s' r
    go (Ok made) does =
        record { after = does.after; means = (does.means.is, step_good n (table_of q.f) asks.x asks.y asks.z) }
    go (Err e) lacks = lacks

-- ---- bits by number

-- what a test by == says
pub equal : {x y : ℕ} → true ≡ eqb x y → x ≡ y
equal {x} {y} e = eqb-true x y (sym e)

pub unequal : {x y : ℕ} → false ≡ eqb x y → x ≢ y
unequal {x} {y} e = eqb-false x y (sym e)

decided_unknown : (d : Option Bool) → decided_of mark d ≡ mark
decided_unknown (Some true) = refl
decided_unknown (Some false) = refl
decided_unknown None = refl

module _ {cells : List ℕ} {s : Scratch} {b : Builder} (ready : Ready cells s b) (n : ℕ) where
  abbrev T : Table
  T = nodes cells b

  unmarked : (a : ℕ) (t : Tree) → BitIs n T a (known t) → a ≢ mark
  unmarked a t is = not_mark ready a (is_used cells b a t is.0)

  falsehood : BitIs n T 0 (known unused)
  falsehood = (refl, tt)

  -- one number stands for one diagram
  alike : (x y : ℕ) (t u : Tree) → BitIs n T x (known t) → BitIs n T y (known u) → x ≡ y → t ≡ u
  alike x y t u is_x is_y one = is_one t u T y (rw one at is_x.0) is_y.0

  -- and two for two
  apart : (x y : ℕ) (t u : Tree) → BitIs n T x (known t) → BitIs n T y (known u) → x ≢ y → same t u ≡ false
  apart x y t u is_x is_y two = go (same t u) refl
    where
      go : (s : Bool) → same t u ≡ s → s ≡ false
      go true e = absurd (two (is_number u T x y ready.single (rw (same_eq t u e) at is_x.0) is_y.0))
      go false e = refl

  bits_apart : (x y : ℕ) (p q : Bit) → BitIs n T x p → BitIs n T y q → x ≢ y → same_bit p q ≡ false
  bits_apart x y (known t) (known u) is_x is_y two = apart x y t u is_x is_y two
  bits_apart x y (known t) unknown is_x is_y two = refl
  bits_apart x y unknown q is_x is_y two = refl

  -- ---- not

  pub not_unknown : (x : ℕ) (p : Bit) → BitIs n T x p → x ≡ mark → Still n T (not_bit n p) x
  not_unknown x (known t) is e = absurd (unmarked x t is e)
  not_unknown x unknown is e = record { none = refl; is = is }

  pub not_known : (x : ℕ) (p : Bit) → BitIs n T x p → x ≢ mark
      → Asks n cells b (record { f = 15; a = x; b = 0; c = 0 }) (not_bit n p)
  not_known x (known t) is ne =
      record {
        x = t;
        y = unused;
        z = unused;
        is_x = is;
        is_y = falsehood;
        is_z = falsehood;
        work = ap (λ f. step_bit n f t unused unused) (sym (table_function 15 is_not not_table));
      }
  not_known x unknown is ne = absurd (ne is)

  -- ---- and, or, xor

  -- a known bit is the deciding terminal where its number is
  alone : (v : Bool) (a : ℕ) (t : Tree) → BitIs n T a (known t) → BitIs n T (decided_of a (Some v)) (decided_by v t)
  alone v a t is = go (eqb a (digit v)) refl (same t (leaf v)) refl
    where
      go : (s : Bool) → eqb a (digit v) ≡ s → (r : Bool) → same t (leaf v) ≡ r
          → BitIs n T (cond s a mark) (cond r (known t) unknown)
      go true e true f = is
      go true e false f =
          let one : t ≡ leaf v = is_one t (leaf v) T a is.0 (eqb-true a (digit v) e) in
          absurd (true≢false (sym (same_refl (leaf v)) ∙ ap (λ u. same u (leaf v)) (sym one) ∙ f))
      go false e true f = absurd (eqb-false a (digit v) e (rw (same_eq t (leaf v) f) at is.0))
      go false e false f = refl

  decided_is : (d : Option Bool) (a : ℕ) (t : Tree) → BitIs n T a (known t) → BitIs n T (decided_of a d) (decides d t)
  decided_is (Some v) a t is = alone v a t is
  decided_is None a t is = refl

  module _ (f : Function) (d : Option Bool) (x y : ℕ) (p q : Bit) (is_x : BitIs n T x p) (is_y : BitIs n T y q) where
    pub pair_left : x ≡ mark → Still n T (pair_bit n f (decides d) p q) (decided_of y d)
    pair_left e = go p q is_x is_y
      where
        go : (p q : Bit) → BitIs n T x p → BitIs n T y q → Still n T (pair_bit n f (decides d) p q) (decided_of y d)
        go (known t) q is_x is_y = absurd (unmarked x t is_x e)
        go unknown (known u) is_x is_y = record { none = refl; is = decided_is d y u is_y }
        go unknown unknown is_x is_y = record { none = refl; is = rw is_y (decided_unknown d) }

    pub pair_right : x ≢ mark → y ≡ mark → Still n T (pair_bit n f (decides d) p q) (decided_of x d)
    pair_right ne e = go p q is_x is_y
      where
        go : (p q : Bit) → BitIs n T x p → BitIs n T y q → Still n T (pair_bit n f (decides d) p q) (decided_of x d)
        go (known t) (known u) is_x is_y = absurd (unmarked y u is_y e)
        go (known t) unknown is_x is_y = record { none = refl; is = decided_is d x t is_x }
        go unknown q is_x is_y = absurd (ne is_x)

  pub pair_known : (f : ℕ) (d : Option Bool) (x y : ℕ) (p q : Bit) → BitIs n T x p → BitIs n T y q → x ≢ mark → y ≢ mark
      → Asks n cells b (record { f = f; a = x; b = y; c = 0 }) (pair_bit n (table_of f) (decides d) p q)
  pair_known f d x y (known t) (known u) is_x is_y ne_x ne_y =
      record { x = t; y = u; z = unused; is_x = is_x; is_y = is_y; is_z = falsehood; work = refl }
  pair_known f d x y (known t) unknown is_x is_y ne_x ne_y = absurd (ne_y is_y)
  pair_known f d x y unknown q is_x is_y ne_x ne_y = absurd (ne_x is_x)

  -- ---- if-then-else

  module _ (m k : ℕ) (must may : Tree) (is_m : BitIs n T m (known must)) (is_k : BitIs n T k (known may))
      (x y : ℕ) (p q : Bit) (is_x : BitIs n T x p) (is_y : BitIs n T y q) where
    pub choose_same : x ≡ y → Still n T (choose_bit n must may p q) x
    choose_same e = go p q is_x is_y
      where
        none : (s : Bool) (c : Tree) → BitIs n T x unknown → Still n T (cond s (chosen n c unknown unknown) (done unknown)) x
        none false c is = record { none = refl; is = is }
        none true (leaf true) is = record { none = refl; is = is }
        none true (leaf false) is = record { none = refl; is = is }
        none true (node i d e) is = record { none = refl; is = is }

        go : (p q : Bit) → BitIs n T x p → BitIs n T y q → Still n T (choose_bit n must may p q) x
        go (known t) (known u) is_x is_y =
            rw (← alike x y t u is_x is_y e, same_refl t) (record { none = refl; is = is_x })
        go (known t) unknown is_x is_y = absurd (unmarked x t is_x (e ∙ is_y))
        go unknown (known u) is_x is_y = absurd (unmarked y u is_y (sym e ∙ is_x))
        go unknown unknown is_x is_y = none (same must may) must is_x

    pub choose_apart : x ≢ y → m ≢ k → Still n T (choose_bit n must may p q) mark
    choose_apart two ne =
        rw (bits_apart x y p q is_x is_y two, apart m k must may is_m is_k ne) (record { none = refl; is = refl })

    pub choose_chosen : x ≢ y → m ≡ k → choose_bit n must may p q ≡ chosen n must p q
    choose_chosen two one = rw (bits_apart x y p q is_x is_y two, ← alike m k must may is_m is_k one, same_refl must)

  -- under a condition of one diagram
  module _ (m : ℕ) (c : Tree) (is_c : BitIs n T m (known c))
      (x y : ℕ) (p q : Bit) (is_x : BitIs n T x p) (is_y : BitIs n T y q) where
    pub chosen_true : m ≡ 1 → Still n T (chosen n c p q) x
    chosen_true e =
        let holds : c ≡ leaf true = is_one c (leaf true) T m is_c.0 e in rw holds (record { none = refl; is = is_x })

    pub chosen_false : m ≡ 0 → Still n T (chosen n c p q) y
    chosen_false e =
        let fails : c ≡ leaf false = is_one c (leaf false) T m is_c.0 e in rw fails (record { none = refl; is = is_y })

    -- the condition is no terminal
    module _ (not_true : m ≢ 1) (not_false : m ≢ 0) where
      pub chosen_left : x ≡ mark → Still n T (chosen n c p q) x
      chosen_left e = go c p is_c is_x
        where
          go : (c : Tree) (p : Bit) → BitIs n T m (known c) → BitIs n T x p → Still n T (chosen n c p q) x
          go (leaf true) p is_c is_x = absurd (not_true is_c.0)
          go (leaf false) p is_c is_x = absurd (not_false is_c.0)
          go (node i d h) (known t) is_c is_x = absurd (unmarked x t is_x e)
          go (node i d h) unknown is_c is_x = record { none = refl; is = is_x }

      pub chosen_right : x ≢ mark → y ≡ mark → Still n T (chosen n c p q) y
      chosen_right ne e = go c p q is_c is_x is_y
        where
          go : (c : Tree) (p q : Bit) → BitIs n T m (known c) → BitIs n T x p → BitIs n T y q
              → Still n T (chosen n c p q) y
          go (leaf true) p q is_c is_x is_y = absurd (not_true is_c.0)
          go (leaf false) p q is_c is_x is_y = absurd (not_false is_c.0)
          go (node i d h) (known t) (known u) is_c is_x is_y = absurd (unmarked y u is_y e)
          go (node i d h) (known t) unknown is_c is_x is_y = record { none = refl; is = is_y }
          go (node i d h) unknown q is_c is_x is_y = absurd (ne is_x)

      pub chosen_known : x ≢ mark → y ≢ mark
          → Asks n cells b (record { f = 202; a = m; b = x; c = y }) (chosen n c p q)
      chosen_known ne_x ne_y = go c p q is_c is_x is_y
        where
          go : (c : Tree) (p q : Bit) → BitIs n T m (known c) → BitIs n T x p → BitIs n T y q
              → Asks n cells b (record { f = 202; a = m; b = x; c = y }) (chosen n c p q)
          go (leaf true) p q is_c is_x is_y = absurd (not_true is_c.0)
          go (leaf false) p q is_c is_x is_y = absurd (not_false is_c.0)
          go (node i d h) (known t) (known u) is_c is_x is_y =
              record {
                x = node i d h;
                y = t;
                z = u;
                is_x = is_c;
                is_y = is_x;
                is_z = is_y;
                work = ap (λ f. step_bit n f (node i d h) t u) (sym (table_function 202 choice choice_table));
              }
          go (node i d h) (known t) unknown is_c is_x is_y = absurd (ne_y is_y)
          go (node i d h) unknown q is_c is_x is_y = absurd (ne_x is_x)
