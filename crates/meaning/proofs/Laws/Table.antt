-- The node table: a number stands for one diagram, and a diagram that is there isn't entered again.
--
-- Main results: enter_is, enter_again, enter_falls, and count_le: a table that holds some diagrams is at least as long
-- as their count of nodes.
use Prim.Native.Nat.{ℕ, zero, suc, ◌+◌, ◌-◌, ◌≤◌, ◌<◌, min, max}
use native.Mathlib.Omega.{arith}
use mathlib.Core.Path.{◌≡◌, refl, sym, ap, ◌∙◌}
use mathlib.Core.Logic.{◌≢◌}
use mathlib.Core.Bool.{Bool, true, false, cond, ◌&&◌, false≢true}
use mathlib.Core.List.{List, [], ◌∷◌, ◌++◌, append-nil, append_assoc}
use lib.Dec.{eqb, ltb}
use lib.ListN.{length, get_or, length-append, get_or-append}
use lib.Seq.{get_or-append_seam}
use borrow.Author.Tests.{eqb-true, eq-eqb, ltb-true, ltb-false}
use Rattle.meaning.specs.Number.{digit}
use Rattle.meaning.specs.Diagram.{Tree, leaf, node, same}
use Rattle.meaning.specs.Table.{Node, slot, Table, alike, slot_of, insert, enter, enter_all, count}
use Rattle.meaning.specs.Lent.{level_of, low_of, high_of}
use Rattle.meaning.proofs.Laws.Shape.{Ok, Good}
use Rattle.meaning.proofs.Laws.Diagram.{same_refl}

abbrev pub none : Node
none = slot 0 0 0

-- the slot of number n
abbrev pub slot_at : Table → ℕ → Node
slot_at s n = get_or s (n - 2) none

-- number n stands for t in table s
abbrev pub Is : Table → ℕ → Tree → Type 0
Is s n (leaf b) = n ≡ digit b
Is s n (node i d e) =
    record {
      big : 2 ≤ n;
      inside : n < length s + 2;
      at : level_of (slot_at s n) ≡ i;
      left : Is s (low_of (slot_at s n)) d;
      right : Is s (high_of (slot_at s n)) e;
    }

-- no two slots are alike
abbrev pub Single : Table → Type 0
Single s = (k : ℕ) → k < length s → slot_of (get_or s k none) s ≡ k

-- t begins with s
pub record Ext (s t : Table) : Type 0 where
  pub more : Table
  pub whole : t ≡ s ++ more

-- ---- alike

pub alike_refl : (x : Node) → alike x x ≡ true
alike_refl (slot i a b) = cc (eq-eqb i i refl, eq-eqb a a refl, eq-eqb b b refl)

pub alike_eq : (x y : Node) → alike x y ≡ true → x ≡ y
alike_eq (slot i a b) (slot j c d) = go (eqb i j) (eqb a c) (eqb b d) refl refl refl
  where
    go : (p q r : Bool) → eqb i j ≡ p → eqb a c ≡ q → eqb b d ≡ r → p && q && r ≡ true → slot i a b ≡ slot j c d
    go true true true e f g h = cc (eqb-true i j e, eqb-true a c f, eqb-true b d g)
    go true true false e f g h = absurd (false≢true h)
    go true false r e f g h = absurd (false≢true h)
    go false q r e f g h = absurd (false≢true h)

-- ---- insert

-- x is there already, or comes at the end
pub data Inserted (x : Node) (s : Table) : Type 0 where
  old : slot_of x s < length s → insert x s ≡ s → Inserted x s
  new : slot_of x s ≡ length s → insert x s ≡ s ++ (x ∷ []) → Inserted x s

pub insert_cases : (x : Node) (s : Table) → Inserted x s
insert_cases x [] = new refl refl
insert_cases x (y ∷ s) = go (alike x y) refl (insert_cases x s)
  where
    go : (b : Bool) → alike x y ≡ b → Inserted x s → Inserted x (y ∷ s)
    go true e h = old (rw e (omega arith)) (rw e)
    go false e (old p q) = old (rw e (omega arith)) (rw e (ap {B = Table} (λ r. y ∷ r) q))
    go false e (new p q) = new (rw e (ap suc p)) (rw e (ap {B = Table} (λ r. y ∷ r) q))

pub insert_at : (x : Node) (s : Table) → get_or (insert x s) (slot_of x s) none ≡ x
insert_at x [] = refl
insert_at x (y ∷ s) = go (alike x y) refl (insert_at x s)
  where
    go : (b : Bool) → alike x y ≡ b → get_or (insert x s) (slot_of x s) none ≡ x
        → get_or (cond b (y ∷ s) (y ∷ insert x s)) (cond b 0 (suc (slot_of x s))) none ≡ x
    go true e h = sym (alike_eq x y e)
    go false e h = h

pub insert_inside : (x : Node) (s : Table) → slot_of x s < length (insert x s)
insert_inside x s = go (insert_cases x s)
  where
    go : Inserted x s → slot_of x s < length (insert x s)
    go (old p q) = rw q p
    go (new p q) = rw (q, length-append s (x ∷ [])) (omega arith)

-- what holds of each slot and its place, and of x at the end if it is new, holds of each slot afterwards
pub insert_each : (P : ℕ → Node → Type 0) (x : Node) (s : Table) → ((k : ℕ) → k < length s → P k (get_or s k none))
    → (slot_of x s ≡ length s → P (length s) x) → (k : ℕ) → k < length (insert x s) → P k (get_or (insert x s) k none)
insert_each P x s each last = go (insert_cases x s)
  where
    at : slot_of x s ≡ length s → (k : ℕ) (b : Bool) → ltb k (length s) ≡ b → k < length s + 1
        → P k (get_or (s ++ (x ∷ [])) k none)
    at p k true e inside =
        let within = ltb-true k (length s) e in
        rw (get_or-append s (x ∷ []) none k within) (each k within)
    at p k false e inside =
        let beyond = ltb-false k (length s) e in
        let end : k ≡ length s = omega arith in
        rw (end, get_or-append_seam s x [] none) (last p)

    go : Inserted x s → (k : ℕ) → k < length (insert x s) → P k (get_or (insert x s) k none)
    go (old p q) = rw q each
    go (new p q) = rw q (λ k inside. at p k (ltb k (length s)) refl (rw (length-append s (x ∷ [])) at inside))

-- ---- Ext

pub ext_refl : (s : Table) → Ext s s
ext_refl s = record { more = []; whole = sym (append-nil s) }

pub ext_trans : {s t u : Table} → Ext s t → Ext t u → Ext s u
ext_trans {s} {t} {u} p q =
    record {
      more = p.more ++ q.more;
      whole = q.whole ∙ ap (λ (r : Table). r ++ q.more) p.whole ∙ append_assoc s p.more q.more;
    }

pub ext_length : {s t : Table} → Ext s t → length s ≤ length t
ext_length {s} {t} p = rw (p.whole, length-append s p.more) (omega arith)

pub ext_at : {s t : Table} → Ext s t → (k : ℕ) → k < length s → get_or t k none ≡ get_or s k none
ext_at {s} {t} p k inside = rw p.whole (get_or-append s p.more none k inside)

pub insert_ext : (x : Node) (s : Table) → Ext s (insert x s)
insert_ext x s = go (insert_cases x s)
  where
    go : Inserted x s → Ext s (insert x s)
    go (old p q) = rw q (ext_refl s)
    go (new p q) = record { more = x ∷ []; whole = q }

pub enter_ext : (t : Tree) (s : Table) → Ext s (enter t s).table
enter_ext (leaf b) s = ext_refl s
enter_ext (node i d e) s =
    let low = enter d s in
    let high = enter e low.table in
    ext_trans (enter_ext d s) (ext_trans (enter_ext e low.table)
    (insert_ext (slot i low.number high.number) high.table))

pub enter_grows : (t : Tree) (s : Table) → length s ≤ length (enter t s).table
enter_grows t s = ext_length (enter_ext t s)

-- ---- Is

pub is_ext : (t : Tree) (n : ℕ) {s u : Table} → Ext s u → Is s n t → Is u n t
is_ext (leaf b) n p h = h
is_ext (node i d e) n {s} {u} p h =
    let before = h.big in
    let within = h.inside in
    let grown = ext_length p in
    let here : slot_at u n ≡ slot_at s n = ext_at p (n - 2) (omega arith) in
    record {
      big = h.big;
      inside = omega arith;
      at = ap level_of here ∙ h.at;
      left = rw here (is_ext d (low_of (slot_at s n)) p h.left);
      right = rw here (is_ext e (high_of (slot_at s n)) p h.right);
    }

pub enter_is : (t : Tree) (s : Table) → Is (enter t s).table (enter t s).number t
enter_is (leaf b) s = refl
enter_is (node i d e) s =
    let low = enter d s in
    let high = enter e low.table in
    let x = slot i low.number high.number in
    let last = insert_ext x high.table in
    let all = ext_trans (enter_ext e low.table) last in
    let inside = insert_inside x high.table in
    let place : slot_of x high.table + 2 - 2 ≡ slot_of x high.table = omega arith in
    let here : slot_at (insert x high.table) (slot_of x high.table + 2) ≡ x =
    ap (λ k. get_or (insert x high.table) k none) place ∙ insert_at x high.table in
    record {
      big = omega arith;
      inside = omega arith;
      at = ap level_of here;
      left = rw here (is_ext d low.number all (enter_is d s));
      right = rw here (is_ext e high.number last (enter_is e low.table));
    }

digit_small : (b : Bool) → digit b < 2
digit_small true = omega arith
digit_small false = omega arith

digit_one : (a b : Bool) → digit a ≡ digit b → a ≡ b
digit_one true true e = refl
digit_one true false e = absurd (omega arith)
digit_one false true e = absurd (omega arith)
digit_one false false e = refl

-- one number stands for one diagram
pub is_one : (t u : Tree) (s : Table) (n : ℕ) → Is s n t → Is s n u → t ≡ u
is_one (leaf a) (leaf b) s n p q = ap leaf (digit_one a b (sym p ∙ q))
is_one (leaf a) (node j f g) s n p q = absurd (omega (arith, digit_small a, q.big))
is_one (node i d e) (leaf b) s n p q = absurd (omega (arith, digit_small b, p.big))
is_one (node i d e) (node j f g) s n p q =
    let low = is_one d f s (low_of (slot_at s n)) p.left q.left in
    let high = is_one e g s (high_of (slot_at s n)) p.right q.right in
    let level = sym p.at ∙ q.at in
    cc (low, high, level)

-- ---- Single

slot_of_append : (x : Node) (s more : Table) → slot_of x s < length s → slot_of x (s ++ more) ≡ slot_of x s
slot_of_append x [] more inside = omega arith
slot_of_append x (y ∷ s) more inside = go (alike x y) (slot_of_append x s more) inside
  where
    go : (b : Bool) → (slot_of x s < length s → slot_of x (s ++ more) ≡ slot_of x s)
        → cond b 0 (suc (slot_of x s)) < suc (length s)
        → cond b 0 (suc (slot_of x (s ++ more))) ≡ cond b 0 (suc (slot_of x s))
    go true h inside = refl
    go false h inside = ap suc (h (omega arith))

slot_of_ext : (x : Node) {s t : Table} → Ext s t → slot_of x s < length s → slot_of x t ≡ slot_of x s
slot_of_ext x {s} {t} p inside = rw p.whole (slot_of_append x s p.more inside)

slot_of_insert : (x : Node) (s : Table) → slot_of x (insert x s) ≡ slot_of x s
slot_of_insert x [] = rw (alike_refl x)
slot_of_insert x (y ∷ s) = go (alike x y) refl (slot_of_insert x s)
  where
    go : (b : Bool) → alike x y ≡ b → slot_of x (insert x s) ≡ slot_of x s
        → slot_of x (cond b (y ∷ s) (y ∷ insert x s)) ≡ cond b 0 (suc (slot_of x s))
    go true e h = rw e
    go false e h = rw e (ap suc h)

pub insert_single : (x : Node) (s : Table) → Single s → Single (insert x s)
insert_single x s single =
    insert_each (λ k y. slot_of y (insert x s) ≡ k) x s
    (λ k inside. let here = single k inside in slot_of_ext (get_or s k none) (insert_ext x s) (omega arith) ∙ here)
    (λ last. slot_of_insert x s ∙ last)

pub enter_single : (t : Tree) (s : Table) → Single s → Single (enter t s).table
enter_single (leaf b) s single = single
enter_single (node i d e) s single =
    let low = enter d s in
    let high = enter e low.table in
    insert_single (slot i low.number high.number) high.table
    (enter_single e low.table (enter_single d s single))

slot_parts : (x : Node) → slot (level_of x) (low_of x) (high_of x) ≡ x
slot_parts (slot i a b) = refl

insert_again : (x : Node) (s : Table) (k : ℕ) → Single s → k < length s → x ≡ get_or s k none
    → (slot_of x s ≡ k) × (insert x s ≡ s)
insert_again x s k single inside here = go (insert_cases x s)
  where
    place : slot_of x s ≡ k
    place = rw here (single k inside)

    go : Inserted x s → (slot_of x s ≡ k) × (insert x s ≡ s)
    go (old p q) = (place, q)
    go (new p q) = absurd (omega (arith, place))

-- a diagram that is there enters as its number, and the table stays as it is
pub enter_again : (t : Tree) (s : Table) (n : ℕ) → Single s → Is s n t
    → ((enter t s).number ≡ n) × ((enter t s).table ≡ s)
enter_again (leaf b) s n single h = (sym h, refl)
enter_again (node i d e) s n single h =
    let low = enter_again d s (low_of (slot_at s n)) single h.left in
    let high = enter_again e s (high_of (slot_at s n)) single h.right in
    let before = h.big in
    let within = h.inside in
    let here : slot i (low_of (slot_at s n)) (high_of (slot_at s n)) ≡ slot_at s n = cc (h.at, slot_parts (slot_at s n)) in
    let again = insert_again (slot i (low_of (slot_at s n)) (high_of (slot_at s n))) s (n - 2) single (omega arith) here in
    let place = again.0 in
    rw (low.1, high.1, low.0, high.0) (omega arith, again.1)

-- in a table without doubles a diagram has one number
pub is_number : (t : Tree) (s : Table) (m n : ℕ) → Single s → Is s m t → Is s n t → m ≡ n
is_number t s m n single p q = sym (enter_again t s m single p).0 ∙ (enter_again t s n single q).0

-- ---- enter_all

pub enter_all_append : (xs ys : List Tree) (s : Table) → enter_all (xs ++ ys) s ≡ enter_all ys (enter_all xs s)
enter_all_append [] ys s = refl
enter_all_append (x ∷ xs) ys s = enter_all_append xs ys (enter x s).table

pub enter_all_ext : (ts : List Tree) (s : Table) → Ext s (enter_all ts s)
enter_all_ext [] s = ext_refl s
enter_all_ext (t ∷ ts) s = ext_trans (enter_ext t s) (enter_all_ext ts (enter t s).table)

pub enter_all_grows : (ts : List Tree) (s : Table) → length s ≤ length (enter_all ts s)
enter_all_grows ts s = ext_length (enter_all_ext ts s)

pub enter_all_single : (ts : List Tree) (s : Table) → Single s → Single (enter_all ts s)
enter_all_single [] s single = single
enter_all_single (t ∷ ts) s single = enter_all_single ts (enter t s).table (enter_single t s single)

-- ---- Falls

-- child c of number n at level i: below it in number and, if it is a node, of a higher level
-- (`at` gives each number's slot)
abbrev pub Child : (ℕ → Node) → ℕ → ℕ → ℕ → Type 0
Child at n i c = record { lower : c < n; rises : 2 ≤ c → i < level_of (at c) }

-- x, of number n: both children, and that they differ
abbrev pub Falling : (ℕ → Node) → ℕ → Node → Type 0
Falling at n x =
    record {
      low : Child at n (level_of x) (low_of x);
      high : Child at n (level_of x) (high_of x);
      differ : low_of x ≢ high_of x;
    }

-- numbers fall on the way down, levels rise
abbrev pub Falls : Table → Type 0
Falls s = (k : ℕ) → k < length s → Falling (slot_at s) (k + 2) (get_or s k none)

abbrev pub LevelsBelow : ℕ → Table → Type 0
LevelsBelow n s = (k : ℕ) → k < length s → level_of (get_or s k none) < n

abbrev pub AllGood : ℕ → List Tree → Type 0
AllGood n [] = Unit {0}
AllGood n (t ∷ ts) = record { first : Good n t; rest : AllGood n ts }

-- `at` and `to` have the same slots below number n
abbrev pub Agree : (ℕ → Node) → (ℕ → Node) → ℕ → Type 0
Agree at to n = (k : ℕ) → 2 ≤ k → k < n → to k ≡ at k

child_moved : (at to : ℕ → Node) (n i c : ℕ) → Agree at to n → Child at n i c → Child to n i c
child_moved at to n i c agree h =
    record { lower = h.lower; rises = λ big. rw (agree c big h.lower) (h.rises big) }

-- a node that falls does so wherever the numbers below it have the same slots
pub falling_moved : (at to : ℕ → Node) (n : ℕ) (x : Node) → Agree at to n → Falling at n x → Falling to n x
falling_moved at to n x agree h =
    record {
      low = child_moved at to n (level_of x) (low_of x) agree h.low;
      high = child_moved at to n (level_of x) (high_of x) agree h.high;
      differ = h.differ;
    }

is_child : (t : Tree) (i n : ℕ) (s : Table) (c : ℕ) → Ok (suc i) n t → Is s c t → Child (slot_at s) (length s + 2) i c
is_child (leaf b) i n s c o h =
    let small = digit_small b in
    record { lower = omega arith; rises = λ big. absurd (omega arith) }
is_child (node j d e) i n s c o h = record { lower = h.inside; rises = λ big. omega (arith, h.at, o.from) }

pub enter_falls : (t : Tree) (l n : ℕ) (s : Table) → Ok l n t → Falls s → Falls (enter t s).table
enter_falls (leaf b) l n s o falls = falls
enter_falls (node i d e) l n s o falls =
    let low = enter d s in
    let high = enter e low.table in
    let x = slot i low.number high.number in
    let below = enter_falls e (suc i) n low.table o.high (enter_falls d (suc i) n s o.low falls) in
    let left : Is high.table low.number d = is_ext d low.number (enter_ext e low.table) (enter_is d s) in
    let right : Is high.table high.number e = enter_is e low.table in
    let table = high.table in
    let top = length table + 2 in
    let both : d ≡ e → ⊥ = λ one. false≢true (sym o.differ ∙ ap (same d) (sym one) ∙ same_refl d) in
    let new : Falling (slot_at table) top x =
    record {
      low = is_child d i n table low.number o.low left;
      high = is_child e i n table high.number o.high right;
      differ = λ equal. both (is_one d e table high.number (rw equal at left) right);
    } in
    let agree : (m : ℕ) → m ≤ top → Agree (slot_at table) (slot_at (insert x table)) m =
    λ m within k big under. ext_at (insert_ext x table) (k - 2) (omega arith) in
    let moved : (m : ℕ) (y : Node) → m ≤ top → Falling (slot_at table) m y → Falling (slot_at (insert x table)) m y =
    λ m y within. falling_moved (slot_at table) (slot_at (insert x table)) m y (agree m within) in
    insert_each (λ k y. Falling (slot_at (insert x table)) (k + 2) y) x table
    (λ k inside. moved (k + 2) (get_or table k none) (omega arith) (below k inside))
    (λ end. moved top x (omega arith) new)

pub enter_levels : (t : Tree) (l n : ℕ) (s : Table) → Ok l n t → LevelsBelow n s → LevelsBelow n (enter t s).table
enter_levels (leaf b) l n s o below = below
enter_levels (node i d e) l n s o below =
    let low = enter d s in
    let high = enter e low.table in
    insert_each (λ k y. level_of y < n) (slot i low.number high.number) high.table
    (enter_levels e (suc i) n low.table o.high (enter_levels d (suc i) n s o.low below))
    (λ end. o.below)

pub enter_all_falls : (ts : List Tree) (n : ℕ) (s : Table) → AllGood n ts → Falls s → Falls (enter_all ts s)
enter_all_falls [] n s good falls = falls
enter_all_falls (t ∷ ts) n s good falls =
    enter_all_falls ts n (enter t s).table good.rest (enter_falls t 0 n s good.first falls)

pub enter_all_levels : (ts : List Tree) (n : ℕ) (s : Table) → AllGood n ts → LevelsBelow n s
    → LevelsBelow n (enter_all ts s)
enter_all_levels [] n s good below = below
enter_all_levels (t ∷ ts) n s good below =
    enter_all_levels ts n (enter t s).table good.rest (enter_levels t 0 n s good.first below)

-- ---- count

-- every one of ts has a number in s
abbrev pub There : Table → List Tree → Type 0
There s [] = Unit {0}
There s (t ∷ ts) = record { number : ℕ; first : Is s number t; rest : There s ts }

-- x, or x - 1 above v
abbrev down : ℕ → ℕ → ℕ
down v x = max (min x v) (x - 1)

down_small : (v x b : ℕ) → v < suc b → x < suc b → x ≢ v → down v x < b
down_small v x b p q other = omega arith

-- the number whose `down` is y
abbrev up : ℕ → ℕ → ℕ
up v y = y + (1 - (v - y))

up_down : (v x : ℕ) → x ≢ v → up v (down v x) ≡ x
up_down v x other = omega arith

down_one : (v x y : ℕ) → x ≢ v → y ≢ v → down v x ≡ down v y → x ≡ y
down_one v x y p q equal = sym (up_down v x p) ∙ ap (up v) equal ∙ up_down v y q

-- a values below b, no two alike; the last one is taken out, and those above it move down by one
pigeonhole : (a b : ℕ) (f : (k : ℕ) → k < a → ℕ) → ((k : ℕ) (p : k < a) → f k p < b)
    → ((j k : ℕ) (p : j < a) (q : k < a) → f j p ≡ f k q → j ≡ k) → a ≤ b
pigeonhole zero b f small single = omega arith
pigeonhole (suc a) zero f small single = omega (arith, small a (omega arith))
pigeonhole (suc a) (suc b) f small single =
    let last : a < suc a = omega arith in
    let v = f a last in
    let step : (k : ℕ) → k < a → k < suc a = λ k p. omega arith in
    let other : (k : ℕ) (p : k < a) → f k (step k p) ≢ v =
    λ k p equal. let e : k ≡ a = single k a (step k p) last equal in omega arith in
    let fewer : a ≤ b = pigeonhole a b (λ k p. down v (f k (step k p)))
    (λ k p. down_small v (f k (step k p)) b (small a last) (small k (step k p)) (other k p))
    (λ j k p q equal. single j k (step j p) (step k q)
    (down_one v (f j (step j p)) (f k (step k q)) (other j p) (other k q) equal)) in
    omega arith

-- number k + 2 of c stands for a diagram that is in s too
record Shared (c s : Table) (k : ℕ) : Type 0 where
  tree : Tree
  here : Is c (k + 2) tree
  number : ℕ
  there : Is s number tree

abbrev Covered : Table → Table → Type 0
Covered c s = (k : ℕ) → k < length c → Shared c s k

shared_ext : {c u s : Table} (k : ℕ) → Ext c u → Shared c s k → Shared u s k
shared_ext k p h =
    record { tree = h.tree; here = is_ext h.tree (k + 2) p h.here; number = h.number; there = h.there }

enter_covered : (t : Tree) (c s : Table) (n : ℕ) → Is s n t → Covered c s → Covered (enter t c).table s
enter_covered (leaf b) c s n h covered = covered
enter_covered (node i d e) c s n h covered =
    let low = enter d c in
    let high = enter e low.table in
    let x = slot i low.number high.number in
    let table = insert x high.table in
    let left = enter_covered d c s (low_of (slot_at s n)) h.left covered in
    let both = enter_covered e low.table s (high_of (slot_at s n)) h.right left in
    let whole : Is table (slot_of x high.table + 2) (node i d e) = enter_is (node i d e) c in
    insert_each (λ k y. Shared table s k) x high.table
    (λ k inside. shared_ext k (insert_ext x high.table) (both k inside))
    (λ end. record { tree = node i d e; here = rw end at whole; number = n; there = h })

enter_all_covered : (ts : List Tree) (c s : Table) → There s ts → Covered c s → Covered (enter_all ts c) s
enter_all_covered [] c s there covered = covered
enter_all_covered (t ∷ ts) c s there covered =
    enter_all_covered ts (enter t c).table s there.rest (enter_covered t c s there.number there.first covered)

-- a node's number in one table is a node's in any other
node_number : (t : Tree) (c s : Table) (k n : ℕ) → Is c (k + 2) t → Is s n t → (2 ≤ n) × (n < length s + 2)
node_number (leaf b) c s k n p q = absurd (omega (arith, digit_small b))
node_number (node i d e) c s k n p q = (q.big, q.inside)

shared_bounds : (c s : Table) (k : ℕ) (h : Shared c s k) → (2 ≤ h.number) × (h.number < length s + 2)
shared_bounds c s k h = node_number h.tree c s k h.number h.here h.there

shared_one : (c s : Table) (j k : ℕ) (p : Shared c s j) (q : Shared c s k) → Single c → p.number ≡ q.number → j ≡ k
shared_one c s j k p q single equal =
    let trees : p.tree ≡ q.tree = is_one p.tree q.tree s q.number (rw equal at p.there) q.there in
    let numbers = is_number q.tree c (j + 2) (k + 2) single (rw trees at p.here) q.here in
    omega arith

-- a table that holds some diagrams is at least as long as their count of nodes
pub count_le : (ts : List Tree) (s : Table) → Single s → There s ts → count ts ≤ length s
unfolding count
count_le ts s single there =
    pigeonhole (length c) (length s) (λ k p. (covered k p).number - 2)
    (λ k p. omega (arith, shared_bounds c s k (covered k p)))
    (λ j k p q equal. shared_one c s j k (covered j p) (covered k q) alone
    (omega (arith, shared_bounds c s j (covered j p), shared_bounds c s k (covered k q))))
  where
    c : Table
    c = enter_all ts []

    covered : Covered c s
    covered = enter_all_covered ts [] s there (λ k p. absurd (omega arith))

    alone : Single c
    alone = enter_all_single ts [] (λ k p. absurd (omega arith))
