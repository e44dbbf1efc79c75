-- One place of a sum at a limit, and the count that may cut it.
--
--   sum_step    the two steps of a sum bit
--   place_step  the definition's work on one place of a sum
--   Tallies     the first sum bits' nodes are marked, and this is their count
--   Exceeds     the answer whether the sum bits' nodes exceed the limit
--   SumMeans    a sum so far stands for a carry and some sum bits; the places above them hold the unknown mark
use Rattle.std.specs.Prelude.{ℕ, ◌*◌, ◌/◌, ◌≤◌, ◌<◌, ◌≡◌, Bool, cond, List, [], ◌∷◌, ◌++◌, eqb, ltb, length, get_or, Option, Some, None, IfSome, Result, IfOk}
use Rattle.meaning.specs.Diagram.{Tree}
use Rattle.meaning.specs.Table.{Table, enter_all, count}
use Rattle.meaning.specs.Step.{Work, done, ◌>>=◌, step, is_xor, unused}
use Rattle.meaning.specs.Row.{Bit, known, unknown, Row, counted, next_carry, partial}
use Rattle.meaning.proofs.Laws.Shape.{Good}
use Rattle.meaning.proofs.Laws.Table.{Is, Single, Falls}
use Rattle.diagram.specs.Count.{Unmarked, Counted}
use Rattle.diagram.specs.State.{nodes, Ready, Known, Works}
use Rattle.diagram.specs.declared.builder.Builder.{Builder}
use Rattle.diagram.specs.declared.builder.Made.{Made}
use Rattle.diagram.specs.declared.builder.NoRoom.{NoRoom}
use Rattle.diagram.specs.declared.scratch.Scratch.{Scratch}
use Rattle.term.specs.Row.{mark, BitMeans, RowKnown, RowMeans}
use Rattle.term.specs.declared.add.Sum.{Sum}
use Rattle.term.specs.declared.add.Summed.{Summed}
use Rattle.term.specs.declared.add.Tally.{Tally}
use Rattle.term.specs.declared.row.Row as Declared

-- ---- the definition's work on one place

-- a xor b, and the sum bit
pub record SumBit : Type 0 where
  pub half : Tree
  pub sum : Tree

-- a xor b, then that xor the carry
abbrev pub sum_step : ℕ → Tree → Tree → Tree → Work SumBit
sum_step n a b carry = do
  x ← step n is_xor a b unused
  s ← step n is_xor x carry unused
  done (record { half = x; sum = s })

-- the sum bit, and the carry into the next place
pub record Next : Type 0 where
  pub sum : Tree
  pub carry : Tree

-- none where the sum is cut: an operand bit is unknown, or the sum bits have too many nodes
abbrev pub place_step : ℕ → ℕ → Tree → List Tree → Bit → Bit → Row → Work (Option Next)
place_step n L carry sums (known a) (known b) ar = do
  x ← sum_step n a b carry
  let on = (do
    c ← next_carry n x.half a b carry ar
    done (Some (record { sum = x.sum; carry = c }))) in
      cond (ltb L (count (counted (sums ++ (x.sum ∷ [])) carry))) (done None) on
place_step n L carry sums (known a) unknown ar = done None
place_step n L carry sums unknown b ar = done None

-- ---- the steps of one place

-- number a stands for the diagram t, over n levels
pub record DiagramMeans (n : ℕ) (cells : List ℕ) (b : Builder) (a : ℕ) (t : Tree) : Type 0 where
  pub is : Is (nodes cells b) a t
  pub good : Good n t

pub record SummedMeans (n : ℕ) (cells : List ℕ) (b : Builder) (r : Summed) (x : SumBit) : Type 0 where
  pub half : DiagramMeans n cells b r.half x.half
  pub sum : DiagramMeans n cells b r.sum x.sum

-- whatever diagrams the operand bits and the carry stand for, their sum bit was made
abbrev pub Sums : List ℕ → Builder → ℕ → ℕ → ℕ → List ℕ → Scratch → Result (Made Summed) NoRoom → Type 0
Sums cells b x y carry cells' s' r =
    (n : ℕ) (p q c : Tree) → n ≤ 128 → DiagramMeans n cells b x p → DiagramMeans n cells b y q
    → DiagramMeans n cells b carry c → Works (SummedMeans n) cells b (sum_step n p q c) cells' s' r

-- and so was the next carry, unless no bit is left
abbrev pub Carries : List ℕ → Builder → ℕ → ℕ → ℕ → ℕ → Bool → List ℕ → Scratch → Result (Made ℕ) NoRoom → Type 0
Carries cells b half x y carry top cells' s' r =
    (n : ℕ) (h p q c : Tree) (rest : Row) → n ≤ 128 → top ≡ eqb (length rest) 0
    → DiagramMeans n cells b half h → DiagramMeans n cells b x p → DiagramMeans n cells b y q
    → DiagramMeans n cells b carry c → Works (DiagramMeans n) cells b (next_carry n h p q c rest) cells' s' r

-- ---- the count

-- a state's table, as far as a count reads it
pub record Laid (cells : List ℕ) (b : Builder) : Type 0 where
  pub room : 3 * b.used ≤ length cells
  pub small : length cells ≤ 3145728
  pub single : Single (nodes cells b)
  pub falls : Falls (nodes cells b)

-- the first numbers stand for these diagrams
abbrev pub Numbered : Table → List ℕ → List Tree → Type 0
Numbered T bits ts = (j : ℕ) → j < length ts → Is T (get_or bits j 0) (get_or ts j unused)

-- the first of k numbers are counted: whatever diagrams they stand for, exactly these diagrams' nodes are marked, and this
-- is their count. Before the first is counted, the marks may be anything
pub record Tallies (cells marks : List ℕ) (b : Builder) (limit : ℕ) (bits : List ℕ) (k : ℕ) (r : Tally) : Type 0 where
  pub inside : r.bits ≤ k
  pub fits : r.nodes ≤ limit
  pub none : r.bits ≡ 0 → r.nodes ≡ 0
  pub marked : 0 < r.bits → (ts : List Tree) → length ts ≡ r.bits → Numbered (nodes cells b) bits ts
      → Counted (length cells / 3) (nodes cells b) marks r.nodes (enter_all ts [])

-- marks that count something stay, others are cleared
pub record Clears (cells : List ℕ) (counted : ℕ) (marks marks' : List ℕ) : Type 0 where
  pub stays : 0 < counted → marks' ≡ marks
  pub clear : counted ≡ 0 → Unmarked (length cells / 3) marks'

-- the first k numbers are terminals or used nodes, and some of them are counted
pub record Countable (cells marks : List ℕ) (b : Builder) (limit : ℕ) (bits : List ℕ) (k : ℕ)
    (so_far : Tally) : Type 0 where
  pub laid : Laid cells b
  pub narrow : k ≤ 32
  pub each : (i : ℕ) → i < k → Known b (get_or bits i 0)
  pub tallies : Tallies cells marks b limit bits k so_far

-- the first numbers stand for these sum bits
pub record NumbersMean (n : ℕ) (cells : List ℕ) (b : Builder) (bits : List ℕ) (sums : List Tree) : Type 0 where
  pub each : (k : ℕ) → k < length sums → DiagramMeans n cells b (get_or bits k 0) (get_or sums k unused)

-- r answers whether the first k numbers' nodes exceed the limit
pub record Exceeds (cells : List ℕ) (b : Builder) (limit : ℕ) (bits : List ℕ) (k : ℕ) (r : Bool) : Type 0 where
  pub counts : (n : ℕ) (carry : Tree) (sums : List Tree) → length sums ≡ k
      → NumbersMean n cells b bits sums → r ≡ ltb limit (count (counted sums carry))

-- r tells whether they do; if they don't, it says what is counted
pub record Told (cells marks : List ℕ) (b : Builder) (limit : ℕ) (bits : List ℕ) (k : ℕ) (r : Tally) : Type 0 where
  pub exceeds : Exceeds cells b limit bits k (ltb limit r.nodes)
  pub tallies : r.nodes ≤ limit → Tallies cells marks b limit bits k r

-- ---- one place

-- what a place asks of a sum so far
pub record Summing (cells : List ℕ) (s : Scratch) (marks : List ℕ) (b : Builder) (limit : ℕ) (sum : Sum) : Type 0 where
  pub ready : Ready cells s b
  pub narrow : sum.count < 32
  pub carry : Known b sum.carry
  pub each : (i : ℕ) → i < sum.count → Known b (get_or sum.bits i 0)
  pub tallies : Tallies cells marks b limit sum.bits sum.count sum.tally

-- c is the carry, over n levels
pub record SumMeans (n : ℕ) (cells : List ℕ) (b : Builder) (sum : Sum) (c : Tree) (sums : List Tree) : Type 0 where
  pub long : length sums ≡ sum.count
  pub carry : DiagramMeans n cells b sum.carry c
  pub numbers : NumbersMean n cells b sum.bits sums
  pub above : (k : ℕ) → sum.count ≤ k → k < 32 → get_or sum.bits k 0 ≡ mark

-- what one place makes of the sum bits before it
abbrev pub NextMeans : ℕ → List Tree → List ℕ → Builder → Option Sum → Option Next → Type 0
NextMeans n sums cells b (Some sum) (Some x) = SumMeans n cells b sum x.carry (sums ++ (x.sum ∷ []))
NextMeans n sums cells b (Some sum) None = ⊥
NextMeans n sums cells b None (Some x) = ⊥
NextMeans n sums cells b None None = Unit {0}

-- whatever the sum so far and the operand bits stand for, its next place was made
abbrev pub Places : ℕ → List ℕ → Builder → Sum → ℕ → ℕ → Bool → List ℕ → Scratch → Result (Made (Option Sum)) NoRoom
    → Type 0
Places L cells b sum x y top cells' s' r =
    (n : ℕ) (c : Tree) (sums : List Tree) (p q : Bit) (ar : Row) → n ≤ 128 → top ≡ eqb (length ar) 0
    → SumMeans n cells b sum c sums → BitMeans n cells b x p → BitMeans n cells b y q
    → Works (NextMeans n sums) cells b (place_step n L c sums p q ar) cells' s' r

-- unless the sum is cut there, what it says is counted is so
abbrev pub Tallying : List ℕ → List ℕ → ℕ → Result (Made (Option Sum)) NoRoom → Type 0
Tallying cells marks limit r =
    IfOk r (λ made. IfSome made.value (λ sum. Tallies cells marks made.at limit sum.bits sum.count sum.tally))

-- ---- rows

-- what sums of two rows ask of a state
pub record Addable (cells : List ℕ) (s : Scratch) (b : Builder) (x y : Declared.Row) : Type 0 where
  pub ready : Ready cells s b
  pub left : RowKnown b x
  pub right : RowKnown b y
  pub even : x.width ≡ y.width

-- whatever row x stands for, the work of it was done
abbrev pub OnRow : (ℕ → Row → Work Row) → Declared.Row → List ℕ → Builder → List ℕ → Scratch
    → Result (Made Declared.Row) NoRoom → Type 0
OnRow m x cells b cells' s' r =
    (n : ℕ) (xr : Row) → n ≤ 128 → RowMeans n cells b x xr → Works (RowMeans n) cells b (m n xr) cells' s' r

-- and of two rows
abbrev pub OnRows : (ℕ → Row → Row → Work Row) → Declared.Row → Declared.Row → List ℕ → Builder → List ℕ → Scratch
    → Result (Made Declared.Row) NoRoom → Type 0
OnRows m x y cells b cells' s' r =
    (n : ℕ) (xr yr : Row) → n ≤ 128 → RowMeans n cells b x xr → RowMeans n cells b y yr
    → Works (RowMeans n) cells b (m n xr yr) cells' s' r

-- and of a row and a bit: one row of a product, up by j
abbrev pub OnBit : ℕ → Declared.Row → ℕ → List ℕ → Builder → List ℕ → Scratch → Result (Made Declared.Row) NoRoom → Type 0
OnBit j x y cells b cells' s' r =
    (n : ℕ) (xr : Row) (bit : Bit) → n ≤ 128 → RowMeans n cells b x xr → BitMeans n cells b y bit
    → Works (RowMeans n) cells b (partial n j xr bit) cells' s' r
