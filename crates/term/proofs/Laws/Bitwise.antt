-- The operations that go place by place: the code's loop over the places, and the definition's operations by name.
--
--   Going          what the loop has done after some places: going_start, going_next, going_fails, going_done
--   going_known    what the next bit requires, with going_ready and going_condition
--   works_not, ..  what `work` does is the operation's work
use Prim.Native.Nat.{ℕ, zero, suc, ◌+◌, ◌≤◌, ◌<◌}
use native.Mathlib.Nat.{not-suc-le-zero}
use native.Mathlib.Numerals.{add-one}
use native.Mathlib.Omega.{arith}
use mathlib.Core.Path.{◌≡◌, refl, sym, ap, ◌∙◌}
use mathlib.Core.Bool.{Bool, true, false}
use mathlib.Core.List.{List, [], ◌∷◌, ◌++◌, append-nil, append_assoc}
use lib.Dec.{eqb}
use lib.ListN.{length, get_or, set, take, drop, replicate, length-set, length-replicate, get_or-replicate, get_or-append}
use lib.Seq.{take_all, length-take-le, get_or_at, get_or-set_same, get_or-set_other}
use borrow.Author.Tests.{eqb-true, eqb-false}
use Rattle.std.specs.Prelude.{Result, Ok, Err}
use Rattle.meaning.specs.Diagram.{Tree}
use Rattle.meaning.specs.Step.{Work, unused}
use Rattle.meaning.specs.Row
use Rattle.meaning.specs.Row.{Bit, known, unknown, each_bit, both_bits, not_bit, and_bit}
use Rattle.meaning.specs.Lent.{tree_of}
use Rattle.diagram.specs.State.{Ready, Known, After, Does, Works}
use Rattle.diagram.specs.declared.builder.Builder.{Builder}
use Rattle.diagram.specs.declared.builder.Made.{Made}
use Rattle.diagram.specs.declared.builder.NoRoom.{NoRoom}
use Rattle.diagram.specs.declared.scratch.Scratch.{Scratch}
use Rattle.diagram.proofs.Laws.Parts.{tree_stands}
use Rattle.diagram.proofs.Laws.After.{after_nothing, after_then, after_known, lacks_more, lacks_then}
use Rattle.term.specs.Row.{BitKnown, BitMeans, RowMeans, RowKnown}
use Rattle.term.specs.Bit.{bit_of, Under, UnderKnown}
use Rattle.term.specs.declared.row.Row as Declared
use Rattle.term.specs.declared.bitwise.Operation.{Operation}
use Rattle.term.specs.declared.bitwise.Operation.TheVariants.{Not, And, Or, Xor, Choose}
use Rattle.term.proofs.Laws.Rows.{row_of, row_some, after_bit, after_bit_known}

-- ---- place by place

module _ (f : Bit → Bit → Work Bit) where
  both_length : (r s : Row.Row) → length r ≡ length s → length (both_bits f r s).value ≡ length r
  both_length [] s e = refl
  both_length (a ∷ r) [] e = sym e
  both_length (a ∷ r) (c ∷ s) e = ap suc (both_length r s (omega arith))

  -- one place more
  both_more : (r s : Row.Row) (i : ℕ) → i < length r → i < length s
      → let front = both_bits f (take i r) (take i s) in
      let bit = f (get_or r i unknown) (get_or s i unknown) in
      both_bits f (take (suc i) r) (take (suc i) s)
      ≡ record { value = front.value ++ (bit.value ∷ []); steps = front.steps ++ bit.steps }
  both_more [] s i p q = absurd (not-suc-le-zero p)
  both_more (a ∷ r) [] i p q = absurd (not-suc-le-zero q)
  both_more (a ∷ r) (c ∷ s) zero p q = simp append-nil
  both_more (a ∷ r) (c ∷ s) (suc i) p q =
      let rest = both_more r s i (omega arith) (omega arith) in
      rw rest (simp (append-nil, append_assoc))

  both_none : (r : Row.Row) → [] ≡ (both_bits f r []).steps
  both_none [] = refl
  both_none (a ∷ r) = refl

  -- the places up to one, then the rest
  both_split : (k : ℕ) (r s : Row.Row)
      → (both_bits f r s).steps
      ≡ (both_bits f (take k r) (take k s)).steps ++ (both_bits f (drop k r) (drop k s)).steps
  both_split zero r s = refl
  both_split (suc k) [] s = refl
  both_split (suc k) (a ∷ r) [] = both_none (drop k r)
  both_split (suc k) (a ∷ r) (c ∷ s) = rw (both_split k r s) (simp (append_assoc, append-nil))

-- of one row alone
both_each : (f : Bit → Bit → Work Bit) (g : Bit → Work Bit) (r s : Row.Row) → length s ≡ length r
    → ((i : ℕ) → i < length r → f (get_or r i unknown) (get_or s i unknown) ≡ g (get_or r i unknown))
    → both_bits f r s ≡ each_bit g r
both_each f g [] s e is = refl
both_each f g (a ∷ r) [] e is = absurd (omega arith)
both_each f g (a ∷ r) (c ∷ s) e is =
    let here : f a c ≡ g a = is 0 (omega arith) in
    let rest = both_each f g r s (omega arith) (λ i below. is (suc i) (omega arith)) in
    rw (here, rest)

-- ---- the condition

-- some diagrams that its numbers stand for
abbrev must_of : List ℕ → Operation → Tree
must_of cells (Choose m k) = tree_of cells m
must_of cells op = unused

abbrev may_of : List ℕ → Operation → Tree
may_of cells (Choose m k) = tree_of cells k
may_of cells op = unused

tree_means : {cells : List ℕ} {s : Scratch} {b : Builder} → Ready cells s b → (a : ℕ) → Known b a
    → BitMeans 128 cells b a (known (tree_of cells a))
tree_means ready a is = let stands = tree_stands ready a is in (stands.is, stands.good)

under_some : {cells : List ℕ} {s : Scratch} {b : Builder} (op : Operation) → Ready cells s b → UnderKnown b op
    → Under 128 cells b op (must_of cells op) (may_of cells op)
under_some Not ready is = tt
under_some And ready is = tt
under_some Or ready is = tt
under_some Xor ready is = tt
under_some (Choose m k) ready is = (tree_means ready m is.0, tree_means ready k is.1)

module _ {cells cells' : List ℕ} {s' : Scratch} {b b' : Builder} {xs : List Tree} (after : After cells b xs cells' s' b') where
  after_under : (n : ℕ) (op : Operation) (must may : Tree) → Under n cells b op must may → Under n cells' b' op must may
  after_under n Not must may under = tt
  after_under n And must may under = tt
  after_under n Or must may under = tt
  after_under n Xor must may under = tt
  after_under n (Choose m k) must may under = (
    after_bit after n m (known must) under.0,
    after_bit after n k (known may) under.1,
  )

  after_under_known : (op : Operation) → UnderKnown b op → UnderKnown b' op
  after_under_known Not is = tt
  after_under_known And is = tt
  after_under_known Or is = tt
  after_under_known Xor is = tt
  after_under_known (Choose m k) is = (after_known after {a = m} is.0, after_known after {a = k} is.1)

-- ---- the loop

-- from state b to state b' the work m of i places was done, and its bits are the first of these numbers
pub record Front (n : ℕ) (m : Work Row.Row) (cells : List ℕ) (b : Builder) (i : ℕ) (cells' : List ℕ) (s' : Scratch)
    (b' : Builder) (bits : List ℕ) : Type 0 where
  pub after : After cells b m.steps cells' s' b'
  pub means : (k : ℕ) → k < i → BitMeans n cells' b' (get_or bits k 0) (get_or m.value k unknown)

-- the first i places of x and y were worked on, whatever bits and condition the numbers stand for
pub record Going (op : Operation) (x y : Declared.Row) (cells : List ℕ) (b : Builder) (i : ℕ)
    (cells' : List ℕ) (s' : Scratch) (b' : Builder) (bits : List ℕ) : Type 0 where
  pub long : length bits ≡ 32
  pub made : (n : ℕ) (must may : Tree) (r s : Row.Row) → n ≤ 128 → Under n cells b op must may
      → RowMeans n cells b x r → RowMeans n cells b y s
      → Front n (both_bits (bit_of n op must may) (take i r) (take i s)) cells b i cells' s' b' bits

-- what `bit` promises
abbrev pub BitWorks : Operation → List ℕ → Builder → ℕ → ℕ → List ℕ → Scratch → Result (Made ℕ) NoRoom → Type 0
BitWorks op cells b x y cells' s' result =
    (n : ℕ) (must may : Tree) (p q : Bit) → n ≤ 128 → Under n cells b op must may → BitMeans n cells b x p
    → BitMeans n cells b y q → Works (BitMeans n) cells b (bit_of n op must may p q) cells' s' result

-- what `work` promises
abbrev pub RowsWork : Operation → Declared.Row → Declared.Row → List ℕ → Builder → List ℕ → Scratch
    → Result (Made Declared.Row) NoRoom → Type 0
RowsWork op x y cells b cells' s' result =
    (n : ℕ) (must may : Tree) (q r : Row.Row) → n ≤ 128 → Under n cells b op must may → RowMeans n cells b x q
    → RowMeans n cells b y r → Works (RowMeans n) cells b (both_bits (bit_of n op must may) q r) cells' s' result

pub going_start : {op : Operation} {x y : Declared.Row} {cells : List ℕ} {s : Scratch} {b : Builder} {bits : List ℕ}
    → Ready cells s b → length bits ≡ 32 → Going op x y cells b 0 cells s b bits
going_start ready long =
    record {
      long = long;
      made = λ n must may q r le under means_x means_y.
          record { after = after_nothing ready; means = λ k below. absurd (not-suc-le-zero below) };
    }

front_next : {n i : ℕ} {cells c₁ c₂ : List ℕ} {s₁ s₂ : Scratch} {b b₁ : Builder} {bits : List ℕ} {made : Made ℕ}
    (f : Bit → Bit → Work Bit) (r s : Row.Row) → i < length r → i < length s → i < length bits
    → Front n (both_bits f (take i r) (take i s)) cells b i c₁ s₁ b₁ bits
    → Does (BitMeans n) c₁ b₁ (f (get_or r i unknown) (get_or s i unknown)) c₂ s₂ made
    → Front n (both_bits f (take (suc i) r) (take (suc i) s)) cells b (suc i) c₂ s₂ made.at (set bits i made.value)
front_next {n} {i} {c₂ = c₂} {bits = bits} {made = made} f r s in_r in_s in_bits front bit =
    rw (both_more f r s i in_r in_s)
    (record { after = after_then front.after bit.after; means = λ k below. go k below (eqb k i) refl })
  where
    values : Row.Row
    values = (both_bits f (take i r) (take i s)).value

    last : Bit
    last = (f (get_or r i unknown) (get_or s i unknown)).value

    values_long : length values ≡ i
    values_long =
        both_length f (take i r) (take i s) (length-take-le i r (omega arith) ∙ sym (length-take-le i s (omega arith)))
        ∙ length-take-le i r (omega arith)

    go : (k : ℕ) → k < suc i → (e : Bool) → eqb k i ≡ e
        → BitMeans n c₂ made.at (get_or (set bits i made.value) k 0) (get_or (values ++ (last ∷ [])) k unknown)
    go k below true is =
        rw (eqb-true k i is, get_or-set_same bits i made.value 0 in_bits, get_or_at values last [] unknown i values_long)
        bit.means
    go k below false is =
        let other : k ≡ i → ⊥ = eqb-false k i is in
        let lower : k < i = omega arith in
        rw (
          get_or-set_other bits i k made.value 0 other,
          get_or-append values (last ∷ []) unknown k (omega (arith, values_long)),
        )
        (after_bit bit.after n (get_or bits k 0) (get_or values k unknown) (front.means k lower))

-- what two rows' next bits stand for in the state that the loop has reached
module _ {op : Operation} {x y : Declared.Row} {cells c₁ : List ℕ} {s₁ : Scratch} {b b₁ : Builder} {bits : List ℕ} {i : ℕ}
    (same : x.width ≡ y.width) (below : i < x.width) (going : Going op x y cells b i c₁ s₁ b₁ bits) where
  module _ {n : ℕ} (must may : Tree) {q r : Row.Row} (le : n ≤ 128) (under : Under n cells b op must may)
      (means_x : RowMeans n cells b x q) (means_y : RowMeans n cells b y r) where
    front : Front n (both_bits (bit_of n op must may) (take i q) (take i r)) cells b i c₁ s₁ b₁ bits
    front = going.made n must may q r le under means_x means_y

    bit_works : (c₂ : List ℕ) (s₂ : Scratch) (result : Result (Made ℕ) NoRoom)
        → BitWorks op c₁ b₁ (get_or x.bits i 0) (get_or y.bits i 0) c₂ s₂ result
        → Works (BitMeans n) c₁ b₁ (bit_of n op must may (get_or q i unknown) (get_or r i unknown)) c₂ s₂ result
    bit_works c₂ s₂ result bit =
        bit n must may (get_or q i unknown) (get_or r i unknown) le (after_under front.after n op must may under)
        (after_bit front.after n (get_or x.bits i 0) (get_or q i unknown) (means_x.bits i below))
        (after_bit front.after n (get_or y.bits i 0) (get_or r i unknown) (means_y.bits i (omega arith)))

  pub going_next : {made : Made ℕ} (c₂ : List ℕ) (s₂ : Scratch) → x.width ≤ 32
      → BitWorks op c₁ b₁ (get_or x.bits i 0) (get_or y.bits i 0) c₂ s₂ (Ok made)
      → Going op x y cells b (i + 1) c₂ s₂ made.at (set bits i made.value)
  going_next {made} c₂ s₂ narrow bit =
      rw (add-one i)
      (record {
        long = length-set bits i made.value ∙ going.long;
        made = λ n must may q r le under means_x means_y.
            front_next (bit_of n op must may) q r (omega (arith, means_x.long)) (omega (arith, means_y.long))
            (omega (arith, going.long)) (front must may le under means_x means_y)
            (bit_works must may le under means_x means_y c₂ s₂ (Ok made) bit);
      })

  -- no room for the next bit is none for the rows
  pub going_fails : (c₂ : List ℕ) (s₂ : Scratch) (e : NoRoom)
      → BitWorks op c₁ b₁ (get_or x.bits i 0) (get_or y.bits i 0) c₂ s₂ (Err e) → RowsWork op x y cells b c₂ s₂ (Err e)
  going_fails c₂ s₂ e bit n must may q r le under means_x means_y =
      let f = bit_of n op must may in
      let next = both_more f q r i (omega (arith, means_x.long)) (omega (arith, means_y.long)) in
      let lacks = lacks_then (front must may le under means_x means_y).after (bit_works must may le under means_x means_y c₂ s₂ (Err e) bit) in
      rw (both_split f (suc i) q r, next) (lacks_more (both_bits f (drop (suc i) q) (drop (suc i) r)).steps lacks)

  -- what the next bit requires
  module _ {s : Scratch} (ready : Ready cells s b) (condition : UnderKnown b op) (known : RowKnown b x × RowKnown b y) where
    some : Front 128 (both_bits (bit_of 128 op (must_of cells op) (may_of cells op)) (take i (row_of cells x))
        (take i (row_of cells y))) cells b i c₁ s₁ b₁ bits
    some = front (must_of cells op) (may_of cells op) (omega arith) (under_some op ready condition) (row_some ready known.0) (row_some ready known.1)

    pub going_ready : Ready c₁ s₁ b₁
    going_ready = some.after.ready

    pub going_condition : UnderKnown b₁ op
    going_condition = after_under_known some.after op condition

    pub going_known : BitKnown b₁ (get_or x.bits i 0) × BitKnown b₁ (get_or y.bits i 0)
    going_known = (
      after_bit_known some.after (get_or x.bits i 0) (known.0.each i below),
      after_bit_known some.after (get_or y.bits i 0) (known.1.each i (omega arith)),
    )

pub going_done : {op : Operation} {x y : Declared.Row} {cells cells' : List ℕ} {s' : Scratch} {b b' : Builder}
    {bits : List ℕ} {i : ℕ} → x.width ≡ y.width → x.width ≤ i → Going op x y cells b i cells' s' b' bits
    → RowsWork op x y cells b cells' s' (Ok (record { at = b'; value = record { bits = bits; width = x.width } }))
going_done {op} {x} {y} {i = i} same end going n must may q r le under means_x means_y =
    let front = going.made n must may q r le under means_x means_y in
    let f = bit_of n op must may in
    let all_q : take i q ≡ q = take_all i q (omega (arith, means_x.long)) in
    let all_r : take i r ≡ r = take_all i r (omega (arith, means_y.long)) in
    record {
      after = rw (all_q, all_r) at front.after;
      means =
          record {
            long = both_length f q r (means_x.long ∙ same ∙ sym means_y.long) ∙ means_x.long;
            narrow = means_x.narrow;
            bits = λ k below. rw (all_q, all_r) at (front.means k (omega arith));
          };
    }

-- ---- the operations by name

module _ {n : ℕ} {x y : Declared.Row} {cells : List ℕ} {b : Builder} (cells' : List ℕ) (s' : Scratch)
    (result : Result (Made Declared.Row) NoRoom) (le : n ≤ 128) where
  pub works_and : {q r : Row.Row} → RowMeans n cells b x q → RowMeans n cells b y r
      → RowsWork And x y cells b cells' s' result → Works (RowMeans n) cells b (Row.bit_and n q r) cells' s' result
  unfolding Row.bit_and
  works_and {q} {r} means_x means_y rows = rows n unused unused q r le tt means_x means_y

  pub works_or : {q r : Row.Row} → RowMeans n cells b x q → RowMeans n cells b y r
      → RowsWork Or x y cells b cells' s' result → Works (RowMeans n) cells b (Row.bit_or n q r) cells' s' result
  unfolding Row.bit_or
  works_or {q} {r} means_x means_y rows = rows n unused unused q r le tt means_x means_y

  pub works_xor : {q r : Row.Row} → RowMeans n cells b x q → RowMeans n cells b y r
      → RowsWork Xor x y cells b cells' s' result → Works (RowMeans n) cells b (Row.bit_xor n q r) cells' s' result
  unfolding Row.bit_xor
  works_xor {q} {r} means_x means_y rows = rows n unused unused q r le tt means_x means_y

  pub works_choose : {q r : Row.Row} (m k : ℕ) (must may : Tree) → RowMeans n cells b x q → RowMeans n cells b y r
      → BitMeans n cells b m (known must) → BitMeans n cells b k (known may)
      → RowsWork (Choose m k) x y cells b cells' s' result
      → Works (RowMeans n) cells b (Row.choose n must may q r) cells' s' result
  unfolding Row.choose
  works_choose {q} {r} m k must may means_x means_y is_must is_may rows =
      rows n must may q r le (is_must, is_may) means_x means_y

  -- both operands stand for the one row
  pub works_not : {r : Row.Row} → RowMeans n cells b x r → RowMeans n cells b y r
      → RowsWork Not x y cells b cells' s' result → Works (RowMeans n) cells b (Row.bit_not n r) cells' s' result
  unfolding Row.bit_not
  works_not {r} means_x means_y rows =
      rw (both_each (λ a c. not_bit n a) (not_bit n) r r refl (λ i below. refl))
      at (rows n unused unused r r le tt means_x means_y)

  -- a row and one bit: the bit in every place
  pub works_each : {r : Row.Row} (c : Bit) → RowMeans n cells b x r → RowMeans n cells b y (replicate (length r) c)
      → RowsWork And x y cells b cells' s' result
      → Works (RowMeans n) cells b (each_bit (λ a. and_bit n a c) r) cells' s' result
  works_each {r} c means_x means_y rows =
      rw (both_each (and_bit n) (λ a. and_bit n a c) r (replicate (length r) c) (length-replicate (length r) c)
      (λ i below. ap (and_bit n (get_or r i unknown)) (get_or-replicate (length r) i c unknown below)))
      at (rows n unused unused r (replicate (length r) c) le tt means_x means_y)
