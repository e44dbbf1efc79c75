-- Addition at a limit: the loop over the places.
--
--   Adding    what was made of the sum and what is left are the whole, of the rows that the operands stand for
--   AddLoop   so it is whatever rows they stand for: loop_start, loop_next, loop_stop, loop_lacks, loop_done
use Prim.Native.Nat.{ℕ, zero, suc, ◌+◌, ◌-◌, ◌≤◌, ◌<◌}
use native.Mathlib.Omega.{arith}
use native.Mathlib.Numerals.{add-one}
use mathlib.Core.Path.{◌≡◌, refl, sym, ap, subst, ◌∙◌}
use mathlib.Core.Bool.{Bool, true, false}
use mathlib.Core.List.{List, [], ◌∷◌, ◌++◌, map, append_assoc, append-nil, map-append}
use lib.Dec.{ltb, eqb}
use lib.ListN.{length, get_or, drop, length-append, length-drop, drop_of_length-le}
use lib.Seq.{drop-cons}
use borrow.Author.Tests.{eqb-true, eqb-false, eq-eqb, ne_eqb, ltb-true, ltb-false}
use Rattle.std.specs.Prelude.{Option, Some, None, Result, Ok, Err}
use Rattle.meaning.specs.Diagram.{Tree, leaf}
use Rattle.meaning.specs.Step.{Work, ◌>>=◌, unused}
use Rattle.meaning.specs.Row
use Rattle.meaning.specs.Row.{Bit, known, unknown, unknowns, add_from}
use Rattle.meaning.proofs.Laws.Add.{add_length}
use Rattle.diagram.specs.State.{Ready, After, Works, Does, Lacks}
use Rattle.diagram.specs.declared.builder.Builder.{Builder}
use Rattle.diagram.specs.declared.builder.Made.{Made}
use Rattle.diagram.specs.declared.builder.NoRoom.{NoRoom}
use Rattle.diagram.specs.declared.scratch.Scratch.{Scratch}
use Rattle.diagram.proofs.Laws.After.{after_nothing, after_then, lacks_then, lacks_more}
use Rattle.term.specs.Row.{mark, BitMeans, BitKnown, RowMeans, RowKnown}
use Rattle.term.specs.Add.{Tallies, NumbersMean, Summing, SumMeans, NextMeans, Next, place_step, Places, Addable}
use Rattle.term.specs.declared.add.Sum.{Sum}
use Rattle.term.specs.declared.row.Row as Declared
use Rattle.term.proofs.Laws.Rows.{row_of, row_some, row_known, after_row}
use Rattle.term.proofs.Laws.Sum.{means_known}
use Rattle.term.proofs.Laws.Count.{tallies_none}
use Rattle.term.proofs.Laws.OnePlace.{add_place, rest_of, numbers_after}

-- known bits, then unknown ones
known_at : (sums : List Tree) (rest : Row.Row) (i : ℕ) → i < length sums
    → get_or (map known sums ++ rest) i unknown ≡ known (get_or sums i unused)
known_at [] rest i inside = absurd (omega arith)
known_at (t ∷ sums) rest zero inside = refl
known_at (t ∷ sums) rest (suc i) inside = known_at sums rest i (omega arith)

unknown_at : (sums : List Tree) (k i : ℕ) → length sums ≤ i → get_or (map known sums ++ unknowns k) i unknown ≡ unknown
unknown_at [] zero i above = refl
unknown_at [] (suc k) zero above = refl
unknown_at [] (suc k) (suc i) above = unknown_at [] k i (omega arith)
unknown_at (t ∷ sums) k zero above = absurd (omega arith)
unknown_at (t ∷ sums) k (suc i) above = unknown_at sums k i (omega arith)

-- the sum bits, then unknown bits, as a row of numbers
row_made : {n : ℕ} {cells cells' : List ℕ} {sum : Sum} {carry : Tree} {sums : List Tree} {b b' : Builder}
    (k width : ℕ) {r : Row.Row}
    → SumMeans n cells b sum carry sums → NumbersMean n cells' b' sum.bits sums
    → r ≡ map known sums ++ unknowns k
    → length r ≡ width → width ≤ 32 → RowMeans n cells' b' (record { bits = sum.bits; width = width }) r
row_made {n} {cells} {cells'} {sum} {carry} {sums} {b} {b'} k width {r} means numbers is long narrow =
    record {
      long = long;
      narrow = narrow;
      bits = λ i below. rw is (go i below (ltb i (length sums)) refl);
    }
  where
    go : (i : ℕ) → i < width → (e : Bool) → ltb i (length sums) ≡ e
        → BitMeans n cells' b' (get_or sum.bits i 0) (get_or (map known sums ++ unknowns k) i unknown)
    go i below true e =
        let inside = ltb-true i (length sums) e in
        let number = numbers.each i inside in
        rw (known_at sums (unknowns k) i inside) (number.is, number.good)
    go i below false e =
        let from = ltb-false i (length sums) e in
        rw (unknown_at sums k i from) (means.above i (omega (arith, means.long)) (omega arith))

-- no bit yet
abbrev first_sum : List ℕ → Sum
first_sum bits = record { bits = bits; count = 0; carry = 0; tally = record { bits = 0; nodes = 0 } }

-- some sum bits and some steps, then the rest of them
abbrev joined : List Tree → List Tree → Work Row.Row → Work Row.Row
joined sums steps rest = record { value = map known sums ++ rest.value; steps = steps ++ rest.steps }

-- `sum` is a sum so far of the rows r and q, from state b on: what was made of it and what is left are the whole
pub record Adding (n L : ℕ) (r q : Row.Row) (cells : List ℕ) (b : Builder) (cells' : List ℕ) (s' : Scratch) (b' : Builder)
    (sum : Sum) : Type 0 where
  pub carry : Tree
  pub sums : List Tree
  pub steps : List Tree
  pub means : SumMeans n cells' b' sum carry sums
  pub inside : length sums ≤ length r
  pub after : After cells b steps cells' s' b'
  pub whole : Row.add n L r q
      ≡ joined sums steps (add_from n L carry sums (drop (length sums) r) (drop (length sums) q))

module _ {n L : ℕ} {r q : Row.Row} {cells : List ℕ} {s : Scratch} {b : Builder} where
  adding_start : (bits : List ℕ) → Ready cells s b → ((k : ℕ) → k < 32 → get_or bits k 0 ≡ mark)
      → Adding n L r q cells b cells s b (first_sum bits)
  unfolding Row.add
  adding_start bits ready blank =
      record {
        carry = leaf false;
        sums = [];
        steps = [];
        means =
            record {
              long = refl;
              carry = record { is = refl; good = tt };
              numbers = record { each = λ k below. absurd (omega arith) };
              above = λ k from below. blank k below;
            };
        inside = omega arith;
        after = after_nothing ready;
        whole = refl;
      }

module _ {n L : ℕ} {r q : Row.Row} {cells : List ℕ} {b : Builder} {width : ℕ} (long_r : length r ≡ width)
    (long_q : length q ≡ width) (narrow : width ≤ 32) {cells' : List ℕ} {s' : Scratch} {b' : Builder} {sum : Sum}
    (adding : Adding n L r q cells b cells' s' b' sum) where
  abbrev left : Row.Row → Row.Row
  left a = drop (suc (length adding.sums)) a

  abbrev first : Row.Row → Bit
  first a = get_or a (length adding.sums) unknown

  abbrev here : Work (Option Next)
  here = place_step n L adding.carry adding.sums (first r) (first q) (left r)

  even : length (Row.add n L r q).value ≡ width
  even = add_length n L r q (long_r ∙ sym long_q) ∙ long_r

  -- at the end
  adding_done : width ≤ sum.count
      → Does (RowMeans n) cells b (Row.add n L r q) cells' s' (record { at = b'; value = record { bits = sum.bits; width = width } })
  adding_done end =
      let none : drop (length adding.sums) r ≡ [] =
      drop_of_length-le r {i = length adding.sums} (omega (arith, adding.means.long)) in
      let whole = rw none at adding.whole in
      let steps : (Row.add n L r q).steps ≡ adding.steps = ap (λ (m : Work Row.Row). m.steps) whole ∙ append-nil adding.steps in
      record {
        after = rw steps adding.after;
        means =
            row_made 0 width adding.means adding.means.numbers (ap (λ (m : Work Row.Row). m.value) whole) even narrow;
      }

  module _ (more : sum.count < width) where
    opened : (a : Row.Row) → length a ≡ width → drop (length adding.sums) a ≡ first a ∷ left a
    opened a long = drop-cons a (length adding.sums) unknown (omega (arith, adding.means.long))

    -- this place, then the rest
    split : Row.add n L r q
        ≡ joined adding.sums adding.steps (◌>>=◌ here (rest_of n L adding.sums (left r) (left q)))
    split =
        let place = add_place n L adding.carry adding.sums (first r) (first q) (left r) (left q) in
        let whole = adding.whole in
        (rw (opened r long_r, opened q long_q) at whole) ∙ ap (joined adding.sums adding.steps) place

    adding_lacks : {cells'' : List ℕ} → Lacks cells' b' here.steps cells'' → Lacks cells b (Row.add n L r q).steps cells''
    adding_lacks {cells''} lacks =
        subst (λ (m : Work Row.Row). Lacks cells b m.steps cells'') (sym split)
        (lacks_then adding.after (lacks_more _ lacks))

    module _ {cells'' : List ℕ} {s'' : Scratch} {made : Made (Option Sum)}
        (placed : Does (NextMeans n adding.sums) cells' b' here cells'' s'' made) where
      adding_stop : made.value ≡ None → Does (RowMeans n) cells b (Row.add n L r q) cells'' s''
          (record { at = made.at; value = record { bits = sum.bits; width = width } })
      adding_stop cut = go here.value refl (rw cut at placed.means)
        where
          go : (v : Option Next) → here.value ≡ v → NextMeans n adding.sums cells'' made.at None v
              → Does (RowMeans n) cells b (Row.add n L r q) cells'' s''
              (record { at = made.at; value = record { bits = sum.bits; width = width } })
          go (Some x) e means = absurd means
          go None e means =
              let whole = rw e at split in
              let steps = ap (λ (m : Work Row.Row). m.steps) whole in
              let value = ap (λ (m : Work Row.Row). m.value) whole in
              record {
                after = rw (steps, append-nil here.steps) (after_then adding.after placed.after);
                means =
                    row_made (suc (length (left r))) width adding.means (numbers_after placed.after adding.means.numbers)
                    value even narrow;
              }

      adding_next : {sum' : Sum} → made.value ≡ Some sum' → Adding n L r q cells b cells'' s'' made.at sum'
      adding_next {sum'} on = go here.value refl (rw on at placed.means)
        where
          go : (v : Option Next) → here.value ≡ v → NextMeans n adding.sums cells'' made.at (Some sum') v
              → Adding n L r q cells b cells'' s'' made.at sum'
          go None e means = absurd means
          go (Some x) e means =
              let sums = adding.sums in
              let one = x.sum ∷ [] in
              let rest = add_from n L x.carry (sums ++ one) (left r) (left q) in
              let next : length (sums ++ one) ≡ suc (length sums) = length-append sums one ∙ add-one (length sums) in
              record {
                carry = x.carry;
                sums = sums ++ one;
                steps = adding.steps ++ here.steps;
                means = means;
                inside = omega (arith, adding.means.long);
                after = after_then adding.after placed.after;
                whole =
                    rw (
                      next,
                      map-append known sums one,
                      append_assoc (map known sums) (known x.sum ∷ []) rest.value,
                      append_assoc adding.steps here.steps rest.steps,
                    )
                    (rw (e, append-nil rest.steps) at split);
              }

      -- one sum bit more
      adding_counts : {sum' : Sum} → made.value ≡ Some sum' → sum'.count ≡ sum.count + 1
      adding_counts {sum'} on = go here.value (rw on at placed.means)
        where
          go : (v : Option Next) → NextMeans n adding.sums cells'' made.at (Some sum') v → sum'.count ≡ sum.count + 1
          go None means = absurd means
          go (Some x) means = omega (arith, means.long, adding.means.long, length-append adding.sums (x.sum ∷ []))

-- is this place the last?
last_place : (i width : ℕ) (r : Row.Row) → i < width → length r ≡ width
    → eqb (i + 1) width ≡ eqb (length (drop (suc i) r)) 0
last_place i width r more long = rw (length-drop (suc i) r, long) (go (eqb (i + 1) width) refl)
  where
    go : (e : Bool) → eqb (i + 1) width ≡ e → e ≡ eqb (width - suc i) 0
    go true e = let end = eqb-true (i + 1) width e in sym (eq-eqb (width - suc i) 0 (omega arith))
    go false e =
        let other = eqb-false (i + 1) width e in
        sym (ne_eqb (width - suc i) 0 (λ none. other (omega arith)))

-- the loop of the code, whatever rows x and y stand for
pub record AddLoop (L : ℕ) (x y : Declared.Row) (cells : List ℕ) (b : Builder) (cells' : List ℕ) (s' : Scratch)
    (marks' : List ℕ) (b' : Builder) (sum : Sum) (i : ℕ) : Type 0 where
  pub count : sum.count ≡ i
  pub tallies : Tallies cells' marks' b' L sum.bits sum.count sum.tally
  pub adding : (n : ℕ) (r q : Row.Row) → n ≤ 128 → RowMeans n cells b x r → RowMeans n cells b y q
      → Adding n L r q cells b cells' s' b' sum

module _ {cells : List ℕ} {s : Scratch} {b : Builder} {L : ℕ} {x y : Declared.Row} (addable : Addable cells s b x y) where
  pub loop_start : {marks : List ℕ} (bits : List ℕ) → ((k : ℕ) → k < 32 → get_or bits k 0 ≡ mark)
      → AddLoop L x y cells b cells s marks b (first_sum bits) 0
  loop_start {marks} bits blank =
      record {
        count = refl;
        tallies = tallies_none cells marks b L bits;
        adding = λ n r q le is_x is_y. adding_start bits addable.ready blank;
      }

  module _ {cells' : List ℕ} {s' : Scratch} {marks' : List ℕ} {b' : Builder} {sum : Sum} {i : ℕ}
      (loop : AddLoop L x y cells b cells' s' marks' b' sum i) where
    pub loop_done : x.width ≤ i → (n : ℕ) (r q : Row.Row) → n ≤ 128 → RowMeans n cells b x r → RowMeans n cells b y q
        → Does (RowMeans n) cells b (Row.add n L r q) cells' s'
        (record { at = b'; value = record { bits = sum.bits; width = x.width } })
    loop_done end n r q le is_x is_y =
        let count = loop.count in
        adding_done is_x.long (is_y.long ∙ sym addable.even) is_x.narrow (loop.adding n r q le is_x is_y) (omega arith)

    -- some rows that x and y stand for
    some : Adding 128 L (row_of cells x) (row_of cells y) cells b cells' s' b' sum
    some =
        loop.adding 128 (row_of cells x) (row_of cells y) (omega arith) (row_some addable.ready addable.left)
        (row_some addable.ready addable.right)

    module _ (more : i < x.width) where
      pub loop_summing : Summing cells' s' marks' b' L sum
      loop_summing =
          let means = some.means in
          let count = loop.count in
          record {
            ready = some.after.ready;
            narrow = omega (arith, addable.left.narrow);
            carry = means_known means.carry;
            each = λ j below. means_known (means.numbers.each j (omega (arith, means.long)));
            tallies = loop.tallies;
          }

      -- the operand bits
      pub loop_known : BitKnown b' (get_or x.bits i 0) × BitKnown b' (get_or y.bits i 0)
      loop_known =
          let later : (row : Declared.Row) → RowKnown b row → RowKnown b' row =
          λ row is. row_known (after_row some.after (row_some addable.ready is)) in
          ((later x addable.left).each i more, (later y addable.right).each i (omega (arith, addable.even)))

      module _ {u v : ℕ} (is_u : u ≡ get_or x.bits i 0) (is_v : v ≡ get_or y.bits i 0) (c₂ : List ℕ) (s₂ : Scratch) where
        -- what the place made
        placed : (m : Result (Made (Option Sum)) NoRoom) → Places L cells' b' sum u v (eqb (i + 1) x.width) c₂ s₂ m
            → {n : ℕ} {r q : Row.Row} → n ≤ 128 → RowMeans n cells b x r → RowMeans n cells b y q
            → (adding : Adding n L r q cells b cells' s' b' sum)
            → Works (NextMeans n adding.sums) cells' b'
            (place_step n L adding.carry adding.sums (get_or r (length adding.sums) unknown)
            (get_or q (length adding.sums) unknown) (drop (suc (length adding.sums)) r)) c₂ s₂ m
        placed m places {n} {r} {q} le is_x is_y adding =
            rw (adding.means.long, loop.count)
            (places n adding.carry adding.sums _ _ (drop (suc i) r) le (last_place i x.width r more is_x.long) adding.means
            (rw is_u ((after_row adding.after is_x).bits i more))
            (rw is_v ((after_row adding.after is_y).bits i (omega (arith, addable.even)))))

        pub loop_lacks : (e : NoRoom) → Places L cells' b' sum u v (eqb (i + 1) x.width) c₂ s₂ (Err e)
            → (n : ℕ) (r q : Row.Row) → n ≤ 128 → RowMeans n cells b x r → RowMeans n cells b y q
            → Lacks cells b (Row.add n L r q).steps c₂
        loop_lacks e places n r q le is_x is_y =
            let adding = loop.adding n r q le is_x is_y in
            let count = loop.count in
            adding_lacks is_x.long (is_y.long ∙ sym addable.even) is_x.narrow adding (omega arith)
            (placed (Err e) places le is_x is_y adding)

        module _ (made : Made (Option Sum)) (places : Places L cells' b' sum u v (eqb (i + 1) x.width) c₂ s₂ (Ok made)) where
          pub loop_stop : made.value ≡ None
              → (n : ℕ) (r q : Row.Row) → n ≤ 128 → RowMeans n cells b x r → RowMeans n cells b y q
              → Does (RowMeans n) cells b (Row.add n L r q) c₂ s₂
              (record { at = made.at; value = record { bits = sum.bits; width = x.width } })
          loop_stop cut n r q le is_x is_y =
              let adding = loop.adding n r q le is_x is_y in
              let count = loop.count in
              adding_stop is_x.long (is_y.long ∙ sym addable.even) is_x.narrow adding (omega arith)
              (placed (Ok made) places le is_x is_y adding) cut

          pub loop_next : {marks'' : List ℕ} {sum' : Sum} → made.value ≡ Some sum'
              → Tallies c₂ marks'' made.at L sum'.bits sum'.count sum'.tally
              → AddLoop L x y cells b c₂ s₂ marks'' made.at sum' (i + 1)
          loop_next {marks''} {sum'} on tallies =
              record {
                count = counts;
                tallies = tallies;
                adding = next;
              }
            where
              next : (n : ℕ) (r q : Row.Row) → n ≤ 128 → RowMeans n cells b x r → RowMeans n cells b y q
                  → Adding n L r q cells b c₂ s₂ made.at sum'
              next n r q le is_x is_y =
                  let adding = loop.adding n r q le is_x is_y in
                  let count = loop.count in
                  adding_next is_x.long (is_y.long ∙ sym addable.even) is_x.narrow adding (omega arith)
                  (placed (Ok made) places le is_x is_y adding) on

              counts : sum'.count ≡ i + 1
              counts =
                  let is_x = row_some addable.ready addable.left in
                  let is_y = row_some addable.ready addable.right in
                  let count = loop.count in
                  let one =
                  adding_counts is_x.long (is_y.long ∙ sym addable.even) is_x.narrow some (omega arith)
                  (placed (Ok made) places (omega arith) is_x is_y some) on in
                  omega arith
