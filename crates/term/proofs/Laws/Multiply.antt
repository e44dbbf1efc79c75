-- What is made of sums: negation and multiplication.
--
--   negated        the bitwise not, then add constant 1
--   partial_made   one row of a product
--   Multiplying    the loop: the sum so far, and what is left to add to it
use Prim.Native.Nat.{ℕ, suc, ◌+◌, ◌-◌, ◌≤◌, ◌<◌}
use native.Mathlib.Omega.{arith}
use native.Mathlib.Numerals.{add-one}
use mathlib.Core.Path.{◌≡◌, refl, sym, subst, ◌∙◌}
use mathlib.Core.List.{List, [], ◌∷◌, ◌++◌, map, append_assoc, append-nil}
use lib.ListN.{length, get_or, take, drop, replicate, length-append, length-take, length-replicate, drop_of_length-le}
use lib.Seq.{drop-cons, paste}
use Rattle.std.specs.Prelude.{false, Result, Ok, Err}
use Rattle.meaning.specs.Number.{bits, digit}
use Rattle.meaning.specs.Diagram.{Tree, leaf}
use Rattle.meaning.specs.Step.{Work, ◌>>=◌}
use Rattle.meaning.specs.Row
use Rattle.meaning.specs.Row.{Bit, known, unknown, zeros, each_bit, and_bit, multiply_from}
use Rattle.meaning.proofs.Laws.Bitwise.{each_bit_length, bit_not_length}
use Rattle.meaning.proofs.Laws.Add.{add_length}
use Rattle.diagram.specs.State.{Ready, After, Does, Lacks}
use Rattle.diagram.specs.declared.builder.Builder.{Builder}
use Rattle.diagram.specs.declared.builder.Made.{Made}
use Rattle.diagram.specs.declared.builder.NoRoom.{NoRoom}
use Rattle.diagram.specs.declared.scratch.Scratch.{Scratch}
use Rattle.diagram.proofs.Laws.After.{after_nothing, after_then, works_then, lacks_then, lacks_more}
use Rattle.term.specs.Row.{BitKnown, BitMeans, RowMeans, RowKnown, places}
use Rattle.term.specs.Add.{Addable, OnRow, OnRows, OnBit}
use Rattle.term.specs.declared.row.Row as Declared
use Rattle.term.specs.declared.bitwise.Operation.TheVariants.{Not, And}
use Rattle.term.proofs.Laws.Rows.{bit_some, row_of, row_some, row_known, after_row, after_bit_known}
use Rattle.term.proofs.Laws.Moved.{Holds, Whole, constant_means, filled_means, zeros_means, low_part_means}
use Rattle.term.proofs.Laws.Moved.{raised_means}
use Rattle.term.proofs.Laws.Bitwise.{RowsWork, works_not, works_each}

-- ---- negation

module _ (L : ℕ) {cells : List ℕ} {s : Scratch} {b : Builder} {x : Declared.Row} (addable : Addable cells s b x x)
    (c₁ : List ℕ) (s₁ : Scratch) where
  pub negate_lacks : (e : NoRoom) → RowsWork Not x x cells b c₁ s₁ (Err e) → OnRow (λ n. Row.negate n L) x cells b c₁ s₁ (Err e)
  unfolding Row.negate
  negate_lacks e flips n r le is = lacks_more _ (works_not c₁ s₁ (Err e) le is is flips)

  module _ (flipped : Made Declared.Row) (flips : RowsWork Not x x cells b c₁ s₁ (Ok flipped)) (one : Declared.Row)
      (holds : Holds one x.width (map digit (bits x.width 1))) where
    made_not : {n : ℕ} {r : Row.Row} → n ≤ 128 → RowMeans n cells b x r → Does (RowMeans n) cells b (Row.bit_not n r) c₁ s₁ flipped
    made_not le is = works_not c₁ s₁ (Ok flipped) le is is flips

    one_means : {n : ℕ} {r : Row.Row} → RowMeans n cells b x r → RowMeans n c₁ flipped.at one (Row.constant (length r) 1)
    one_means is = rw is.long (constant_means x.width 1 is.narrow holds)

    pub negate_addable : Addable c₁ s₁ flipped.at flipped.value one
    negate_addable =
        let is = row_some addable.ready addable.left in
        let made = made_not (omega arith) is in
        let long = bit_not_length 128 (row_of cells x) in
        record {
          ready = made.after.ready;
          left = row_known made.means;
          right = row_known (one_means is);
          even = sym made.means.long ∙ long ∙ is.long ∙ sym holds.0;
        }

    pub negated : (c₂ : List ℕ) (s₂ : Scratch) (result : Result (Made Declared.Row) NoRoom)
        → OnRows (λ n. Row.add n L) flipped.value one c₁ flipped.at c₂ s₂ result
        → OnRow (λ n. Row.negate n L) x cells b c₂ s₂ result
    unfolding Row.negate
    negated c₂ s₂ result adds n r le is =
        let made = made_not le is in
        works_then (RowMeans n) (λ q. Row.add n L q (Row.constant (length r) 1)) c₂ s₂ result made
        (adds n (Row.bit_not n r).value (Row.constant (length r) 1) le made.means (one_means is))

-- ---- one row of a product

-- as many places as are left above j
left_length : (r : Row.Row) (width j : ℕ) → length r ≡ width → length (take (width - j) r) ≡ width - j
left_length r width j long = omega (arith, length-take (width - j) r)

-- the places of x that go up by j, and as many of the bit y
pub record Parted (x : Declared.Row) (j y : ℕ) (low many : Declared.Row) : Type 0 where
  pub inside : j ≤ x.width
  pub whole : Whole x
  pub is_low : Holds low (x.width - j) (take (x.width - j) (places x))
  pub is_many : Holds many (x.width - j) (replicate (x.width - j) y)

-- from what low_part and filled promise
pub parting : {x : Declared.Row} {j y : ℕ} {low many : Declared.Row} → j ≤ x.width → Whole x
    → Holds low (x.width - j) (take (x.width - j) (places x)) → Holds many (x.width - j) (replicate (x.width - j) y)
    → Parted x j y low many
parting inside whole is_low is_many =
    record { inside = inside; whole = whole; is_low = is_low; is_many = is_many }

module _ {x : Declared.Row} {j y : ℕ} {low many : Declared.Row} (parted : Parted x j y low many) where
  abbrev left : Row.Row → Row.Row
  left r = take (x.width - j) r

  low_means : {n : ℕ} {cells : List ℕ} {b : Builder} {r : Row.Row} → RowMeans n cells b x r
      → RowMeans n cells b low (left r)
  low_means is_x = low_part_means is_x parted.whole (x.width - j) (omega arith) parted.is_low

  many_means : {n : ℕ} {cells : List ℕ} {b : Builder} {r : Row.Row} (bit : Bit) → RowMeans n cells b x r
      → BitMeans n cells b y bit → RowMeans n cells b many (replicate (length (left r)) bit)
  many_means {r = r} bit is_x is_y =
      rw (left_length r x.width j is_x.long)
      (filled_means (x.width - j) y bit (omega (arith, is_x.narrow)) is_y parted.is_many)

  pub partial_known : {cells : List ℕ} {s : Scratch} {b : Builder} → Ready cells s b → RowKnown b x → BitKnown b y
      → RowKnown b low × RowKnown b many
  partial_known ready known_x known_y =
      let is_x = row_some ready known_x in
      (row_known (low_means is_x), row_known (many_means _ is_x (bit_some ready y known_y)))

  module _ {cells : List ℕ} {b : Builder} (c₁ : List ℕ) (s₁ : Scratch) where
    pub partial_lacks : (e : NoRoom) → RowsWork And low many cells b c₁ s₁ (Err e) → OnBit j x y cells b c₁ s₁ (Err e)
    partial_lacks e works n r bit le is_x is_y =
        rw is_x.long
        (lacks_more _ (works_each c₁ s₁ (Err e) le bit (low_means is_x) (many_means bit is_x is_y) works))

    module _ (made : Made Declared.Row) (works : RowsWork And low many cells b c₁ s₁ (Ok made)) where
      each_made : {n : ℕ} {r : Row.Row} (bit : Bit) → n ≤ 128 → RowMeans n cells b x r → BitMeans n cells b y bit
          → Does (RowMeans n) cells b (each_bit (λ a. and_bit n a bit) (left r)) c₁ s₁ made
      each_made bit le is_x is_y = works_each c₁ s₁ (Ok made) le bit (low_means is_x) (many_means bit is_x is_y) works

      high_width : {n : ℕ} {r : Row.Row} (bit : Bit) → n ≤ 128 → RowMeans n cells b x r → BitMeans n cells b y bit
          → made.value.width ≡ x.width - j
      high_width {n} {r} bit le is_x is_y =
          sym (each_made bit le is_x is_y).means.long ∙ each_bit_length (λ a. and_bit n a bit) (left r)
          ∙ left_length r x.width j is_x.long

      pub partial_width : {s : Scratch} → Ready cells s b → RowKnown b x → BitKnown b y → made.value.width ≡ x.width - j
      partial_width ready known_x known_y = high_width _ (omega arith) (row_some ready known_x) (bit_some ready y known_y)

      pub partial_made : (zero : Declared.Row) {row : Declared.Row} → Whole made.value → Holds zero x.width (replicate x.width 0)
          → Holds row zero.width (paste (places zero) j (places made.value) (x.width - j))
          → OnBit j x y cells b c₁ s₁ (Ok (record { at = made.at; value = row }))
      partial_made zero all is_zero is_row n r bit le is_x is_y =
          let each = each_made bit le is_x is_y in
          let wide = high_width bit le is_x is_y in
          rw is_x.long
          (record {
            after = rw append-nil each.after;
            means =
                raised_means each.means all zero x.width j is_x.narrow (omega (arith, parted.inside)) is_zero
                (rw (← wide) at is_row);
          })

-- ---- the loop

partial_length : (n j : ℕ) (r : Row.Row) (bit : Bit) → j ≤ length r → length (Row.partial n j r bit).value ≡ length r
partial_length n j r bit inside =
    let moved = take (length r - j) r in
    let each = (each_bit (λ a. and_bit n a bit) moved).value in
    let joined = length-append (zeros j) each in
    let low = length-replicate j (known (leaf false)) in
    let high = each_bit_length (λ a. and_bit n a bit) moved in
    omega (arith, left_length r (length r) j refl)

-- from state b on the rows of the first j bits of q were added up; what was made and what is left are the whole
pub record Multiplying (n L : ℕ) (r q : Row.Row) (cells : List ℕ) (b : Builder) (cells' : List ℕ) (s' : Scratch) (b' : Builder)
    (sum : Declared.Row) (j : ℕ) : Type 0 where
  pub total : Row.Row
  pub steps : List Tree
  pub means : RowMeans n cells' b' sum total
  pub even : length total ≡ length r
  pub after : After cells b steps cells' s' b'
  pub whole : Row.multiply n L r q
      ≡ ◌>>=◌ (record { value = total; steps = steps }) (λ m. multiply_from n L r j m (drop j q))

module _ {n L : ℕ} {r q : Row.Row} {cells : List ℕ} {b : Builder} where
  multiplying_start : {s : Scratch} {sum : Declared.Row} → Ready cells s b → RowMeans n cells b sum (zeros (length r))
      → Multiplying n L r q cells b cells s b sum 0
  unfolding Row.multiply
  multiplying_start ready means =
      record {
        total = zeros (length r);
        steps = [];
        means = means;
        even = length-replicate (length r) (known (leaf false));
        after = after_nothing ready;
        whole = refl;
      }

  module _ {cells' : List ℕ} {s' : Scratch} {b' : Builder} {sum : Declared.Row} {j : ℕ}
      (going : Multiplying n L r q cells b cells' s' b' sum j) where
    multiplying_done : length q ≤ j → Does (RowMeans n) cells b (Row.multiply n L r q) cells' s' (record { at = b'; value = sum })
    multiplying_done end =
        let none : drop j q ≡ [] = drop_of_length-le q {i = j} end in
        rw (going.whole, none)
        (record { after = rw append-nil going.after; means = going.means })

    module _ (inside : j < length q) where
      abbrev row : Work Row.Row
      row = Row.partial n j r (get_or q j unknown)

      abbrev added : Work Row.Row
      added = Row.add n L going.total row.value

      -- this row, its sum, then the rest
      split : Row.multiply n L r q ≡ ◌>>=◌ (record { value = added.value; steps = going.steps ++ (row.steps ++ added.steps) })
          (λ m. multiply_from n L r (suc j) m (drop (suc j) q))
      split =
          let rest = multiply_from n L r (suc j) added.value (drop (suc j) q) in
          let here : drop j q ≡ get_or q j unknown ∷ drop (suc j) q = drop-cons q j unknown inside in
          let whole = going.whole in
          rw (append_assoc going.steps (row.steps ++ added.steps) rest.steps, append_assoc row.steps added.steps rest.steps)
          (rw here at whole)

      -- if the steps up to here lack room, so do all
      multiplying_lacks : {c₂ : List ℕ} → Lacks cells' b' (row.steps ++ added.steps) c₂
          → Lacks cells b (Row.multiply n L r q).steps c₂
      multiplying_lacks {c₂} lacks =
          subst (λ (m : Work Row.Row). Lacks cells b m.steps c₂) (sym split) (lacks_more _ (lacks_then going.after lacks))

      multiplying_next : {c₁ c₂ : List ℕ} {s₁ s₂ : Scratch} {more made : Made Declared.Row}
          → j < length r → Does (RowMeans n) cells' b' row c₁ s₁ more → Does (RowMeans n) c₁ more.at added c₂ s₂ made
          → Multiplying n L r q cells b c₂ s₂ made.at made.value (j + 1)
      multiplying_next below more made =
          let long = partial_length n j r (get_or q j unknown) (omega arith) in
          record {
            total = added.value;
            steps = going.steps ++ (row.steps ++ added.steps);
            means = made.means;
            even = add_length n L going.total row.value (going.even ∙ sym long) ∙ going.even;
            after = after_then going.after (after_then more.after made.after);
            whole = rw (add-one j) split;
          }

-- the loop of the code, whatever rows x and y stand for
pub record MultiplyLoop (L : ℕ) (x y : Declared.Row) (cells : List ℕ) (b : Builder) (cells' : List ℕ) (s' : Scratch)
    (b' : Builder) (sum : Declared.Row) (j : ℕ) : Type 0 where
  pub going : (n : ℕ) (r q : Row.Row) → n ≤ 128 → RowMeans n cells b x r → RowMeans n cells b y q
      → Multiplying n L r q cells b cells' s' b' sum j

module _ {cells : List ℕ} {s : Scratch} {b : Builder} {L : ℕ} {x y : Declared.Row} (addable : Addable cells s b x y) where
  pub multiply_start : {sum : Declared.Row} → Holds sum x.width (replicate x.width 0)
      → MultiplyLoop L x y cells b cells s b sum 0
  multiply_start holds =
      record {
        going = λ n r q le is_x is_y.
            multiplying_start addable.ready (rw is_x.long (zeros_means x.width is_x.narrow holds));
      }

  module _ {cells' : List ℕ} {s' : Scratch} {b' : Builder} {sum : Declared.Row} {j : ℕ}
      (loop : MultiplyLoop L x y cells b cells' s' b' sum j) where
    pub multiply_done : x.width ≤ j → OnRows (λ n. Row.multiply n L) x y cells b cells' s' (Ok (record { at = b'; value = sum }))
    multiply_done end n r q le is_x is_y =
        multiplying_done (loop.going n r q le is_x is_y) (omega (arith, is_y.long, addable.even))

    some : Multiplying 128 L (row_of cells x) (row_of cells y) cells b cells' s' b' sum j
    some =
        loop.going 128 (row_of cells x) (row_of cells y) (omega arith) (row_some addable.ready addable.left)
        (row_some addable.ready addable.right)

    module _ (more : j < x.width) where
      pub multiply_ready : Ready cells' s' b'
      multiply_ready = some.after.ready

      pub multiply_known : RowKnown b' x × BitKnown b' (get_or y.bits j 0)
      multiply_known = (
        row_known (after_row some.after (row_some addable.ready addable.left)),
        after_bit_known some.after (get_or y.bits j 0) (addable.right.each j (omega (arith, addable.even))),
      )

      module _ (c₁ : List ℕ) (s₁ : Scratch) where
        -- the row lacks room
        pub multiply_lacks : (e : NoRoom) → OnBit j x (get_or y.bits j 0) cells' b' c₁ s₁ (Err e)
            → OnRows (λ n. Row.multiply n L) x y cells b c₁ s₁ (Err e)
        multiply_lacks e row n r q le is_x is_y =
            let going = loop.going n r q le is_x is_y in
            let bit = (after_row going.after is_y).bits j (omega (arith, addable.even)) in
            multiplying_lacks going (omega (arith, is_y.long, addable.even))
            (lacks_more _ (row n r (get_or q j unknown) le (after_row going.after is_x) bit))

        module _ (made : Made Declared.Row) (row : OnBit j x (get_or y.bits j 0) cells' b' c₁ s₁ (Ok made)) where
          made_row : {n : ℕ} {r q : Row.Row} → n ≤ 128 → RowMeans n cells b x r → RowMeans n cells b y q
              → Multiplying n L r q cells b cells' s' b' sum j
              → Does (RowMeans n) cells' b' (Row.partial n j r (get_or q j unknown)) c₁ s₁ made
          made_row {n} {r} {q} le is_x is_y going =
              let bit = (after_row going.after is_y).bits j (omega (arith, addable.even)) in
              row n r (get_or q j unknown) le (after_row going.after is_x) bit

          pub multiply_addable : Addable c₁ s₁ made.at sum made.value
          multiply_addable =
              let is_x = row_some addable.ready addable.left in
              let is_y = row_some addable.ready addable.right in
              let partial = made_row (omega arith) is_x is_y some in
              let bit = get_or (row_of cells y) j unknown in
              let long = partial_length 128 j (row_of cells x) bit (omega (arith, is_x.long)) in
              record {
                ready = partial.after.ready;
                left = row_known (after_row partial.after some.means);
                right = row_known partial.means;
                even = sym some.means.long ∙ some.even ∙ sym long ∙ partial.means.long;
              }

          module _ (c₂ : List ℕ) (s₂ : Scratch) where
            -- the sum lacks room
            pub multiply_add_lacks : (e : NoRoom) → OnRows (λ n. Row.add n L) sum made.value c₁ made.at c₂ s₂ (Err e)
                → OnRows (λ n. Row.multiply n L) x y cells b c₂ s₂ (Err e)
            multiply_add_lacks e adds n r q le is_x is_y =
                let going = loop.going n r q le is_x is_y in
                let partial = made_row le is_x is_y going in
                multiplying_lacks going (omega (arith, is_y.long, addable.even))
                (lacks_then partial.after (adds n going.total _ le (after_row partial.after going.means) partial.means))

            pub multiply_next : (total : Made Declared.Row)
                → OnRows (λ n. Row.add n L) sum made.value c₁ made.at c₂ s₂ (Ok total)
                → MultiplyLoop L x y cells b c₂ s₂ total.at total.value (j + 1)
            multiply_next total adds =
                record {
                  going = λ n r q le is_x is_y.
                      let going = loop.going n r q le is_x is_y in
                      let partial = made_row le is_x is_y going in
                      multiplying_next going (omega (arith, is_y.long, addable.even)) (omega (arith, is_x.long)) partial
                      (adds n going.total _ le (after_row partial.after going.means) partial.means);
                }
