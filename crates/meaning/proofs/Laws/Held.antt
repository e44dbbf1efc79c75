-- What the run of a sheet enters. Every diagram of every entry's value has been entered, being a step's diagram, an
-- operand's or a leaf; and on a checked sheet every diagram that enters is reduced and ordered.
--
-- Main results: run_held, and run_enters that says both: one pass over the operations, by the law then_enters.
use Prim.Native.Nat.{ℕ, zero, suc, ◌+◌, ◌-◌, ◌≤◌}
use native.Mathlib.Omega.{arith}
use mathlib.Core.Path.{◌≡◌, refl, ap, subst, ◌∙◌}
use mathlib.Core.Bool.{Bool, true, false, cond, not, ◌&&◌, ◌||◌}
use mathlib.Core.List.{List, [], ◌∷◌, ◌++◌, map}
use lib.Dec.{ltb}
use lib.ListN.{length, take, drop, replicate}
use Rattle.meaning.specs.Number.{bits, digit, each}
use Rattle.meaning.specs.Kind.{Kind, Sort, Operand, Widths, Rule, rule}
use Rattle.meaning.specs.Sheet.{Entry, entry, operand, constant_of, amount, upper, lower}
use Rattle.meaning.specs.Level.{level, levels, bits_of, variable_bits}
use Rattle.meaning.specs.BitVector.{shift_by}
use Rattle.meaning.specs.Diagram.{Tree, leaf, node, same}
use Rattle.meaning.specs.Table.{Table, count}
use Rattle.meaning.specs.Step as Step
use Rattle.meaning.specs.Step.{Work, done, ◌>>=◌, step, quantify, Function, unused}
use Rattle.meaning.specs.Step.{is_not, is_and, is_or, is_xor, agree, choice}
use Rattle.meaning.specs.Row as Row
use Rattle.meaning.specs.Row.{Bit, known, unknown, Row, zeros, unknowns, top_bit, step_bit, each_bit, both_bits}
use Rattle.meaning.specs.Row.{not_bit, decided_by, undecided, pair_bit, and_bit, counted, next_carry, add_from}
use Rattle.meaning.specs.Row.{partial, multiply_from, same_bit, chosen, choose_bit}
use Rattle.meaning.specs.Formula as Formula
use Rattle.meaning.specs.Formula.{Pair, pair, must_may, equal_from, sure, read, signed_here, order_step, chain}
use Rattle.meaning.specs.Formula.{quantify_all}
use Rattle.meaning.specs.Run.{Value, row, truth, row_of, pair_of, value_at, row_at, pair_at}
use Rattle.meaning.specs.Run.{variable_bit, variable_from, variable, as_row, as_truth, work_of, run_from, run}
use Rattle.meaning.proofs.Laws.Shape.{Good}
use Rattle.meaning.proofs.Laws.Diagram.{step_good, quantify_good, literal_good}
use Rattle.meaning.proofs.Laws.Level.{level_lt}
use Rattle.meaning.proofs.Laws.Checked.{Sound, Checked, RowOf, is_variable, sound_row, checked_wide}
use Rattle.meaning.proofs.Laws.Table.{There, AllGood}
use Rattle.meaning.proofs.Laws.Uncut.{there_left, there_right}
use Rattle.meaning.proofs.Laws.Run.{longer, next_inside, next_is, next_rest}

-- t has a number in s
abbrev pub Held : Table → Tree → Type 0
Held s t = There s (t ∷ [])

abbrev pub HeldBit : Table → Bit → Type 0
HeldBit s (known t) = Held s t
HeldBit s unknown = Unit {0}

abbrev pub HeldRow : Table → Row → Type 0
HeldRow s [] = Unit {0}
HeldRow s (a ∷ r) = HeldBit s a × HeldRow s r

abbrev pub HeldPair : Table → Pair → Type 0
HeldPair s p = record { must : Held s p.must; may : Held s p.may }

abbrev pub HeldValue : Table → Value → Type 0
HeldValue s (row r) = HeldRow s r
HeldValue s (truth p) = HeldPair s p

abbrev pub AllHeld : Table → List Value → Type 0
AllHeld s vs = (i : ℕ) → HeldValue s (value_at vs i)

-- ---- constant, shift, concat, extract, extend: no step

module _ (s : Table) where
  pub leaf_held : (b : Bool) → Held s (leaf b)
  leaf_held b = record { number = digit b; first = refl; rest = tt }

  append_held : (a b : Row) → HeldRow s a → HeldRow s b → HeldRow s (a ++ b)
  append_held [] b held_a held_b = held_b
  append_held (x ∷ a) b held_a held_b = (held_a.0, append_held a b held_a.1 held_b)

  take_held : (k : ℕ) (a : Row) → HeldRow s a → HeldRow s (take k a)
  take_held zero a held = tt
  take_held (suc k) [] held = tt
  take_held (suc k) (x ∷ a) held = (held.0, take_held k a held.1)

  drop_held : (k : ℕ) (a : Row) → HeldRow s a → HeldRow s (drop k a)
  drop_held zero a held = held
  drop_held (suc k) [] held = tt
  drop_held (suc k) (x ∷ a) held = drop_held k a held.1

  replicate_held : (k : ℕ) (x : Bit) → HeldBit s x → HeldRow s (replicate k x)
  replicate_held zero x held = tt
  replicate_held (suc k) x held = (held, replicate_held k x held)

  zeros_held : (k : ℕ) → HeldRow s (zeros k)
  zeros_held k = replicate_held k (known (leaf false)) (leaf_held false)

  unknowns_held : (k : ℕ) → HeldRow s (unknowns k)
  unknowns_held k = replicate_held k unknown tt

  bits_held : (bs : List Bool) → HeldRow s (map (λ b. known (leaf b)) bs)
  bits_held [] = tt
  bits_held (b ∷ bs) = (leaf_held b, bits_held bs)

  top_bit_held : (x : Bit) (a : Row) → HeldBit s x → HeldRow s a → HeldBit s (top_bit x a)
  top_bit_held x [] held_x held_a = held_x
  top_bit_held x (y ∷ a) held_x held_a = top_bit_held y a held_a.0 held_a.1

  shift_left_held : (k : ℕ) (a : Row) → HeldRow s a → HeldRow s (Row.shift_left k a)
  shift_left_held k a held =
      append_held (zeros k) (take (length a - k) a) (zeros_held k) (take_held (length a - k) a held)

  shift_right_held : (k : ℕ) (a : Row) → HeldRow s a → HeldRow s (Row.shift_right k a)
  shift_right_held k a held = append_held (drop k a) (zeros k) (drop_held k a held) (zeros_held k)

  extract_held : (u l : ℕ) (a : Row) → HeldRow s a → HeldRow s (Row.extract u l a)
  extract_held u l a held = take_held (u - l + 1) (drop l a) (drop_held l a held)

  zero_extend_held : (w : ℕ) (a : Row) → HeldRow s a → HeldRow s (Row.zero_extend w a)
  zero_extend_held w a held = append_held a (zeros (w - length a)) held (zeros_held (w - length a))

  sign_extend_held : (w : ℕ) (a : Row) → HeldRow s a → HeldRow s (Row.sign_extend w a)
  sign_extend_held w a held =
      let top = top_bit unknown a in
      let more = w - length a in
      append_held a (replicate more top) held (replicate_held more top (top_bit_held unknown a tt held))

  -- what a known bit and an unknown one give is held
  abbrev Marks : (Tree → Bit) → Type 0
  Marks mark = (t : Tree) → Held s t → HeldBit s (mark t)

  decided_by_held : (b : Bool) → Marks (decided_by b)
  decided_by_held b t held = go (same t (leaf b))
    where
      go : (c : Bool) → HeldBit s (cond c (known t) unknown)
      go true = held
      go false = tt

  -- ---- values

  leaf_pair_held : (b : Bool) → HeldPair s (pair (leaf b) (leaf b))
  leaf_pair_held b = record { must = leaf_held b; may = leaf_held b }

  row_of_held : (v : Value) → HeldValue s v → HeldRow s (row_of v)
  row_of_held (row r) held = held
  row_of_held (truth p) held = tt

  pair_of_held : (v : Value) → HeldValue s v → HeldPair s (pair_of v)
  pair_of_held (row r) held = leaf_pair_held false
  pair_of_held (truth p) held = held

  on_held : (vs : List Value) (v : Value) → AllHeld s vs → HeldValue s v → AllHeld s (vs ++ (v ∷ []))
  on_held [] v old new zero = new
  on_held [] v old new (suc i) = tt
  on_held (u ∷ vs) v old new zero = old 0
  on_held (u ∷ vs) v old new (suc i) = on_held vs v (λ j. old (suc j)) new i

-- ---- work

-- where s holds all that the work enters: P holds of its value, and on a checked sheet what it enters is well formed
pub record Enters (es : List Entry) (s : Table) {A : Type 0} (P : A → Type 0) (m : Work A) : Type 0 where
  pub held : There s m.steps → P m.value
  pub good : There s m.steps → Checked es → AllGood (levels es) m.steps

-- a row whose kind is `variable` is the table's first
variable_row : (number : ℕ) (sort : Sort) (body : ℕ) (os : List Operand) (ws : Widths) →
    RowOf (rule number Kind.variable sort body os ws) → (w : ℕ) → bits_of sort w ≡ w
variable_row _ _ _ _ _ is_variable w = refl

append_good : (n : ℕ) (ts us : List Tree) → AllGood n ts → AllGood n us → AllGood n (ts ++ us)
append_good n [] us good_t good_u = good_u
append_good n (t ∷ ts) us good_t good_u =
    record { first = good_t.first; rest = append_good n ts us good_t.rest good_u }

module _ (es : List Entry) (s : Table) where
  abbrev n : ℕ
  n = levels es

  done_enters : {A : Type 0} {P : A → Type 0} (a : A) → P a → Enters es s P (done a)
  done_enters a holds = record { held = λ none. holds; good = λ none checked. tt }

  -- one piece of work after another
  then_enters : {A B : Type 0} {P : A → Type 0} {Q : B → Type 0} {m : Work A} {f : A → Work B} → Enters es s P m →
      ((a : A) → P a → Enters es s Q (f a)) → Enters es s Q (◌>>=◌ m f)
  then_enters {B} {Q} {m} {f} first later = record {
    held = λ there. (next there).held (right there);
    good = λ there checked.
        append_good n m.steps others (first.good (left there) checked) ((next there).good (right there) checked);
  }
    where
      others : List Tree
      others = (f m.value).steps

      left : There s (m.steps ++ others) → There s m.steps
      left there = there_left s m.steps others there

      right : There s (m.steps ++ others) → There s others
      right there = there_right s m.steps others there

      next : There s (m.steps ++ others) → Enters es s Q (f m.value)
      next there = later m.value (first.held (left there))

  unknowns_enters : (k : ℕ) → Enters es s (HeldRow s) (done (unknowns k))
  unknowns_enters k = done_enters (unknowns k) (unknowns_held s k)

  either_enters : {A : Type 0} {P : A → Type 0} {m q : Work A} (c : Bool) → Enters es s P m → Enters es s P q →
      Enters es s P (cond c m q)
  either_enters true first second = first
  either_enters false first second = second

  take_enters : (t : Tree) → (Checked es → Good n t) → Enters es s (Held s) (Step.take t)
  take_enters t fine = record { held = λ there. there; good = λ there checked. record { first = fine checked; rest = tt } }

  step_enters : (f : Function) (a b c : Tree) → Enters es s (Held s) (step n f a b c)
  unfolding step
  step_enters f a b c = take_enters (Step.step_tree n f a b c) (λ checked. step_good n f a b c)

  step_bit_enters : (f : Function) (a b c : Tree) → Enters es s (HeldBit s) (step_bit n f a b c)
  step_bit_enters f a b c = then_enters (step_enters f a b c) λ t held. done_enters (known t) held

  each_bit_enters : (f : Bit → Work Bit) → ((a : Bit) → HeldBit s a → Enters es s (HeldBit s) (f a)) →
      (a : Row) → HeldRow s a → Enters es s (HeldRow s) (each_bit f a)
  each_bit_enters f each [] held = done_enters [] tt
  each_bit_enters f each (a ∷ ar) held =
      then_enters (each a held.0) λ b held_b. then_enters (each_bit_enters f each ar held.1) λ br held_r.
      done_enters (b ∷ br) (held_b, held_r)

  both_bits_enters : (f : Bit → Bit → Work Bit) →
      ((a b : Bit) → HeldBit s a → HeldBit s b → Enters es s (HeldBit s) (f a b)) →
      (a b : Row) → HeldRow s a → HeldRow s b → Enters es s (HeldRow s) (both_bits f a b)
  both_bits_enters f each [] br held_a held_b = done_enters [] tt
  both_bits_enters f each (a ∷ ar) [] held_a held_b = done_enters [] tt
  both_bits_enters f each (a ∷ ar) (b ∷ br) held_a held_b =
      then_enters (each a b held_a.0 held_b.0) λ c held_c.
      then_enters (both_bits_enters f each ar br held_a.1 held_b.1) λ cr held_r. done_enters (c ∷ cr) (held_c, held_r)

  -- ---- bitwise not, and, or, xor

  not_bit_enters : (a : Bit) → HeldBit s a → Enters es s (HeldBit s) (not_bit n a)
  not_bit_enters (known a) held = step_bit_enters is_not a unused unused
  not_bit_enters unknown held = done_enters unknown tt

  bit_not_enters : (a : Row) → HeldRow s a → Enters es s (HeldRow s) (Row.bit_not n a)
  unfolding Row.bit_not
  bit_not_enters = each_bit_enters (not_bit n) not_bit_enters

  pair_bit_enters : (f : Function) (mark : Tree → Bit) → Marks s mark → (a b : Bit) → HeldBit s a → HeldBit s b →
      Enters es s (HeldBit s) (pair_bit n f mark a b)
  pair_bit_enters f mark marks (known a) (known b) held_a held_b = step_bit_enters f a b unused
  pair_bit_enters f mark marks (known a) unknown held_a held_b = done_enters (mark a) (marks a held_a)
  pair_bit_enters f mark marks unknown (known b) held_a held_b = done_enters (mark b) (marks b held_b)
  pair_bit_enters f mark marks unknown unknown held_a held_b = done_enters unknown tt

  and_bit_enters : (a b : Bit) → HeldBit s a → HeldBit s b → Enters es s (HeldBit s) (and_bit n a b)
  and_bit_enters = pair_bit_enters is_and (decided_by false) (decided_by_held s false)

  bit_and_enters : (a b : Row) → HeldRow s a → HeldRow s b → Enters es s (HeldRow s) (Row.bit_and n a b)
  unfolding Row.bit_and
  bit_and_enters = both_bits_enters (and_bit n) and_bit_enters

  bit_or_enters : (a b : Row) → HeldRow s a → HeldRow s b → Enters es s (HeldRow s) (Row.bit_or n a b)
  unfolding Row.bit_or
  bit_or_enters =
      both_bits_enters (pair_bit n is_or (decided_by true)) (pair_bit_enters is_or (decided_by true) (decided_by_held s true))

  bit_xor_enters : (a b : Row) → HeldRow s a → HeldRow s b → Enters es s (HeldRow s) (Row.bit_xor n a b)
  unfolding Row.bit_xor
  bit_xor_enters = both_bits_enters (pair_bit n is_xor undecided) (pair_bit_enters is_xor undecided (λ t held. tt))

  -- ---- add, negate, multiply

  next_carry_enters : (x a b carry : Tree) (above : Row) → Held s carry →
      Enters es s (Held s) (next_carry n x a b carry above)
  next_carry_enters x a b carry [] held = done_enters carry held
  next_carry_enters x a b carry (a' ∷ ar) held =
      then_enters (step_enters is_and a b unused) λ g held_g. then_enters (step_enters is_and x carry unused) λ p held_p.
      step_enters is_or g p unused

  add_from_enters : (L : ℕ) (carry : Tree) (sums : List Tree) (a b : Row) → Held s carry →
      Enters es s (HeldRow s) (add_from n L carry sums a b)
  add_from_enters L carry sums [] br held = done_enters [] tt
  add_from_enters L carry sums (a ∷ ar) [] held = done_enters [] tt
  add_from_enters L carry sums (known a ∷ ar) (known b ∷ br) held =
      then_enters (step_enters is_xor a b unused) λ x held_x. then_enters (step_enters is_xor x carry unused) λ t held_t.
      either_enters (ltb L (count (counted (sums ++ (t ∷ [])) carry))) (unknowns_enters (suc (length ar)))
      (then_enters (next_carry_enters x a b carry ar held) λ c held_c.
      then_enters (add_from_enters L c (sums ++ (t ∷ [])) ar br held_c) λ r held_r. done_enters (known t ∷ r) (held_t, held_r))
  add_from_enters L carry sums (known a ∷ ar) (unknown ∷ br) held = unknowns_enters (suc (length ar))
  add_from_enters L carry sums (unknown ∷ ar) (b ∷ br) held = unknowns_enters (suc (length ar))

  add_enters : (L : ℕ) (a b : Row) → Enters es s (HeldRow s) (Row.add n L a b)
  unfolding Row.add
  add_enters L a b = add_from_enters L (leaf false) [] a b (leaf_held s false)

  negate_enters : (L : ℕ) (a : Row) → HeldRow s a → Enters es s (HeldRow s) (Row.negate n L a)
  unfolding Row.negate
  negate_enters L a held = then_enters (bit_not_enters a held) λ b held_b. add_enters L b (Row.constant (length a) 1)

  partial_enters : (j : ℕ) (a : Row) (b : Bit) → HeldRow s a → HeldBit s b → Enters es s (HeldRow s) (partial n j a b)
  partial_enters j a b held_a held_b =
      let moved = take (length a - j) a in
      let low : HeldRow s moved = take_held s (length a - j) a held_a in
      then_enters (each_bit_enters (λ x. and_bit n x b) (λ x held_x. and_bit_enters x b held_x held_b) moved low) λ r held_r.
      done_enters (zeros j ++ r) (append_held s (zeros j) r (zeros_held s j) held_r)

  multiply_from_enters : (L : ℕ) (a : Row) (j : ℕ) (sum b : Row) → HeldRow s a → HeldRow s sum → HeldRow s b →
      Enters es s (HeldRow s) (multiply_from n L a j sum b)
  multiply_from_enters L a j sum [] held_a held_sum held_b = done_enters sum held_sum
  multiply_from_enters L a j sum (b ∷ br) held_a held_sum held_b =
      then_enters (partial_enters j a b held_a held_b.0) λ r held_r. then_enters (add_enters L sum r) λ more held_more.
      multiply_from_enters L a (suc j) more br held_a held_more held_b.1

  multiply_enters : (L : ℕ) (a b : Row) → HeldRow s a → HeldRow s b → Enters es s (HeldRow s) (Row.multiply n L a b)
  unfolding Row.multiply
  multiply_enters L a b held_a held_b =
      multiply_from_enters L a 0 (zeros (length a)) b held_a (zeros_held s (length a)) held_b

  -- ---- if-then-else

  chosen_enters : (t : Tree) (a b : Bit) → HeldBit s a → HeldBit s b → Enters es s (HeldBit s) (chosen n t a b)
  chosen_enters (leaf true) a b held_a held_b = done_enters a held_a
  chosen_enters (leaf false) a b held_a held_b = done_enters b held_b
  chosen_enters (node i d e) (known a) (known b) held_a held_b = step_bit_enters choice (node i d e) a b
  chosen_enters (node i d e) (known a) unknown held_a held_b = done_enters unknown tt
  chosen_enters (node i d e) unknown b held_a held_b = done_enters unknown tt

  choose_bit_enters : (must may : Tree) (a b : Bit) → HeldBit s a → HeldBit s b →
      Enters es s (HeldBit s) (choose_bit n must may a b)
  choose_bit_enters must may a b held_a held_b =
      either_enters (same_bit a b) (done_enters a held_a)
      (either_enters (same must may) (chosen_enters must a b held_a held_b) (done_enters unknown tt))

  choose_enters : (must may : Tree) (a b : Row) → HeldRow s a → HeldRow s b →
      Enters es s (HeldRow s) (Row.choose n must may a b)
  unfolding Row.choose
  choose_enters must may = both_bits_enters (choose_bit n must may) (choose_bit_enters must may)

  -- ---- formulas

  must_may_enters : {m q : Work Tree} → Enters es s (Held s) m → Enters es s (Held s) q →
      Enters es s (HeldPair s) (must_may m q)
  must_may_enters first second =
      then_enters first λ must held_must. then_enters second λ may held_may.
      done_enters (pair must may) (record { must = held_must; may = held_may })

  equal_from_enters : (t : Tree) (a b : Row) → Held s t → Enters es s (Held s) (equal_from n t a b)
  equal_from_enters t [] br held = done_enters t held
  equal_from_enters t (a ∷ ar) [] held = done_enters t held
  equal_from_enters t (known a ∷ ar) (known b ∷ br) held =
      then_enters (step_enters agree a b unused) λ e held_e. then_enters (step_enters is_and t e unused) λ u held_u.
      equal_from_enters u ar br held_u
  equal_from_enters t (known a ∷ ar) (unknown ∷ br) held = equal_from_enters t ar br held
  equal_from_enters t (unknown ∷ ar) (b ∷ br) held = equal_from_enters t ar br held

  equal_enters : (a b : Row) → Enters es s (HeldPair s) (Formula.equal n a b)
  unfolding Formula.equal
  equal_enters a b =
      then_enters (equal_from_enters (leaf true) a b (leaf_held s true)) λ r held.
      done_enters (pair (cond (sure a && sure b) r (leaf false)) r)
      (record { must = go (sure a && sure b) r held; may = held })
    where
      go : (c : Bool) (r : Tree) → Held s r → Held s (cond c r (leaf false))
      go true r held = held
      go false r held = leaf_held s false

  chain_enters : (signed z : Bool) (t : Tree) (a b : Row) → Held s t → Enters es s (Held s) (chain n signed z t a b)
  chain_enters signed z t [] br held = done_enters t held
  chain_enters signed z t (a ∷ ar) [] held = done_enters t held
  chain_enters signed z t (a ∷ ar) (b ∷ br) held =
      let here = signed_here signed ar in
      let za = cond here (not z) z in
      then_enters (step_enters (order_step here) (read za a) (read (not za) b) t) λ u held_u.
      chain_enters signed z u ar br held_u

  at_most_enters : (signed : Bool) (a b : Row) → Enters es s (HeldPair s) (Formula.at_most n signed a b)
  unfolding Formula.at_most
  at_most_enters signed a b =
      let side : (z : Bool) → Enters es s (Held s) (chain n signed z (leaf true) a b) =
      λ z. chain_enters signed z (leaf true) a b (leaf_held s true) in
      must_may_enters (side true) (side false)

  negation_enters : (p : Pair) → Enters es s (HeldPair s) (Formula.negation n p)
  unfolding Formula.negation
  negation_enters p = must_may_enters (step_enters is_not p.may unused unused) (step_enters is_not p.must unused unused)

  both_enters : (f : Function) (p q : Pair) → Enters es s (HeldPair s) (Formula.both n f p q)
  unfolding Formula.both
  both_enters f p q = must_may_enters (step_enters f p.must q.must unused) (step_enters f p.may q.may unused)

  quantify_all_enters : (f : Bool → Bool → Bool) (ls : List ℕ) (t : Tree) → Held s t →
      Enters es s (Held s) (quantify_all n f ls t)
  unfolding quantify
  quantify_all_enters f [] t held = done_enters t held
  quantify_all_enters f (l ∷ ls) t held =
      then_enters (take_enters (Step.quantify_tree n f l t) (λ checked. quantify_good n f l t)) λ u held_u.
      quantify_all_enters f ls u held_u

  quantified_enters : (f : Bool → Bool → Bool) (ls : List ℕ) (p : Pair) → HeldPair s p →
      Enters es s (HeldPair s) (Formula.quantified n f ls p)
  unfolding Formula.quantified
  quantified_enters f ls p held =
      must_may_enters (quantify_all_enters f ls p.must held.must) (quantify_all_enters f ls p.may held.may)

  -- ---- variables

  -- bits b, b + 1, ... k of them
  variable_from_enters : (i b k : ℕ) → (Checked es → b + k ≤ variable_bits (entry es i)) →
      Enters es s (HeldRow s) (variable_from (each (variable_bit es i) b k))
  variable_from_enters i b zero inside = done_enters [] tt
  variable_from_enters i b (suc k) inside =
      then_enters (take_enters (variable_bit es i b) fine) λ a held_a.
      then_enters (variable_from_enters i (suc b) k (λ checked. let at = inside checked in omega arith)) λ r held_r.
      done_enters (known a ∷ r) (held_a, held_r)
    where
      fine : Checked es → Good n (variable_bit es i b)
      fine checked =
          let at = inside checked in
          let narrow = checked_wide checked i in
          literal_good n (level es i b) (level_lt es i b (omega arith) (omega arith))

  variable_enters : (i w : ℕ) → (Checked es → variable_bits (entry es i) ≡ w) → Enters es s (HeldRow s) (variable es i w)
  unfolding variable
  variable_enters i w is = variable_from_enters i 0 w (λ checked. let wide = is checked in omega arith)

  -- ---- one entry

  as_row_enters : {m : Work Row} → Enters es s (HeldRow s) m → Enters es s (HeldValue s) (as_row m)
  as_row_enters work = then_enters work λ r held. done_enters (row r) held

  as_truth_enters : {m : Work Pair} → Enters es s (HeldPair s) m → Enters es s (HeldValue s) (as_truth m)
  as_truth_enters work = then_enters work λ p held. done_enters (truth p) held

  module _ (L : ℕ) (vs : List Value) (held : AllHeld s vs) (e : Entry) where
    row_at_lem : (k : ℕ) → HeldRow s (row_at vs e k)
    row_at_lem k = row_of_held s (value_at vs (operand e k)) (held (operand e k))

    pair_at_lem : (k : ℕ) → HeldPair s (pair_at vs e k)
    pair_at_lem k = pair_of_held s (value_at vs (operand e k)) (held (operand e k))

    work_enters : entry es (length vs) ≡ e → (Checked es → RowOf e.rule) →
        Enters es s (HeldValue s) (work_of e.rule.kind es n L vs e)
    unfolding work_of
    work_enters is listed = go e.rule.kind listed
      where
        -- the entry's rule, if its kind is this
        of : Kind → Rule
        of kind = rule e.rule.number kind e.rule.sort e.rule.body e.rule.operands e.rule.widths

        go : (kind : Kind) → (Checked es → RowOf (of kind)) → Enters es s (HeldValue s) (work_of kind es n L vs e)
        go Kind.variable listed =
            as_row_enters (variable_enters (length vs) e.width
            (λ checked. ap variable_bits is ∙ variable_row _ _ _ _ _ (listed checked) e.width))
        go Kind.constant listed = done_enters _ (bits_held s (bits e.width (constant_of e)))
        go Kind.bit_not listed = as_row_enters (bit_not_enters _ (row_at_lem 0))
        go Kind.negate listed = as_row_enters (negate_enters L _ (row_at_lem 0))
        go Kind.bit_and listed = as_row_enters (bit_and_enters _ _ (row_at_lem 0) (row_at_lem 1))
        go Kind.bit_or listed = as_row_enters (bit_or_enters _ _ (row_at_lem 0) (row_at_lem 1))
        go Kind.bit_xor listed = as_row_enters (bit_xor_enters _ _ (row_at_lem 0) (row_at_lem 1))
        go Kind.add listed = as_row_enters (add_enters L _ _)
        go Kind.multiply listed = as_row_enters (multiply_enters L _ _ (row_at_lem 0) (row_at_lem 1))
        go Kind.shift_left listed = done_enters _ (shift_left_held s (shift_by e.width (amount e)) (row_at vs e 0) (row_at_lem 0))
        go Kind.shift_right listed = done_enters _ (shift_right_held s (shift_by e.width (amount e)) (row_at vs e 0) (row_at_lem 0))
        go Kind.concat listed = done_enters _ (append_held s (row_at vs e 1) (row_at vs e 0) (row_at_lem 1) (row_at_lem 0))
        go Kind.extract listed = done_enters _ (extract_held s (upper e) (lower e) (row_at vs e 0) (row_at_lem 0))
        go Kind.zero_extend listed = done_enters _ (zero_extend_held s e.width (row_at vs e 0) (row_at_lem 0))
        go Kind.sign_extend listed = done_enters _ (sign_extend_held s e.width (row_at vs e 0) (row_at_lem 0))
        go Kind.choose listed = as_row_enters (choose_enters _ _ _ _ (row_at_lem 1) (row_at_lem 2))
        go Kind.true listed = done_enters _ (leaf_pair_held s true)
        go Kind.false listed = done_enters _ (leaf_pair_held s false)
        go Kind.equal listed = as_truth_enters (equal_enters _ _)
        go Kind.unsigned listed = as_truth_enters (at_most_enters false _ _)
        go Kind.signed listed = as_truth_enters (at_most_enters true _ _)
        go Kind.not listed = as_truth_enters (negation_enters _)
        go Kind.and listed = as_truth_enters (both_enters is_and _ _)
        go Kind.or listed = as_truth_enters (both_enters is_or _ _)
        go Kind.exists listed = as_truth_enters (quantified_enters ◌||◌ _ _ (pair_at_lem 1))
        go Kind.forall listed = as_truth_enters (quantified_enters ◌&&◌ _ _ (pair_at_lem 1))
        go Kind.absent listed = done_enters _ tt

  -- ---- all entries

  from_enters : (L : ℕ) (rest : List Entry) (vs : List Value) → drop (length vs) es ≡ rest → AllHeld s vs →
      Enters es s (AllHeld s) (run_from es n L vs rest)
  from_enters L [] vs is held = done_enters vs held
  from_enters L (e ∷ rest) vs is held =
      let k = length vs in
      let here = next_is es rest e k is in
      let listed : Checked es → RowOf e.rule =
      λ checked. sound_row es k e (subst (Sound es k) here (checked.sound k (next_inside es rest e k is))) in
      then_enters (work_enters L vs held e here listed) λ v new.
      let later = ap (λ (j : ℕ). drop j es) (longer vs v k refl) ∙ next_rest es rest e k is in
      from_enters L rest (vs ++ (v ∷ [])) later (on_held s vs v held new)

  pub run_enters : (L : ℕ) → Enters es s (AllHeld s) (run es L)
  unfolding run
  run_enters L = from_enters L es [] refl (λ i. tt)

-- where s holds all the run's diagrams
pub run_held : (es : List Entry) (L : ℕ) (s : Table) → There s (run es L).steps →
    (i : ℕ) → HeldValue s (value_at (run es L).value i)
run_held es L s = (run_enters es s L).held
