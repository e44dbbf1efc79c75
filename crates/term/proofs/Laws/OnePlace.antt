-- One place of a sum at a limit: the definition's sum is that place, then the rest, and a law for each path of the code.
--
--   add_place             the definition's sum from a place on
--   step_over, step_on    what the definition does at a place where both bits are known
--   place_left, ..        the paths of the code
use Prim.Native.Nat.{ℕ, suc, ◌+◌, ◌≤◌, ◌<◌}
use native.Mathlib.Omega.{arith}
use mathlib.Core.Path.{◌≡◌, refl, sym, subst, ◌∙◌}
use mathlib.Core.Logic.{◌≢◌}
use mathlib.Core.Bool.{Bool, true, false}
use mathlib.Core.List.{List, [], ◌∷◌, ◌++◌, append-nil}
use lib.Dec.{ltb, eqb}
use lib.ListN.{length, get_or, set, length-append, get_or-append}
use lib.Seq.{get_or-set_same, get_or-set_other, get_or_at}
use borrow.Author.Tests.{eqb-true, eqb-false}
use Rattle.std.specs.Prelude.{Option, Some, None, Ok, Err}
use Rattle.meaning.specs.Diagram.{Tree}
use Rattle.meaning.specs.Table.{count}
use Rattle.meaning.specs.Step.{Work, ◌>>=◌, step, unused, done}
use Rattle.meaning.specs.Row
use Rattle.meaning.specs.Row.{Bit, known, unknown, unknowns, counted, next_carry, add_from}
use Rattle.meaning.specs.Lent.{tree_of}
use Rattle.diagram.specs.State.{Ready, Known, After, Does, Lacks}
use Rattle.diagram.specs.declared.builder.Builder.{Builder}
use Rattle.diagram.specs.declared.builder.Made.{Made}
use Rattle.diagram.specs.declared.builder.NoRoom.{NoRoom}
use Rattle.diagram.specs.declared.scratch.Scratch.{Scratch}
use Rattle.diagram.proofs.Laws.After.{after_known, after_then, works_done, lacks_then, lacks_more}
use Rattle.term.specs.Row.{mark, BitKnown, BitMeans}
use Rattle.term.specs.Add.{SumBit, sum_step, Next, place_step, DiagramMeans, SummedMeans, Sums, Carries}
use Rattle.term.specs.Add.{NumbersMean, Tallies, Countable, Exceeds, Told, Summing, SumMeans, Places}
use Rattle.term.specs.declared.add.Sum.{Sum}
use Rattle.term.specs.declared.add.Summed.{Summed}
use Rattle.term.specs.declared.add.Tally.{Tally}
use Rattle.term.proofs.Laws.Rows.{is_used, not_mark, known_unmarked}
use Rattle.term.proofs.Laws.Sum.{known_means, means_known, means_after}
use Rattle.term.proofs.Laws.Count.{tallies_after, tallies_more, exceeds_over, exceeds_not}

-- ---- one place of the definition

-- the sum from the next place on
abbrev pub rest_of : ℕ → ℕ → List Tree → Row.Row → Row.Row → Option Next → Work Row.Row
rest_of n L sums ar br None = done (unknowns (suc (length ar)))
rest_of n L sums ar br (Some x) = do
  sr ← add_from n L x.carry (sums ++ (x.sum ∷ [])) ar br
  done (known x.sum ∷ sr)

-- unknown bits cut it
place_unknown : (n L : ℕ) (c : Tree) (sums : List Tree) (p : Bit) (ar : Row.Row)
    → place_step n L c sums p unknown ar ≡ done None
place_unknown n L c sums (known a) ar = refl
place_unknown n L c sums unknown ar = refl

module _ (n L : ℕ) (c : Tree) (sums : List Tree) (a b : Tree) (ar : Row.Row) where
  abbrev made : SumBit
  made = (sum_step n a b c).value

  abbrev carried : Work Tree
  carried = next_carry n made.half a b c ar

  abbrev over : Bool
  over = ltb L (count (counted (sums ++ (made.sum ∷ [])) c))

  -- too many nodes
  step_over : over ≡ true
      → place_step n L c sums (known a) (known b) ar ≡ record { value = None; steps = (sum_step n a b c).steps }
  unfolding step
  step_over e = rw e refl

  -- not too many
  step_on : over ≡ false → place_step n L c sums (known a) (known b) ar
      ≡ record {
        value = Some (record { sum = made.sum; carry = carried.value });
        steps = (sum_step n a b c).steps ++ carried.steps;
      }
  unfolding step
  step_on e = rw (e, append-nil carried.steps) refl

  step_lacks : over ≡ false → {cells cells' : List ℕ} {b' : Builder}
      → Lacks cells b' ((sum_step n a b c).steps ++ carried.steps) cells'
      → Lacks cells b' (place_step n L c sums (known a) (known b) ar).steps cells'
  step_lacks e {cells} {cells'} {b'} lacks =
      subst (λ (m : Work (Option Next)). Lacks cells b' m.steps cells') (sym (step_on e)) lacks

-- a place, then the rest
pub add_place : (n L : ℕ) (c : Tree) (sums : List Tree) (p q : Bit) (ar br : Row.Row)
    → add_from n L c sums (p ∷ ar) (q ∷ br) ≡ ◌>>=◌ (place_step n L c sums p q ar) (rest_of n L sums ar br)
unfolding step
add_place n L c sums unknown q ar br = refl
add_place n L c sums (known a) unknown ar br = refl
add_place n L c sums (known a) (known b) ar br = go (over n L c sums a b ar) refl
  where
    go : (e : Bool) → over n L c sums a b ar ≡ e → add_from n L c sums (known a ∷ ar) (known b ∷ br)
        ≡ ◌>>=◌ (place_step n L c sums (known a) (known b) ar) (rest_of n L sums ar br)
    go true e = rw e refl
    go false e = rw (e, append-nil (carried n L c sums a b ar).steps) refl

-- ---- one place of the code

-- a known bit, and its diagram
record StandsFor (n : ℕ) (cells : List ℕ) (b : Builder) (a : ℕ) (p : Bit) : Type 0 where
  tree : Tree
  is : p ≡ known tree
  means : DiagramMeans n cells b a tree

-- the mark stands for the unknown bit, any other number for a known one
module _ (n : ℕ) {cells : List ℕ} {s : Scratch} {b : Builder} (ready : Ready cells s b) (a : ℕ) where
  is_unknown : (p : Bit) → BitMeans n cells b a p → a ≡ mark → p ≡ unknown
  is_unknown (known t) is e = absurd (not_mark ready a (is_used cells b a t is.0) e)
  is_unknown unknown is e = refl

  is_known : (p : Bit) → BitMeans n cells b a p → a ≢ mark → StandsFor n cells b a p
  is_known (known t) is other = record { tree = t; is = refl; means = record { is = is.0; good = is.1 } }
  is_known unknown is other = absurd (other is)

-- one number more for one sum bit more
numbers_more : {n : ℕ} {cells : List ℕ} {b : Builder} {bits : List ℕ} {sums : List Tree} (i : ℕ) {a : ℕ} {t : Tree}
    → length sums ≡ i → i < length bits → NumbersMean n cells b bits sums → DiagramMeans n cells b a t
    → NumbersMean n cells b (set bits i a) (sums ++ (t ∷ []))
numbers_more {n} {cells} {b} {bits} {sums} i {a} {t} long inside numbers is =
    record { each = λ k below. go k below (eqb k i) refl }
  where
    go : (k : ℕ) → k < length (sums ++ (t ∷ [])) → (e : Bool) → eqb k i ≡ e
        → DiagramMeans n cells b (get_or (set bits i a) k 0) (get_or (sums ++ (t ∷ [])) k unused)
    go k below true e =
        let here = eqb-true k i e in
        rw (here, get_or-set_same bits i a 0 inside, get_or_at sums t [] unused i long) is
    go k below false e =
        let other = eqb-false k i e in
        let before : k < length sums = omega (arith, length-append sums (t ∷ [])) in
        rw (get_or-set_other bits i k a 0 other, get_or-append sums (t ∷ []) unused k before) (numbers.each k before)

pub numbers_after : {n : ℕ} {cells cells' : List ℕ} {s' : Scratch} {b b' : Builder} {xs : List Tree} {bits : List ℕ}
    {sums : List Tree}
    → After cells b xs cells' s' b' → NumbersMean n cells b bits sums → NumbersMean n cells' b' bits sums
numbers_after after numbers = record { each = λ k below. means_after after (numbers.each k below) }

-- the numbers and the sum bits with one more
abbrev bits_with : Sum → Made Summed → List ℕ
bits_with sum made = set sum.bits sum.count made.value.sum

abbrev sums_with : ℕ → List Tree → Tree → Tree → Tree → List Tree
sums_with n sums p q c = sums ++ ((sum_step n p q c).value.sum ∷ [])

-- the code's sum with one bit more
abbrev sum_with : Sum → Made Summed → Made ℕ → Tally → Sum
sum_with sum made next tally =
    record { bits = bits_with sum made; count = sum.count + 1; carry = next.value; tally = tally }

-- both operand bits are known, and their sum bit was made
module _ {n : ℕ} (p q c : Tree) (sum : Sum) {cells c₁ : List ℕ} {s₁ : Scratch} {b : Builder} {made : Made Summed}
    (does : Does (SummedMeans n) cells b (sum_step n p q c) c₁ s₁ made) (inside : sum.count < length sum.bits) where
  module _ {sums : List Tree} (means : SumMeans n cells b sum c sums) where
    next_long : length (sums_with n sums p q c) ≡ sum.count + 1
    next_long =
        let long = length-append sums ((sum_step n p q c).value.sum ∷ []) in
        omega (arith, means.long)

    -- its number among those before
    more : NumbersMean n c₁ made.at (bits_with sum made) (sums_with n sums p q c)
    more = numbers_more sum.count means.long inside (numbers_after does.after means.numbers) does.means.sum

    -- the test is the definition's
    test_is : (L : ℕ) (ar : Row.Row) {r : Bool} → Exceeds c₁ made.at L (bits_with sum made) (sum.count + 1) r
        → over n L c sums p q ar ≡ r
    test_is L ar exceeds = sym (exceeds.counts n c (sums_with n sums p q c) next_long more)

    -- the sum with this bit
    next_made : {c₂ : List ℕ} {s₂ : Scratch} {m : Work Tree} {carry : Made ℕ} (tally : Tally)
        → Does (DiagramMeans n) c₁ made.at m c₂ s₂ carry
        → SumMeans n c₂ carry.at
        (record { bits = bits_with sum made; count = sum.count + 1; carry = carry.value; tally = tally }) m.value
        (sums_with n sums p q c)
    next_made tally carry =
        record {
          long = next_long;
          carry = carry.means;
          numbers = numbers_after carry.after more;
          above = λ k from below.
              get_or-set_other sum.bits sum.count k made.value.sum 0 (λ e. omega arith)
              ∙ means.above k (omega arith) below;
        }

  -- the first numbers, this one included
  number_known : ((i : ℕ) → i < sum.count → Known b (get_or sum.bits i 0))
      → (i : ℕ) → i < sum.count + 1 → Known made.at (get_or (bits_with sum made) i 0)
  number_known each i below = go (eqb i sum.count) refl
    where
      go : (e : Bool) → eqb i sum.count ≡ e → Known made.at (get_or (bits_with sum made) i 0)
      go true e =
          let here = eqb-true i sum.count e in
          rw (here, get_or-set_same sum.bits sum.count made.value.sum 0 inside) (means_known does.means.sum)
      go false e =
          let other = eqb-false i sum.count e in
          rw (get_or-set_other sum.bits sum.count i made.value.sum 0 other) (after_known does.after (each i (omega arith)))

-- ---- the paths of the code

-- an operand bit is unknown
module _ (L : ℕ) {cells marks : List ℕ} {s : Scratch} {b : Builder} {sum : Sum} (summing : Summing cells s marks b L sum)
    (x y : ℕ) (top : Bool) where
  pub place_left : x ≡ mark → Places L cells b sum x y top cells s (Ok (record { at = b; value = None }))
  place_left e n c sums p q ar le is_top means is_x is_y =
      rw (is_unknown n summing.ready x p is_x e) (works_done summing.ready tt)

  pub place_right : y ≡ mark → Places L cells b sum x y top cells s (Ok (record { at = b; value = None }))
  place_right e n c sums p q ar le is_top means is_x is_y =
      rw (is_unknown n summing.ready y q is_y e, place_unknown n L c sums p ar) (works_done summing.ready tt)

  -- both are known
  module _ (not_x : x ≢ mark) (not_y : y ≢ mark) (c₁ : List ℕ) (s₁ : Scratch) where
    pub place_lacks : (e : NoRoom) → Sums cells b x y sum.carry c₁ s₁ (Err e) → Places L cells b sum x y top c₁ s₁ (Err e)
    place_lacks e lacks n c sums p q ar le is_top means is_x is_y =
        let u = is_known n summing.ready x p is_x not_x in
        let v = is_known n summing.ready y q is_y not_y in
        rw (u.is, v.is) (lacks_more _ (lacks n u.tree v.tree c le u.means v.means means.carry))

    module _ (made : Made Summed) (does : Sums cells b x y sum.carry c₁ s₁ (Ok made)) (long : length sum.bits ≡ 32) where
      inside : sum.count < length sum.bits
      inside = omega (arith, summing.narrow)

      module _ {marks₁ : List ℕ} {tally : Tally} (told : Told c₁ marks₁ made.at L (bits_with sum made) (sum.count + 1) tally) where
        -- too many nodes
        pub place_over : L < tally.nodes → Places L cells b sum x y top c₁ s₁ (Ok (record { at = made.at; value = None }))
        place_over many n c sums p q ar le is_top means is_x is_y =
            let u = is_known n summing.ready x p is_x not_x in
            let v = is_known n summing.ready y q is_y not_y in
            let d = does n u.tree v.tree c le u.means v.means means.carry in
            let test = test_is u.tree v.tree c sum d inside means L ar (exceeds_over told many) in
            rw (u.is, v.is, step_over n L c sums u.tree v.tree ar test) (record { after = d.after; means = tt })

        module _ (fits : tally.nodes ≤ L) (c₂ : List ℕ) (s₂ : Scratch) where
          pub carry_lacks : (e : NoRoom) → Carries c₁ made.at made.value.half x y sum.carry top c₂ s₂ (Err e)
              → Places L cells b sum x y top c₂ s₂ (Err e)
          carry_lacks e lacks n c sums p q ar le is_top means is_x is_y =
              let u = is_known n summing.ready x p is_x not_x in
              let v = is_known n summing.ready y q is_y not_y in
              let d = does n u.tree v.tree c le u.means v.means means.carry in
              let test = test_is u.tree v.tree c sum d inside means L ar (exceeds_not told fits) in
              let later =
              lacks n _ u.tree v.tree c ar le is_top d.means.half (means_after d.after u.means) (means_after d.after v.means)
              (means_after d.after means.carry) in
              rw (u.is, v.is) (step_lacks n L c sums u.tree v.tree ar test (lacks_then d.after later))

          -- the bit is kept
          pub place_on : (next : Made ℕ) → Carries c₁ made.at made.value.half x y sum.carry top c₂ s₂ (Ok next)
              → Places L cells b sum x y top c₂ s₂
              (Ok (record { at = next.at; value = Some (sum_with sum made next tally) }))
          place_on next carries n c sums p q ar le is_top means is_x is_y =
              let u = is_known n summing.ready x p is_x not_x in
              let v = is_known n summing.ready y q is_y not_y in
              let d = does n u.tree v.tree c le u.means v.means means.carry in
              let test = test_is u.tree v.tree c sum d inside means L ar (exceeds_not told fits) in
              let later =
              carries n _ u.tree v.tree c ar le is_top d.means.half (means_after d.after u.means) (means_after d.after v.means)
              (means_after d.after means.carry) in
              rw (u.is, v.is, step_on n L c sums u.tree v.tree ar test)
              (record {
                after = after_then d.after later.after;
                means = next_made u.tree v.tree c sum d inside means tally later;
              })

      -- ---- what the calls of a place need

      module _ (known : BitKnown b x × BitKnown b y) where
        -- some diagrams that the operand bits and the carry stand for
        some : Does (SummedMeans 128) cells b (sum_step 128 (tree_of cells x) (tree_of cells y) (tree_of cells sum.carry)) c₁ s₁
            made
        some =
            let means : (a : ℕ) → Known b a → DiagramMeans 128 cells b a (tree_of cells a) = known_means summing.ready in
            does 128 _ _ _ (omega arith) (means x (known_unmarked b x known.0 not_x))
            (means y (known_unmarked b y known.1 not_y)) (means sum.carry summing.carry)

        pub place_countable : Countable c₁ marks made.at L (bits_with sum made) (sum.count + 1) sum.tally
        place_countable =
            let ready = some.after.ready in
            record {
              laid = record { room = ready.room; small = ready.small; single = ready.single; falls = ready.falls };
              narrow = omega (arith, summing.narrow);
              each = number_known _ _ _ sum some inside summing.each;
              tallies =
                  tallies_more sum.count made.value.sum
                  (tallies_after some.after summing.ready summing.each summing.tallies);
            }

        pub place_ready : Ready c₁ s₁ made.at
        place_ready = some.after.ready

        pub place_known : Known made.at made.value.half × (Known made.at x × (Known made.at y × Known made.at sum.carry))
        place_known = (
          means_known some.means.half,
          (
            after_known some.after (known_unmarked b x known.0 not_x),
            (after_known some.after (known_unmarked b y known.1 not_y), after_known some.after summing.carry),
          ),
        )

        -- what is counted stays so while the next carry is made
        pub place_tallies : {marks₁ : List ℕ} {tally : Tally} (next : Made ℕ) (c₂ : List ℕ) (s₂ : Scratch)
            → Carries c₁ made.at made.value.half x y sum.carry top c₂ s₂ (Ok next)
            → Tallies c₁ marks₁ made.at L (bits_with sum made) (sum.count + 1) tally
            → Tallies c₂ marks₁ next.at L (bits_with sum made) (sum.count + 1) tally
        place_tallies next c₂ s₂ carries tallies =
            let means : (a : ℕ) → Known made.at a → DiagramMeans 128 c₁ made.at a (tree_of c₁ a) = known_means some.after.ready in
            let all = place_known in
            let later =
            carries 128 _ _ _ _ (left top) (omega arith) (left_top top) (means made.value.half all.0) (means x all.1.0)
            (means y all.1.1.0) (means sum.carry all.1.1.1) in
            tallies_after later.after some.after.ready (number_known _ _ _ sum some inside summing.each) tallies
          where
            -- some bits above this one, unless it is the top
            left : Bool → Row.Row
            left true = []
            left false = unknown ∷ []

            left_top : (top : Bool) → top ≡ eqb (length (left top)) 0
            left_top true = refl
            left_top false = refl
