-- What an operation made is the entry's value, by the kind's shape.
--
--   row_enters, truth_enters                      an operation's work is the entry's; the others cite them
--   row_kept, leaf_enters, moved                  no step
--   one_enters, two_enter, choice_enters          steps of terms; variable_enters of a variable
--   compared, negated, joined, chained            formulas
use Prim.Native.Nat.{ℕ, ◌≤◌}
use mathlib.Core.Path.{◌≡◌, refl, sym, ap, ap₂, subst, ◌∙◌}
use mathlib.Core.Bool.{Bool, true, false≢true}
use mathlib.Core.List.{List, [], append-nil}
use lib.ListN.{length}
use Rattle.std.specs.Prelude.{Result, Ok, Err}
use Rattle.meaning.specs.Number.{digit}
use Rattle.meaning.specs.Kind.{Sort, a_term, Rule, rule_of, rules, one_term, two_terms, one_formula, two_formulas, formula_two_terms, variable_formula}
use Rattle.meaning.specs.Sheet.{operand}
use Rattle.meaning.specs.Level.{levels, bits_of, variable_bits}
use Rattle.meaning.specs.Check.{suits}
use Rattle.meaning.specs.Diagram.{Tree, leaf}
use Rattle.meaning.specs.Step.{Work, Function, done}
use Rattle.meaning.specs.Row as Row
use Rattle.meaning.specs.Row.{known}
use Rattle.meaning.specs.Formula as Formula
use Rattle.meaning.specs.Run as Run
use Rattle.meaning.specs.Run.{Value, row_at, pair_at, as_row, as_truth, work_of}
use Rattle.diagram.specs.State.{Ready, Works}
use Rattle.diagram.specs.Function.{table_of}
use Rattle.diagram.specs.declared.builder.Builder.{Builder}
use Rattle.diagram.specs.declared.builder.Made.{Made}
use Rattle.diagram.specs.declared.builder.NoRoom.{NoRoom}
use Rattle.diagram.specs.declared.scratch.Scratch.{Scratch}
use Rattle.diagram.proofs.Laws.After.{works_done, lacks_more}
use Rattle.sheet.specs.declared.checked.CheckedEntry.{CheckedEntry}
use Rattle.sheet.specs.declared.kind.Kind.{Kind}
use Rattle.sheet.specs.declared.kind.Kind.TheVariants.{Variable}
use Rattle.term.specs.Row.{BitMeans, RowMeans}
use Rattle.term.specs.declared.row.Row as Declared
use Rattle.term.specs.declared.bitwise.Operation.TheVariants.{Choose}
use Rattle.term.proofs.Laws.Bitwise.{RowsWork, works_choose}
use Rattle.formula.specs.Pair.{TreeMeans, PairMeans}
use Rattle.formula.specs.declared.pair.Pair.{Pair}
use Rattle.entry.specs.Value.{Meant, pair_in}
use Rattle.entry.specs.Entry.{OperandsMeant, IsWorked, IsRowOf, variable_at, quantified_at}
use Rattle.entry.specs.declared.value.Operands.{Operands}
use Rattle.entry.proofs.Laws.Entry.{Given, entries_of, own, row_for, few, rule_is}
use Rattle.entry.proofs.Laws.Entry.{term_means, terms_mean, choice_means, pair_means, pairs_mean, bound_means}

meant_as_term : (sort : Sort) (n : ℕ) (cells : List ℕ) (b : Builder) (row : Declared.Row) (r : Row.Row) → suits a_term sort ≡ true
    → RowMeans n cells b row r → Meant sort n cells b row (Run.row r)
meant_as_term Sort.variable n cells b row r is h = h
meant_as_term Sort.term n cells b row r is h = h
meant_as_term Sort.formula n cells b row r is h = absurd (false≢true is)
meant_as_term Sort.neither n cells b row r is h = absurd (false≢true is)

tree_bit : {n : ℕ} {cells : List ℕ} {b : Builder} {a : ℕ} {x : Tree} → TreeMeans n cells b a x → BitMeans n cells b a (known x)
tree_bit means = (means.is, means.good)

abbrev levels_for : CheckedEntry → ℕ
levels_for e = levels (entries_of e)

-- the work of an entry of this kind
abbrev work_for : Kind → CheckedEntry → ℕ → List Value → Work Value
work_for kind e limit before = work_of (row_for kind).kind (entries_of e) (levels_for e) limit before (own e)

module _ {kind : Kind} {e : CheckedEntry} {b : Builder} {v : Operands} (g : Given kind e b v) (limit : ℕ) (cells : List ℕ)
    (before : List Value)
  where
    module _ (cells' : List ℕ) (s' : Scratch) where
      enters : (m : Work Value) (r : Result (Made Declared.Row) NoRoom) → work_for kind e limit before ≡ m
          → Works (Meant (own e).rule.sort (levels_for e)) cells b m cells' s' r
          → IsWorked e.sheet.bytes.now e.index limit before cells b cells' s' r
      enters m r is works =
          let work : work_of (own e).rule.kind (entries_of e) (levels_for e) limit before (own e) ≡ m =
          ap (λ (rule : Rule). work_of rule.kind (entries_of e) (levels_for e) limit before (own e)) (rule_is g) ∙ is in
          subst (λ (w : Work Value). Works (Meant (own e).rule.sort (levels_for e)) cells b w cells' s' r) (sym work) works

      -- a term's
      pub row_enters : (m : Work Row.Row) (r : Result (Made Declared.Row) NoRoom) → suits a_term (row_for kind).sort ≡ true
          → work_for kind e limit before ≡ as_row m → Works (RowMeans (levels_for e)) cells b m cells' s' r
          → IsWorked e.sheet.bytes.now e.index limit before cells b cells' s' r
      row_enters m r sorted is works = enters (as_row m) r is (go r works)
        where
          suited : suits a_term (own e).rule.sort ≡ true
          suited = ap (λ (rule : Rule). suits a_term rule.sort) (rule_is g) ∙ sorted

          go : (r : Result (Made Declared.Row) NoRoom) → Works (RowMeans (levels_for e)) cells b m cells' s' r
              → Works (Meant (own e).rule.sort (levels_for e)) cells b (as_row m) cells' s' r
          go (Ok made) does =
              record {
                after = rw (append-nil m.steps) does.after;
                means = meant_as_term (own e).rule.sort (levels_for e) cells' made.at made.value m.value suited does.means;
              }
          go (Err x) lacks = lacks_more [] lacks

      -- a formula's
      pub truth_enters : (m : Work Formula.Pair) (p : Result (Made Pair) NoRoom) (r : Result (Made Declared.Row) NoRoom)
          → (row_for kind).sort ≡ Sort.formula → work_for kind e limit before ≡ as_truth m → IsRowOf p r
          → Works (PairMeans (levels_for e)) cells b m cells' s' p
          → IsWorked e.sheet.bytes.now e.index limit before cells b cells' s' r
      truth_enters m p r sorted is row works = enters (as_truth m) r is (go p r row works)
        where
          sort : (own e).rule.sort ≡ Sort.formula
          sort = ap (λ (rule : Rule). rule.sort) (rule_is g) ∙ sorted

          go : (p : Result (Made Pair) NoRoom) (r : Result (Made Declared.Row) NoRoom) → IsRowOf p r
              → Works (PairMeans (levels_for e)) cells b m cells' s' p
              → Works (Meant (own e).rule.sort (levels_for e)) cells b (as_truth m) cells' s' r
          go (Ok pair) (Ok row) holds does =
              let means : PairMeans (levels_for e) cells' row.at (pair_in row.value) m.value = rw (holds.at, holds.value) does.means in
              record {
                after = rw (append-nil m.steps, holds.at) does.after;
                means = subst (λ (t : Sort). Meant t (levels_for e) cells' row.at row.value (Run.truth m.value)) (sym sort) means;
              }
          go (Ok pair) (Err x) holds does = absurd holds
          go (Err x) r holds lacks = rw holds (lacks_more [] lacks)

    -- ---- no step

    -- a row that stands for the value
    pub row_kept : {s : Scratch} (m : Row.Row) (x : Declared.Row) (r : Result (Made Declared.Row) NoRoom)
        → suits a_term (row_for kind).sort ≡ true → work_for kind e limit before ≡ as_row (done m) → Ready cells s b
        → r ≡ Ok (record { at = b; value = x }) → RowMeans (levels_for e) cells b x m
        → IsWorked e.sheet.bytes.now e.index limit before cells b cells s r
    row_kept {s} m x r sorted is ready made means =
        row_enters cells s (done m) r sorted is (rw made (works_done ready means))

    -- true, false
    pub leaf_enters : {s : Scratch} (c : Bool) (r : Result (Made Declared.Row) NoRoom) → (row_for kind).sort ≡ Sort.formula
        → work_for kind e limit before ≡ as_truth (done (Formula.pair (leaf c) (leaf c))) → Ready cells s b
        → IsRowOf (Ok (record { at = b; value = record { must = digit c; may = digit c } })) r
        → IsWorked e.sheet.bytes.now e.index limit before cells b cells s r
    leaf_enters {s} c r sorted is ready row =
        truth_enters cells s (done (Formula.pair (leaf c) (leaf c)))
        (Ok (record { at = b; value = record { must = digit c; may = digit c } })) r sorted is row
        (works_done ready
        (record { must = record { is = refl; good = tt }; may = record { is = refl; good = tt } }))

    module _ (meant : OperandsMeant e.sheet.bytes.now e.index cells b before v) where
      -- one row moved
      pub moved : {s : Scratch} (f : Row.Row → Row.Row) (x : Declared.Row) (r : Result (Made Declared.Row) NoRoom)
          → (row_for kind).operands ≡ one_term → suits a_term (row_for kind).sort ≡ true
          → work_for kind e limit before ≡ as_row (done (f (row_at before (own e) 0))) → Ready cells s b
          → r ≡ Ok (record { at = b; value = x })
          → ((p : Row.Row) → RowMeans (levels_for e) cells b v.x p → RowMeans (levels_for e) cells b x (f p))
          → IsWorked e.sheet.bytes.now e.index limit before cells b cells s r
      moved f x r one sorted is ready made means =
          row_kept (f (row_at before (own e) 0)) x r sorted is ready made
          (means (row_at before (own e) 0) (term_means g meant one))

      -- ---- steps

      -- a choice
      pub choice_enters : (cells' : List ℕ) (s' : Scratch) (r : Result (Made Declared.Row) NoRoom) (p : Pair) → p ≡ pair_in v.x
          → (row_for kind).operands ≡ formula_two_terms → suits a_term (row_for kind).sort ≡ true
          → work_for kind e limit before
          ≡ as_row (Row.choose (levels_for e) (pair_at before (own e) 0).must (pair_at before (own e) 0).may
          (row_at before (own e) 1) (row_at before (own e) 2))
          → RowsWork (Choose p.must p.may) v.y v.z cells b cells' s' r
          → IsWorked e.sheet.bytes.now e.index limit before cells b cells' s' r
      choice_enters cells' s' r p p_is choosing sorted is works =
          let m = choice_means g meant choosing in
          let c = pair_at before (own e) 0 in
          let pair : PairMeans (levels_for e) cells b p c = rw p_is m.0 in
          row_enters cells' s' (Row.choose (levels_for e) c.must c.may (row_at before (own e) 1) (row_at before (own e) 2)) r sorted is
          (works_choose cells' s' r (few g) p.must p.may c.must c.may m.1.0 m.1.1 (tree_bit pair.must) (tree_bit pair.may) works)

      module _ (cells' : List ℕ) (s' : Scratch) (r : Result (Made Declared.Row) NoRoom) where
        pub one_enters : (f : ℕ → Row.Row → Work Row.Row) → (row_for kind).operands ≡ one_term
            → suits a_term (row_for kind).sort ≡ true
            → work_for kind e limit before ≡ as_row (f (levels_for e) (row_at before (own e) 0))
            → ((n : ℕ) (p : Row.Row) → n ≤ 128 → RowMeans n cells b v.x p → Works (RowMeans n) cells b (f n p) cells' s' r)
            → IsWorked e.sheet.bytes.now e.index limit before cells b cells' s' r
        one_enters f one sorted is works =
            row_enters cells' s' (f (levels_for e) (row_at before (own e) 0)) r sorted is
            (works (levels_for e) (row_at before (own e) 0) (few g) (term_means g meant one))

        pub two_enter : (f : ℕ → Row.Row → Row.Row → Work Row.Row) → (row_for kind).operands ≡ two_terms
            → suits a_term (row_for kind).sort ≡ true
            → work_for kind e limit before ≡ as_row (f (levels_for e) (row_at before (own e) 0) (row_at before (own e) 1))
            → ((n : ℕ) (p q : Row.Row) → n ≤ 128 → RowMeans n cells b v.x p → RowMeans n cells b v.y q
            → Works (RowMeans n) cells b (f n p q) cells' s' r)
            → IsWorked e.sheet.bytes.now e.index limit before cells b cells' s' r
        two_enter f two sorted is works =
            let m = terms_mean g meant two in
            row_enters cells' s' (f (levels_for e) (row_at before (own e) 0) (row_at before (own e) 1)) r sorted is
            (works (levels_for e) (row_at before (own e) 0) (row_at before (own e) 1) (few g) m.0 m.1)

        -- a formula
        module _ (made : Result (Made Pair) NoRoom) (row : IsRowOf made r) (sorted : (row_for kind).sort ≡ Sort.formula) where
          pub compared : (f : ℕ → Row.Row → Row.Row → Work Formula.Pair) → (row_for kind).operands ≡ two_terms
              → work_for kind e limit before ≡ as_truth (f (levels_for e) (row_at before (own e) 0) (row_at before (own e) 1))
              → ((n : ℕ) (p q : Row.Row) → n ≤ 128 → RowMeans n cells b v.x p → RowMeans n cells b v.y q
              → Works (PairMeans n) cells b (f n p q) cells' s' made)
              → IsWorked e.sheet.bytes.now e.index limit before cells b cells' s' r
          compared f two is works =
              let m = terms_mean g meant two in
              truth_enters cells' s' (f (levels_for e) (row_at before (own e) 0) (row_at before (own e) 1)) made r sorted is row
              (works (levels_for e) (row_at before (own e) 0) (row_at before (own e) 1) (few g) m.0 m.1)

          pub negated : (p : Pair) → p ≡ pair_in v.x → (row_for kind).operands ≡ one_formula
              → work_for kind e limit before ≡ as_truth (Formula.negation (levels_for e) (pair_at before (own e) 0))
              → ((n : ℕ) (x : Formula.Pair) → n ≤ 128 → PairMeans n cells b p x
              → Works (PairMeans n) cells b (Formula.negation n x) cells' s' made)
              → IsWorked e.sheet.bytes.now e.index limit before cells b cells' s' r
          negated p p_is one is works =
              truth_enters cells' s' (Formula.negation (levels_for e) (pair_at before (own e) 0)) made r sorted is row
              (works (levels_for e) (pair_at before (own e) 0) (few g) (rw p_is (pair_means g meant one)))

          -- and, or: by a truth table
          pub joined : (table : ℕ) (f : Function) → table_of table ≡ f → (p q : Pair) → p ≡ pair_in v.x → q ≡ pair_in v.y
              → (row_for kind).operands ≡ two_formulas
              → work_for kind e limit before ≡ as_truth (Formula.both (levels_for e) f (pair_at before (own e) 0) (pair_at before (own e) 1))
              → ((n : ℕ) (x y : Formula.Pair) → n ≤ 128 → PairMeans n cells b p x → PairMeans n cells b q y
              → Works (PairMeans n) cells b (Formula.both n (table_of table) x y) cells' s' made)
              → IsWorked e.sheet.bytes.now e.index limit before cells b cells' s' r
          joined table f f_is p q p_is q_is two is works =
              let m = pairs_mean g meant two in
              truth_enters cells' s' (Formula.both (levels_for e) f (pair_at before (own e) 0) (pair_at before (own e) 1)) made r sorted is row
              (subst (λ (h : Function). Works (PairMeans (levels_for e)) cells b
              (Formula.both (levels_for e) h (pair_at before (own e) 0) (pair_at before (own e) 1)) cells' s' made) f_is
              (works (levels_for e) (pair_at before (own e) 0) (pair_at before (own e) 1) (few g) (rw p_is m.0) (rw q_is m.1)))

          -- exists, forall
          pub chained : (every : Bool) (o : CheckedEntry) (p : Pair) → o.sheet.bytes.now ≡ e.sheet.bytes.now → o.index ≡ operand (own e) 0
              → p ≡ pair_in v.y → (row_for kind).operands ≡ variable_formula
              → work_for kind e limit before
              ≡ as_truth (quantified_at e.sheet.bytes.now (operand (own e) 0) (levels_for e) every (pair_at before (own e) 1))
              → ((n : ℕ) (x : Formula.Pair) → n ≤ 128 → PairMeans n cells b p x
              → Works (PairMeans n) cells b (quantified_at o.sheet.bytes.now o.index n every x) cells' s' made)
              → IsWorked e.sheet.bytes.now e.index limit before cells b cells' s' r
          chained every o p sheet_is o_is p_is bound is works =
              truth_enters cells' s' (quantified_at e.sheet.bytes.now (operand (own e) 0) (levels_for e) every (pair_at before (own e) 1))
              made r sorted is row
              (subst (λ (k : ℕ). Works (PairMeans (levels_for e)) cells b
              (quantified_at e.sheet.bytes.now k (levels_for e) every (pair_at before (own e) 1)) cells' s' made) o_is
              (subst (λ (bytes : List ℕ). Works (PairMeans (levels_for e)) cells b
              (quantified_at bytes o.index (levels_for e) every (pair_at before (own e) 1)) cells' s' made) sheet_is
              (works (levels_for e) (pair_at before (own e) 1) (few g) (rw p_is (bound_means g meant bound)))))

-- one node a bit
pub variable_enters : {e : CheckedEntry} {b : Builder} {v : Operands} → Given Variable e b v → (limit : ℕ) (cells : List ℕ)
    (before : List Value) (cells' : List ℕ) (s' : Scratch) (r : Result (Made Declared.Row) NoRoom) → length before ≡ e.index
    → Works (RowMeans (levels_for e)) cells b (variable_at e.sheet.bytes.now e.index) cells' s' r
    → IsWorked e.sheet.bytes.now e.index limit before cells b cells' s' r
unfolding work_of rule_of rules
variable_enters {e} g limit cells before cells' s' r long works =
    let wide : variable_bits (own e) ≡ (own e).width = ap (λ (rule : Rule). bits_of rule.sort (own e).width) (rule_is g) in
    row_enters g limit cells before cells' s' (variable_at e.sheet.bytes.now e.index) r refl
    (ap₂ (λ (k w : ℕ). as_row (Run.variable (entries_of e) k w)) long (sym wide)) works
