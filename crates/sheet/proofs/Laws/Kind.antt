-- What holds of every row of the kind table, by a test that is computed over all of them (rule_made), and which row is the
-- variable's (variable_sort, other_sort_lem).
use Prim.Native.Nat.{ℕ, ◌*◌, ◌≤◌}
use mathlib.Core.Path.{◌≡◌, refl, sym}
use mathlib.Core.Bool.{Bool, true, false, cond, ◌&&◌, and-eq-true_iff, false≢true}
use mathlib.Core.List.{List, [], ◌∷◌}
use lib.Dec.{eqb, leb}
use lib.ListN.{length, drop}
use borrow.Author.Tests.{leb-true, ne_eqb}
use Rattle.meaning.specs.Kind.{Sort, Widths, any, below, sum, span, none_wider, alike}
use Rattle.meaning.specs.Kind.{Rule, rules, row_of, rule_of, no_rule}

abbrev every : (Rule → Bool) → List Rule → Bool
every test [] = true
every test (r ∷ rs) = test r && every test rs

rows_every : (test : Rule → Bool) (k : ℕ) (rs : List Rule) → test no_rule ≡ true → every test rs ≡ true →
    test (row_of k rs) ≡ true
rows_every test k [] none all = none
rows_every test k (r ∷ rs) none all =
    let both = (and-eq-true_iff (test r) (every test rs)).0 all in
    go (eqb r.number k) both.0 (rows_every test k rs none both.1)
  where
    go : (s : Bool) → test r ≡ true → test (row_of k rs) ≡ true → test (cond s r (row_of k rs)) ≡ true
    go true here later = here
    go false here later = later

-- how many operands a way of fitting widths looks at
abbrev pub looked_at : Widths → ℕ
looked_at any = 0
looked_at below = 0
looked_at Widths.equal = 0
looked_at sum = 2
looked_at span = 1
looked_at none_wider = 1
looked_at alike = 2

-- a constant's and an extract's body is 4 bytes long
abbrev pub has_four_bytes : Widths → ℕ → Bool
has_four_bytes any n = true
has_four_bytes below n = eqb n 4
has_four_bytes Widths.equal n = true
has_four_bytes sum n = true
has_four_bytes span n = eqb n 4
has_four_bytes none_wider n = true
has_four_bytes alike n = true

pub record Made (r : Rule) : Type 0 where
  pub body_le : r.body ≤ 6
  pub operands_le : length r.operands ≤ 3
  pub operands_in : 2 * length r.operands ≤ r.body
  pub looked_at_lem : looked_at r.widths ≤ length r.operands
  pub four_bytes : has_four_bytes r.widths r.body ≡ true

abbrev made : Rule → Bool
made r =
    leb r.body 6 && (leb (length r.operands) 3 && (leb (2 * length r.operands) r.body
    && (leb (looked_at r.widths) (length r.operands) && has_four_bytes r.widths r.body)))

made_is : (r : Rule) → made r ≡ true → Made r
made_is r all =
    let one = (and-eq-true_iff (leb r.body 6) _).0 all in
    let two = (and-eq-true_iff (leb (length r.operands) 3) _).0 one.1 in
    let three = (and-eq-true_iff (leb (2 * length r.operands) r.body) _).0 two.1 in
    let four = (and-eq-true_iff (leb (looked_at r.widths) (length r.operands)) _).0 three.1 in
    record {
      body_le = leb-true r.body 6 one.0;
      operands_le = leb-true (length r.operands) 3 two.0;
      operands_in = leb-true (2 * length r.operands) r.body three.0;
      looked_at_lem = leb-true (looked_at r.widths) (length r.operands) four.0;
      four_bytes = four.1;
    }

pub rule_made : (k : ℕ) → Made (rule_of k)
unfolding rule_of rules
rule_made k = made_is (row_of k rules) (rows_every made k rules refl refl)

-- ---- the variable's row

-- number 1 is the variable's, and no other row has its sort
pub variable_sort : (k : ℕ) → k ≡ 1 → (rule_of k).sort ≡ Sort.variable
unfolding rule_of rules
variable_sort k one = rw one refl

abbrev other_sort : Sort → Bool
other_sort Sort.variable = false
other_sort Sort.term = true
other_sort Sort.formula = true
other_sort Sort.neither = true

pub other_sort_lem : (k : ℕ) → (k ≡ 1 → ⊥) → (rule_of k).sort ≡ Sort.variable → ⊥
unfolding rule_of rules
other_sort_lem k other is =
    let later : other_sort (row_of k (drop 1 rules)).sort ≡ true = rows_every (λ (r : Rule). other_sort r.sort) k (drop 1 rules) refl refl in
    let whole : other_sort (rule_of k).sort ≡ true = rw (ne_eqb 1 k (λ q. other (sym q))) later in
    false≢true (rw is at whole)
