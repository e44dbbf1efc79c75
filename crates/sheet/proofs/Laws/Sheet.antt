-- A sheet that is laid out: its entries, as the definitions have them, are what the code reads.
use Prim.Native.Nat.{ℕ, suc, ◌+◌, ◌-◌, ◌*◌, ◌≤◌, ◌<◌}
use mathlib.Core.Path.{◌≡◌, refl, sym, ap, ◌∙◌}
use mathlib.Core.Logic.{◌⊎◌, inl, inr}
use mathlib.Core.List.{List, [], ◌∷◌}
use lib.ListN.{length, get_or, length-take, length-drop}
use native.Mathlib.Numerals.{add-one}
use native.Mathlib.Omega.{arith}
use Rattle.meaning.specs.Number.{each}
use Rattle.meaning.specs.Kind.{Rule, rule_of, rules}
use Rattle.meaning.specs.Sheet.{Entry, count, record_at, rule_at, place, body, no_entry, entry_at, entries, entry}
use Rattle.meaning.proofs.Laws.Number.{up_to_at}
use Rattle.sheet.specs.declared.kind.Kind.{Kind}
use Rattle.sheet.specs.declared.kind.Kind.TheVariants.{Constant, Extract, ShiftLeft, ShiftRight}
use Rattle.sheet.specs.Kind.{number_of}
use Rattle.sheet.specs.Laid.{Laid, IsEntry}
use Rattle.sheet.proofs.Laws.Kind.{Made, rule_made}

pub entry_at_lem : (s : List ℕ) (i : ℕ) → i < count s → entry (entries s) i ≡ entry_at s i
unfolding entries
entry_at_lem s i inside = up_to_at (entry_at s) (count s) i no_entry inside

-- entries i, i + 1, ... of the first n
abbrev pub rest : List ℕ → ℕ → ℕ → List Entry
rest s n i = each (entry_at s) i (n - i)

pub rest_begin : (s : List ℕ) (n : ℕ) → n ≡ count s → entries s ≡ rest s n 0
unfolding entries
rest_begin s n is = ap (each (entry_at s) 0) {x = count s} {y = n - 0} (omega arith)

pub rest_more : (s : List ℕ) (n i : ℕ) → i < n → rest s n i ≡ entry_at s i ∷ rest s n (i + 1)
rest_more s n i more =
    let left : n - i ≡ suc (n - (i + 1)) = omega arith in
    rw (left, add-one i) refl

pub rest_end : (s : List ℕ) (n i : ℕ) → n ≤ i → rest s n i ≡ []
rest_end s n i done =
    let none : n - i ≡ 0 = omega arith in
    rw none refl

pub body_length : (s : List ℕ) (i : ℕ) → place s i + (rule_at s i).body ≤ length s → length (body s i) ≡ (rule_at s i).body
body_length s i inside = rw (length-take, length-drop) (omega arith)

-- record i lies inside the sheet
pub record_inside : {s : List ℕ} → Laid s → (i : ℕ) → i < count s → record_at (i + 1) ≤ length s
record_inside laid i inside = omega arith

pub row_made : (s : List ℕ) (i : ℕ) → Made (rule_at s i)
row_made s i = rule_made (get_or s (record_at i) 0)

-- the entry's row is its kind's
pub entry_rule : {s b : List ℕ} {i w : ℕ} {kind : Kind} → IsEntry s i kind w b → rule_of (number_of kind) ≡ rule_at s i
entry_rule at = ap rule_of at.kind_is

module _ {s b : List ℕ} {i w : ℕ} {kind : Kind} (laid : Laid s) (at : IsEntry s i kind w b) where
  -- a body is as long as the entry's row says
  pub entry_length : length b ≡ (rule_at s i).body
  entry_length = ap length at.body_is ∙ body_length s i (laid.bodies i at.inside)

  -- an operand lies inside the body
  pub entry_operand : (k : ℕ) → k < length (rule_at s i).operands → 2 * k + 2 ≤ length b
  entry_operand k has = omega (arith, entry_length, (row_made s i).operands_in)

  -- a constant's body and an extract's are four bytes long, a shift's three
  pub constant_long : kind ≡ Constant → length b ≡ 4
  unfolding rule_of rules
  constant_long is = entry_length ∙ sym (ap (λ (r : Rule). r.body) (entry_rule at)) ∙ rw is refl

  pub extract_long : kind ≡ Extract → length b ≡ 4
  unfolding rule_of rules
  extract_long is = entry_length ∙ sym (ap (λ (r : Rule). r.body) (entry_rule at)) ∙ rw is refl

  pub shift_long : (kind ≡ ShiftLeft) ⊎ (kind ≡ ShiftRight) → length b ≡ 3
  unfolding rule_of rules
  shift_long (inl is) = entry_length ∙ sym (ap (λ (r : Rule). r.body) (entry_rule at)) ∙ rw is refl
  shift_long (inr is) = entry_length ∙ sym (ap (λ (r : Rule). r.body) (entry_rule at)) ∙ rw is refl
