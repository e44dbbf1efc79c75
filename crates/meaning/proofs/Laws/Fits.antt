-- How a row stands to plain bits and to a row that knows more, and a pair to the truth and to a pair that knows more.
use Prim.Native.Nat.{ℕ}
use mathlib.Core.Path.{◌≡◌}
use mathlib.Core.Bool.{Bool, true}
use mathlib.Core.List.{List, [], ◌∷◌}
use Rattle.meaning.specs.Diagram.{Tree, Assignment, holds}
use Rattle.meaning.specs.Row.{Bit, known, unknown, Row}
use Rattle.meaning.specs.Formula.{Pair}
use Rattle.meaning.proofs.Laws.Shape.{Good}

-- under ρ the row's known bits are well formed and these, whatever the unknown ones are
pub data Fits (n : ℕ) (ρ : Assignment) : Row → List Bool → Type 0 where
  end : Fits n ρ [] []
  bit : {t : Tree} {r : Row} {x : Bool} {xs : List Bool} → Good n t → holds t ρ ≡ x → Fits n ρ r xs → Fits n ρ (known t ∷ r) (x ∷ xs)
  any : {r : Row} {x : Bool} {xs : List Bool} → Fits n ρ r xs → Fits n ρ (unknown ∷ r) (x ∷ xs)

-- the first row knows no more than the second
pub data Below : Row → Row → Type 0 where
  end : Below [] []
  keep : {t : Tree} {r s : Row} → Below r s → Below (known t ∷ r) (known t ∷ s)
  more : {b : Bit} {r s : Row} → Below r s → Below (unknown ∷ r) (b ∷ s)

-- under ρ must implies the truth b, and b implies may; both are well formed
pub record Encloses (n : ℕ) (ρ : Assignment) (p : Pair) (b : Bool) : Type 0 where
  pub must_good : Good n p.must
  pub may_good : Good n p.may
  pub must : holds p.must ρ ≡ true → b ≡ true
  pub may : b ≡ true → holds p.may ρ ≡ true

-- the first pair knows no more than the second, under any assignment
pub record Wider (p q : Pair) : Type 0 where
  pub must : (ρ : Assignment) → holds p.must ρ ≡ true → holds q.must ρ ≡ true
  pub may : (ρ : Assignment) → holds q.may ρ ≡ true → holds p.may ρ ≡ true
