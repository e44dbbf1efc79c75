-- What a quantifier chain says: f of both choices at each of some levels, the first level innermost.
use Prim.Native.Nat.{ℕ}
use mathlib.Core.Bool.{Bool, true, false}
use mathlib.Core.List.{List, [], ◌∷◌}
use Rattle.meaning.specs.Diagram.{Assignment, put}

abbrev pub over : (Bool → Bool → Bool) → List ℕ → (Assignment → Bool) → Assignment → Bool
over f [] g ρ = g ρ
over f (l ∷ ls) g ρ = over f ls (λ τ. f (g (put l false τ)) (g (put l true τ))) ρ
