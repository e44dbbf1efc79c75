-- What it is for a diagram to be reduced and ordered, and for a function to look only at the levels below n.
use Prim.Native.Nat.{ℕ, suc, ◌≤◌, ◌<◌}
use mathlib.Core.Path.{◌≡◌}
use mathlib.Core.Bool.{Bool, false}
use Rattle.meaning.specs.Diagram.{Tree, leaf, node, Assignment, same}

-- levels rise, from l or above, all below n; no node has equal parts
abbrev pub Ok : ℕ → ℕ → Tree → Type 0
Ok l n (leaf b) = Unit {0}
Ok l n (node i d e) =
    record { from : l ≤ i; below : i < n; low : Ok (suc i) n d; high : Ok (suc i) n e; differ : same d e ≡ false }

-- reduced and ordered over levels 0 to n - 1
abbrev pub Good : ℕ → Tree → Type 0
Good n t = Ok 0 n t

-- f looks only at levels below n
abbrev pub Respects : ℕ → (Assignment → Bool) → Type 0
Respects n f = (ρ τ : Assignment) → ((k : ℕ) → k < n → ρ k ≡ τ k) → f ρ ≡ f τ
