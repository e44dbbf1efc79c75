-- Diagrams as trees, and the reduced ordered diagram of a function of assignments.
--
--   holds t ρ       is the diagram true under the assignment ρ?
--   diagram n f     the reduced ordered diagram of f over levels 0 to n - 1: both values are tried at each level
--
-- That is all there is to believe of diagrams. No algorithm stands here.
use Rattle.std.specs.Prelude.{ℕ, zero, suc, Bool, true, false, cond, ◌&&◌, eqb}
use Rattle.std.specs.Bool.{beq}

-- a truth value, or a level with a low part (the level's bit is 0) and a high part (it is 1)
pub data Tree : Type 0 where
  leaf : Bool → Tree
  node : ℕ → Tree → Tree → Tree

-- a truth value for each level
abbrev pub Assignment : Type 0
Assignment = ℕ → Bool

abbrev pub holds : Tree → Assignment → Bool
holds (leaf b) ρ = b
holds (node i d e) ρ = cond (ρ i) (holds e ρ) (holds d ρ)

abbrev pub same : Tree → Tree → Bool
same (leaf a) (leaf b) = beq a b
same (leaf a) (node j f g) = false
same (node i d e) (leaf b) = false
same (node i d e) (node j f g) = eqb i j && same d f && same e g

-- reduced: a node with equal parts is its part
abbrev pub mk : ℕ → Tree → Tree → Tree
mk i d e = cond (same d e) d (node i d e)

-- ρ with the value b at level l
abbrev pub put : ℕ → Bool → Assignment → Assignment
put l b ρ k = cond (eqb k l) b (ρ k)

-- k levels from l on; the levels before are as in ρ
abbrev pub diagram_from : ℕ → ℕ → (Assignment → Bool) → Assignment → Tree
diagram_from zero l f ρ = leaf (f ρ)
diagram_from (suc k) l f ρ =
    let low = diagram_from k (suc l) f (put l false ρ) in
    let high = diagram_from k (suc l) f (put l true ρ) in
    mk l low high

unfoldable pub diagram : ℕ → (Assignment → Bool) → Tree
diagram n f = diagram_from n 0 f (λ l. false)

-- the diagram that is true where level l's bit is 1
abbrev pub literal : ℕ → Tree
literal l = node l (leaf false) (leaf true)
