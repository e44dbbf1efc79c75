-- Steps. A step names one function of some diagrams; its diagram enters the table.
--
--   Work A            a value, and the diagrams that its steps enter, in order
--   step n f a b c    one step: the diagram of f of a, b and c, over n levels
--   quantify n f l t  one step: f of t with 0 and of t with 1 at level l
use Rattle.std.specs.Prelude.{ℕ, Bool, true, false, cond, not, ◌&&◌, ◌||◌, List, [], ◌∷◌, ◌++◌}
use Rattle.std.specs.Bool.{beq}
use Rattle.meaning.specs.Diagram.{Tree, leaf, holds, put, diagram}

pub record Work (A : Type 0) : Type 0 where
  pub value : A
  pub steps : List Tree

-- no step
abbrev pub done : {A : Type 0} → A → Work A
done a = record { value = a; steps = [] }

-- one piece of work after another
abbrev pub ◌>>=◌ : {A B : Type 0} → Work A → (A → Work B) → Work B
◌>>=◌ m f = let r = f m.value in record { value = r.value; steps = m.steps ++ r.steps }

-- one step
abbrev pub take : Tree → Work Tree
take t = record { value = t; steps = t ∷ [] }

-- a function of up to three diagrams
abbrev pub Function : Type 0
Function = Bool → Bool → Bool → Bool

unfoldable pub step_tree : ℕ → Function → Tree → Tree → Tree → Tree
step_tree n f a b c = diagram n (λ ρ. f (holds a ρ) (holds b ρ) (holds c ρ))

unfoldable pub quantify_tree : ℕ → (Bool → Bool → Bool) → ℕ → Tree → Tree
quantify_tree n f l t = diagram n (λ ρ. f (holds t (put l false ρ)) (holds t (put l true ρ)))

unfoldable pub step : ℕ → Function → Tree → Tree → Tree → Work Tree
step n f a b c = let t = step_tree n f a b c in take t

unfoldable pub quantify : ℕ → (Bool → Bool → Bool) → ℕ → Tree → Work Tree
quantify n f l t = let u = quantify_tree n f l t in take u

-- ---- the functions that steps name

abbrev pub is_not : Function
is_not a b c = not a

abbrev pub is_and : Function
is_and a b c = a && b

abbrev pub is_or : Function
is_or a b c = a || b

abbrev pub is_xor : Function
is_xor a b c = not (beq a b)

abbrev pub agree : Function
agree a b c = beq a b

-- c stands for "less or equal so far"
abbrev pub less_or_equal : Function
less_or_equal a b c = (not a && b) || (beq a b && c)

-- the same at the top bit of signed numbers
abbrev pub signed_top : Function
signed_top a b c = (a && not b) || (beq a b && c)

abbrev pub choice : Function
choice a b c = cond a b c

-- a diagram that a function doesn't look at
abbrev pub unused : Tree
unused = leaf false
