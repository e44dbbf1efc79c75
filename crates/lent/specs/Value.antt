-- Value's answer as numbers.
--
--   valued r       number, bit and nodes passed of the answer r
--   told t n a     the answer for number n of table t under the bytes a, where nothing is refused
use Rattle.std.specs.Prelude.{ℕ, List, Result, Ok, Err}
use Rattle.meaning.specs.Number.{digit}
use Rattle.meaning.specs.Diagram.{holds}
use Rattle.meaning.specs.Lent.{tree_of}
use Rattle.meaning.specs.Value.{assignment, passes, Valued as Numbers}
use Rattle.lent.specs.declared.refusal.Refusal.{Refusal}
use Rattle.lent.specs.declared.value.Valued.{Valued}
use Rattle.lent.specs.Refusal.{number_of}

-- a refusal returns its number and zeros
abbrev pub valued : Result Valued Refusal → Numbers
valued (Ok v) = record { number = 0; bit = digit v.bit; passed = v.passed }
valued (Err refusal) = record { number = number_of refusal; bit = 0; passed = 0 }

-- number n's truth under the bytes a, and how many nodes are passed
abbrev pub told : List ℕ → ℕ → List ℕ → Valued
told t n a = record { bit = holds (tree_of t n) (assignment a); passed = passes (tree_of t n) (assignment a) }
