-- What value and witness refuse, as numbers.
--
--   number_of refusal   the refusal's number
--   text_of refusal     the refusal's words
--   outcome result      0 or the refusal's number
use Rattle.std.specs.Prelude.{ℕ, ◌+◌, not, List, eqb, ltb, Result, Ok, Err, codes}
use Rattle.meaning.specs.Check.{refuse, max_levels}
use Rattle.meaning.specs.Solve.{bad_table}
use Rattle.meaning.specs.Lent.{bad_nodes}
use Rattle.lent.specs.declared.refusal.Refusal.{Refusal}
use Rattle.lent.specs.declared.refusal.Refusal.TheVariants.{Table, Nodes, Assignment, Byte, False, Number}

abbrev pub number_of : Refusal → ℕ
number_of Table = 9
number_of Nodes = 12
number_of Assignment = 13
number_of Byte = 14
number_of False = 15
number_of Number = 16

-- in plain words
abbrev pub text_of : Refusal → List ℕ
text_of Table = codes "the table's length is no multiple of 3, or too large"
text_of Nodes = codes "there are more used nodes than the table has room for, or one of them can't be followed"
text_of Assignment = codes "the assignment isn't 128 bytes long"
text_of Byte = codes "a byte of the assignment is neither 0 nor 1"
text_of False = codes "no assignment makes false true"
text_of Number = codes "no diagram has this number"

abbrev pub outcome : {A : Type 0} → Result A Refusal → ℕ
outcome (Ok _) = 0
outcome (Err refusal) = number_of refusal

-- 9, 13: a table and an assignment buffer of these lengths
unfoldable pub buffers_refusal : ℕ → ℕ → ℕ
buffers_refusal table bytes = refuse 9 (bad_table table) (refuse 13 (not (eqb bytes max_levels)) 0)

-- 12, 16: the used nodes, and a diagram's number
unfoldable pub diagram_refusal : List ℕ → ℕ → ℕ → ℕ
diagram_refusal t used n = refuse 12 (bad_nodes t used) (refuse 16 (ltb (used + 1) n) 0)
