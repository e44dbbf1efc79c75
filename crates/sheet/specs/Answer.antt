-- The check's answers as numbers: 0 where a sheet passes, or its first refusal's.
--
--   number_of refusal   the refusal's number
--   text_of refusal     the refusal's words
--   outcome result      0 or the refusal's number
use Rattle.std.specs.Prelude.{ℕ, List, Result, Ok, Err, codes}
use Rattle.sheet.specs.declared.check.Refusal.{Refusal}
use Rattle.sheet.specs.declared.check.Refusal.TheVariants.{Short, Kinds, Places, Operands, Widths, Range, Levels, Term}

abbrev pub number_of : Refusal → ℕ
number_of Short = 1
number_of Kinds = 2
number_of Places = 3
number_of Operands = 4
number_of Widths = 5
number_of Range = 6
number_of Levels = 7
number_of Term = 8

-- in plain words
abbrev pub text_of : Refusal → List ℕ
text_of Short = codes "the sheet is too short for its table of contents, or has no entry or too many"
text_of Kinds = codes "a kind isn't in the table, or a width isn't allowed for it"
text_of Places = codes "the bodies don't lie back to back from the table of contents to the sheet's end"
text_of Operands = codes "an operand isn't below its entry, or isn't what it has to be"
text_of Widths = codes "the widths of an entry and its operands don't fit, or an extract's lower bit is above its upper"
text_of Range = codes "a constant is too large for its width, or an extract reaches beyond its operand"
text_of Levels = codes "the variables have more than 128 bits"
text_of Term = codes "the last entry isn't a formula"

abbrev pub outcome : {A : Type 0} → Result A Refusal → ℕ
outcome (Ok _) = 0
outcome (Err refusal) = number_of refusal
