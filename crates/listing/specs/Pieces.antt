-- The pieces of a listing.
use Rattle.std.specs.Prelude.{ℕ, List, ◌++◌}
use Rattle.meaning.specs.Sheet.{rule_at, entries}
use Rattle.meaning.specs.Value.{assignment}
use Rattle.meaning.specs.Program.{text, newline, decimal, verdict_word, entry_line, entry_lines}

unfoldable pub digits : ℕ → List ℕ
digits n = decimal n

-- a word with its space, a number
unfoldable pub number_line : List ℕ → ℕ → List ℕ
number_line word n = word ++ (digits n ++ newline)

unfoldable pub verdict_line : ℕ → List ℕ
verdict_line v = text "verdict " ++ text (verdict_word v) ++ newline

-- the line of entry i of sheet s under the assignment's bytes a, nothing where it is no variable
unfoldable pub entry_text : List ℕ → List ℕ → ℕ → List ℕ
entry_text s a i = entry_line (entries s) (assignment a) i (rule_at s i).sort

-- one line a variable entry
unfoldable pub value_lines : List ℕ → List ℕ → List ℕ
value_lines s a = entry_lines (entries s) (assignment a) 0 (entries s)
