-- The program: what it prints, from the bytes that it reads.
--
--   program input   the bytes printed
use Rattle.std.specs.Prelude.{ℕ, zero, suc, ◌+◌, ◌*◌, ◌/◌, ◌%◌, cond, List, [], ◌∷◌, ◌++◌, eqb, ltb, take}
use Prim.Native.Char.{code}
use Prim.Native.String.{String, [] as none, ◌∷◌ as ◌then◌}
use Rattle.meaning.specs.Kind.{Sort}
use Rattle.meaning.specs.Sheet.{Entry, entries}
use Rattle.meaning.specs.Level.{value_of}
use Rattle.meaning.specs.Diagram.{Assignment}
use Rattle.meaning.specs.Table.{cells}
use Rattle.meaning.specs.Solve.{Solved, after, solve_unnamed, work_needed}
use Rattle.meaning.specs.Check.{max_levels}
use Rattle.meaning.specs.Value.{assignment}
use Rattle.meaning.specs.Witness.{witness}

-- a text's bytes
abbrev pub text : String → List ℕ
text none = []
text (c then s) = code c ∷ text s

abbrev pub newline : List ℕ
newline = 10 ∷ []

-- a number below 10^k in decimal, with no zeros in front
abbrev pub decimal_from : ℕ → ℕ → List ℕ
decimal_from zero n = []
decimal_from (suc k) n =
    let front = decimal_from k (n / 10) in
    let last = 48 + n % 10 in
    cond (ltb n 10) (last ∷ []) (front ++ (last ∷ []))

-- a 32-bit number has at most 10 digits
abbrev pub decimal : ℕ → List ℕ
decimal n = decimal_from 10 n

-- a word, a space, a number
abbrev pub line : String → ℕ → List ℕ
line word n = text word ++ decimal n ++ newline

-- the verdict's word
abbrev pub verdict_word : ℕ → String
verdict_word v = cond (eqb v 1) "sat" (cond (eqb v 2) "unsat" "unknown")

-- ---- the values of the variables

-- one line a variable entry, from entry number i on
abbrev pub entry_line : List Entry → Assignment → ℕ → Sort → List ℕ
entry_line es ρ i Sort.variable = text "entry " ++ decimal i ++ line " value " (value_of es ρ i)
entry_line es ρ i Sort.term = []
entry_line es ρ i Sort.formula = []
entry_line es ρ i Sort.neither = []

abbrev pub entry_lines : List Entry → Assignment → ℕ → List Entry → List ℕ
entry_lines es ρ i [] = []
entry_lines es ρ i (e ∷ rest) = entry_line es ρ i e.rule.sort ++ entry_lines es ρ (suc i) rest

-- ---- the listing

abbrev pub program_slots : ℕ
program_slots = 2048

-- at most one byte more than the longest good sheet has
abbrev pub bytes_read : ℕ
bytes_read = 2563

-- the witness of must
abbrev pub must_witness : Solved → Assignment
must_witness a = assignment (after (witness (after a.table []) a.used a.must max_levels).assignment [])

-- the answer line alone on a refusal; on sat also the variables' values under ρ
unfoldable pub listed : ℕ → ℕ → ℕ → ℕ → ℕ → List Entry → Assignment → List ℕ
listed number verdict must may used es ρ =
    let values = entry_lines es ρ 0 es in
    let end : List ℕ = [] in
    let rest = text "verdict " ++ text (verdict_word verdict) ++ newline ++ line "must " must ++ line "may " may ++ line "slots " used ++
    cond (eqb verdict 1) values end in
    line "answer " number ++ cond (eqb number 0) rest end

unfoldable pub listing : List ℕ → List ℕ
listing s =
    let a = solve_unnamed s (cells * program_slots) work_needed in
    listed a.number a.verdict a.must a.may a.used (entries s) (must_witness a)

unfoldable pub program : List ℕ → List ℕ
program input = listing (take bytes_read input)
