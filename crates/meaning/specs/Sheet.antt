-- The sheet: a table of contents, then the bodies. Bytes to entries.
--
--   count s      N, the number of entries
--   place s i    where entry i's body is said to begin
--   entries s    the entries in order, each with its row of the kind table, its width and its body
--   operand e k  the k-th operand of e, an entry number
use Rattle.std.specs.Prelude.{ℕ, ◌+◌, ◌*◌, List, [], length, get_or, take, drop}
use Rattle.meaning.specs.Number.{little, up_to}
use Rattle.meaning.specs.Kind.{Rule, rule_of, no_rule}

pub record Entry : Type 0 where
  pub rule : Rule
  pub width : ℕ
  pub body : List ℕ

abbrev pub no_entry : Entry
no_entry = record { rule = no_rule; width = 0; body = [] }

-- the two-byte number at a place
abbrev pub pair_at : ℕ → List ℕ → ℕ
pair_at at s = little (take 2 (drop at s))

abbrev pub count : List ℕ → ℕ
count s = pair_at 0 s

-- contents record i: kind (1), width (1), place (2)
abbrev pub record_at : ℕ → ℕ
record_at i = 2 + 4 * i

abbrev pub rule_at : List ℕ → ℕ → Rule
rule_at s i = rule_of (get_or s (record_at i) 0)

abbrev pub width_at : List ℕ → ℕ → ℕ
width_at s i = get_or s (record_at i + 1) 0

abbrev pub place : List ℕ → ℕ → ℕ
place s i = pair_at (record_at i + 2) s

-- the part of the sheet that is entry i's body
abbrev pub body : List ℕ → ℕ → List ℕ
body s i = take (rule_at s i).body (drop (place s i) s)

abbrev pub entry_at : List ℕ → ℕ → Entry
entry_at s i = record { rule = rule_at s i; width = width_at s i; body = body s i }

unfoldable pub entries : List ℕ → List Entry
entries s = up_to (entry_at s) (count s)

-- entry i of some entries
abbrev pub entry : List Entry → ℕ → Entry
entry es i = get_or es i no_entry

-- ---- what stands in a body

-- operands come first, two bytes each
abbrev pub operand : Entry → ℕ → ℕ
operand e k = pair_at (2 * k) e.body

-- the entry numbers of all operands; a bound variable is one
unfoldable pub operands : Entry → List ℕ
operands e = up_to (operand e) (length e.rule.operands)

-- a constant's value
abbrev pub constant_of : Entry → ℕ
constant_of e = little e.body

-- a shift's amount, as written
abbrev pub amount : Entry → ℕ
amount e = get_or e.body 2 0

-- extract's u and l
abbrev pub upper : Entry → ℕ
upper e = get_or e.body 2 0

abbrev pub lower : Entry → ℕ
lower e = get_or e.body 3 0
