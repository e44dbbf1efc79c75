-- The check of a sheet: the first refusal among 1 to 8, or 0.
--
--   check s   1, 2, 3 each over the whole sheet, then 4, 5, 6 entry by entry, then 7, then 8
use Rattle.std.specs.Prelude.{ℕ, zero, suc, ◌+◌, ◌-◌, ◌^◌, Bool, true, false, cond, not, ◌&&◌, ◌||◌, List, [], ◌∷◌, eqb, ltb, leb, length}
use Rattle.meaning.specs.Kind.{Sort, Operand, a_term, a_formula, a_variable, Widths, any, below, sum, span, none_wider, alike}
use Rattle.meaning.specs.Sheet.{Entry, entry, entries, count, record_at, rule_at, width_at, place, operand, constant_of, upper, lower}
use Rattle.meaning.specs.Level.{levels}

-- the number n where the cause is there, else what the later causes give
abbrev pub refuse : ℕ → Bool → ℕ → ℕ
refuse n cause later = cond cause n later

-- the first of two refusals; 0 is none
abbrev pub first : ℕ → ℕ → ℕ
first r later = cond (eqb r 0) later r

-- ---- 1: fewer than 2 bytes; N not 1..256; fewer than 2 + 4N bytes

unfoldable pub short : List ℕ → Bool
short s = ltb (length s) 2 || not (leb 1 (count s) && leb (count s) 256) || ltb (length s) (record_at (count s))

-- ---- 2: a kind not in the table, or a width not allowed for its sort

-- terms have width 1 to 32, formulas width 0
abbrev pub allowed : Sort → ℕ → Bool
allowed Sort.variable w = leb 1 w && leb w 32
allowed Sort.term w = leb 1 w && leb w 32
allowed Sort.formula w = eqb w 0
allowed Sort.neither w = false

-- contents records i, i + 1, ... n of them
abbrev pub kinds_fit : List ℕ → ℕ → ℕ → Bool
kinds_fit s i zero = true
kinds_fit s i (suc n) = allowed (rule_at s i).sort (width_at s i) && kinds_fit s (suc i) n

-- ---- 3: a place or the sheet's end is wrong

-- bodies i, i + 1, ... n of them, lie back to back from `at` on, and the last ends with the sheet
abbrev pub places_fit : List ℕ → ℕ → ℕ → ℕ → Bool
places_fit s i zero at = eqb at (length s)
places_fit s i (suc n) at = eqb (place s i) at && places_fit s (suc i) n (at + (rule_at s i).body)

-- ---- 4: an operand not below its entry, of the wrong sort, or a bound entry that isn't a variable

abbrev pub suits : Operand → Sort → Bool
suits a_term Sort.variable = true
suits a_term Sort.term = true
suits a_term Sort.formula = false
suits a_term Sort.neither = false
suits a_formula Sort.variable = false
suits a_formula Sort.term = false
suits a_formula Sort.formula = true
suits a_formula Sort.neither = false
suits a_variable Sort.variable = true
suits a_variable Sort.term = false
suits a_variable Sort.formula = false
suits a_variable Sort.neither = false

-- operands k, k + 1, ... of entry number i are below it and what they have to be
abbrev pub operands_fit : List Entry → ℕ → Entry → ℕ → List Operand → Bool
operands_fit es i e k [] = true
operands_fit es i e k (o ∷ os) =
    ltb (operand e k) i && suits o (entry es (operand e k)).rule.sort && operands_fit es i e (suc k) os

-- ---- 5: widths don't fit (u below l included)

-- the width of operand k
abbrev pub width_of : List Entry → Entry → ℕ → ℕ
width_of es e k = (entry es (operand e k)).width

-- operands k, k + 1, ... that are terms have the entry's own width
abbrev pub own_width : List Entry → Entry → ℕ → List Operand → Bool
own_width es e k [] = true
own_width es e k (a_term ∷ os) = eqb (width_of es e k) e.width && own_width es e (suc k) os
own_width es e k (a_formula ∷ os) = own_width es e (suc k) os
own_width es e k (a_variable ∷ os) = own_width es e (suc k) os

abbrev pub widths_fit : Widths → List Entry → Entry → Bool
widths_fit any es e = true
widths_fit below es e = true
widths_fit Widths.equal es e = own_width es e 0 e.rule.operands
widths_fit sum es e = eqb e.width (width_of es e 0 + width_of es e 1)
widths_fit span es e = leb (lower e) (upper e) && eqb e.width (upper e - lower e + 1)
widths_fit none_wider es e = leb (width_of es e 0) e.width
widths_fit alike es e = eqb (width_of es e 0) (width_of es e 1)

-- ---- 6: constant too large; u not inside the operand

abbrev pub in_range : Widths → List Entry → Entry → Bool
in_range any es e = true
in_range below es e = ltb (constant_of e) (2 ^ e.width)
in_range Widths.equal es e = true
in_range sum es e = true
in_range span es e = ltb (upper e) (width_of es e 0)
in_range none_wider es e = true
in_range alike es e = true

-- ---- 4, 5, 6 entry by entry

-- the first of 4, 5, 6 that entry number i gives
unfoldable pub entry_refusal : List Entry → ℕ → Entry → ℕ
entry_refusal es i e =
    refuse 4 (not (operands_fit es i e 0 e.rule.operands))
    (refuse 5 (not (widths_fit e.rule.widths es e))
    (refuse 6 (not (in_range e.rule.widths es e)) 0))

-- over the entries from number i on
abbrev pub entries_refusal : List Entry → ℕ → List Entry → ℕ
entries_refusal es i [] = 0
entries_refusal es i (e ∷ rest) = let later = entries_refusal es (suc i) rest in first (entry_refusal es i e) later

-- ---- 7: more than 128 variable bits; 8: the last entry is a term

abbrev pub max_levels : ℕ
max_levels = 128

-- a formula's sort
abbrev pub is_formula : Sort → Bool
is_formula sort = suits a_formula sort

abbrev pub last_entry : List Entry → Entry
last_entry es = entry es (length es - 1)

-- 4 to 8 of a sheet whose records and places are right
unfoldable pub meaning_refusal : List Entry → ℕ
meaning_refusal es =
    first (entries_refusal es 0 es)
    (refuse 7 (ltb max_levels (levels es))
    (refuse 8 (not (is_formula (last_entry es).rule.sort)) 0))

unfoldable pub check : List ℕ → ℕ
check s =
    refuse 1 (short s)
    (refuse 2 (not (kinds_fit s 0 (count s)))
    (refuse 3 (not (places_fit s 0 (count s) (record_at (count s))))
    (meaning_refusal (entries s))))
