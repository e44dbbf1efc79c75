-- The kinds of entries, and the short table of each kind's body length, operand sorts and widths.
--
--   rules      01's table of kinds, a row each
--   rule_of k  the row of kind number k, or `absent`'s row where the table has none
use Rattle.std.specs.Prelude.{ℕ, cond, List, [], ◌∷◌, eqb}

-- what an entry is: terms, then formulas; `absent` stands for a number that is no kind's
pub data Kind : Type 0 where
  variable constant : Kind
  bit_not negate bit_and bit_or bit_xor add multiply : Kind
  shift_left shift_right concat extract zero_extend sign_extend choose : Kind
  true false : Kind
  equal unsigned signed : Kind
  not and or : Kind
  exists forall : Kind
  absent : Kind

-- what sort of thing an entry is: a variable is a term too; no width is allowed for `neither`
pub data Sort : Type 0 where
  variable term formula neither : Sort

-- what an operand has to be
pub data Operand : Type 0 where
  a_term a_formula a_variable : Operand

-- the column "Widths" of 01's table
pub data Widths : Type 0 where
  any : Widths  -- nothing is asked
  below : Widths  -- a constant: the value is below 2^width
  equal : Widths  -- every operand that is a term has the entry's own width
  sum : Widths  -- the operands' widths add up to the entry's
  span : Widths  -- extract: u − l + 1, and u inside the operand
  none_wider : Widths  -- no operand is wider than the entry
  alike : Widths  -- the operands' widths are one another's

pub record Rule : Type 0 where
  pub number : ℕ
  pub kind : Kind
  pub sort : Sort
  pub body : ℕ
  pub operands : List Operand
  pub widths : Widths

-- a row of the table, so that it can stand on one line
abbrev pub rule : ℕ → Kind → Sort → ℕ → List Operand → Widths → Rule
rule n k s b o w = record { number = n; kind = k; sort = s; body = b; operands = o; widths = w }

abbrev pub one_term : List Operand
one_term = a_term ∷ []

abbrev pub two_terms : List Operand
two_terms = a_term ∷ a_term ∷ []

abbrev pub one_formula : List Operand
one_formula = a_formula ∷ []

abbrev pub two_formulas : List Operand
two_formulas = a_formula ∷ a_formula ∷ []

abbrev pub formula_two_terms : List Operand
formula_two_terms = a_formula ∷ a_term ∷ a_term ∷ []

abbrev pub variable_formula : List Operand
variable_formula = a_variable ∷ a_formula ∷ []

-- number, kind, sort, body length in bytes, operands, widths
unfoldable pub rules : List Rule
rules =
    rule 1 Kind.variable Sort.variable 0 [] any ∷
    rule 2 constant term 4 [] below ∷
    rule 3 bit_not term 2 one_term Widths.equal ∷
    rule 4 negate term 2 one_term Widths.equal ∷
    rule 5 bit_and term 4 two_terms Widths.equal ∷
    rule 6 bit_or term 4 two_terms Widths.equal ∷
    rule 7 bit_xor term 4 two_terms Widths.equal ∷
    rule 8 add term 4 two_terms Widths.equal ∷
    rule 9 multiply term 4 two_terms Widths.equal ∷
    rule 10 shift_left term 3 one_term Widths.equal ∷
    rule 11 shift_right term 3 one_term Widths.equal ∷
    rule 12 concat term 4 two_terms sum ∷
    rule 13 extract term 4 one_term span ∷
    rule 14 zero_extend term 2 one_term none_wider ∷
    rule 15 sign_extend term 2 one_term none_wider ∷
    rule 16 choose term 6 formula_two_terms Widths.equal ∷
    rule 32 true formula 0 [] any ∷
    rule 33 false formula 0 [] any ∷
    rule 34 Kind.equal formula 4 two_terms alike ∷
    rule 35 unsigned formula 4 two_terms alike ∷
    rule 36 signed formula 4 two_terms alike ∷
    rule 40 not formula 2 one_formula any ∷
    rule 41 and formula 4 two_formulas any ∷
    rule 42 or formula 4 two_formulas any ∷
    rule 48 exists formula 4 variable_formula any ∷
    rule 49 forall formula 4 variable_formula any ∷
    []

abbrev pub no_rule : Rule
no_rule = rule 0 absent neither 0 [] any

-- the row with number k, or `no_rule`
abbrev pub row_of : ℕ → List Rule → Rule
row_of k [] = no_rule
row_of k (r ∷ rs) = let rest = row_of k rs in cond (eqb r.number k) r rest

unfoldable pub rule_of : ℕ → Rule
rule_of k = row_of k rules
