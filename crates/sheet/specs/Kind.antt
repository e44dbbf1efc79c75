-- The code's kinds and rows in the definition's words.
--
--   number_of kind       the kind's number, as it stands in a sheet
--   row_as kind rule     the definition's row for a kind and its rule
--   Decodes number of    `of` is the kind with this number, or the table has no row for it
use Rattle.std.specs.Prelude.{ℕ, map, Option, MatchOption, ◌≡◌}
use Rattle.meaning.specs.Kind as Meaning
use Rattle.meaning.specs.Kind.{rule_of, no_rule}
use Rattle.sheet.specs.declared.kind.Kind.{Kind}
use Rattle.sheet.specs.declared.kind.Kind.TheVariants.{Variable, Constant, BitNot, Negate, BitAnd, BitOr, BitXor, Add, Multiply}
use Rattle.sheet.specs.declared.kind.Kind.TheVariants.{ShiftLeft, ShiftRight, Concat, Extract, ZeroExtend, SignExtend, Choose}
use Rattle.sheet.specs.declared.kind.Kind.TheVariants.{True, False, Equal, AtMost, SignedAtMost, Not, And, Or, Exists, ForAll}
use Rattle.sheet.specs.declared.kind.Sort.{Sort}
use Rattle.sheet.specs.declared.kind.Sort.TheVariants as Sorts
use Rattle.sheet.specs.declared.kind.Need.{Need}
use Rattle.sheet.specs.declared.kind.Need.TheVariants as Needs
use Rattle.sheet.specs.declared.kind.Fit.{Fit}
use Rattle.sheet.specs.declared.kind.Fit.TheVariants as Fits
use Rattle.sheet.specs.declared.kind.Rule.{Rule}

abbrev pub number_of : Kind → ℕ
number_of Variable = 1
number_of Constant = 2
number_of BitNot = 3
number_of Negate = 4
number_of BitAnd = 5
number_of BitOr = 6
number_of BitXor = 7
number_of Add = 8
number_of Multiply = 9
number_of ShiftLeft = 10
number_of ShiftRight = 11
number_of Concat = 12
number_of Extract = 13
number_of ZeroExtend = 14
number_of SignExtend = 15
number_of Choose = 16
number_of True = 32
number_of False = 33
number_of Equal = 34
number_of AtMost = 35
number_of SignedAtMost = 36
number_of Not = 40
number_of And = 41
number_of Or = 42
number_of Exists = 48
number_of ForAll = 49

abbrev pub kind_as : Kind → Meaning.Kind
kind_as Variable = Meaning.Kind.variable
kind_as Constant = Meaning.constant
kind_as BitNot = Meaning.bit_not
kind_as Negate = Meaning.negate
kind_as BitAnd = Meaning.bit_and
kind_as BitOr = Meaning.bit_or
kind_as BitXor = Meaning.bit_xor
kind_as Add = Meaning.add
kind_as Multiply = Meaning.multiply
kind_as ShiftLeft = Meaning.shift_left
kind_as ShiftRight = Meaning.shift_right
kind_as Concat = Meaning.concat
kind_as Extract = Meaning.extract
kind_as ZeroExtend = Meaning.zero_extend
kind_as SignExtend = Meaning.sign_extend
kind_as Choose = Meaning.choose
kind_as True = Meaning.true
kind_as False = Meaning.false
kind_as Equal = Meaning.Kind.equal
kind_as AtMost = Meaning.unsigned
kind_as SignedAtMost = Meaning.signed
kind_as Not = Meaning.not
kind_as And = Meaning.and
kind_as Or = Meaning.or
kind_as Exists = Meaning.exists
kind_as ForAll = Meaning.forall

abbrev pub sort_as : Sort → Meaning.Sort
sort_as Sorts.Variable = Meaning.Sort.variable
sort_as Sorts.Term = Meaning.Sort.term
sort_as Sorts.Formula = Meaning.Sort.formula

abbrev pub need_as : Need → Meaning.Operand
need_as Needs.ATerm = Meaning.a_term
need_as Needs.AFormula = Meaning.a_formula
need_as Needs.AVariable = Meaning.a_variable

abbrev pub fit_as : Fit → Meaning.Widths
fit_as Fits.Any = Meaning.any
fit_as Fits.Below = Meaning.below
fit_as Fits.Equal = Meaning.Widths.equal
fit_as Fits.Sum = Meaning.sum
fit_as Fits.Span = Meaning.span
fit_as Fits.NoneWider = Meaning.none_wider
fit_as Fits.Alike = Meaning.alike

abbrev pub row_as : Kind → Rule → Meaning.Rule
row_as kind rule = record {
  number = number_of kind;
  kind = kind_as kind;
  sort = sort_as rule.sort;
  body = rule.body;
  operands = map need_as rule.operands.now;
  widths = fit_as rule.widths;
}

abbrev pub Decodes : ℕ → Option Kind → Type 0
Decodes number of = MatchOption of (rule_of number ≡ no_rule) (λ kind. number_of kind ≡ number)
