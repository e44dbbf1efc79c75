-- `work` meets its contract: each arm knows its kind.
use Prim.Native.Nat.{◌%◌}
use native.Mathlib.Omega.{arith}
use mathlib.Core.Path.{◌≡◌, refl}
use mathlib.Core.Bool.{true, false}
use lib.ListN.{length}
use borrow.Author.Rules.{rules as search_rules}
use Rattle.meaning.specs.Kind.{rule_of, rules}
use Rattle.meaning.specs.BitVector.{shift_by}
use Rattle.meaning.specs.Step.{is_and, is_or}
use Rattle.meaning.specs.Row as Row
use Rattle.meaning.specs.Formula as Formula
use Rattle.meaning.specs.Run.{row_at, work_of}
use Rattle.term.proofs.Laws.Bitwise.{works_not, works_and, works_or, works_xor}
use Rattle.term.proofs.Laws.Levels.{table_function, and_table, or_table}
use Rattle.term.proofs.Laws.Moved.{constant_means, shift_left_means, shift_right_means, concat_means, extract_means}
use Rattle.term.proofs.Laws.Moved.{zero_extend_means, sign_extend_means}
use Rattle.formula.specs.Pair.{PairKnown}
use Rattle.entry.proofs.Laws.Entry.{given, own, wide, many, one_known, one_some, one_inside, shift_inside, span_order, span_inside}
use Rattle.entry.proofs.Laws.Entry.{two_known, two_own, two_alike, two_sum, choice_condition, choice_known, choice_own, terms_mean}
use Rattle.entry.proofs.Laws.Entry.{one_pair, two_pairs, bound_pair, one_addable, two_addable}
use Rattle.entry.proofs.Laws.Kinds.{row_kept, moved, one_enters, two_enter, choice_enters, leaf_enters, compared, negated, joined}
use Rattle.entry.proofs.Laws.Kinds.{chained, variable_enters}
use Rattle.entry.proofs.value.work.Goals as goal

pub constant-requires-in-Constant : goal.constant-requires-in-Constant
unfolding rule_of rules
constant-requires-in-Constant c = (wide (given c.args.entry c.in-Constant.is c.requires.operands) refl).1

pub work-requires-clause-known : goal.work-requires-clause-known
unfolding rule_of rules
work-requires-clause-known c =
    let known = one_known (given c.args.entry c.in-BitNot.is c.requires.operands) refl in
    (known, known)

pub negate-requires : goal.negate-requires
unfolding rule_of rules
negate-requires c =
    let addable = one_addable (given c.args.entry c.in-Negate.is c.requires.operands) c.requires.ready refl in
    record { addable = addable }

pub work-requires-in-BitAnd-clause-known : goal.work-requires-in-BitAnd-clause-known
unfolding rule_of rules
work-requires-in-BitAnd-clause-known c = two_known (given c.args.entry c.in-BitAnd.is c.requires.operands) refl

pub work-requires-in-BitAnd-clause-width : goal.work-requires-in-BitAnd-clause-width
unfolding rule_of rules
work-requires-in-BitAnd-clause-width c = two_own (given c.args.entry c.in-BitAnd.is c.requires.operands) refl refl

pub work-requires-in-BitOr-clause-known : goal.work-requires-in-BitOr-clause-known
unfolding rule_of rules
work-requires-in-BitOr-clause-known c = two_known (given c.args.entry c.in-BitOr.is c.requires.operands) refl

pub work-requires-in-BitOr-clause-width : goal.work-requires-in-BitOr-clause-width
unfolding rule_of rules
work-requires-in-BitOr-clause-width c = two_own (given c.args.entry c.in-BitOr.is c.requires.operands) refl refl

pub work-requires-in-BitXor-clause-known : goal.work-requires-in-BitXor-clause-known
unfolding rule_of rules
work-requires-in-BitXor-clause-known c = two_known (given c.args.entry c.in-BitXor.is c.requires.operands) refl

pub work-requires-in-BitXor-clause-width : goal.work-requires-in-BitXor-clause-width
unfolding rule_of rules
work-requires-in-BitXor-clause-width c = two_own (given c.args.entry c.in-BitXor.is c.requires.operands) refl refl

pub add-requires : goal.add-requires
unfolding rule_of rules
add-requires c =
    let addable = two_addable (given c.args.entry c.in-Add.is c.requires.operands) c.requires.ready refl refl in
    record { addable = addable }

pub multiply-requires : goal.multiply-requires
unfolding rule_of rules
multiply-requires c =
    let addable = two_addable (given c.args.entry c.in-Multiply.is c.requires.operands) c.requires.ready refl refl in
    record { addable = addable }

pub nonzero_rem-amount : goal.nonzero_rem-amount
unfolding rule_of rules
nonzero_rem-amount c = (wide (given c.args.entry c.in-ShiftLeft.is c.requires.operands) refl).0

pub shift_left-requires-clause-narrow : goal.shift_left-requires-clause-narrow
unfolding rule_of rules
shift_left-requires-clause-narrow c = (one_some (given c.args.entry c.in-ShiftLeft.is c.requires.operands) refl).1

pub shift_left-requires-clause-inside : goal.shift_left-requires-clause-inside
unfolding rule_of rules
shift_left-requires-clause-inside c =
    let held = given c.args.entry c.in-ShiftLeft.is c.requires.operands in
    shift_inside held refl c.amount.result refl refl

pub nonzero_rem-amount-in-ShiftRight : goal.nonzero_rem-amount-in-ShiftRight
unfolding rule_of rules
nonzero_rem-amount-in-ShiftRight c = (wide (given c.args.entry c.in-ShiftRight.is c.requires.operands) refl).0

pub shift_right-requires-clause-narrow : goal.shift_right-requires-clause-narrow
unfolding rule_of rules
shift_right-requires-clause-narrow c = (one_some (given c.args.entry c.in-ShiftRight.is c.requires.operands) refl).1

pub shift_right-requires-clause-inside : goal.shift_right-requires-clause-inside
unfolding rule_of rules
shift_right-requires-clause-inside c =
    let held = given c.args.entry c.in-ShiftRight.is c.requires.operands in
    shift_inside held refl c.amount-in-ShiftRight.result refl refl

pub concat-requires : goal.concat-requires
unfolding rule_of rules
concat-requires c = omega (arith, two_sum (given c.args.entry c.in-Concat.is c.requires.operands) refl refl refl)

pub extract-requires-clause-narrow : goal.extract-requires-clause-narrow
unfolding rule_of rules
extract-requires-clause-narrow c = (one_some (given c.args.entry c.in-Extract.is c.requires.operands) refl).1

pub extract-requires-clause-order : goal.extract-requires-clause-order
unfolding rule_of rules
extract-requires-clause-order c =
    let held = given c.args.entry c.in-Extract.is c.requires.operands in
    rw (c.upper.ensures.value, c.lower.ensures.value) (span_order held refl refl)

pub extract-requires-clause-inside : goal.extract-requires-clause-inside
unfolding rule_of rules
extract-requires-clause-inside c =
    let held = given c.args.entry c.in-Extract.is c.requires.operands in
    rw c.upper.ensures.value (span_inside held refl refl)

pub zero_extend-requires-clause-narrow : goal.zero_extend-requires-clause-narrow
unfolding rule_of rules
zero_extend-requires-clause-narrow c = (wide (given c.args.entry c.in-ZeroExtend.is c.requires.operands) refl).1

pub zero_extend-requires-clause-inside : goal.zero_extend-requires-clause-inside
unfolding rule_of rules
zero_extend-requires-clause-inside c = one_inside (given c.args.entry c.in-ZeroExtend.is c.requires.operands) refl refl

pub sign_extend-requires-clause-narrow : goal.sign_extend-requires-clause-narrow
unfolding rule_of rules
sign_extend-requires-clause-narrow c = (wide (given c.args.entry c.in-SignExtend.is c.requires.operands) refl).1

pub sign_extend-requires-clause-inside : goal.sign_extend-requires-clause-inside
unfolding rule_of rules
sign_extend-requires-clause-inside c = one_inside (given c.args.entry c.in-SignExtend.is c.requires.operands) refl refl

pub sign_extend-requires-clause-some : goal.sign_extend-requires-clause-some
unfolding rule_of rules
sign_extend-requires-clause-some c = (one_some (given c.args.entry c.in-SignExtend.is c.requires.operands) refl).0

pub work-requires-in-Choose-clause-condition : goal.work-requires-in-Choose-clause-condition
unfolding rule_of rules
work-requires-in-Choose-clause-condition c =
    let held = given c.args.entry c.in-Choose.is c.requires.operands in
    let known : PairKnown c.args.b c.pair_of-must.result = rw c.pair_of-must.ensures (choice_condition held refl) in
    (known.must, known.may)

pub work-requires-in-Choose-clause-known : goal.work-requires-in-Choose-clause-known
unfolding rule_of rules
work-requires-in-Choose-clause-known c =
    let known = choice_known (given c.args.entry c.in-Choose.is c.requires.operands) refl in
    let y = known.0 in
    let z = known.1 in
    search search_rules

pub work-requires-in-Choose-clause-width : goal.work-requires-in-Choose-clause-width
unfolding rule_of rules
work-requires-in-Choose-clause-width c =
    let held = given c.args.entry c.in-Choose.is c.requires.operands in
    omega (arith, choice_own held refl refl)

pub equal-requires-clause-known : goal.equal-requires-clause-known
unfolding rule_of rules
equal-requires-clause-known c = two_known (given c.args.entry c.in-Equal.is c.requires.operands) refl

pub equal-requires-clause-same_width : goal.equal-requires-clause-same_width
unfolding rule_of rules
equal-requires-clause-same_width c = two_alike (given c.args.entry c.in-Equal.is c.requires.operands) refl refl

pub at_most-requires-clause-known : goal.at_most-requires-clause-known
unfolding rule_of rules
at_most-requires-clause-known c = two_known (given c.args.entry c.in-AtMost.is c.requires.operands) refl

pub at_most-requires-clause-same_width : goal.at_most-requires-clause-same_width
unfolding rule_of rules
at_most-requires-clause-same_width c = two_alike (given c.args.entry c.in-AtMost.is c.requires.operands) refl refl

pub at_most-requires-in-SignedAtMost-clause-known : goal.at_most-requires-in-SignedAtMost-clause-known
unfolding rule_of rules
at_most-requires-in-SignedAtMost-clause-known c =
    let held = given c.args.entry c.in-SignedAtMost.is c.requires.operands in
    two_known held refl

pub at_most-requires-in-SignedAtMost-clause-same_width : goal.at_most-requires-in-SignedAtMost-clause-same_width
unfolding rule_of rules
at_most-requires-in-SignedAtMost-clause-same_width c =
    let held = given c.args.entry c.in-SignedAtMost.is c.requires.operands in
    two_alike held refl refl

pub negation-requires-clause-known : goal.negation-requires-clause-known
unfolding rule_of rules
negation-requires-clause-known c = rw c.pair_of.ensures (one_pair (given c.args.entry c.in-Not.is c.requires.operands) refl)

pub both-requires-clause-known : goal.both-requires-clause-known
unfolding rule_of rules
both-requires-clause-known c =
    let held = given c.args.entry c.in-And.is c.requires.operands in
    rw (c.pair_of-in-And.ensures, c.pair_of-in-And-2.ensures) (two_pairs held refl)

pub both-requires-in-Or-clause-known : goal.both-requires-in-Or-clause-known
unfolding rule_of rules
both-requires-in-Or-clause-known c =
    let held = given c.args.entry c.in-Or.is c.requires.operands in
    rw (c.pair_of-in-Or.ensures, c.pair_of-in-Or-2.ensures) (two_pairs held refl)

pub operand-requires : goal.operand-requires
unfolding rule_of rules
operand-requires c = omega (arith, many (given c.args.entry c.in-Exists.is c.requires.operands) refl)

pub quantified-requires-clause-known : goal.quantified-requires-clause-known
unfolding rule_of rules
quantified-requires-clause-known c =
    let held = given c.args.entry c.in-Exists.is c.requires.operands in
    rw c.pair_of-in-Exists.ensures (bound_pair held refl)

pub operand-requires-in-ForAll : goal.operand-requires-in-ForAll
unfolding rule_of rules
operand-requires-in-ForAll c = omega (arith, many (given c.args.entry c.in-ForAll.is c.requires.operands) refl)

pub quantified-requires-in-ForAll-clause-known : goal.quantified-requires-in-ForAll-clause-known
unfolding rule_of rules
quantified-requires-in-ForAll-clause-known c =
    let held = given c.args.entry c.in-ForAll.is c.requires.operands in
    rw c.pair_of-in-ForAll.ensures (bound_pair held refl)

pub returns-in-Variable : goal.returns-in-Variable
returns-in-Variable c before long meant =
    let held = given c.args.entry c.in-Variable.is c.requires.operands in
    variable_enters held _ _ before _ _ _ long c.variable.ensures

pub returns-in-Constant : goal.returns-in-Constant
unfolding work_of rule_of rules
returns-in-Constant c before long meant =
    let held = given c.args.entry c.in-Constant.is c.requires.operands in
    row_kept held _ _ before (Row.constant c.args.entry.width c.constant.result) _ _ refl
    (rw (c.args.entry.is_entry.width_is, c.constant.ensures) refl) c.requires.ready c.still.ensures
    (constant_means _ _ (wide held refl).1 (c.constant-in-Constant.ensures.width, c.constant-in-Constant.ensures.places))

pub returns-in-BitNot : goal.returns-in-BitNot
unfolding work_of rule_of rules
returns-in-BitNot c before long meant =
    let held = given c.args.entry c.in-BitNot.is c.requires.operands in
    one_enters held _ _ before meant _ _ _ Row.bit_not refl refl refl (λ n p le x. works_not _ _ _ le x x c.work.ensures)

pub returns-in-Negate : goal.returns-in-Negate
unfolding work_of rule_of rules
returns-in-Negate c before long meant =
    let held = given c.args.entry c.in-Negate.is c.requires.operands in
    one_enters held _ _ before meant _ _ _ (λ n. Row.negate n c.args.limit) refl refl refl c.negate.ensures

pub returns-in-BitAnd : goal.returns-in-BitAnd
unfolding work_of rule_of rules
returns-in-BitAnd c before long meant =
    let held = given c.args.entry c.in-BitAnd.is c.requires.operands in
    two_enter held _ _ before meant _ _ _ Row.bit_and refl refl refl
    (λ n p q le x y. works_and _ _ _ le x y c.work-in-BitAnd.ensures)

pub returns-in-BitOr : goal.returns-in-BitOr
unfolding work_of rule_of rules
returns-in-BitOr c before long meant =
    let held = given c.args.entry c.in-BitOr.is c.requires.operands in
    two_enter held _ _ before meant _ _ _ Row.bit_or refl refl refl
    (λ n p q le x y. works_or _ _ _ le x y c.work-in-BitOr.ensures)

pub returns-in-BitXor : goal.returns-in-BitXor
unfolding work_of rule_of rules
returns-in-BitXor c before long meant =
    let held = given c.args.entry c.in-BitXor.is c.requires.operands in
    two_enter held _ _ before meant _ _ _ Row.bit_xor refl refl refl
    (λ n p q le x y. works_xor _ _ _ le x y c.work-in-BitXor.ensures)

pub returns-in-Add : goal.returns-in-Add
unfolding work_of rule_of rules
returns-in-Add c before long meant =
    let held = given c.args.entry c.in-Add.is c.requires.operands in
    two_enter held _ _ before meant _ _ _ (λ n. Row.add n c.args.limit) refl refl refl
    c.add.ensures

pub returns-in-Multiply : goal.returns-in-Multiply
unfolding work_of rule_of rules
returns-in-Multiply c before long meant =
    let held = given c.args.entry c.in-Multiply.is c.requires.operands in
    two_enter held _ _ before meant _ _ _ (λ n. Row.multiply n c.args.limit) refl refl refl
    c.multiply.ensures

pub returns-in-ShiftLeft : goal.returns-in-ShiftLeft
unfolding work_of rule_of rules shift_by
returns-in-ShiftLeft c before long meant =
    let held = given c.args.entry c.in-ShiftLeft.is c.requires.operands in
    let whole : length c.args.v.x.bits ≡ 32 = search search_rules in
    moved held _ _ before meant (Row.shift_left (c.amount.result % c.args.entry.width)) _ _ refl refl
    (rw (c.args.entry.is_entry.width_is, c.amount.ensures.value) refl) c.requires.ready c.still-in-ShiftLeft.ensures
    (λ p m. shift_left_means m whole _ (shift_inside held refl _ refl refl)
    (c.shift_left.ensures.width, c.shift_left.ensures.places))

pub returns-in-ShiftRight : goal.returns-in-ShiftRight
unfolding work_of rule_of rules shift_by
returns-in-ShiftRight c before long meant =
    let held = given c.args.entry c.in-ShiftRight.is c.requires.operands in
    let whole : length c.args.v.x.bits ≡ 32 = search search_rules in
    moved held _ _ before meant (Row.shift_right (c.amount-in-ShiftRight.result % c.args.entry.width)) _ _ refl refl
    (rw (c.args.entry.is_entry.width_is, c.amount-in-ShiftRight.ensures.value) refl) c.requires.ready c.still-in-ShiftRight.ensures
    (λ p m. shift_right_means m whole _ (shift_inside held refl _ refl refl)
    (c.shift_right.ensures.width, c.shift_right.ensures.places))

pub returns-in-Concat : goal.returns-in-Concat
unfolding work_of rule_of rules
returns-in-Concat c before long meant =
    let held = given c.args.entry c.in-Concat.is c.requires.operands in
    let whole : length c.args.v.x.bits ≡ 32 = search search_rules in
    let whole_y : length c.args.v.y.bits ≡ 32 = search search_rules in
    let m = terms_mean held meant refl in
    row_kept held _ _ before (Row.concat (row_at before (own c.args.entry) 0) (row_at before (own c.args.entry) 1)) _ _ refl refl
    c.requires.ready c.still-in-Concat.ensures
    (concat_means m.0 m.1 whole whole_y (two_sum held refl refl refl) (c.concat.ensures.width, c.concat.ensures.places))

pub returns-in-Extract : goal.returns-in-Extract
unfolding work_of rule_of rules
returns-in-Extract c before long meant =
    let held = given c.args.entry c.in-Extract.is c.requires.operands in
    let whole : length c.args.v.x.bits ≡ 32 = search search_rules in
    moved held _ _ before meant (Row.extract c.upper.result c.lower.result) _ _ refl refl
    (rw (c.upper.ensures.value, c.lower.ensures.value) refl) c.requires.ready c.still-in-Extract.ensures
    (λ p m. extract_means m whole _ _ (rw (c.upper.ensures.value, c.lower.ensures.value) (span_order held refl refl))
    (rw c.upper.ensures.value (span_inside held refl refl)) (c.extract.ensures.width, c.extract.ensures.places))

pub returns-in-ZeroExtend : goal.returns-in-ZeroExtend
unfolding work_of rule_of rules
returns-in-ZeroExtend c before long meant =
    let held = given c.args.entry c.in-ZeroExtend.is c.requires.operands in
    let whole : length c.args.v.x.bits ≡ 32 = search search_rules in
    moved held _ _ before meant (Row.zero_extend c.args.entry.width) _ _ refl refl
    (rw c.args.entry.is_entry.width_is refl) c.requires.ready c.still-in-ZeroExtend.ensures
    (λ p m. zero_extend_means m whole _ (wide held refl).1 (one_inside held refl refl)
    (c.zero_extend.ensures.width, c.zero_extend.ensures.places))

pub returns-in-SignExtend : goal.returns-in-SignExtend
unfolding work_of rule_of rules
returns-in-SignExtend c before long meant =
    let held = given c.args.entry c.in-SignExtend.is c.requires.operands in
    let whole : length c.args.v.x.bits ≡ 32 = search search_rules in
    moved held _ _ before meant (Row.sign_extend c.args.entry.width) _ _ refl refl
    (rw c.args.entry.is_entry.width_is refl) c.requires.ready c.still-in-SignExtend.ensures
    (λ p m. sign_extend_means m whole _ (wide held refl).1 (one_inside held refl refl) (one_some held refl).0
    (c.sign_extend.ensures.width, c.sign_extend.ensures.places))

pub returns-in-Choose : goal.returns-in-Choose
unfolding work_of rule_of rules
returns-in-Choose c before long meant =
    let held = given c.args.entry c.in-Choose.is c.requires.operands in
    choice_enters held _ _ before meant _ _ _ _ c.pair_of-must.ensures
    refl refl refl c.work-in-Choose.ensures

pub returns-in-True : goal.returns-in-True
unfolding work_of rule_of rules
returns-in-True c before long meant =
    let held = given c.args.entry c.in-True.is c.requires.operands in
    leaf_enters held _ _ before true _ refl refl c.requires.ready (rw c.still-in-True.ensures at c.judged.ensures)

pub returns-in-False : goal.returns-in-False
unfolding work_of rule_of rules
returns-in-False c before long meant =
    let held = given c.args.entry c.in-False.is c.requires.operands in
    leaf_enters held _ _ before false _ refl refl c.requires.ready (rw c.still-in-False.ensures at c.judged-in-False.ensures)

pub returns-in-Equal : goal.returns-in-Equal
unfolding work_of rule_of rules
returns-in-Equal c before long meant =
    let held = given c.args.entry c.in-Equal.is c.requires.operands in
    compared held _ _ before meant _ _ _ _ c.judged-in-Equal.ensures refl
    Formula.equal refl refl c.equal.ensures

pub returns-in-AtMost : goal.returns-in-AtMost
unfolding work_of rule_of rules
returns-in-AtMost c before long meant =
    let held = given c.args.entry c.in-AtMost.is c.requires.operands in
    compared held _ _ before meant _ _ _ _ c.judged-in-AtMost.ensures refl
    (λ n. Formula.at_most n false) refl refl c.at_most.ensures

pub returns-in-SignedAtMost : goal.returns-in-SignedAtMost
unfolding work_of rule_of rules
returns-in-SignedAtMost c before long meant =
    let held = given c.args.entry c.in-SignedAtMost.is c.requires.operands in
    compared held _ _ before meant _ _ _ _ c.judged-in-SignedAtMost.ensures refl
    (λ n. Formula.at_most n true) refl refl c.at_most-in-SignedAtMost.ensures

pub returns-in-Not : goal.returns-in-Not
unfolding work_of rule_of rules
returns-in-Not c before long meant =
    let held = given c.args.entry c.in-Not.is c.requires.operands in
    negated held _ _ before meant _ _ _ _ c.judged-in-Not.ensures refl
    _ c.pair_of.ensures refl refl c.negation.ensures

pub returns-in-And : goal.returns-in-And
unfolding work_of rule_of rules
returns-in-And c before long meant =
    let held = given c.args.entry c.in-And.is c.requires.operands in
    joined held _ _ before meant _ _ _ _ c.judged-in-And.ensures refl
    192 is_and (table_function 192 is_and and_table) _ _ c.pair_of-in-And.ensures c.pair_of-in-And-2.ensures
    refl refl c.both.ensures

pub returns-in-Or : goal.returns-in-Or
unfolding work_of rule_of rules
returns-in-Or c before long meant =
    let held = given c.args.entry c.in-Or.is c.requires.operands in
    joined held _ _ before meant _ _ _ _ c.judged-in-Or.ensures refl
    252 is_or (table_function 252 is_or or_table) _ _ c.pair_of-in-Or.ensures c.pair_of-in-Or-2.ensures
    refl refl c.both-in-Or.ensures

pub returns-in-Exists : goal.returns-in-Exists
unfolding work_of rule_of rules
returns-in-Exists c before long meant =
    let held = given c.args.entry c.in-Exists.is c.requires.operands in
    chained held _ _ before meant _ _ _ _ c.judged-in-Exists.ensures refl
    false c.operand.result _ c.operand.ensures.sheet c.operand.ensures.index
    c.pair_of-in-Exists.ensures refl refl c.quantified.ensures

pub returns-in-ForAll : goal.returns-in-ForAll
unfolding work_of rule_of rules
returns-in-ForAll c before long meant =
    let held = given c.args.entry c.in-ForAll.is c.requires.operands in
    chained held _ _ before meant _ _ _ _ c.judged-in-ForAll.ensures refl
    true c.operand-in-ForAll.result _ c.operand-in-ForAll.ensures.sheet c.operand-in-ForAll.ensures.index
    c.pair_of-in-ForAll.ensures refl refl c.quantified-in-ForAll.ensures
