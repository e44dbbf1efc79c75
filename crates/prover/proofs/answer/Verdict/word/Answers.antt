-- `word` gives the definition's word for each verdict.
use mathlib.Core.Path.{refl}
use Rattle.prover.proofs.answer.Verdict.word.Goals as goal

pub returns-in-Sat : goal.returns-in-Sat
returns-in-Sat c = rw c.in-Sat.is refl

pub returns-in-Unsat : goal.returns-in-Unsat
returns-in-Unsat c = rw c.in-Unsat.is refl

pub returns-in-Unknown : goal.returns-in-Unknown
returns-in-Unknown c = rw c.in-Unknown.is refl
