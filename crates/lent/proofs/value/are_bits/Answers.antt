-- `value::are_bits` meets its contract.
use Rattle.std.proofs.Common.{rules, tests}
use Rattle.std.proofs.lemmas.Iterator.{YieldsList-from_slice}
use Rattle.std.proofs.lemmas.Iterator.Search.{all_from_yields_List}
use mathlib.Core.Path.{◌∙◌}
use Rattle.lent.proofs.Laws.Value.{all_bits}
use Rattle.lent.proofs.value.are_bits.Goals as goal

pub returns : goal.returns
returns c =
    all_from_yields_List _ _ _ _ c.all.ensures.ran (YieldsList-from_slice c.args.a.now cc)
    (λ x b q k. search (rules, tests)) ∙ all_bits c.args.a.now
