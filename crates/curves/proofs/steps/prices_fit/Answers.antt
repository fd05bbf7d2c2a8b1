use Rattle.std.proofs.Common.{nat_le, ◌∙◌, rules, tests}
use Rattle.std.proofs.lemmas.Iterator.{YieldsList-from_slice}
use Rattle.std.proofs.lemmas.Iterator.Search.{all_from_yields_List}
use Rattle.curves.proofs.Checks.{all_priced}
use Rattle.curves.proofs.steps.prices_fit.Goals as goal

pub returns : goal.returns
returns c =
    all_from_yields_List (λ s. nat_le s.price 10000000) _ _ c.all.result c.all.ensures.ran (YieldsList-from_slice c.args.list.now cc) (λ x b q k. search (rules, tests))
    ∙ all_priced c.args.list.now
