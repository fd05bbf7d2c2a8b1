use Rattle.std.proofs.Common.{nat_le, ◌&&◌, ◌∙◌, rules, tests}
use Rattle.std.proofs.lemmas.Iterator.{YieldsList-from_slice}
use Rattle.std.proofs.lemmas.Iterator.Search.{all_from_yields_List}
use Rattle.curves.proofs.Checks.{all_wide}
use Rattle.curves.proofs.steps.widths_fit.Goals as goal

pub returns : goal.returns
returns c =
    all_from_yields_List (λ s. nat_le 1 s.width && nat_le s.width 2000000) _ _ c.all.result c.all.ensures.ran (YieldsList-from_slice c.args.list.now cc) (λ x b q k. search (rules, tests))
    ∙ all_wide c.args.list.now
