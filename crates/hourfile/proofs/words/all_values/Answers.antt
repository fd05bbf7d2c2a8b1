use Rattle.std.proofs.Common.{◌∙◌, rules, tests}
use Rattle.std.proofs.lemmas.Iterator.{YieldsList-from_slice}
use Rattle.std.proofs.lemmas.Iterator.Search.{all_from_yields_List}
use Rattle.hourfile.proofs.Values.{all_read}
use Rattle.hourfile.specs.Words.{word, is_value}
use Rattle.hourfile.proofs.words.all_values.Goals as goal

pub returns : goal.returns
returns c =
    all_from_yields_List (λ w. is_value (word w)) _ _ c.all.result c.all.ensures.ran (YieldsList-from_slice c.args.values.now cc) (λ x b q k. search (rules, tests))
    ∙ all_read c.args.values.now
