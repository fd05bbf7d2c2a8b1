use Rattle.std.proofs.Common.{◌*◌, take, drop, ap, ◌∙◌}
use Rattle.hourfile.specs.Words.{words, value_at}
use Rattle.reader.proofs.Parts.{behind_four, front_part, back_part}
use Rattle.reader.proofs.units.unit_lists.Goals as goal

pub returns-clause-offer : goal.returns-clause-offer
returns-clause-offer c =
    let values = c.args.values.now in
    let n = value_at (words values) 3 in
    ap words c.split_at-2.ensures.front
    ∙ front_part c.split_at.result.1.now n c.min-2.result c.value_at.result c.min-2.ensures c.value_at.ensures
    ∙ ap (take (2 * n)) (ap words c.split_at.ensures.back ∙ behind_four values c.min.result c.min.ensures)

pub returns-clause-cost : goal.returns-clause-cost
returns-clause-cost c =
    let values = c.args.values.now in
    let n = value_at (words values) 3 in
    ap words c.split_at-2.ensures.back
    ∙ back_part c.split_at.result.1.now n c.min-2.result c.value_at.result c.min-2.ensures c.value_at.ensures
    ∙ ap (drop (2 * n)) (ap words c.split_at.ensures.back ∙ behind_four values c.min.result c.min.ensures)
