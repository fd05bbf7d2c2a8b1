use Rattle.std.proofs.Common.{rules, filter, ◌∙◌}
use borrow.Author.Tests.{tests}
use Rattle.std.proofs.lemmas.Iterator.{YieldsList-from_slice, YieldsList-from_map}
use Rattle.std.proofs.lemmas.Iterator.Consumers.{YieldsList-at, YieldsList-from_filter, sum_by_from_yields_List}
use Rattle.curves.specs.Limits.{read_energy}
use Rattle.table.specs.Closing.{counts}
use Rattle.table.specs.declared.records.UnitRecord.{UnitRecord}
use Rattle.table.proofs.Sold.{sum_filter}
use Rattle.table.proofs.closing.declared_by.Goals as goal

pub returns : goal.returns
returns c =
    let units = c.args.units.now in
    let counted = λ (u : UnitRecord). counts c.args.plant u in
    let energy = λ (u : UnitRecord). read_energy u.declared in
    sum_by_from_yields_List energy (filter counted units) c.map.result c.sum.result c.sum.ensures.ran
    (YieldsList-from_map _ energy (YieldsList-at c.map.ensures.source (YieldsList-from_filter _ counted (YieldsList-at c.filter.ensures.source (YieldsList-from_slice units (cc))) c.filter.ensures.closure (λ x r q k. search (rules, tests)))) c.map.ensures.closure (λ x r q k. search (rules, tests)))
    ∙ sum_filter energy counted units
