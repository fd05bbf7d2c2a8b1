use Rattle.std.proofs.Common.{sym, ◌∙◌, arith}
use Rattle.allocation.specs.Units.{units_in}
use Rattle.allocation.proofs.Fills.{supply_none, supply_less}
use Rattle.allocation.proofs.group.Units.supply_below.Goals as goal

pub returns-in_default : goal.returns-in_default
returns-in_default g c =
    let group = units_in g.O.Curve.prices c.args.self.now in
    sym (supply_none group group.units c.args.price (omega (arith, c.in_default.ensures)))

pub returns : goal.returns
returns g c =
    let group = units_in g.O.Curve.prices c.args.self.now in
    c.supply_up_to.ensures ∙ sym (supply_less group group.units c.args.price c.in-Some.under (omega (arith, c.in-Some.ensures)))
