use Rattle.settling.specs.Figures.{pay_by}
use Rattle.settling.proofs.Wholes.{settled_whole}
use Rattle.settling.proofs.settling.settle.Goals as goal

pub returns : goal.returns
returns g c =
    let header = c.args.header.now in
    let pay = pay_by g.O.Curve.prices g.C.Curve.prices c.args.rows.now g.G.Curve.prices c.args.offers.now header in
    settled_whole header pay c.args.table.now c.settle_group.new.group c.settle_group-2.new.group c.settle_group.ensures.settled c.settle_group-2.ensures.settled c.settle_rest.new.table c.settle_rest.ensures
