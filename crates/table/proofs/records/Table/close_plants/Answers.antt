use Rattle.table.proofs.Steps.{close_step}
use Rattle.table.proofs.records.Table.close_plants.Goals as goal

pub loop-place-preserved : goal.loop-place-preserved
loop-place-preserved g c =
    close_step g.O.Curve.prices c.args.offers.now g.G.Curve.prices c.args.guaranteed.now c.loop-place.place c.args.self.now _ _
    c.loop-place.invariant c.close_plant.ensures c.close_plant.ensures.room
