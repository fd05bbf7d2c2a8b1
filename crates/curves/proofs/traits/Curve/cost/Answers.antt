use Rattle.std.proofs.Common.{◌≡◌, suc, ◌+◌, min, max, refl, arith}
use Rattle.curves.specs.Prices.{cost_of}
use Rattle.curves.proofs.Costs.{cost_step, cost_bound}
use Rattle.curves.proofs.traits.Curve.cost.Goals as goal

pub loop-done-init : goal.loop-done-init
unfolding cost_of
loop-done-init g c = (omega arith, omega arith, refl)

pub overflow_add-total : goal.overflow_add-total
overflow_add-total g c =
    let price = g.Self.Curve.prices c.args.self.now in
    let next : max 1 (min (c.loop-done.done + 1) 2000000) ≡ suc c.loop-done.done = omega arith in
    let step = cost_step price _ _ _ _ _ _ _ next c.loop-done-test.true c.loop-done.invariant.2 c.price-price.ensures c.stretch_end.ensures c.min-end.ensures in
    omega (arith, step, cost_bound price 10000000 (g.met.Self.Curve.bounded c.args.self.now) c.min-end.result)

pub loop-done-preserved : goal.loop-done-preserved
loop-done-preserved g c =
    let price = g.Self.Curve.prices c.args.self.now in
    let next : max 1 (min (c.loop-done.done + 1) 2000000) ≡ suc c.loop-done.done = omega arith in
    (omega arith, omega arith, cost_step price _ _ _ _ _ _ _ next c.loop-done-test.true c.loop-done.invariant.2 c.price-price.ensures c.stretch_end.ensures c.min-end.ensures)
