use Rattle.std.proofs.Common.{◌≡◌, arith}
use Rattle.allocation.specs.Units.{units_in}
use Rattle.allocation.proofs.Fills.{supply_rises}
use Rattle.allocation.proofs.group.Units.marginal_price.Goals as goal

pub loop-low-preserved : goal.loop-low-preserved
loop-low-preserved g c =
    let group = units_in g.O.Curve.prices c.args.self.now in
    let mid = c.midpoint-mid.result in (
      omega arith,
      omega arith,
      c.loop-low.invariant.2,
      λ q lt. omega (arith, supply_rises group group.units q mid (omega arith), c.supply_up_to.ensures),
    )

pub returns : goal.returns
returns g c =
    let same : c.loop-low.low ≡ c.loop-low.high = omega arith in
    record {
      enough = rw same c.loop-low.invariant.2;
      least = c.loop-low.invariant.3;
    }
