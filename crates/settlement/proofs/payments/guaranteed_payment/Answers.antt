use Rattle.std.proofs.Common.{◌*◌, ap, arith}
use Rattle.curves.specs.Limits.{read_energy}
use Rattle.curves.proofs.Costs.{cost_le}
use Rattle.settlement.proofs.Quotients.{saved_le}
use Rattle.settlement.proofs.Sums.{from_start}
use Rattle.settlement.proofs.payments.guaranteed_payment.Goals as goal

pub overflow_add-result : goal.overflow_add-result
overflow_add-result g c =
    let price = g.O.Curve.prices c.args.offer.now in
    let energy = read_energy c.args.bill in
    omega (
      arith,
      c.cost.ensures,
      cost_le price (g.met.O.Curve.bounded c.args.offer.now) energy (omega arith),
      saved_le c.min.result c.min-2.result c.args.saving (omega arith) (omega arith) (omega arith),
    )

pub returns : goal.returns
returns g c =
    let price = g.O.Curve.prices c.args.offer.now in
    let energy = read_energy c.args.bill in
    record {
      value = omega (
        arith,
        c.cost.ensures,
        from_start price energy,
        ap (λ x. x * c.min-2.result * c.args.saving) c.min.ensures,
        ap (λ x. energy * x * c.args.saving) c.min-2.ensures,
      );
      bound = omega (
        arith,
        c.cost.ensures,
        cost_le price (g.met.O.Curve.bounded c.args.offer.now) energy (omega arith),
        saved_le c.min.result c.min-2.result c.args.saving (omega arith) (omega arith) (omega arith),
      );
    }
