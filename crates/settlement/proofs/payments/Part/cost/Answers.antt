use Rattle.std.proofs.Common.{arith}
use Rattle.curves.specs.Limits.{read_energy}
use Rattle.settlement.proofs.Sums.{cost_difference}
use Rattle.settlement.proofs.payments.Part.cost.Goals as goal

pub returns : goal.returns
returns g c =
    omega (arith, c.cost.ensures, c.cost-2.ensures, cost_difference (g.C.Curve.prices c.args.curve.now) (read_energy c.args.self.after) (read_energy c.args.self.to))
