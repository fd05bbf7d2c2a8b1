use Rattle.std.proofs.Common.{◌≡◌, ◌-◌, ◌≤◌}
use Rattle.curves.specs.Prices.{cost_of}
use Rattle.curves.proofs.traits.Curve.cost.Given as goal

abbrev pub invariant-loop-done : goal.invariant-loop-done
invariant-loop-done g l =
    (l.done ≤ l.energy) × (l.energy ≤ 2000000) × (l.total ≡ cost_of (g.Self.Curve.prices l.self) l.done)

abbrev pub decreases-loop-done : goal.decreases-loop-done
decreases-loop-done g l = l.energy - l.done
