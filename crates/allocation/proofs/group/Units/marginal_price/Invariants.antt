use Rattle.std.proofs.Common.{ℕ, ◌-◌, ◌<◌, ◌≤◌, ◌⊎◌}
use Rattle.allocation.specs.Groups.{total}
use Rattle.allocation.specs.Units.{units_in}
use Rattle.allocation.specs.Supply.{up_to, NoneOver}
use Rattle.allocation.proofs.group.Units.marginal_price.Given as goal

abbrev pub invariant-loop-low : goal.invariant-loop-low
invariant-loop-low g l =
    let group = units_in g.O.Curve.prices l.self in
    (l.low ≤ l.high) × (l.high ≤ l.initial.high)
    × ((l.share ≤ total group (up_to group l.high)) ⊎ NoneOver group group.units l.high)
    × ((q : ℕ) → q < l.low → total group (up_to group q) < l.share)

abbrev pub decreases-loop-low : goal.decreases-loop-low
decreases-loop-low g l = l.high - l.low
