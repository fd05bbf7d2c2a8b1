use Rattle.std.proofs.Common.{◌≡◌, ◌*◌, ◌≤◌}
use Rattle.allocation.specs.Groups.{sum_of}
use Rattle.allocation.specs.Units.{units_in}
use Rattle.allocation.specs.Supply.{up_to}
use Rattle.allocation.proofs.group.Units.supply_up_to.Given as goal

abbrev pub invariant-loop-place : goal.invariant-loop-place
invariant-loop-place g l =
    (l.supply ≡ sum_of l.place-index (up_to (units_in g.O.Curve.prices l.self) l.price))
    × (l.supply ≤ l.place-index * 2000000)
