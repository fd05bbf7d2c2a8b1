use Rattle.allocation.specs.Units.{units_in}
use Rattle.allocation.specs.Supply.{NoneOver}
use Rattle.allocation.proofs.group.Units.dearest.Given as goal

abbrev pub invariant-loop-place : goal.invariant-loop-place
invariant-loop-place g l = NoneOver (units_in g.O.Curve.prices l.self) l.place-index l.dearest
