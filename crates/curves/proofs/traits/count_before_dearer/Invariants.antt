use Rattle.std.proofs.Common.{ℕ, ◌-◌, ◌≤◌}
use Rattle.curves.proofs.traits.count_before_dearer.Given as goal

abbrev pub invariant-loop-done : goal.invariant-loop-done
invariant-loop-done g l =
    (l.done ≤ l.energy) × (l.energy ≤ 2000000) × ((k : ℕ) → 1 ≤ k → k ≤ l.done → g.C.Curve.prices l.curve k ≤ l.price)

abbrev pub decreases-loop-done : goal.decreases-loop-done
decreases-loop-done g l = l.energy - l.done
