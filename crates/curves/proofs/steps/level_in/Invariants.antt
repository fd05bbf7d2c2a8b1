use Rattle.std.proofs.Common.{◌≡◌, ℕ, ◌-◌, ◌<◌, ◌≤◌, drop}
use Rattle.curves.proofs.Walks.{rest}
use Rattle.curves.proofs.steps.level_in.Given as goal

abbrev pub invariant-loop-step : goal.invariant-loop-step
invariant-loop-step l =
    (l.start < l.at) × (l.at ≤ 2000000)
    × ((m : ℕ) → l.start < m → rest l.rises 0 l.steps m ≡ rest l.rises l.price (drop l.step-index l.steps) (m - l.start))
