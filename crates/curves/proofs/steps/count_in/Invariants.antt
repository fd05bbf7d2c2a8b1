use Rattle.std.proofs.Common.{◌≡◌, ℕ, ◌-◌, ◌<◌, ◌≤◌, drop}
use Rattle.curves.proofs.Walks.{rest}
use Rattle.curves.proofs.steps.count_in.Given as goal

abbrev pub invariant-loop-step : goal.invariant-loop-step
invariant-loop-step l =
    (l.done ≤ l.energy) × (l.energy ≤ 2000000) × (l.last ≤ l.price)
    × ((k : ℕ) → 1 ≤ k → k ≤ l.done → rest l.rises 0 l.steps k ≤ l.price)
    × ((m : ℕ) → l.done < m → rest l.rises 0 l.steps m ≡ rest l.rises l.last (drop l.step-index l.steps) (m - l.done))
