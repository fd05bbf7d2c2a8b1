use Rattle.std.proofs.Common.{◌≡◌, ◌≤◌}
use Rattle.comparing.proofs.comparisons.compare.Given as goal

abbrev pub invariant-loop : goal.invariant-loop
invariant-loop g l = (l.tally.compared ≡ l.counter) × (l.tally.differ ≤ l.counter) × (l.counter ≤ l.times)
