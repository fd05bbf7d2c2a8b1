use Rattle.std.proofs.Common.{◌≡◌, ℕ, ◌+◌, ◌*◌, ◌<◌, ◌≤◌, drop, get_or}
use Rattle.settling.specs.Figures.{bought_by}
use Rattle.settling.proofs.buyers.Sold.bought.Given as goal

abbrev pub invariant-loop-commitment : goal.invariant-loop-commitment
invariant-loop-commitment l =
    ((k : ℕ) → k < 64 → get_or l.bought k 0 + bought_by (k + 1) (drop l.commitment-index l.self.commitments.now) ≡ bought_by (k + 1) l.self.commitments.now)
    × ((k : ℕ) → k < 64 → get_or l.bought k 0 ≤ l.commitment-index * 4294967295)
