use Rattle.std.proofs.Common.{◌≡◌, ℕ, ◌+◌, ◌*◌, ◌<◌, ◌≤◌, get_or}
use Rattle.table.specs.Rows.{new_buyer}
use Rattle.settling.specs.Figures.{bought_by}
use Rattle.settling.specs.Settled.{settled_buyer}
use Rattle.settling.specs.Stages.{weights_of, buyer_figures_by}
use Rattle.settling.proofs.buyers.settle_buyers.Given as goal

abbrev pub invariant-loop-place : goal.invariant-loop-place
invariant-loop-place l =
    ((k : ℕ) → k < l.place → get_or l.buyer-items k (new_buyer 0) ≡ settled_buyer (buyer_figures_by l.shares.billed (weights_of k l.fn.buyers.rows) (weights_of (k + 1) l.fn.buyers.rows) l.shares.weights (bought_by (k + 1) l.sold.commitments.now)) (get_or l.fn.buyers.rows k (new_buyer 0)))
    × ((k : ℕ) → l.place ≤ k → k < l.entered → get_or l.buyer-items k (new_buyer 0) ≡ get_or l.fn.buyers.rows k (new_buyer 0))
    × (l.before ≡ weights_of l.place l.fn.buyers.rows)
    × (l.before ≤ l.place * 5153960754)
