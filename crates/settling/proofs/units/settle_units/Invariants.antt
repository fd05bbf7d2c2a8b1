use Rattle.std.proofs.Common.{◌≡◌, ℕ, ◌<◌, ◌≤◌, get_or, None}
use Rattle.table.specs.Rows.{new_unit}
use Rattle.settling.specs.Ledger.{loss_at}
use Rattle.settling.specs.Settled.{settled_unit}
use Rattle.settling.specs.Totals.{PaymentFits}
use Rattle.settling.proofs.units.settle_units.Given as goal

abbrev pub invariant-loop-place : goal.invariant-loop-place
invariant-loop-place g l =
    ((k : ℕ) → k < l.place → get_or l.units k (new_unit 0 0 None 0 0) ≡ settled_unit (g.P.Payer.payment l.payer k) (loss_at l.plants (get_or l.initial.units k (new_unit 0 0 None 0 0)).plant) (get_or l.initial.units k (new_unit 0 0 None 0 0)))
    × ((k : ℕ) → k < l.place → PaymentFits (get_or l.units k (new_unit 0 0 None 0 0)))
    × ((k : ℕ) → l.place ≤ k → get_or l.units k (new_unit 0 0 None 0 0) ≡ get_or l.initial.units k (new_unit 0 0 None 0 0))
