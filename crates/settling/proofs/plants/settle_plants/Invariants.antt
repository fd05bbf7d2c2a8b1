use Rattle.std.proofs.Common.{◌≡◌, ℕ, ◌+◌, ◌<◌, ◌≤◌, get_or, Some}
use Rattle.table.specs.Rows.{new_plant}
use Rattle.settling.specs.Settled.{settled_plant}
use Rattle.settling.specs.Stages.{both_totals, figures_by}
use Rattle.settling.proofs.plants.settle_plants.Given as goal

abbrev pub invariant-loop-place : goal.invariant-loop-place
invariant-loop-place l =
    ((k : ℕ) → k < l.place → get_or l.plant-items k (new_plant 0) ≡ settled_plant (figures_by l.terms.header.now l.terms.money l.terms.over (get_or l.fn.plants.rows k (new_plant 0)) (both_totals (Some (k + 1)) l.units.competitive.now l.units.guaranteed.now)) (get_or l.fn.plants.rows k (new_plant 0)))
    × ((k : ℕ) → l.place ≤ k → k < l.entered → get_or l.plant-items k (new_plant 0) ≡ get_or l.fn.plants.rows k (new_plant 0))
