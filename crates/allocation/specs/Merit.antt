-- The merit order of a group's kWh, and the amounts that follow it.
use Rattle.std.specs.Prelude.{◌≡◌, ℕ, ◌<◌, ◌≤◌, min, ◌⊎◌}
use Rattle.allocation.specs.Groups.{Group, Within, total}

-- kWh k of unit i comes before kWh m of unit j: by price, then unit number, then place within the unit
abbrev pub Before : Group → ℕ → ℕ → ℕ → ℕ → Type 0
Before g i k j m =
    (g.price i k < g.price j m)
    ⊎ ((g.price i k ≡ g.price j m) × ((i < j) ⊎ ((i ≡ j) × (k < m))))

-- The amounts of a share in merit order: within the limits, as much of the share as the limits allow, and every kWh
-- that is taken comes before every kWh within the limits that is not.
pub record MeritOrder (g : Group) (share : ℕ) (amount : ℕ → ℕ) : Type 0 where
  pub within : Within g amount
  pub covered : total g amount ≡ min share (total g g.limit)
  pub order : (i k j m : ℕ) → i < g.units → j < g.units → 1 ≤ k → k ≤ amount i → amount j < m → m ≤ g.limit j → Before g i k j m
