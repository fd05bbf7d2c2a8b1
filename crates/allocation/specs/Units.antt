-- A group's units in memory. Its busy units, those with a limit above 0, are a group too.
use Rattle.std.specs.Prelude.{◌≡◌, ℕ, ◌<◌, slice_index}
use Rattle.allocation.specs.Groups.{Group, sum_of, units_of}
use Rattle.allocation.specs.declared.group.Units.{Units}

-- the units at `count` places of a group, as a group
abbrev pub part_of : Group → ℕ → (ℕ → ℕ) → Group
part_of g count place = record {
  units = count;
  price = λ i. g.price (place i);
  limit = λ i. g.limit (place i);
}

-- the place of each busy unit
abbrev pub place_in : {O : Type 0} → Units O → ℕ → ℕ
place_in u i = slice_index u.busy i

-- the busy units, as a group
abbrev pub units_in : {O : Type 0} → (O → ℕ → ℕ) → Units O → Group
units_in prices u = part_of (units_of prices u.offers.now u.limits.now u.count) u.count (place_in u)

-- Of n units those with a limit above 0 stand at `count` places, in the units' order. A sum over all units to which the
-- others add nothing is that over the busy units.
pub record BusyPlaces (limit : ℕ → ℕ) (n count : ℕ) (place : ℕ → ℕ) : Type 0 where
  pub inside : (i : ℕ) → i < count → place i < n
  pub rises : (i j : ℕ) → i < j → j < count → place i < place j
  pub busy : (i : ℕ) → i < count → 0 < limit (place i)
  pub found : (j : ℕ) → j < n → 0 < limit j → (i : ℕ) × (i < count) × (place i ≡ j)
  pub sum : (f : ℕ → ℕ) → ((j : ℕ) → j < n → limit j ≡ 0 → f j ≡ 0) → sum_of n f ≡ sum_of count (λ i. f (place i))
