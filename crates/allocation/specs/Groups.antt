-- A contract group: its units' prices and limits, and what amounts of kWh for its units add up to and cost.
-- A unit goes by its place in the group, from 0.
use Rattle.std.specs.Prelude.{ℕ, zero, suc, ◌+◌, ◌<◌, ◌≤◌, min, List, [], ◌∷◌, length, slice_index}
use Rattle.curves.specs.Limits.{read_energy}
use Rattle.curves.specs.Prices.{cost_of}

pub record Group : Type 0 where
  -- how many units it has
  pub units : ℕ
  -- the price of each kWh of each unit
  pub price : ℕ → ℕ → ℕ
  -- each unit's limit, in kWh
  pub limit : ℕ → ℕ

-- the sum of f over the first n places
unfoldable pub sum_of : ℕ → (ℕ → ℕ) → ℕ
sum_of zero f = 0
sum_of (suc n) f = sum_of n f + f n

-- amounts within the units' limits
abbrev pub Within : Group → (ℕ → ℕ) → Type 0
Within g amount = (i : ℕ) → i < g.units → amount i ≤ g.limit i

-- the sum of the units' amounts
abbrev pub total : Group → (ℕ → ℕ) → ℕ
total g amount = sum_of g.units amount

-- what amounts cost together: the cost of each unit's kWh up to its amount
abbrev pub cost : Group → (ℕ → ℕ) → ℕ
cost g amount = sum_of g.units (λ i. cost_of (g.price i) (amount i))

-- the price of each kWh by the offer at place i, and 0 past the last offer
abbrev pub price_at : {O : Type 0} → (O → ℕ → ℕ) → List O → ℕ → ℕ → ℕ
price_at prices [] i k = 0
price_at prices (o ∷ os) zero k = prices o k
price_at prices (o ∷ os) (suc i) k = price_at prices os i k

-- the first n units of a row of offers and a row of limits; a limit over 2,000,000 is read as 2,000,000
abbrev pub units_of : {O : Type 0} → (O → ℕ → ℕ) → List O → List ℕ → ℕ → Group
units_of prices offers limits n = record {
  units = n;
  price = price_at prices offers;
  limit = λ i. read_energy (slice_index limits i);
}

-- the group that the rows stand for: at most 128 units, each with an offer, a limit and one of the places for amounts
abbrev pub group_of : {O : Type 0} → (O → ℕ → ℕ) → List O → List ℕ → ℕ → Group
group_of prices offers limits places =
    units_of prices offers limits (min (min (min (length offers) (length limits)) 128) places)

-- a row of amounts by the unit's place
abbrev pub amount_at : List ℕ → ℕ → ℕ
amount_at amounts i = slice_index amounts i

-- what a row of amounts costs by a row of offers; an amount over 2,000,000 is read as 2,000,000
abbrev pub row_cost : {O : Type 0} → (O → ℕ → ℕ) → List O → List ℕ → ℕ
row_cost prices offers amounts = cost (group_of prices offers amounts (length amounts)) (λ i. read_energy (amount_at amounts i))
