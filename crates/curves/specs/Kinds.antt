-- The price of each kWh, kind by kind.
use Rattle.std.specs.Prelude.{ℕ, ◌*◌, ◌/◌, min, Bool, true, false, cond, nat_le}
use Rattle.curves.specs.Limits.{read_price}
use Rattle.curves.specs.Steps.{step_price, steps_of}
use Rattle.curves.specs.declared.tariff.Tariff.{Tariff}
use Rattle.curves.specs.declared.stepped.Stepped.{Stepped}

-- the two kinds of curves in steps
abbrev pub SteppedOffer : Type 0
SteppedOffer = Stepped 1

abbrev pub SteppedCost : Type 0
SteppedCost = Stepped 0

-- a curve in steps: the price by its steps; where prices rise, one under the one before it is read as that one
abbrev pub stepped_price : {n : ℕ} → Bool → Stepped n → ℕ → ℕ
stepped_price rises c = step_price (steps_of rises c.table)

-- a stepped offer: the price by its steps; one under the one before it is read as that one
abbrev pub stepped_offer_price : SteppedOffer → ℕ → ℕ
stepped_offer_price o = stepped_price true o

-- a stepped cost: the price by its steps
abbrev pub stepped_cost_price : SteppedCost → ℕ → ℕ
stepped_cost_price c = stepped_price false c

-- a tariff: its rate for every kWh
abbrev pub tariff_price : Tariff → ℕ → ℕ
tariff_price t k = read_price t.rate

-- the modified curve: nothing for the first `free` kWh, then what the curve below costs at that kWh
abbrev pub modified_price : ℕ → (ℕ → ℕ) → ℕ → ℕ
modified_price free below k = cond (nat_le k free) 0 (below k)

-- the raised curve: twelve tenths of the price below with the fraction dropped, at most the ceiling
abbrev pub raised_price : ℕ → (ℕ → ℕ) → ℕ → ℕ
raised_price ceiling below k = min (below k * 12 / 10) (read_price ceiling)
