-- A plant's support: energy that it sold and didn't make, and what it costs.
use Rattle.std.specs.Prelude.{ℕ, ◌+◌, ◌-◌, ◌*◌, ◌/◌, min, max, Bool, cond, ◌&&◌, ◌||◌, ℤ, pos, negsuc, Some, None, Option, ◌==◌, nat_lt}
use Rattle.settlement.specs.Reference.{kept, at_reference}
use Rattle.settlement.specs.declared.readings.Control.{Control}

-- the maintenance mark is set: day 1, or day 2 with an exit minute of day 1 over 780
abbrev pub marked : ℕ → ℕ → Bool
marked day minute = day == 1 || (day == 2 && nat_lt 780 minute)

-- a unit's active energy: as reported, with its deviations, that of type 6 only where the mark is not set
abbrev pub active_of : Control → ℕ
active_of c = c.p_act + c.type2 + c.type3 + c.type5 + c.type8 + cond (marked c.day c.minute) 0 c.type6

-- day support: allocated energy less the plant's active energy at the reference point, not under 0
abbrev pub day_support : ℕ → ℕ → ℕ → ℕ
day_support loss allocated active = allocated - at_reference loss active

-- the quotient of money by energy, left out where the energy is not positive
abbrev pub quotient : ℕ → ℤ → Option ℕ
quotient money (pos e) = cond (e == 0) None (Some (money / e))
quotient money (negsuc e) = None

-- a negative sum of money is read as 0
abbrev pub read_money : ℤ → ℕ
read_money (pos n) = n
read_money (negsuc n) = 0

-- the greater of the quotients that are there, at most 1,000,000,000; where none is, the ceiling
abbrev pub greater : Option ℕ → Option ℕ → ℕ → ℕ
greater None None ceiling = ceiling
greater None (Some q) ceiling = min q 1000000000
greater (Some p) None ceiling = min p 1000000000
greater (Some p) (Some q) ceiling = min (max p q) 1000000000

-- a plant's rate: by its own payments and its energy over its allocation, or by the hour's money and energy over the
-- commitments
abbrev pub rate_of : ℕ → ℤ → ℤ → ℤ → ℕ → ℕ
rate_of payments over hour_money hour_over ceiling =
    greater (quotient payments over) (quotient (read_money hour_money) hour_over) ceiling

-- what a plant's support costs
abbrev pub support_cost : ℕ → ℕ → ℕ → ℕ → ℕ → ℕ → ℕ
support_cost loss run day rate cpf bar = (run + day) * rate + run * cpf * bar / kept loss
