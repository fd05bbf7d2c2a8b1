-- What a unit is paid: sums of prices over its kWh.
use Rattle.std.specs.Prelude.{ℕ, zero, suc, ◌+◌, ◌-◌, ◌*◌, min, max, cond, ◌==◌, nat_le}
use Rattle.curves.specs.Kinds.{modified_price, raised_price}
use Rattle.curves.specs.Limits.{read_energy, read_kwh}
use Rattle.settlement.specs.Reference.{at_reference, net_of, bill_of}
use Rattle.settlement.specs.declared.payments.PaidUnit.{PaidUnit}

-- what the kWh after kWh a cost, up to kWh b
unfoldable pub cost_between : (ℕ → ℕ) → ℕ → ℕ → ℕ
cost_between price a zero = 0
cost_between price a (suc b) = cost_between price a b + cond (nat_le (suc b) a) 0 (price (suc b))

-- the lesser of the costs by two curves, compared as wholes
abbrev pub lesser : (ℕ → ℕ) → (ℕ → ℕ) → ℕ → ℕ → ℕ
lesser one other a b = min (cost_between one a b) (cost_between other a b)

-- a unit's billed energy
abbrev pub billed : PaidUnit → ℕ
billed u = bill_of u.loss u.energies.net

-- accepted and lost energy
abbrev pub offered : PaidUnit → ℕ
offered u = u.energies.accepted + u.energies.lost

-- accepted and lost energy less what was made under a technical limit, not under 0
abbrev pub committed : PaidUnit → ℕ
committed u = offered u - u.energies.limited

-- kWh 1 to here are paid by the modified offer
abbrev pub first_part : PaidUnit → ℕ
first_part u = min (max (at_reference u.loss (committed u)) u.allocated) (billed u)

-- kWh up to here, past the first part, are paid by the lesser of cost curve and modified offer
abbrev pub second_part : PaidUnit → ℕ
second_part u =
    max (min (at_reference u.loss (offered u)) (billed u))
    (min u.energies.asked 1 * min (net_of u.internal u.loss u.energies.executed) (billed u))

-- the offer's prices modified by the allocated amount
abbrev pub modified : PaidUnit → (ℕ → ℕ) → ℕ → ℕ
modified u offer = modified_price u.allocated offer

-- the first part by the modified offer
abbrev pub sum_a : PaidUnit → (ℕ → ℕ) → ℕ
sum_a u offer = cost_between (modified u offer) 0 (first_part u)

-- the second part by the lesser of cost curve and modified offer
abbrev pub sum_b : PaidUnit → (ℕ → ℕ) → (ℕ → ℕ) → ℕ
sum_b u offer cost =
    cond (nat_le (second_part u) (first_part u)) 0 (lesser cost (modified u offer) (first_part u) (second_part u))

-- the rest of the billed energy: by the raised cost curve where the first part costs nothing, else at one price
abbrev pub sum_c : PaidUnit → (ℕ → ℕ) → (ℕ → ℕ) → ℕ → ℕ
sum_c u offer cost ceiling =
    cond (sum_a u offer == 0)
    (cost_between (raised_price ceiling cost) (max (first_part u) (second_part u)) (billed u))
    (cost_between (λ _. modified u offer (read_kwh (committed u))) (max (first_part u) (second_part u)) (billed u))

-- what a competitive unit is paid
abbrev pub competitive_payment : PaidUnit → (ℕ → ℕ) → (ℕ → ℕ) → ℕ → ℕ
competitive_payment u offer cost ceiling = sum_a u offer + sum_b u offer cost + sum_c u offer cost ceiling

-- a guaranteed unit: its offer's cost of the billed energy, and the transmission that it saves if it feeds the
-- distribution grid
abbrev pub guaranteed_payment : ℕ → (ℕ → ℕ) → ℕ → ℕ → ℕ
guaranteed_payment energy offer feeds saving =
    cost_between offer 0 (read_energy energy) + read_energy energy * min feeds 1 * saving
