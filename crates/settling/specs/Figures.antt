-- The figures of a settled hour: functions of its header, its ledger and the price rows.
use Rattle.std.specs.Prelude.{ℕ, zero, suc, ◌+◌, ◌-◌, ◌*◌, cond, List, [], ◌∷◌, ℤ, pos, ◌-ℤ◌, sum_by, ◌==◌}
use Rattle.std.specs.Option.{unwrap_or}
use Rattle.allocation.specs.Groups.{sum_of}
use Rattle.settlement.specs.Payments.{competitive_payment, guaranteed_payment}
use Rattle.settlement.specs.Reference.{bill_of}
use Rattle.settlement.specs.Shares.{running_share, weight_of}
use Rattle.settlement.specs.Support.{active_of, day_support, rate_of, support_cost}
use Rattle.settlement.specs.declared.payments.PaidUnit.{PaidUnit}
use Rattle.table.specs.declared.records.BuyerFigures.{BuyerFigures}
use Rattle.table.specs.declared.records.Commitment.{Commitment}
use Rattle.table.specs.declared.records.HourFigures.{HourFigures}
use Rattle.table.specs.declared.records.PlantFigures.{PlantFigures}
use Rattle.table.specs.declared.records.UnitFigures.{UnitFigures}
use Rattle.settling.specs.Ledger.{UnitCase, Ledger, energies_of, adjustments_of, control_of}
use Rattle.settling.specs.declared.header.Header.{Header}
use Rattle.settling.specs.declared.rows.PriceRow.{PriceRow}

-- a unit's billed energy
abbrev pub bill_in : UnitCase → ℕ
bill_in u = bill_of u.loss (energies_of u.reading).net

-- a competitive unit as its payment looks at it
abbrev pub paid_case : UnitCase → PaidUnit
paid_case u = record {
  loss = u.loss;
  internal = u.internal;
  allocated = u.allocated;
  energies = energies_of u.reading;
}

-- what a competitive unit is paid by the price row at its place; 0 where there is none
abbrev pub row_payment : {O C : Type 0} → (O → ℕ → ℕ) → (C → ℕ → ℕ) → ℕ → List (PriceRow O C) → ℕ → PaidUnit → ℕ
row_payment offer cost ceiling [] i u = 0
row_payment offer cost ceiling (r ∷ rs) zero u = competitive_payment u (offer r.offer) (cost r.cost) ceiling
row_payment offer cost ceiling (r ∷ rs) (suc i) u = row_payment offer cost ceiling rs i u

-- what a guaranteed unit is paid by the offer at its place; 0 where there is none
abbrev pub offer_payment : {G : Type 0} → (G → ℕ → ℕ) → ℕ → List G → ℕ → ℕ → ℕ → ℕ
offer_payment offer saving [] i billed feeds = 0
offer_payment offer saving (o ∷ os) zero billed feeds = guaranteed_payment billed (offer o) feeds saving
offer_payment offer saving (o ∷ os) (suc i) billed feeds = offer_payment offer saving os i billed feeds

-- What units are paid, by group and place: a function of the rows that settling is given.
abbrev pub Pay : Type 0
Pay = ℕ → ℕ → UnitCase → ℕ

-- what units are paid by the price rows of group 1, the offers of group 2, and the header's ceiling and saving
abbrev pub pay_by : {O C G : Type 0} → (O → ℕ → ℕ) → (C → ℕ → ℕ) → List (PriceRow O C) → (G → ℕ → ℕ) → List G → Header → Pay
pay_by offer cost rows guaranteed offers header g i u =
    cond (g == 1) (row_payment offer cost header.ceiling rows i (paid_case u))
    (offer_payment guaranteed header.saving offers i (bill_in u) u.feeds)

-- the sum of a figure over all units of both groups
abbrev pub sum_units : Ledger → (ℕ → ℕ → UnitCase → ℕ) → ℕ
sum_units a f = sum_of (a.units 1) (λ i. f 1 i (a.unit 1 i)) + sum_of (a.units 2) (λ i. f 2 i (a.unit 2 i))

-- a figure of units, counted as 0 for units of other plants
abbrev pub of_plant : ℕ → (ℕ → ℕ → UnitCase → ℕ) → ℕ → ℕ → UnitCase → ℕ
of_plant p f g i u = cond (u.plant == p) (f g i u) 0

-- the figures of a unit that are summed: billed and active energy, opportunity payment, both penalties
abbrev pub billed_unit : ℕ → ℕ → UnitCase → ℕ
billed_unit g i u = bill_in u

abbrev pub active_unit : ℕ → ℕ → UnitCase → ℕ
active_unit g i u = active_of (control_of u.reading)

abbrev pub opportunity_unit : ℕ → ℕ → UnitCase → ℕ
opportunity_unit g i u = (adjustments_of u.reading).opportunity

abbrev pub penalty_unit : ℕ → ℕ → UnitCase → ℕ
penalty_unit g i u = (adjustments_of u.reading).planning + (adjustments_of u.reading).cooperation

-- the sum of all commitments, and of those that name a buyer
abbrev pub volumes : List Commitment → ℕ
volumes cs = sum_by (λ (c : Commitment). c.volume) cs

abbrev pub bought_of : ℕ → Commitment → ℕ
bought_of buyer c = cond (c.buyer == buyer) c.volume 0

abbrev pub bought_by : ℕ → List Commitment → ℕ
bought_by buyer cs = sum_by (bought_of buyer) cs

-- the hour's money, in thousandths of a rial: all payments and opportunity payments, less the penalties
abbrev pub hour_money : Pay → Ledger → ℤ
hour_money pay a = pos (sum_units a pay + sum_units a opportunity_unit * 1000) -ℤ pos (sum_units a penalty_unit * 1000)

-- the hour's billed energy less its commitments
abbrev pub hour_over : Ledger → ℤ
hour_over a = pos (sum_units a billed_unit) -ℤ pos (volumes a.commitments)

-- Of the plant at a place, whose number is one more: the billed energy of its units less its allocated energy, its day
-- support, its rate, the cost of its support, and all its figures.
abbrev pub plant_over : Ledger → ℕ → ℤ
plant_over a i = pos (sum_units a (of_plant (i + 1) billed_unit)) -ℤ pos (a.plant i).allocated

abbrev pub day_in : Ledger → ℕ → ℕ
day_in a i = day_support (a.plant i).loss (a.plant i).allocated (sum_units a (of_plant (i + 1) active_unit))

abbrev pub rate_in : Header → Pay → Ledger → ℕ → ℕ
rate_in header pay a i =
    rate_of (sum_units a (of_plant (i + 1) pay)) (plant_over a i) (hour_money pay a) (hour_over a) header.ceiling

abbrev pub cost_in : Header → Pay → Ledger → ℕ → ℕ
cost_in header pay a i =
    support_cost (a.plant i).loss (a.plant i).run (day_in a i) (rate_in header pay a i) header.coefficient header.base

abbrev pub plant_figures : Header → Pay → Ledger → ℕ → PlantFigures
plant_figures header pay a i = record {
  committed = (a.plant i).committed;
  allocated = (a.plant i).allocated;
  run = (a.plant i).run;
  support = (a.plant i).run + day_in a i;
  rate = rate_in header pay a i;
  cost = cost_in header pay a i;
}

-- a unit's figures, by its payment
abbrev pub unit_figures : ℕ → UnitCase → UnitFigures
unit_figures payment u = record { allocated = u.allocated; billed = bill_in u; payment = payment }

-- the weight of the buyer at a place, and of all before a place
abbrev pub weight_in : Ledger → ℕ → ℕ
weight_in a b = weight_of (a.buyer b).loss (unwrap_or (a.buyer b).used 0)

abbrev pub weights_to : Ledger → ℕ → ℕ
weights_to a b = sum_of b (weight_in a)

-- what the buyers before a place have of the billed energy; a share is the difference of two of these
abbrev pub shares_to : Ledger → ℕ → ℕ
shares_to a b = running_share (sum_units a billed_unit) (weights_to a b) (weights_to a a.buyers)

abbrev pub share_in : Ledger → ℕ → ℕ
share_in a b = shares_to a (b + 1) - shares_to a b

abbrev pub net_in : Ledger → ℕ → ℤ
net_in a b = pos (share_in a b) -ℤ pos (bought_by (b + 1) a.commitments)

abbrev pub buyer_figures : Ledger → ℕ → BuyerFigures
buyer_figures a b = record { share = share_in a b; net = net_in a b }

abbrev pub unassigned_in : Ledger → ℕ
unassigned_in a = cond (weights_to a a.buyers == 0) (sum_units a billed_unit) 0

abbrev pub hour_figures : Ledger → HourFigures
hour_figures a = record {
  billed = sum_units a billed_unit;
  committed = volumes a.commitments;
  unassigned = unassigned_in a;
}
