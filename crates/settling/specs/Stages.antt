-- The figures of plants, buyers and the hour a second time, as settling goes on: by what stands in the records when
-- they are written. They are proved to be those of the ledger, in Figures.
use Rattle.table.specs.Places.{unit_at, plant_at, buyer_at}
use Rattle.std.specs.Prelude.{◌≡◌, ℕ, ◌+◌, ◌-◌, ◌*◌, ◌<◌, ◌≤◌, min, cond, List, length, take, ℤ, pos, ◌-ℤ◌, Some, None, Option, ◌==◌, slice_index_or}
use Rattle.std.specs.Option.{unwrap_or}
use Rattle.allocation.specs.Groups.{sum_of}
use Rattle.settlement.specs.Shares.{running_share, weight_of}
use Rattle.settlement.specs.Support.{day_support, rate_of, support_cost}
use Rattle.table.specs.Rows.{UnitTable, new_buyer}
use Rattle.table.specs.declared.records.Buyer.{Buyer}
use Rattle.table.specs.declared.records.BuyerFigures.{BuyerFigures}
use Rattle.table.specs.declared.records.Commitment.{Commitment}
use Rattle.table.specs.declared.records.HourFigures.{HourFigures}
use Rattle.table.specs.declared.records.Plant.{Plant}
use Rattle.table.specs.declared.records.PlantFigures.{PlantFigures}
use Rattle.table.specs.declared.records.Table.{Table}
use Rattle.settling.specs.Figures.{volumes, bought_by}
use Rattle.settling.specs.Settled.{with_rows, settled_plant, settled_buyer}
use Rattle.settling.specs.Totals.{PaymentFits, plus_totals, sum_totals}
use Rattle.settling.specs.declared.header.Header.{Header}
use Rattle.settling.specs.declared.totals.Totals.{Totals}

-- the totals of a group, and of both groups, of one plant or of all
abbrev pub group_totals : Option ℕ → UnitTable → Totals
group_totals plant t = sum_totals plant t.rows (min t.count 128)

abbrev pub both_totals : Option ℕ → UnitTable → UnitTable → Totals
both_totals plant competitive guaranteed = plus_totals (group_totals plant competitive) (group_totals plant guaranteed)

-- no unit of a group that is entered is paid more than a unit can be
abbrev pub PaidWithin : UnitTable → Type 0
PaidWithin t = (i : ℕ) → i < min t.count 128 → PaymentFits (unit_at t i)

-- a plant's day support, its rate and all its figures, by the totals of its units
abbrev pub day_of : Plant → Totals → ℕ
day_of p totals = day_support p.loss p.figures.allocated totals.active

abbrev pub rate_by : ℕ → ℤ → ℤ → Plant → Totals → ℕ
rate_by ceiling money over p totals =
    rate_of totals.paid (pos totals.billed -ℤ pos p.figures.allocated) money over ceiling

abbrev pub figures_by : Header → ℤ → ℤ → Plant → Totals → PlantFigures
figures_by header money over p totals = record {
  committed = p.figures.committed;
  allocated = p.figures.allocated;
  run = p.figures.run;
  support = p.figures.run + day_of p totals;
  rate = rate_by header.ceiling money over p totals;
  cost = support_cost p.loss p.figures.run (day_of p totals) (rate_by header.ceiling money over p totals) header.coefficient header.base;
}

-- a buyer's weight, and the sum of the first n buyers' weights
abbrev pub buyer_weight : Buyer → ℕ
buyer_weight b = weight_of b.loss (unwrap_or b.used 0)

abbrev pub weights_of : ℕ → List Buyer → ℕ
weights_of n buyers = sum_of n (λ i. buyer_weight (slice_index_or buyers i (new_buyer 0)))

-- a buyer's share and its figures, by the sum of the weights before it and that with its own
abbrev pub share_of : ℕ → ℕ → ℕ → ℕ → ℕ
share_of billed before upto total = running_share billed upto total - running_share billed before total

abbrev pub buyer_figures_by : ℕ → ℕ → ℕ → ℕ → ℕ → BuyerFigures
buyer_figures_by billed before upto total bought = record {
  share = share_of billed before upto total;
  net = pos (share_of billed before upto total) -ℤ pos bought;
}

-- the hour's money, by the totals of all units
abbrev pub money_of : Totals → ℤ
money_of totals = pos (totals.paid + totals.opportunity * 1000) -ℤ pos (totals.penalties * 1000)

-- the hour's figures, by all billed energy, all commitments and all weights
abbrev pub hour_by : ℕ → ℕ → ℕ → HourFigures
hour_by billed committed weights = record {
  billed = billed;
  committed = committed;
  unassigned = cond (weights == 0) billed 0;
}

-- the commitments that are entered
abbrev pub sold_of : Table → List Commitment
sold_of t = take (min t.commitments.count 768) t.commitments.rows

-- After the units the plants, the buyers and the hour are settled, by the figures that stand in the units' records.
pub record RestSettled (header : Header) (before after : Table) : Type 0 where
  pub plants : (i : ℕ) → i < min before.plants.count 32 → plant_at after i ≡ settled_plant (figures_by header (money_of (both_totals None before.competitive before.guaranteed)) (pos (both_totals None before.competitive before.guaranteed).billed -ℤ pos (volumes (sold_of before))) (plant_at before i) (both_totals (Some (i + 1)) before.competitive before.guaranteed)) (plant_at before i)
  pub plants_later : (i : ℕ) → min before.plants.count 32 ≤ i → plant_at after i ≡ plant_at before i
  pub plants_long : length after.plants.rows ≡ length before.plants.rows
  pub buyers : (i : ℕ) → i < min before.buyers.count 64 → buyer_at after i ≡ settled_buyer (buyer_figures_by (both_totals None before.competitive before.guaranteed).billed (weights_of i before.buyers.rows) (weights_of (i + 1) before.buyers.rows) (weights_of (min before.buyers.count 64) before.buyers.rows) (bought_by (i + 1) (sold_of before))) (buyer_at before i)
  pub buyers_later : (i : ℕ) → min before.buyers.count 64 ≤ i → buyer_at after i ≡ buyer_at before i
  pub buyers_long : length after.buyers.rows ≡ length before.buyers.rows
  pub hour : after.figures ≡ hour_by (both_totals None before.competitive before.guaranteed).billed (volumes (sold_of before)) (weights_of (min before.buyers.count 64) before.buyers.rows)
  pub rest : after ≡ with_rows after.plants.rows before.competitive before.guaranteed after.buyers.rows after.figures before
