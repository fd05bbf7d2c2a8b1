-- Totals of units, by the figures that stand in their records as settling goes on. Those of a settled group are the
-- sums that Figures takes over the ledger.
use Rattle.std.specs.Prelude.{ℕ, ◌+◌, ◌*◌, ◌≤◌, Bool, true, cond, List, Some, None, Option, ◌==◌, slice_index_or}
use Rattle.allocation.specs.Groups.{sum_of}
use Rattle.settlement.specs.Support.{active_of}
use Rattle.table.specs.Rows.{new_unit}
use Rattle.table.specs.declared.records.UnitRecord.{UnitRecord}
use Rattle.settling.specs.Ledger.{adjustments_of, control_of}
use Rattle.settling.specs.declared.totals.Totals.{Totals}

-- The most that a unit can be paid: 2,000,000 kWh at the highest price, and any 32-bit number for each as transmission
-- saved. Sums over the units of both groups then fit 64 bits.
abbrev pub PaymentFits : UnitRecord → Type 0
PaymentFits u = u.figures.payment ≤ 8609934590000000

-- the totals of one unit
abbrev pub unit_totals : UnitRecord → Totals
unit_totals u = record {
  billed = u.figures.billed;
  paid = u.figures.payment;
  active = active_of (control_of u.reading);
  opportunity = (adjustments_of u.reading).opportunity;
  penalties = (adjustments_of u.reading).planning + (adjustments_of u.reading).cooperation;
}

-- a unit of the plant, or of any plant where none is named
abbrev pub counted : Option ℕ → UnitRecord → Bool
counted None u = true
counted (Some p) u = u.plant == p

abbrev pub no_totals : Totals
no_totals = record { billed = 0; paid = 0; active = 0; opportunity = 0; penalties = 0 }

-- the totals of one unit if it is counted, else none
abbrev pub counted_totals : Option ℕ → UnitRecord → Totals
counted_totals plant u = cond (counted plant u) (unit_totals u) no_totals

abbrev pub plus_totals : Totals → Totals → Totals
plus_totals a b = record {
  billed = a.billed + b.billed;
  paid = a.paid + b.paid;
  active = a.active + b.active;
  opportunity = a.opportunity + b.opportunity;
  penalties = a.penalties + b.penalties;
}

-- the totals of the first n units of a group, of one plant or of all
abbrev pub sum_totals : Option ℕ → List UnitRecord → ℕ → Totals
sum_totals plant units n = record {
  billed = sum_of n (λ i. (counted_totals plant (slice_index_or units i (new_unit 0 0 None 0 0))).billed);
  paid = sum_of n (λ i. (counted_totals plant (slice_index_or units i (new_unit 0 0 None 0 0))).paid);
  active = sum_of n (λ i. (counted_totals plant (slice_index_or units i (new_unit 0 0 None 0 0))).active);
  opportunity = sum_of n (λ i. (counted_totals plant (slice_index_or units i (new_unit 0 0 None 0 0))).opportunity);
  penalties = sum_of n (λ i. (counted_totals plant (slice_index_or units i (new_unit 0 0 None 0 0))).penalties);
}

-- totals of at most n units; active energy adds at most six 32-bit numbers for each
pub record AtMostOf (n : ℕ) (t : Totals) : Type 0 where
  pub billed : t.billed ≤ n * 25769803770
  pub paid : t.paid ≤ n * 8609934590000000
  pub active : t.active ≤ n * 25769803770
  pub opportunity : t.opportunity ≤ n * 25769803770
  pub penalties : t.penalties ≤ n * 25769803770

-- totals of one unit, and of the units of a group
abbrev pub Small : Totals → Type 0
Small t = AtMostOf 1 t

abbrev pub Fits : Totals → Type 0
Fits t = AtMostOf 128 t
