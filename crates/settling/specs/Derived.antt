-- The ledger of an hour by its accepted calls alone, and what holds of its net purchases. The amounts of units and the
-- run support of plants are what closing found.
use Rattle.table.specs.Places.{unit_at, plant_at}
use Rattle.std.specs.Prelude.{◌≡◌, ℕ, zero, suc, ◌+◌, ◌-◌, cond, List, ℤ, pos, ◌+ℤ◌, ◌-ℤ◌, Option, ◌==◌}
use Rattle.table.specs.History.{plants_in, loss_in, sold_in, units_in, unit_in, buyers_in, buyer_loss_in, commitments_of}
use Rattle.table.specs.Metered.{last_competitive, last_guaranteed, last_use}
use Rattle.table.specs.declared.entries.Entry.{Entry}
use Rattle.table.specs.declared.readings.Reading.{Reading}
use Rattle.table.specs.declared.records.Table.{Table}
use Rattle.table.specs.declared.records.UnitReading.{UnitReading}
use Rattle.settling.specs.Figures.{sum_units, billed_unit, volumes}
use Rattle.settling.specs.Ledger.{Ledger, table_of}

-- a unit's last accepted reading, by its group and number, if there is one
abbrev pub last_reading : ℕ → ℕ → List Reading → Option UnitReading
last_reading g number rs = cond (g == 1) (last_competitive number rs) (last_guaranteed number rs)

-- What closing found: the amount of each unit, by group and place, and the run support of each plant, by place.
pub record Found : Type 0 where
  pub amount : ℕ → ℕ → ℕ
  pub run : ℕ → ℕ

-- the ledger by the accepted entries and readings, and by what closing found
abbrev pub ledger_in : Found → List Entry → List Reading → Ledger
ledger_in found h rs = record {
  plants = plants_in h;
  plant = λ i. record {
    loss = loss_in (i + 1) h;
    committed = sold_in (i + 1) h;
    allocated = sold_in (i + 1) h - found.run i;
    run = found.run i;
  };
  units = λ g. units_in g h;
  unit = λ g i. record {
    plant = (unit_in g (i + 1) h).plant;
    loss = loss_in (unit_in g (i + 1) h).plant h;
    internal = (unit_in g (i + 1) h).internal;
    feeds = (unit_in g (i + 1) h).feeds;
    allocated = found.amount g i;
    reading = last_reading g (i + 1) rs;
  };
  buyers = buyers_in h;
  buyer = λ i. record { loss = buyer_loss_in (i + 1) h; used = last_use (i + 1) rs };
  commitments = commitments_of h;
}

-- the sum of integers over the first n places
unfoldable pub sum_z : ℕ → (ℕ → ℤ) → ℤ
sum_z zero f = pos 0
sum_z (suc n) f = sum_z n f +ℤ f n

-- all net purchases and the unassigned energy are the billed energy less all commitments
abbrev pub NetsAddUp : ℕ → (ℕ → ℤ) → ℕ → Ledger → Type 0
NetsAddUp buyers net unassigned a =
    sum_z buyers net +ℤ pos unassigned ≡ pos (sum_units a billed_unit) -ℤ pos (volumes a.commitments)

-- what closing found, as a table has it
abbrev pub found_in : Table → Found
found_in t = record {
  amount = λ g i. (unit_at (table_of g t) i).figures.allocated;
  run = λ i. (plant_at t i).figures.run;
}
