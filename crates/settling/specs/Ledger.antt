-- What settling looks at. A table gives a ledger, and so does the history of an hour's accepted calls.
use Rattle.table.specs.Places.{unit_at, plant_at, buyer_at}
use Rattle.std.specs.Prelude.{ℕ, ◌-◌, min, cond, List, get_or, take, Some, None, Option, ◌==◌}
use Rattle.settlement.specs.declared.readings.CompetitiveEnergies.{CompetitiveEnergies}
use Rattle.settlement.specs.declared.readings.Control.{Control}
use Rattle.table.specs.Rows.{UnitTable, new_plant}
use Rattle.table.specs.declared.records.Adjustments.{Adjustments}
use Rattle.table.specs.declared.records.Buyer.{Buyer}
use Rattle.table.specs.declared.records.Commitment.{Commitment}
use Rattle.table.specs.declared.records.Plant.{Plant}
use Rattle.table.specs.declared.records.Table.{Table}
use Rattle.table.specs.declared.records.UnitReading.{UnitReading}
use Rattle.table.specs.declared.records.UnitRecord.{UnitRecord}

-- a unit with what is known of it: its plant and that plant's loss, what was entered and allocated, and its reading
pub record UnitCase : Type 0 where
  pub plant : ℕ
  pub loss : ℕ
  pub internal : ℕ
  pub feeds : ℕ
  pub allocated : ℕ
  pub reading : Option UnitReading

-- a plant with what closing found
pub record PlantCase : Type 0 where
  pub loss : ℕ
  pub committed : ℕ
  pub allocated : ℕ
  pub run : ℕ

-- a buyer with its last accepted use, if there is one
pub record BuyerCase : Type 0 where
  pub loss : ℕ
  pub used : Option ℕ

-- The rows of an hour by their places, from 0, with how many there are. A group's units go by the group's number.
pub record Ledger : Type 0 where
  pub plants : ℕ
  pub plant : ℕ → PlantCase
  pub units : ℕ → ℕ
  pub unit : ℕ → ℕ → UnitCase
  pub buyers : ℕ
  pub buyer : ℕ → BuyerCase
  pub commitments : List Commitment

-- the energies, adjustments and control of a reading; a missing one counts as zeros
abbrev pub energies_of : Option UnitReading → CompetitiveEnergies
energies_of None = record { net = 0; accepted = 0; lost = 0; limited = 0; executed = 0; asked = 0 }
energies_of (Some r) = r.energies

abbrev pub adjustments_of : Option UnitReading → Adjustments
adjustments_of None = record { opportunity = 0; planning = 0; cooperation = 0 }
adjustments_of (Some r) = r.adjustments

abbrev pub control_of : Option UnitReading → Control
control_of None = record { p_act = 0; type2 = 0; type3 = 0; type5 = 0; type6 = 0; type8 = 0; day = 0; minute = 0 }
control_of (Some r) = r.control

-- the loss of the plant of a number, from 1; 0 where there is no row for it
abbrev pub loss_at : List Plant → ℕ → ℕ
loss_at plants number = (get_or plants (number - 1) (new_plant 0)).loss

-- a unit's record as settling looks at it, with its plant's loss
abbrev pub case_of : ℕ → UnitRecord → UnitCase
case_of loss u = record {
  plant = u.plant;
  loss = loss;
  internal = u.internal;
  feeds = u.feeds;
  allocated = u.figures.allocated;
  reading = u.reading;
}

-- the unit at a place of a group's table
abbrev pub case_at : List Plant → UnitTable → ℕ → UnitCase
case_at plants t i = case_of (loss_at plants (unit_at t i).plant) (unit_at t i)

-- the records of a plant and a buyer as settling looks at them
abbrev pub plant_case : Plant → PlantCase
plant_case p = record {
  loss = p.loss;
  committed = p.figures.committed;
  allocated = p.figures.allocated;
  run = p.figures.run;
}

abbrev pub buyer_case : Buyer → BuyerCase
buyer_case b = record { loss = b.loss; used = b.used }

-- the units of a group, by its number
abbrev pub table_of : ℕ → Table → UnitTable
table_of g t = cond (g == 1) t.competitive t.guaranteed

-- a table's ledger; a count past the table's room is read as its room
abbrev pub ledger_of : Table → Ledger
ledger_of t = record {
  plants = min t.plants.count 32;
  plant = λ i. plant_case (plant_at t i);
  units = λ g. min (table_of g t).count 128;
  unit = λ g i. case_at t.plants.rows (table_of g t) i;
  buyers = min t.buyers.count 64;
  buyer = λ i. buyer_case (buyer_at t i);
  commitments = take (min t.commitments.count 768) t.commitments.rows;
}
