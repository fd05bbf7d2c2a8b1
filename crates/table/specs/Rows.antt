-- The units of a group, new rows of the table, and changes of one row.
use Rattle.std.specs.Prelude.{ℕ, ◌+◌, ◌-◌, Bool, false, pos, Some, None, Option, slice_index_or, slice_set}
use Rattle.table.specs.declared.records.Buyer.{Buyer}
use Rattle.table.specs.declared.records.BuyerFigures.{BuyerFigures}
use Rattle.table.specs.declared.records.GuaranteedReading.{GuaranteedReading}
use Rattle.table.specs.declared.records.HourFigures.{HourFigures}
use Rattle.table.specs.declared.records.Plant.{Plant}
use Rattle.table.specs.declared.records.PlantFigures.{PlantFigures}
use Rattle.table.specs.declared.records.UnitFigures.{UnitFigures}
use Rattle.table.specs.declared.records.UnitReading.{UnitReading}
use Rattle.table.specs.declared.records.UnitRecord.{UnitRecord}
use Rattle.table.specs.declared.rows.Rows.{Rows}

-- the units of one group, over all plants
abbrev pub UnitTable : Type 0
UnitTable = Rows UnitRecord 128

-- the figures of a plant before closing
abbrev pub no_plant_figures : PlantFigures
no_plant_figures = record { committed = 0; allocated = 0; run = 0; support = 0; rate = 0; cost = 0 }

-- the figures of closing: what is not run support is allocated
abbrev pub closed_figures : ℕ → ℕ → PlantFigures
closed_figures committed run =
    record { committed = committed; allocated = committed - run; run = run; support = 0; rate = 0; cost = 0 }

-- the figures of a unit, the hour and a buyer that nothing has written
abbrev pub no_unit_figures : UnitFigures
no_unit_figures = record { allocated = 0; billed = 0; payment = 0 }

abbrev pub no_hour_figures : HourFigures
no_hour_figures = record { billed = 0; committed = 0; unassigned = 0 }

abbrev pub no_buyer_figures : BuyerFigures
no_buyer_figures = record { share = 0; net = pos 0 }

-- a plant, a unit and a buyer as they are entered: without readings and figures
abbrev pub new_plant : ℕ → Plant
new_plant loss = record { loss = loss; figures = no_plant_figures }

abbrev pub new_unit : ℕ → ℕ → Option ℕ → ℕ → ℕ → UnitRecord
new_unit plant declared seasonal internal feeds =
    record {
      plant = plant;
      declared = declared;
      seasonal = seasonal;
      internal = internal;
      feeds = feeds;
      aside = false;
      reading = None;
      figures = no_unit_figures;
    }

abbrev pub new_buyer : ℕ → Buyer
new_buyer loss = record { loss = loss; used = None; figures = no_buyer_figures }

-- a unit with another declared gross energy, and all else as it was
abbrev pub corrected : ℕ → UnitRecord → UnitRecord
corrected declared u =
    record {
      plant = u.plant;
      declared = declared;
      seasonal = u.seasonal;
      internal = u.internal;
      feeds = u.feeds;
      aside = u.aside;
      reading = u.reading;
      figures = u.figures;
    }

-- a unit put aside, or taken back
abbrev pub moved : Bool → UnitRecord → UnitRecord
moved aside u =
    record {
      plant = u.plant;
      declared = u.declared;
      seasonal = u.seasonal;
      internal = u.internal;
      feeds = u.feeds;
      aside = aside;
      reading = u.reading;
      figures = u.figures;
    }

-- a unit with a reading in place of an earlier one
abbrev pub with_reading : UnitReading → UnitRecord → UnitRecord
with_reading reading u =
    record {
      plant = u.plant;
      declared = u.declared;
      seasonal = u.seasonal;
      internal = u.internal;
      feeds = u.feeds;
      aside = u.aside;
      reading = Some reading;
      figures = u.figures;
    }

-- rows with one row more behind those that are entered
abbrev pub added : {T : Type 0} {N : ℕ} → T → Rows T N → Rows T N
added row t = record { count = t.count + 1; rows = slice_set t.rows t.count row }

-- a unit as a group's next one: what was read for its number stays
abbrev pub next_unit : UnitRecord → UnitTable → UnitRecord
next_unit u t = record u { reading = (slice_index_or t.rows t.count (new_unit 0 0 None 0 0)).reading }

-- a group's units with one more
abbrev pub added_unit : UnitRecord → UnitTable → UnitTable
added_unit u t = added (next_unit u t) t

-- a group's units with that of a number changed by f, and no other
abbrev pub changed : (UnitRecord → UnitRecord) → ℕ → UnitTable → UnitTable
changed f unit t =
    record {
      count = t.count;
      rows = slice_set t.rows (unit - 1) (f (slice_index_or t.rows (unit - 1) (new_unit 0 0 None 0 0)));
    }

-- a group's units with a reading of that of a number, and of no other
abbrev pub read_unit : UnitReading → ℕ → UnitTable → UnitTable
read_unit reading unit t = changed (with_reading reading) unit t

-- how a guaranteed unit's reading is kept: the energies and adjustments that it lacks are 0
abbrev pub kept_reading : GuaranteedReading → UnitReading
kept_reading r =
    record {
      energies = record { net = r.net; accepted = 0; lost = 0; limited = 0; executed = 0; asked = 0 };
      adjustments = record { opportunity = 0; planning = 0; cooperation = 0 };
      control = r.control;
    }

-- a buyer with a use in place of an earlier one
abbrev pub read_use : ℕ → Buyer → Buyer
read_use used b = record { loss = b.loss; used = Some used; figures = b.figures }
