-- What settling leaves in the table.
use Rattle.table.specs.Places.{unit_at, plant_at, buyer_at}
use Rattle.std.specs.Prelude.{◌≡◌, ℕ, ◌+◌, ◌<◌, ◌≤◌, min, cond, List, length, ◌==◌}
use Rattle.allocation.specs.Groups.{sum_of}
use Rattle.settlement.specs.Fractions.{FallsShort}
use Rattle.settlement.specs.Support.{active_of}
use Rattle.table.specs.Closing.{SameUnits}
use Rattle.table.specs.Rows.{UnitTable}
use Rattle.table.specs.declared.records.Buyer.{Buyer}
use Rattle.table.specs.declared.records.BuyerFigures.{BuyerFigures}
use Rattle.table.specs.declared.records.HourFigures.{HourFigures}
use Rattle.table.specs.declared.records.Plant.{Plant}
use Rattle.table.specs.declared.records.PlantFigures.{PlantFigures}
use Rattle.table.specs.declared.records.Table.{Table}
use Rattle.table.specs.declared.records.UnitFigures.{UnitFigures}
use Rattle.table.specs.declared.records.UnitRecord.{UnitRecord}
use Rattle.settling.specs.Figures.{Pay, unit_figures, plant_figures, buyer_figures, hour_figures}
use Rattle.settling.specs.Ledger.{UnitCase, control_of, ledger_of, case_of, case_at}
use Rattle.settling.specs.declared.header.Header.{Header}

-- the rows of a table with other figures, and all else as it was
abbrev pub with_rows : List Plant → UnitTable → UnitTable → List Buyer → HourFigures → Table → Table
with_rows plants competitive guaranteed buyers figures t = record {
  plants = record { count = t.plants.count; rows = plants };
  competitive = competitive;
  guaranteed = guaranteed;
  buyers = record { count = t.buyers.count; rows = buyers };
  commitments = t.commitments;
  sold = t.sold;
  figures = figures;
}

-- a unit with other figures, and all else as it was
abbrev pub with_figures : UnitFigures → UnitRecord → UnitRecord
with_figures figures u = record {
  plant = u.plant;
  declared = u.declared;
  seasonal = u.seasonal;
  internal = u.internal;
  feeds = u.feeds;
  aside = u.aside;
  reading = u.reading;
  figures = figures;
}

-- a unit, a plant and a buyer with the figures of settling, and all else as it was
abbrev pub settled_unit : (UnitCase → ℕ) → ℕ → UnitRecord → UnitRecord
settled_unit pay loss u = with_figures (unit_figures (pay (case_of loss u)) (case_of loss u)) u

abbrev pub settled_plant : PlantFigures → Plant → Plant
settled_plant figures p = record { loss = p.loss; figures = figures }

abbrev pub settled_buyer : BuyerFigures → Buyer → Buyer
settled_buyer figures b = record { loss = b.loss; used = b.used; figures = figures }

-- A group's units have their figures. Those that are not entered, and what was entered and read, are as they were.
pub record GroupSettled (pay : ℕ → UnitCase → ℕ) (plants : List Plant) (before after : UnitTable) : Type 0 where
  pub same : SameUnits before after
  pub entered : (i : ℕ) → i < min before.count 128 → (unit_at after i).figures ≡ unit_figures (pay i (case_at plants before i)) (case_at plants before i)
  pub others : (i : ℕ) → min before.count 128 ≤ i → unit_at after i ≡ unit_at before i

-- the active energy of a plant's units in a group
abbrev pub active_of_group : ℕ → UnitTable → ℕ
active_of_group plant t =
    sum_of (min t.count 128) (λ i. cond ((unit_at t i).plant == plant) (active_of (control_of (unit_at t i).reading)) 0)

-- The support of the plant at a place: its run support, and what its allocated energy is over the active energy of its
-- units of both groups, whose sum is carried to the reference point at once.
pub record SupportIs (before : Table) (place support : ℕ) : Type 0 where
  pub day : ℕ
  pub both : support ≡ (plant_at before place).figures.run + day
  pub falls_short : FallsShort (plant_at before place).loss (plant_at before place).figures.allocated (active_of_group (place + 1) before.competitive + active_of_group (place + 1) before.guaranteed) day

-- Settling: every figure by the header, the ledger and the price rows. Nothing else changes.
pub record Settled (header : Header) (pay : Pay) (before after : Table) : Type 0 where
  pub competitive : GroupSettled (pay 1) before.plants.rows before.competitive after.competitive
  pub guaranteed : GroupSettled (pay 2) before.plants.rows before.guaranteed after.guaranteed
  pub plants : (i : ℕ) → i < (ledger_of before).plants → plant_at after i ≡ settled_plant (plant_figures header pay (ledger_of before) i) (plant_at before i)
  pub support : (i : ℕ) → i < min before.plants.count 32 → SupportIs before i (plant_at after i).figures.support
  pub plants_later : (i : ℕ) → (ledger_of before).plants ≤ i → plant_at after i ≡ plant_at before i
  pub plants_long : length after.plants.rows ≡ length before.plants.rows
  pub buyers : (i : ℕ) → i < (ledger_of before).buyers → buyer_at after i ≡ settled_buyer (buyer_figures (ledger_of before) i) (buyer_at before i)
  pub buyers_later : (i : ℕ) → (ledger_of before).buyers ≤ i → buyer_at after i ≡ buyer_at before i
  pub buyers_long : length after.buyers.rows ≡ length before.buyers.rows
  pub hour : after.figures ≡ hour_figures (ledger_of before)
  pub rest : after ≡ with_rows after.plants.rows after.competitive after.guaranteed after.buyers.rows after.figures before
