-- Questions of a settled hour: figures by number, or which row of the table of refusals applies.
use Rattle.table.specs.Places.{unit_at, plant_at, buyer_at}
use Rattle.std.specs.Prelude.{ℕ, ◌-◌, min, Bool, cond, Ok, Err, Result, ◌==◌}
use Rattle.table.specs.Entries.{lacks}
use Rattle.table.specs.Rows.{UnitTable}
use Rattle.table.specs.declared.records.BuyerFigures.{BuyerFigures}
use Rattle.table.specs.declared.records.PlantFigures.{PlantFigures}
use Rattle.table.specs.declared.records.Table.{Table}
use Rattle.table.specs.declared.records.UnitFigures.{UnitFigures}
use Rattle.table.specs.declared.refusals.BookRefusal.{BookRefusal}
use Rattle.table.specs.declared.refusals.BookRefusal.TheVariants.{NoPlant, NoUnit, NoBuyer}

-- whether a number is none of the rows that are entered
abbrev pub lacks_row : ℕ → ℕ → ℕ → Bool
lacks_row number count room = lacks number (min count room)

-- the figures of a unit by its number in a group, and by its group and number
abbrev pub group_answer : ℕ → UnitTable → Result UnitFigures BookRefusal
group_answer number t = cond (lacks_row number t.count 128) (Err NoUnit) (Ok (unit_at t (number - 1)).figures)

abbrev pub unit_answer : ℕ → ℕ → Table → Result UnitFigures BookRefusal
unit_answer group number t =
    cond (group == 1) (group_answer number t.competitive) (cond (group == 2) (group_answer number t.guaranteed) (Err NoUnit))

-- the figures of a plant, and of a buyer, by number
abbrev pub plant_answer : ℕ → Table → Result PlantFigures BookRefusal
plant_answer number t =
    cond (lacks_row number t.plants.count 32) (Err NoPlant) (Ok (plant_at t (number - 1)).figures)

abbrev pub buyer_answer : ℕ → Table → Result BuyerFigures BookRefusal
buyer_answer number t =
    cond (lacks_row number t.buyers.count 64) (Err NoBuyer) (Ok (buyer_at t (number - 1)).figures)
