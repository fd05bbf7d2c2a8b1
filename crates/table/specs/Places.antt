-- The record at a place of a table, from 0; past the last one stands an empty record.
use Rattle.std.specs.Prelude.{ℕ, None, slice_index_or}
use Rattle.table.specs.Rows.{UnitTable, new_unit, new_plant, new_buyer}
use Rattle.table.specs.declared.records.Buyer.{Buyer}
use Rattle.table.specs.declared.records.Plant.{Plant}
use Rattle.table.specs.declared.records.Table.{Table}
use Rattle.table.specs.declared.records.UnitRecord.{UnitRecord}

-- the unit at a place of its group, a plant and a buyer
abbrev pub unit_at : UnitTable → ℕ → UnitRecord
unit_at t i = slice_index_or t.rows i (new_unit 0 0 None 0 0)

abbrev pub plant_at : Table → ℕ → Plant
plant_at t place = slice_index_or t.plants.rows place (new_plant 0)

abbrev pub buyer_at : Table → ℕ → Buyer
buyer_at t i = slice_index_or t.buyers.rows i (new_buyer 0)
