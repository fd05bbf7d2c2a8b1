-- Entries: which row of the table of refusals turns one down, by what was entered before.
use Rattle.std.specs.Prelude.{ℕ, ◌+◌, ◌-◌, min, Bool, true, cond, ◌||◌, List, [], ◌∷◌, Some, None, Option, ◌==◌, nat_le, nat_lt, slice_index}
use Rattle.std.specs.Option.{unwrap_or}
use Rattle.table.specs.declared.entries.Entry.{Entry}
use Rattle.table.specs.declared.entries.Entry.TheVariants.{AddPlant, AddCompetitive, AddGuaranteed, Correct, PutAside, TakeBack, AddBuyer, Commit}
use Rattle.table.specs.declared.records.Commitment.{Commitment}
use Rattle.table.specs.declared.records.Table.{Table}
use Rattle.table.specs.declared.records.UnitRecord.{UnitRecord}
use Rattle.table.specs.declared.refusals.BookRefusal.{BookRefusal}
use Rattle.table.specs.declared.refusals.BookRefusal.TheVariants.{NoPlant, NoUnit, NoBuyer, Full, Percentage, Energy, Commitments, OutsideSet}

-- what the rows look at: how many of each are entered, and what each plant has sold
pub record View : Type 0 where
  pub plants : ℕ
  pub competitive : ℕ
  pub guaranteed : ℕ
  pub buyers : ℕ
  pub commitments : ℕ
  pub sold : ℕ → ℕ

-- no such number among `count`, from 1
abbrev pub lacks : ℕ → ℕ → Bool
lacks number count = number == 0 || nat_lt count number

-- the place of the row of a number, from 0, if there is one
abbrev pub row_place : ℕ → ℕ → Option ℕ
row_place number count = cond (lacks number count) None (Some (number - 1))

-- whether a group lacks a unit of that number; other groups than 1 and 2 have no units
abbrev pub lacks_unit : View → ℕ → ℕ → Bool
lacks_unit v group unit =
    cond (group == 1) (lacks unit v.competitive) (cond (group == 2) (lacks unit v.guaranteed) true)

-- what turns down a new competitive unit, and a new guaranteed one
abbrev pub competitive_rows : View → ℕ → ℕ → ℕ → Option BookRefusal
competitive_rows v plant declared internal =
    cond (lacks plant v.plants) (Some NoPlant)
    (cond (nat_le 128 v.competitive) (Some Full)
    (cond (nat_lt 2000 internal) (Some Percentage)
    (cond (nat_lt 2000000 declared) (Some Energy) None)))

abbrev pub guaranteed_rows : View → ℕ → ℕ → ℕ → ℕ → ℕ → Option BookRefusal
guaranteed_rows v plant declared seasonal internal feeds =
    cond (lacks plant v.plants) (Some NoPlant)
    (cond (nat_le 128 v.guaranteed) (Some Full)
    (cond (nat_lt 2000 internal) (Some Percentage)
    (cond (nat_lt 2000000 declared || nat_lt 2000000 seasonal) (Some Energy)
    (cond (nat_lt 1 feeds) (Some OutsideSet) None))))

-- a new unit in a group, with so many plants and so many units of the group before it
abbrev pub new_unit_rows : ℕ → ℕ → UnitRecord → Option BookRefusal
new_unit_rows plants units u =
    cond (lacks u.plant plants) (Some NoPlant)
    (cond (nat_le 128 units) (Some Full)
    (cond (nat_lt 2000 u.internal) (Some Percentage)
    (cond (nat_lt 2000000 u.declared || nat_lt 2000000 (unwrap_or u.seasonal 0)) (Some Energy)
    (cond (nat_lt 1 u.feeds) (Some OutsideSet) None))))

-- what turns down a commitment
abbrev pub commit_rows : View → ℕ → ℕ → ℕ → Option BookRefusal
commit_rows v plant buyer volume =
    cond (lacks plant v.plants) (Some NoPlant)
    (cond (lacks buyer v.buyers) (Some NoBuyer)
    (cond (nat_le 768 v.commitments) (Some Full)
    (cond (volume == 0 || nat_lt 20000000 volume) (Some Energy)
    (cond (nat_lt 20000000 (v.sold plant + volume)) (Some Commitments) None))))

-- what turns down one row more, where a table has room for so many
abbrev pub room_rows : ℕ → ℕ → Option BookRefusal
room_rows count room = cond (nat_le room count) (Some Full) None

-- what turns down a new plant or buyer, by its loss and the room for it
abbrev pub added_rows : ℕ → ℕ → ℕ → Option BookRefusal
added_rows count room loss = cond (nat_le room count) (Some Full) (cond (nat_lt 2000 loss) (Some Percentage) None)

-- what turns down a correction, a put aside and a take back
abbrev pub correct_rows : View → ℕ → ℕ → ℕ → Option BookRefusal
correct_rows v group unit declared =
    cond (lacks_unit v group unit) (Some NoUnit) (cond (nat_lt 2000000 declared) (Some Energy) None)

abbrev pub unit_rows : View → ℕ → ℕ → Option BookRefusal
unit_rows v group unit = cond (lacks_unit v group unit) (Some NoUnit) None

-- the rows for each entry, in their order
abbrev pub rows : View → Entry → Option BookRefusal
rows v (AddPlant loss) = added_rows v.plants 32 loss
rows v (AddCompetitive plant declared internal) = competitive_rows v plant declared internal
rows v (AddGuaranteed plant declared seasonal internal feeds) = guaranteed_rows v plant declared seasonal internal feeds
rows v (Correct group unit declared) = correct_rows v group unit declared
rows v (PutAside group unit) = unit_rows v group unit
rows v (TakeBack group unit) = unit_rows v group unit
rows v (AddBuyer loss) = added_rows v.buyers 64 loss
rows v (Commit plant buyer volume) = commit_rows v plant buyer volume

-- a commitment's volume if it names the plant, and the sum of these volumes
abbrev pub volume_of : ℕ → Commitment → ℕ
volume_of plant c = cond (c.plant == plant) c.volume 0

abbrev pub sold_by : ℕ → List Commitment → ℕ
sold_by plant [] = 0
sold_by plant (c ∷ cs) = volume_of plant c + sold_by plant cs

-- that sum as a table holds it, by the plant's number
abbrev pub sold_at : List ℕ → ℕ → ℕ
sold_at sold plant = cond (plant == 0) 0 (slice_index sold (plant - 1))

-- what the rows see of a table; a count past the table's room is read as its room
abbrev pub view_of : Table → View
view_of t = record {
  plants = min t.plants.count 32;
  competitive = min t.competitive.count 128;
  guaranteed = min t.guaranteed.count 128;
  buyers = min t.buyers.count 64;
  commitments = min t.commitments.count 768;
  sold = sold_at t.sold;
}
