-- Readings of a closed hour: which row of the table of refusals turns one down, what it answers and what it changes.
use Rattle.table.specs.Places.{buyer_at}
use Rattle.std.specs.Prelude.{ℕ, ◌+◌, ◌-◌, max, Bool, cond, ◌||◌, List, Some, None, Ok, Err, Option, Result, nat_lt, slice_set}
use Rattle.settlement.specs.declared.readings.CompetitiveEnergies.{CompetitiveEnergies}
use Rattle.settlement.specs.declared.readings.Control.{Control}
use Rattle.table.specs.Entries.{View, view_of, lacks}
use Rattle.table.specs.Effects.{unless, after_calls, with_competitive, with_guaranteed, with_buyers}
use Rattle.table.specs.Rows.{read_unit, kept_reading, read_use}
use Rattle.table.specs.declared.readings.Reading.{Reading}
use Rattle.table.specs.declared.readings.Reading.TheVariants.{Competitive, Guaranteed, Use}
use Rattle.table.specs.declared.records.Adjustments.{Adjustments}
use Rattle.table.specs.declared.records.UnitReading.{UnitReading}
use Rattle.table.specs.declared.records.GuaranteedReading.{GuaranteedReading}
use Rattle.table.specs.declared.records.Table.{Table}
use Rattle.table.specs.declared.refusals.BookRefusal.{BookRefusal}
use Rattle.table.specs.declared.refusals.BookRefusal.TheVariants.{NoUnit, NoBuyer, Energy, Price, OutsideSet, Limited}

-- the greatest of a unit's energies, of those that its control reports, and of its adjustments
abbrev pub greatest_energy : CompetitiveEnergies → ℕ
greatest_energy e = max (max (max (max e.net e.accepted) e.lost) e.limited) e.executed

abbrev pub greatest_control : Control → ℕ
greatest_control c = max (max (max (max (max c.p_act c.type2) c.type3) c.type5) c.type6) c.type8

abbrev pub greatest_adjustment : Adjustments → ℕ
greatest_adjustment a = max (max a.opportunity a.planning) a.cooperation

-- a maintenance day is from 0 to 400, an exit minute from 0 to 1,439
abbrev pub outside : Control → Bool
outside c = nat_lt 400 c.day || nat_lt 1439 c.minute

-- what turns down a reading by its fields, whichever unit it is of
abbrev pub measured_rows : UnitReading → Option BookRefusal
measured_rows r =
    cond (nat_lt 2000000 (max (greatest_energy r.energies) (greatest_control r.control))) (Some Energy)
    (cond (nat_lt 100000000 (greatest_adjustment r.adjustments)) (Some Price)
    (cond (nat_lt 1 r.energies.asked || outside r.control) (Some OutsideSet)
    (cond (nat_lt (r.energies.accepted + r.energies.lost) r.energies.limited) (Some Limited) None)))

abbrev pub competitive_reading_rows : ℕ → ℕ → UnitReading → Option BookRefusal
competitive_reading_rows units unit r = cond (lacks unit units) (Some NoUnit) (measured_rows r)

abbrev pub guaranteed_reading_rows : ℕ → ℕ → GuaranteedReading → Option BookRefusal
guaranteed_reading_rows units unit r =
    cond (lacks unit units) (Some NoUnit)
    (cond (nat_lt 2000000 (max r.net (greatest_control r.control))) (Some Energy)
    (cond (outside r.control) (Some OutsideSet) None))

abbrev pub use_rows : ℕ → ℕ → ℕ → Option BookRefusal
use_rows buyers buyer used =
    cond (lacks buyer buyers) (Some NoBuyer) (cond (nat_lt 50000000 used) (Some Energy) None)

-- the rows for each reading, in their order
abbrev pub reading_rows : View → Reading → Option BookRefusal
reading_rows v (Competitive unit reading) = competitive_reading_rows v.competitive unit reading
reading_rows v (Guaranteed unit reading) = guaranteed_reading_rows v.guaranteed unit reading
reading_rows v (Use buyer used) = use_rows v.buyers buyer used

-- an accepted reading's change of the table: one row, and no other
abbrev pub applied_reading : Reading → Table → Table
applied_reading (Competitive unit reading) t = with_competitive (read_unit reading unit t.competitive) t
applied_reading (Guaranteed unit reading) t = with_guaranteed (read_unit (kept_reading reading) unit t.guaranteed) t
applied_reading (Use buyer used) t =
    with_buyers t.buyers.count (slice_set t.buyers.rows (buyer - 1) (read_use used (buyer_at t (buyer - 1)))) t

-- the number that an accepted reading answers: of its unit or buyer
abbrev pub reading_number : Reading → ℕ
reading_number (Competitive unit reading) = unit
reading_number (Guaranteed unit reading) = unit
reading_number (Use buyer used) = buyer

-- what a reading answers: the row that turns it down, else that number
abbrev pub reading_answer : Reading → Table → Result ℕ BookRefusal
reading_answer reading t = unless (reading_rows (view_of t) reading) Err (Ok (reading_number reading))

-- the table after a reading; a refused one changes nothing
abbrev pub after_reading : Reading → Table → Table
after_reading reading t = unless (reading_rows (view_of t) reading) (λ _. t) (applied_reading reading t)

-- readings made in turn
abbrev pub after_readings : List Reading → Table → Table
after_readings readings t = after_calls after_reading readings t
