-- Units and buyers that are read again, turned down among others, and what settling then looks at.
use Rattle.std.specs.Prelude.{◌≡◌, ℕ, ◌-◌, List, [], ◌∷◌, ◌++◌, map, Some, None, Ok, Err, Option}
use Rattle.settlement.specs.declared.readings.Control.{Control}
use Rattle.settling.specs.Derived.{Found, ledger_in, last_reading}
use Rattle.settling.specs.Figures.{bill_in, sum_units, billed_unit, active_unit, opportunity_unit, weight_in, day_in, share_in}
use Rattle.settling.specs.Ledger.{Ledger, table_of, ledger_of}
use Rattle.table.specs.Effects.{after_entries}
use Rattle.table.specs.History.{view_in, empty_table}
use Rattle.table.specs.Metered.{last_use, reading_answer_in}
use Rattle.table.specs.Places.{unit_at, buyer_at}
use Rattle.table.specs.Readings.{after_readings}
use Rattle.table.specs.declared.entries.Entry.{Entry}
use Rattle.table.specs.declared.entries.Entry.TheVariants.{AddPlant, AddBuyer, AddCompetitive, AddGuaranteed, Commit, PutAside}
use Rattle.table.specs.declared.readings.Reading.{Reading}
use Rattle.table.specs.declared.readings.Reading.TheVariants.{Competitive, Guaranteed, Use}
use Rattle.table.specs.declared.records.GuaranteedReading.{GuaranteedReading}
use Rattle.table.specs.declared.records.Table.{Table}
use Rattle.table.specs.declared.records.UnitReading.{UnitReading}
use Rattle.table.specs.declared.refusals.BookRefusal.TheVariants.{NoUnit, NoBuyer, Energy, OutsideSet, Limited}
use Rattle.book.specs.Law.{entered, metered}

-- a plant with two units of each group, one of them aside, and three buyers
abbrev pub entries : List Entry
entries =
    AddPlant 500 ∷ AddBuyer 0 ∷ AddBuyer 1000 ∷ AddBuyer 0 ∷ AddCompetitive 1 40 0 ∷ AddCompetitive 1 30 0
    ∷ AddGuaranteed 1 20 0 0 1 ∷ AddGuaranteed 1 25 25 0 0 ∷ PutAside 1 2 ∷ Commit 1 1 30 ∷ Commit 1 2 12 ∷ []

abbrev pub control : ℕ → ℕ → Control
control p_act day = record { p_act = p_act; type2 = 0; type3 = 0; type5 = 0; type6 = 0; type8 = 0; day = day; minute = 0 }

-- a competitive reading by net, accepted and UL energy, P_Act and the opportunity payment
abbrev pub competitive : ℕ → ℕ → ℕ → ℕ → ℕ → UnitReading
competitive net accepted limited p_act opportunity = record {
  energies = record { net = net; accepted = accepted; lost = 0; limited = limited; executed = 0; asked = 0 };
  adjustments = record { opportunity = opportunity; planning = 0; cooperation = 0 };
  control = control p_act 0;
}

abbrev pub guaranteed : ℕ → ℕ → ℕ → GuaranteedReading
guaranteed net p_act day = record { net = net; control = control p_act day }

-- competitive unit 1, guaranteed unit 1 and buyer 1 are read three times, with the least net energy or use in the
-- second reading; the last six readings are turned down
abbrev pub readings : List Reading
readings =
    Guaranteed 1 (guaranteed 50 10 0) ∷ Use 1 100 ∷ Competitive 1 (competitive 60 50 0 40 3) ∷ Use 2 40
    ∷ Guaranteed 2 (guaranteed 7 3 0) ∷ Guaranteed 1 (guaranteed 20 44 0) ∷ Use 1 60 ∷ Use 3 9
    ∷ Competitive 2 (competitive 9 2 0 8 0) ∷ Competitive 1 (competitive 30 20 0 41 5) ∷ Use 2 25 ∷ Use 3 0
    ∷ Guaranteed 1 (guaranteed 30 6 0) ∷ Use 1 80 ∷ Competitive 1 (competitive 45 35 0 12 1)
    ∷ Guaranteed 2 (guaranteed 8 4 401) ∷ Use 1 50000001 ∷ Competitive 2 (competitive 7 2 3 9 0) ∷ Use 4 9
    ∷ Guaranteed 3 (guaranteed 1 1 0) ∷ Competitive 1 (competitive 2000001 0 0 0 0) ∷ []

abbrev pub read : List Reading
read = metered entries readings

abbrev pub table : Table
table = after_readings readings (after_entries entries empty_table)

-- a guaranteed unit's reading as it is kept: with no energy but its net energy, and no adjustment
abbrev pub kept : ℕ → ℕ → UnitReading
kept net p_act = record {
  energies = record { net = net; accepted = 0; lost = 0; limited = 0; executed = 0; asked = 0 };
  adjustments = record { opportunity = 0; planning = 0; cooperation = 0 };
  control = control p_act 0;
}

-- a unit's reading by the accepted readings, and as the table has it
abbrev pub IsRead : ℕ → ℕ → Option UnitReading → Type 0
IsRead g number reading =
    (last_reading g number read ≡ reading) × ((unit_at (table_of g table) (number - 1)).reading ≡ reading)

-- each unit is allocated 10, and nothing is run support
abbrev pub found : Found
found = record { amount = λ g i. 10; run = λ i. 0 }

abbrev pub book : Ledger
book = ledger_in found (entered entries) read

-- the bills of the two competitive and of the two guaranteed units
abbrev pub bills : Ledger → List (List ℕ)
bills a = map (λ i. bill_in (a.unit 1 i)) (0 ∷ 1 ∷ []) ∷ map (λ i. bill_in (a.unit 2 i)) (0 ∷ 1 ∷ []) ∷ []

pub record ReadingExamples : Type 0 where
  pub answers :
      map (reading_answer_in (view_in (entered entries))) readings
      ≡ map Ok (1 ∷ 1 ∷ 1 ∷ 2 ∷ 2 ∷ 1 ∷ 1 ∷ 3 ∷ 2 ∷ 1 ∷ 2 ∷ 3 ∷ 1 ∷ 1 ∷ 1 ∷ [])
      ++ map Err (OutsideSet ∷ Energy ∷ Limited ∷ NoBuyer ∷ NoUnit ∷ Energy ∷ [])
  pub competitive_one : IsRead 1 1 (Some (competitive 45 35 0 12 1))
  pub competitive_two : IsRead 1 2 (Some (competitive 9 2 0 8 0))
  pub competitive_three : IsRead 1 3 None
  pub guaranteed_one : IsRead 2 1 (Some (kept 30 6))
  pub guaranteed_two : IsRead 2 2 (Some (kept 7 3))
  pub guaranteed_three : IsRead 2 3 None
  -- a buyer's last use counts, 0 too
  pub uses : map (λ b. last_use b read) (0 ∷ 1 ∷ 2 ∷ 3 ∷ 4 ∷ []) ≡ None ∷ Some 80 ∷ Some 25 ∷ Some 0 ∷ None ∷ []
  pub uses_of_table : map (λ b. (buyer_at table b).used) (0 ∷ 1 ∷ 2 ∷ 3 ∷ []) ≡ Some 80 ∷ Some 25 ∷ Some 0 ∷ None ∷ []
  -- the last readings are billed, that of the unit aside among them
  pub billed : bills book ≡ (42 ∷ 8 ∷ []) ∷ (28 ∷ 6 ∷ []) ∷ []
  pub table_billed : bills (ledger_of table) ≡ (42 ∷ 8 ∷ []) ∷ (28 ∷ 6 ∷ []) ∷ []
  pub all_billed : sum_units book billed_unit ≡ 84
  pub active : sum_units book active_unit ≡ 29
  pub opportunity : sum_units book opportunity_unit ≡ 1
  -- 42 kWh are allocated (all that is sold), and of the active energy 27 are left at the reference point
  pub day : day_in book 0 ≡ 15
  pub weights : map (weight_in book) (0 ∷ 1 ∷ 2 ∷ []) ≡ 80 ∷ 27 ∷ 0 ∷ []
  pub table_weights : map (weight_in (ledger_of table)) (0 ∷ 1 ∷ 2 ∷ []) ≡ 80 ∷ 27 ∷ 0 ∷ []
  pub shares : map (share_in book) (0 ∷ 1 ∷ 2 ∷ []) ≡ 62 ∷ 22 ∷ 0 ∷ []
