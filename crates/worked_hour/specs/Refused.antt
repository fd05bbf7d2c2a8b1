-- The table of refusals by examples: both sides of each limit, and where two rows apply. A number is that of the
-- refusal, and 0 where the call is accepted.
use Rattle.std.specs.Prelude.{◌≡◌, ℕ, true, false, List, [], ◌∷◌, map, Some, None, Ok, Err, Option, Result}
use Rattle.curves.specs.Refusals.{table_made, tariff_made, refusal_number as curve_number}
use Rattle.curves.specs.declared.refusals.CurveRefusal.{CurveRefusal}
use Rattle.curves.specs.declared.refusals.CurveRefusal.TheVariants.{Steps}
use Rattle.curves.specs.declared.steps.Step.{Step}
use Rattle.settling.specs.Headers.{checked}
use Rattle.settling.specs.declared.header.Header.{Header}
use Rattle.table.specs.Effects.{priced_answer}
use Rattle.table.specs.Entries.{View, rows}
use Rattle.table.specs.History.{empty_table}
use Rattle.table.specs.Readings.{reading_rows}
use Rattle.table.specs.Refusals.{refusal_number}
use Rattle.table.specs.declared.entries.Entry.{Entry}
use Rattle.table.specs.declared.entries.Entry.TheVariants.{AddPlant, AddBuyer, AddCompetitive, AddGuaranteed, Commit, Correct, PutAside, TakeBack}
use Rattle.table.specs.declared.readings.Reading.{Reading}
use Rattle.table.specs.declared.readings.Reading.TheVariants.{Competitive, Guaranteed, Use}
use Rattle.table.specs.declared.refusals.BookRefusal.{BookRefusal}
use Rattle.table.specs.declared.refusals.BookRefusal.TheVariants.{NoPlant}
use Rattle.table.specs.declared.refusals.UnitRefusal.TheVariants.{Book}

-- the number of the row that turns a call down, or 0 where none does
abbrev pub number : Option BookRefusal → ℕ
number None = 0
number (Some refusal) = refusal_number refusal

abbrev pub told : {A : Type 0} → Result A BookRefusal → ℕ
told (Ok x) = 0
told (Err refusal) = refusal_number refusal

abbrev pub curve_told : {A : Type 0} → Result A CurveRefusal → ℕ
curve_told (Ok x) = 0
curve_told (Err refusal) = curve_number refusal

-- an hour with so many plants and buyers, units of each group and commitments, in which each plant has sold so much
abbrev pub seen : ℕ → ℕ → ℕ → ℕ → View
seen each units commitments sold = record {
  plants = each;
  competitive = units;
  guaranteed = units;
  buyers = each;
  commitments = commitments;
  sold = λ plant. sold;
}

-- one row of each kind, and nothing sold
abbrev pub one : View
one = seen 1 1 1 0

-- what the entries of a list are told, each by itself
abbrev pub each : View → List Entry → List ℕ
each v entries = map (λ entry. number (rows v entry)) entries

abbrev pub each_read : List Reading → List ℕ
each_read readings = map (λ reading. number (reading_rows one reading)) readings

abbrev pub header : ℕ → ℕ → ℕ → ℕ → ℕ → Header
header ceiling coefficient base saving tariff =
    record { ceiling = ceiling; coefficient = coefficient; base = base; saving = saving; tariff = tariff }

abbrev pub each_header : List Header → List ℕ
each_header headers = map (λ h. told (checked h)) headers

-- a reading of unit 1 by its energies and α, and one by its adjustments and its control part
abbrev pub energies : ℕ → ℕ → ℕ → ℕ → ℕ → ℕ → Reading
energies net accepted lost limited executed asked = Competitive 1 (record {
  energies = record { net = net; accepted = accepted; lost = lost; limited = limited; executed = executed; asked = asked };
  adjustments = record { opportunity = 0; planning = 0; cooperation = 0 };
  control = record { p_act = 0; type2 = 0; type3 = 0; type5 = 0; type6 = 0; type8 = 0; day = 0; minute = 0 };
})

abbrev pub measured : ℕ → ℕ → ℕ → ℕ → ℕ → ℕ → ℕ → ℕ → ℕ → ℕ → ℕ → ℕ → ℕ → Reading
measured net limited asked opportunity planning cooperation p_act type2 type3 type5 type6 type8 day = Competitive 1 (record {
  energies = record { net = net; accepted = 0; lost = 0; limited = limited; executed = 0; asked = asked };
  adjustments = record { opportunity = opportunity; planning = planning; cooperation = cooperation };
  control = record { p_act = p_act; type2 = type2; type3 = type3; type5 = type5; type6 = type6; type8 = type8; day = day; minute = 0 };
})

abbrev pub at_minute : ℕ → ℕ → Reading
at_minute limited minute = Competitive 1 (record {
  energies = record { net = 0; accepted = 0; lost = 0; limited = limited; executed = 0; asked = 0 };
  adjustments = record { opportunity = 0; planning = 0; cooperation = 0 };
  control = record { p_act = 0; type2 = 0; type3 = 0; type5 = 0; type6 = 0; type8 = 0; day = 0; minute = minute };
})

abbrev pub guaranteed : ℕ → ℕ → ℕ → ℕ → ℕ → Reading
guaranteed unit net p_act day minute = Guaranteed unit (record {
  net = net;
  control = record { p_act = p_act; type2 = 0; type3 = 0; type5 = 0; type6 = 0; type8 = 0; day = day; minute = minute };
})

abbrev pub step : ℕ → ℕ → Step
step width price = record { width = width; price = price }

-- price rows that could not be made
abbrev pub no_row : Result ℕ CurveRefusal
no_row = Err Steps

abbrev pub offer_told : List Step → ℕ
offer_told steps = curve_told (table_made true steps)

abbrev pub cost_told : List Step → ℕ
cost_told steps = curve_told (table_made false steps)

abbrev pub nine : List Step
nine =
    step 1 1 ∷ step 1 1 ∷ step 1 1 ∷ step 1 1 ∷ step 1 1 ∷ step 1 1 ∷ step 1 1 ∷ step 1 1 ∷ step 1 1 ∷ []

pub record RefusalTable : Type 0 where
  pub headers : each_header (header 10000000 50000 1000000 10000000 10000000 ∷ header 10000001 0 0 0 0 ∷ header 0 50001 0 0 0 ∷ header 0 0 1000001 0 0 ∷ header 0 0 0 10000001 0 ∷ header 0 0 0 0 10000001 ∷ []) ≡ 0 ∷ 9 ∷ 9 ∷ 9 ∷ 9 ∷ 9 ∷ []
  pub plants : each (seen 31 0 0 0) (AddPlant 2000 ∷ AddPlant 2001 ∷ []) ≡ 0 ∷ 5 ∷ []
  pub plant_33 : each (seen 32 0 0 0) (AddPlant 0 ∷ AddPlant 2001 ∷ []) ≡ 4 ∷ 4 ∷ []
  pub buyers : each (seen 63 0 0 0) (AddBuyer 2000 ∷ AddBuyer 2001 ∷ []) ≡ 0 ∷ 5 ∷ []
  pub buyer_65 : each (seen 64 0 0 0) (AddBuyer 0 ∷ AddBuyer 2001 ∷ []) ≡ 4 ∷ 4 ∷ []
  pub unit_plants : each one (AddCompetitive 1 0 0 ∷ AddCompetitive 0 0 0 ∷ AddCompetitive 2 0 0 ∷ AddGuaranteed 1 0 0 0 0 ∷ AddGuaranteed 0 0 0 0 0 ∷ AddGuaranteed 2 0 0 0 0 ∷ []) ≡ 0 ∷ 1 ∷ 1 ∷ 0 ∷ 1 ∷ 1 ∷ []
  pub unit_128 : each (seen 1 127 0 0) (AddCompetitive 1 2000000 2000 ∷ AddGuaranteed 1 2000000 2000000 2000 1 ∷ []) ≡ 0 ∷ 0 ∷ []
  pub unit_129 : each (seen 1 128 0 0) (AddCompetitive 1 0 0 ∷ AddGuaranteed 1 0 0 0 0 ∷ AddCompetitive 2 0 0 ∷ AddGuaranteed 2 0 0 0 0 ∷ AddCompetitive 1 0 2001 ∷ AddGuaranteed 1 0 0 2001 0 ∷ []) ≡ 4 ∷ 4 ∷ 1 ∷ 1 ∷ 4 ∷ 4 ∷ []
  pub units : each one (AddCompetitive 1 0 2001 ∷ AddCompetitive 1 2000001 0 ∷ AddCompetitive 1 2000001 2001 ∷ []) ≡ 5 ∷ 6 ∷ 5 ∷ []
  pub guaranteed_units : each one (AddGuaranteed 1 0 0 2001 0 ∷ AddGuaranteed 1 2000001 0 0 0 ∷ AddGuaranteed 1 0 2000001 0 0 ∷ AddGuaranteed 1 0 0 0 2 ∷ AddGuaranteed 1 2000001 0 2001 0 ∷ AddGuaranteed 1 0 2000001 0 2 ∷ []) ≡ 5 ∷ 6 ∷ 6 ∷ 10 ∷ 5 ∷ 6 ∷ []
  pub groups : each one (Correct 0 1 0 ∷ Correct 1 1 0 ∷ Correct 2 1 0 ∷ Correct 3 1 0 ∷ PutAside 0 1 ∷ PutAside 3 1 ∷ TakeBack 0 1 ∷ TakeBack 3 1 ∷ []) ≡ 2 ∷ 0 ∷ 0 ∷ 2 ∷ 2 ∷ 2 ∷ 2 ∷ 2 ∷ []
  pub groups_apart : each (record { plants = 1; competitive = 1; guaranteed = 2; buyers = 1; commitments = 0; sold = λ plant. 0 }) (Correct 1 2 0 ∷ Correct 2 2 0 ∷ PutAside 1 2 ∷ PutAside 2 2 ∷ []) ≡ 2 ∷ 0 ∷ 2 ∷ 0 ∷ []
  pub corrections : each one (Correct 1 0 0 ∷ Correct 1 2 0 ∷ Correct 1 1 2000000 ∷ Correct 1 1 2000001 ∷ Correct 3 1 2000001 ∷ []) ≡ 2 ∷ 2 ∷ 0 ∷ 6 ∷ 2 ∷ []
  pub moved : each one (PutAside 1 0 ∷ PutAside 2 1 ∷ PutAside 2 2 ∷ TakeBack 1 0 ∷ TakeBack 2 1 ∷ TakeBack 2 2 ∷ []) ≡ 2 ∷ 0 ∷ 2 ∷ 2 ∷ 0 ∷ 2 ∷ []
  pub sales : each one (Commit 0 1 1 ∷ Commit 2 1 1 ∷ Commit 1 0 1 ∷ Commit 1 2 1 ∷ Commit 1 1 0 ∷ Commit 1 1 1 ∷ Commit 1 1 20000000 ∷ Commit 1 1 20000001 ∷ Commit 2 2 1 ∷ []) ≡ 1 ∷ 1 ∷ 3 ∷ 3 ∷ 6 ∷ 0 ∷ 0 ∷ 6 ∷ 1 ∷ []
  pub commitment_768 : each (seen 1 1 767 0) (Commit 1 1 1 ∷ []) ≡ 0 ∷ []
  pub commitment_769 : each (seen 1 1 768 0) (Commit 1 1 1 ∷ Commit 1 2 1 ∷ Commit 1 1 0 ∷ []) ≡ 4 ∷ 3 ∷ 4 ∷ []
  pub nearly_sold : each (seen 1 1 1 19999999) (Commit 1 1 1 ∷ Commit 1 1 2 ∷ []) ≡ 0 ∷ 7 ∷ []
  pub sold : each (seen 1 1 1 20000000) (Commit 1 1 1 ∷ Commit 1 1 20000001 ∷ []) ≡ 7 ∷ 6 ∷ []
  pub readings : each_read (energies 2000000 2000000 2000000 2000000 2000000 1 ∷ energies 2000001 0 0 0 0 0 ∷ energies 0 2000001 0 0 0 0 ∷ energies 0 0 2000001 0 0 0 ∷ energies 0 0 0 2000001 0 0 ∷ energies 0 0 0 0 2000001 0 ∷ energies 0 0 0 0 0 2 ∷ energies 0 5 5 10 0 0 ∷ energies 0 5 5 11 0 0 ∷ []) ≡ 0 ∷ 6 ∷ 6 ∷ 6 ∷ 6 ∷ 6 ∷ 10 ∷ 0 ∷ 11 ∷ []
  pub adjustments : each_read (measured 0 0 0 100000000 100000000 100000000 0 0 0 0 0 0 0 ∷ measured 0 0 0 100000001 0 0 0 0 0 0 0 0 0 ∷ measured 0 0 0 0 100000001 0 0 0 0 0 0 0 0 ∷ measured 0 0 0 0 0 100000001 0 0 0 0 0 0 0 ∷ measured 2000001 0 0 100000001 0 0 0 0 0 0 0 0 0 ∷ measured 0 0 2 100000001 0 0 0 0 0 0 0 0 0 ∷ []) ≡ 0 ∷ 9 ∷ 9 ∷ 9 ∷ 6 ∷ 9 ∷ []
  pub controls : each_read (measured 0 0 0 0 0 0 2000000 2000000 2000000 2000000 2000000 2000000 400 ∷ measured 0 0 0 0 0 0 2000001 0 0 0 0 0 0 ∷ measured 0 0 0 0 0 0 0 2000001 0 0 0 0 0 ∷ measured 0 0 0 0 0 0 0 0 2000001 0 0 0 0 ∷ measured 0 0 0 0 0 0 0 0 0 2000001 0 0 0 ∷ measured 0 0 0 0 0 0 0 0 0 0 2000001 0 0 ∷ measured 0 0 0 0 0 0 0 0 0 0 0 2000001 0 ∷ measured 0 0 0 0 0 0 0 0 0 0 0 0 401 ∷ []) ≡ 0 ∷ 6 ∷ 6 ∷ 6 ∷ 6 ∷ 6 ∷ 6 ∷ 10 ∷ []
  pub minutes : each_read (at_minute 0 1439 ∷ at_minute 0 1440 ∷ at_minute 1 1440 ∷ []) ≡ 0 ∷ 10 ∷ 10 ∷ []
  pub guaranteed_readings : each_read (guaranteed 1 2000000 2000000 400 1439 ∷ guaranteed 1 2000001 0 0 0 ∷ guaranteed 1 0 2000001 0 0 ∷ guaranteed 1 0 0 401 0 ∷ guaranteed 1 0 0 0 1440 ∷ guaranteed 0 0 0 0 0 ∷ guaranteed 2 2000001 0 0 0 ∷ guaranteed 1 0 2000001 401 0 ∷ []) ≡ 0 ∷ 6 ∷ 6 ∷ 10 ∷ 10 ∷ 2 ∷ 2 ∷ 6 ∷ []
  pub uses : each_read (Use 1 50000000 ∷ Use 1 50000001 ∷ Use 0 0 ∷ Use 2 50000001 ∷ []) ≡ 0 ∷ 6 ∷ 3 ∷ 3 ∷ []
  pub priced : priced_answer 1 0 0 no_row empty_table ≡ Err (Book NoPlant)
  pub offers : map offer_told ([] ∷ (step 1 10000000 ∷ nine) ∷ (step 0 1 ∷ []) ∷ (step 2000000 10000000 ∷ []) ∷ (step 2000001 1 ∷ []) ∷ (step 1 10000001 ∷ []) ∷ (step 1 2 ∷ step 1 2 ∷ []) ∷ (step 1 2 ∷ step 1 1 ∷ []) ∷ (step 1 10000001 ∷ step 0 1 ∷ []) ∷ (step 1 1 ∷ nine) ∷ (step 1 1 ∷ step 1 1 ∷ nine) ∷ []) ≡ 8 ∷ 8 ∷ 8 ∷ 0 ∷ 8 ∷ 9 ∷ 0 ∷ 8 ∷ 8 ∷ 0 ∷ 8 ∷ []
  pub costs : map cost_told ([] ∷ (step 1 10000000 ∷ nine) ∷ (step 0 1 ∷ []) ∷ (step 1 10000001 ∷ []) ∷ (step 1 10000001 ∷ step 0 1 ∷ []) ∷ (step 1 1 ∷ step 1 1 ∷ nine) ∷ []) ≡ 8 ∷ 0 ∷ 8 ∷ 9 ∷ 8 ∷ 8 ∷ []
  pub tariff : tariff_made 6 ≡ Ok (record { rate = 6 })
  pub rates : curve_told (tariff_made 10000000) ∷ curve_told (tariff_made 10000001) ∷ [] ≡ 0 ∷ 9 ∷ []
