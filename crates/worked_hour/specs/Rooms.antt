-- Full tables: the last row of each kind is taken, and the next one is not.
use Rattle.std.specs.Prelude.{◌≡◌, ℕ, List, [], ◌∷◌, ◌++◌, map, replicate, Ok, Err}
use Rattle.std.specs.List.{range_with_len}
use Rattle.curves.specs.Steps.{step_price}
use Rattle.curves.specs.declared.steps.Step.{Step}
use Rattle.settling.specs.Derived.{Found, ledger_in}
use Rattle.settling.specs.Figures.{Pay, pay_by, unit_figures, hour_figures}
use Rattle.settling.specs.Ledger.{Ledger}
use Rattle.settling.specs.declared.rows.PriceRow.{PriceRow}
use Rattle.table.specs.Effects.{answer_of, after_entry}
use Rattle.table.specs.History.{view_in, answer_in}
use Rattle.table.specs.Metered.{reading_answer_in}
use Rattle.table.specs.Readings.{reading_answer}
use Rattle.table.specs.declared.entries.Entry.{Entry}
use Rattle.table.specs.declared.entries.Entry.TheVariants.{AddPlant, AddBuyer, AddCompetitive, AddGuaranteed, Commit, Correct, PutAside, TakeBack}
use Rattle.table.specs.declared.readings.Reading.{Reading}
use Rattle.table.specs.declared.readings.Reading.TheVariants.{Use}
use Rattle.table.specs.declared.records.Table.{Table}
use Rattle.table.specs.declared.refusals.BookRefusal.TheVariants.{NoPlant, NoUnit, NoBuyer, Full}
use Rattle.book.specs.Law.{entered, metered}
use Rattle.book.specs.Questions.{unit_answer, plant_answer, buyer_answer}
use Rattle.worked_hour.specs.Edges.{units, energy, header}
use Rattle.worked_hour.specs.Examples.{step, offer, cost}
use Rattle.worked_hour.specs.File.{full}
use Rattle.worked_hour.specs.Refused.{guaranteed, told}

-- accepted entries of so many plants, and of so many buyers
abbrev pub plants : ℕ → List Entry
plants count = replicate count (AddPlant 0)

abbrev pub buyers : ℕ → List Entry
buyers count = replicate count (AddBuyer 0)

-- accepted entries of one plant, one buyer and so many commitments
abbrev pub sales : ℕ → List Entry
sales count = replicate count (Commit 1 1 2) ++ (AddBuyer 0 ∷ AddPlant 0 ∷ [])

-- accepted entries of 128 units of each group; the 129th of either was turned down
abbrev pub crowd : List Entry
crowd = entered (units 129 129)

-- a table with one row less than there is room for of each kind
abbrev pub nearly : Table
nearly = record {
  plants = record { count = 31; rows = [] };
  competitive = record { count = 127; rows = [] };
  guaranteed = record { count = 127; rows = [] };
  buyers = record { count = 63; rows = [] };
  commitments = record { count = 767; rows = [] };
  sold = [];
  figures = full.figures;
}

-- one entry of each kind that adds a row
abbrev pub adding : List Entry
adding =
    AddPlant 0 ∷ AddCompetitive 1 0 0 ∷ AddGuaranteed 1 0 0 0 0 ∷ AddBuyer 0 ∷ Commit 1 1 1 ∷ []

-- a reading of each unit, and of the one past the last of each group, which is turned down
abbrev pub readings : List Reading
readings = map (λ unit. energy unit 5) (range_with_len 1 129) ++ map (λ unit. guaranteed unit 3 0 0 0) (range_with_len 1 129)

abbrev pub found : Found
found = record { amount = λ g i. 0; run = λ i. 0 }

abbrev pub book : Ledger
book = ledger_in found crowd (metered (units 129 129) readings)

-- the last row of each group differs from the others
abbrev pub rows : List (PriceRow (List Step) (List Step))
rows =
    replicate 127 (record { offer = offer; cost = cost }) ++ (record { offer = step 1 200 ∷ []; cost = step 1 100 ∷ [] } ∷ [])

abbrev pub pay : Pay
pay = pay_by step_price step_price rows step_price (replicate 127 offer ++ (step 1 70 ∷ []) ∷ []) header

pub record FullTables : Type 0 where
  -- what calls answer by the accepted entries
  pub plant_33 : answer_in (AddPlant 0) (plants 31) ∷ answer_in (AddPlant 0) (plants 32) ∷ [] ≡ Ok 32 ∷ Err Full ∷ []
  pub buyer_65 : answer_in (AddBuyer 0) (buyers 63) ∷ answer_in (AddBuyer 0) (buyers 64) ∷ [] ≡ Ok 64 ∷ Err Full ∷ []
  pub commitment_769 : answer_in (Commit 1 1 2) (sales 767) ∷ answer_in (Commit 1 1 2) (sales 768) ∷ [] ≡ Ok 768 ∷ Err Full ∷ []
  pub changes : map (λ entry. answer_in entry crowd) (Correct 1 128 7 ∷ Correct 2 128 7 ∷ PutAside 1 128 ∷ TakeBack 2 128 ∷ Correct 1 129 7 ∷ Correct 2 129 7 ∷ PutAside 2 129 ∷ TakeBack 1 129 ∷ []) ≡ Ok 128 ∷ Ok 128 ∷ Ok 128 ∷ Ok 128 ∷ Err NoUnit ∷ Err NoUnit ∷ Err NoUnit ∷ Err NoUnit ∷ []
  pub last_plant : map (λ entry. answer_in entry (plants 32)) (AddCompetitive 32 0 0 ∷ AddCompetitive 33 0 0 ∷ []) ≡ Ok 1 ∷ Err NoPlant ∷ []
  pub last_reading : map (reading_answer_in (view_in crowd)) (energy 128 1 ∷ energy 129 1 ∷ guaranteed 128 1 0 0 0 ∷ guaranteed 129 1 0 0 0 ∷ []) ≡ Ok 128 ∷ Err NoUnit ∷ Ok 128 ∷ Err NoUnit ∷ []
  pub last_use : map (reading_answer_in (view_in (buyers 64))) (Use 64 1 ∷ Use 65 1 ∷ []) ≡ Ok 64 ∷ Err NoBuyer ∷ []
  -- what calls answer by the table
  pub nearly_full : map (λ entry. told (answer_of entry nearly)) adding ≡ 0 ∷ 0 ∷ 0 ∷ 0 ∷ 0 ∷ []
  pub all_full : map (λ entry. told (answer_of entry full)) adding ≡ 4 ∷ 4 ∷ 4 ∷ 4 ∷ 4 ∷ []
  pub taken : (after_entry (AddCompetitive 1 0 0) nearly).competitive.count ∷ (after_entry (AddCompetitive 1 0 0) full).competitive.count ∷ [] ≡ 128 ∷ 128 ∷ []
  pub read : map (λ reading. reading_answer reading full) (energy 128 1 ∷ energy 129 1 ∷ guaranteed 128 1 0 0 0 ∷ guaranteed 129 1 0 0 0 ∷ Use 64 1 ∷ Use 65 1 ∷ []) ≡ Ok 128 ∷ Err NoUnit ∷ Ok 128 ∷ Err NoUnit ∷ Ok 64 ∷ Err NoBuyer ∷ []
  pub questions : map told (unit_answer 1 128 full ∷ unit_answer 1 129 full ∷ unit_answer 2 128 full ∷ unit_answer 2 129 full ∷ []) ≡ 0 ∷ 2 ∷ 0 ∷ 2 ∷ []
  pub plant_questions : map told (plant_answer 32 full ∷ plant_answer 33 full ∷ []) ≡ 0 ∷ 1 ∷ []
  pub buyer_questions : map told (buyer_answer 64 full ∷ buyer_answer 65 full ∷ []) ≡ 0 ∷ 3 ∷ []
  -- the last units are billed and paid like the others
  pub hour : hour_figures book ≡ record { billed = 1024; committed = 0; unassigned = 1024 }
  pub last_competitive : unit_figures (pay 1 127 (book.unit 1 127)) (book.unit 1 127) ≡ record { allocated = 0; billed = 5; payment = 1000 }
  pub last_guaranteed : unit_figures (pay 2 127 (book.unit 2 127)) (book.unit 2 127) ≡ record { allocated = 0; billed = 3; payment = 300 }
