-- The sample hour of two plants: units that share a price, one put aside, one taken back, one corrected, one
-- guaranteed. Each figure is computed by hand.
use Rattle.std.specs.Prelude.{◌≡◌, ℕ, cond, List, [], ◌∷◌, map, slice_index, pos, negsuc, ◌==◌}
use Rattle.curves.specs.Steps.{step_price}
use Rattle.curves.specs.declared.steps.Step.{Step}
use Rattle.settling.specs.Derived.{Found, ledger_in}
use Rattle.settling.specs.Figures.{Pay, pay_by, unit_figures, plant_figures, buyer_figures, hour_figures}
use Rattle.settling.specs.Ledger.{Ledger}
use Rattle.settling.specs.declared.header.Header.{Header}
use Rattle.settling.specs.declared.rows.PriceRow.{PriceRow}
use Rattle.table.specs.ClosingLaw.{group_in, share_one_in, share_two_in}
use Rattle.table.specs.declared.entries.Entry.{Entry}
use Rattle.table.specs.declared.entries.Entry.TheVariants.{AddPlant, AddBuyer, AddCompetitive, AddGuaranteed, Commit, Correct, PutAside, TakeBack}
use Rattle.table.specs.declared.readings.Reading.{Reading}
use Rattle.table.specs.declared.readings.Reading.TheVariants.{Competitive, Guaranteed, Use}
use Rattle.book.specs.Law.{entered, metered}
use Rattle.worked_hour.specs.Examples.{step}
use Rattle.worked_hour.specs.Hour.{row}

abbrev pub header : Header
header = record { ceiling = 500; coefficient = 9000; base = 300; saving = 30; tariff = 200 }

abbrev pub entries : List Entry
entries =
    AddPlant 200 ∷ AddPlant 0 ∷ AddBuyer 0 ∷ AddBuyer 1000
    ∷ AddCompetitive 1 50 0 ∷ AddCompetitive 1 30 500 ∷ AddCompetitive 2 50 100 ∷ AddCompetitive 2 40 0
    ∷ AddGuaranteed 1 45 20 0 1
    ∷ Commit 1 1 80 ∷ Commit 1 2 20 ∷ Commit 2 1 35
    ∷ Correct 1 1 60 ∷ PutAside 1 4 ∷ PutAside 2 1 ∷ TakeBack 2 1 ∷ []

-- the second use of buyer 2 stands in place of the first
abbrev pub readings : List Reading
readings =
    Competitive 1 (record {
      energies = record { net = 70; accepted = 60; lost = 0; limited = 10; executed = 50; asked = 0 };
      adjustments = record { opportunity = 0; planning = 0; cooperation = 0 };
      control = record { p_act = 40; type2 = 2; type3 = 0; type5 = 0; type6 = 4; type8 = 0; day = 1; minute = 0 };
    })
    ∷ Competitive 2 (record {
      energies = record { net = 30; accepted = 20; lost = 0; limited = 0; executed = 25; asked = 1 };
      adjustments = record { opportunity = 1; planning = 4; cooperation = 0 };
      control = record { p_act = 22; type2 = 0; type3 = 0; type5 = 0; type6 = 3; type8 = 0; day = 2; minute = 780 };
    })
    ∷ Competitive 3 (record {
      energies = record { net = 45; accepted = 30; lost = 5; limited = 0; executed = 0; asked = 0 };
      adjustments = record { opportunity = 0; planning = 0; cooperation = 2 };
      control = record { p_act = 20; type2 = 0; type3 = 0; type5 = 0; type6 = 0; type8 = 0; day = 0; minute = 0 };
    })
    ∷ Competitive 4 (record {
      energies = record { net = 10; accepted = 0; lost = 0; limited = 0; executed = 0; asked = 0 };
      adjustments = record { opportunity = 0; planning = 0; cooperation = 0 };
      control = record { p_act = 5; type2 = 0; type3 = 0; type5 = 0; type6 = 0; type8 = 0; day = 0; minute = 0 };
    })
    ∷ Guaranteed 1 (record {
      net = 50;
      control = record { p_act = 10; type2 = 1; type3 = 0; type5 = 0; type6 = 0; type8 = 0; day = 0; minute = 0 };
    })
    ∷ Use 1 100 ∷ Use 2 90 ∷ Use 2 77 ∷ []

abbrev pub rows : List (PriceRow (List Step) (List Step))
rows =
    row (step 40 300 ∷ step 60 400 ∷ []) (step 100 420 ∷ [])
    ∷ row (step 20 300 ∷ step 20 500 ∷ []) (step 40 250 ∷ [])
    ∷ row (step 30 200 ∷ step 30 600 ∷ []) (step 60 450 ∷ [])
    ∷ row (step 40 100 ∷ []) (step 40 80 ∷ []) ∷ []

-- the tariff of the header's rate
abbrev pub offers : List (List Step)
offers = (step 1 200 ∷ []) ∷ []

abbrev pub found : Found
found = record {
  amount = λ g i. cond (g == 1) (slice_index (46 ∷ 20 ∷ 35 ∷ 0 ∷ []) i) (slice_index (19 ∷ []) i);
  run = λ i. slice_index (15 ∷ 0 ∷ []) i;
}

abbrev pub book : Ledger
book = ledger_in found (entered entries) (metered entries readings)

abbrev pub pay : Pay
pay = pay_by step_price step_price rows step_price offers header

-- the limit of a unit in a plant's group
abbrev pub limit_of : ℕ → ℕ → ℕ → ℕ
limit_of g plant i = (group_in g step_price offers plant (entered entries)).limit i

pub record SampleHour : Type 0 where
  pub limits_of_one : map (limit_of 1 1) (0 ∷ 1 ∷ 2 ∷ 3 ∷ []) ≡ 58 ∷ 27 ∷ 0 ∷ 0 ∷ []
  pub limits_of_two : map (limit_of 1 2) (0 ∷ 1 ∷ 2 ∷ 3 ∷ []) ≡ 0 ∷ 0 ∷ 49 ∷ 0 ∷ []
  pub guaranteed_limits : limit_of 2 1 0 ∷ limit_of 2 2 0 ∷ [] ≡ 19 ∷ 0 ∷ []
  pub shares : share_one_in 1 4 1 (entered entries) ∷ share_two_in 1 4 1 (entered entries) ∷ share_one_in 2 4 1 (entered entries) ∷ share_two_in 2 4 1 (entered entries) ∷ [] ≡ 66 ∷ 34 ∷ 35 ∷ 0 ∷ []
  pub unit_one : unit_figures (pay 1 0 (book.unit 1 0)) (book.unit 1 0) ≡ record { allocated = 46; billed = 68; payment = 8800 }
  pub unit_two : unit_figures (pay 1 1 (book.unit 1 1)) (book.unit 1 1) ≡ record { allocated = 20; billed = 29; payment = 2550 }
  pub unit_three : unit_figures (pay 1 2 (book.unit 1 2)) (book.unit 1 2) ≡ record { allocated = 35; billed = 45; payment = 5000 }
  pub unit_four : unit_figures (pay 1 3 (book.unit 1 3)) (book.unit 1 3) ≡ record { allocated = 0; billed = 10; payment = 960 }
  pub guaranteed : unit_figures (pay 2 0 (book.unit 2 0)) (book.unit 2 0) ≡ record { allocated = 19; billed = 49; payment = 11270 }
  pub plant_one : plant_figures header pay book 0 ≡ record { committed = 100; allocated = 85; run = 15; support = 24; rate = 370; cost = 13012 }
  pub plant_two : plant_figures header pay book 1 ≡ record { committed = 35; allocated = 35; run = 0; support = 10; rate = 357; cost = 3570 }
  pub buyer_one : buyer_figures book 0 ≡ record { share = 109; net = negsuc 5 }
  pub buyer_two : buyer_figures book 1 ≡ record { share = 92; net = pos 72 }
  pub hour : hour_figures book ≡ record { billed = 201; committed = 135; unassigned = 0 }
