-- An hour of energies, commitments, uses and a header at their limits. No unit has a price row, so none is paid.
use Rattle.std.specs.Prelude.{◌≡◌, ℕ, cond, List, [], ◌∷◌, map, slice_index, negsuc, ◌==◌}
use Rattle.curves.specs.Steps.{step_price}
use Rattle.curves.specs.declared.steps.Step.{Step}
use Rattle.settling.specs.Derived.{Found, ledger_in}
use Rattle.settling.specs.Figures.{Pay, pay_by, unit_figures, plant_figures, buyer_figures, hour_figures}
use Rattle.settling.specs.Ledger.{Ledger}
use Rattle.settling.specs.declared.header.Header.{Header}
use Rattle.settling.specs.declared.rows.PriceRow.{PriceRow}
use Rattle.table.specs.ClosingLaw.{group_in, share_one_in, share_two_in}
use Rattle.table.specs.declared.entries.Entry.{Entry}
use Rattle.table.specs.declared.entries.Entry.TheVariants.{AddPlant, AddBuyer, AddCompetitive, AddGuaranteed, Commit}
use Rattle.table.specs.declared.readings.Reading.{Reading}
use Rattle.table.specs.declared.readings.Reading.TheVariants.{Competitive, Guaranteed, Use}
use Rattle.book.specs.Law.{entered, metered}
use Rattle.worked_hour.specs.Examples as worked
use Rattle.worked_hour.specs.Examples.{step}

abbrev pub header : Header
header = record { ceiling = 10000000; coefficient = 50000; base = 1000000; saving = 0; tariff = 0 }

abbrev pub entries : List Entry
entries =
    AddPlant 0 ∷ AddPlant 2000 ∷ AddBuyer 2000 ∷ AddBuyer 0
    ∷ AddCompetitive 1 2000000 0 ∷ AddCompetitive 2 2000000 2000 ∷ AddGuaranteed 1 500000 2000000 0 0
    ∷ Commit 1 1 20000000 ∷ Commit 2 2 1900000 ∷ []

abbrev pub readings : List Reading
readings =
    Competitive 1 (record {
      energies = record { net = 2000000; accepted = 2000000; lost = 0; limited = 0; executed = 0; asked = 0 };
      adjustments = record { opportunity = 100000000; planning = 0; cooperation = 0 };
      control = record { p_act = 1500000; type2 = 0; type3 = 0; type5 = 0; type6 = 0; type8 = 0; day = 0; minute = 0 };
    })
    ∷ Competitive 2 (record {
      energies = record { net = 2000000; accepted = 2000000; lost = 0; limited = 0; executed = 0; asked = 0 };
      adjustments = record { opportunity = 0; planning = 99999999; cooperation = 0 };
      control = record { p_act = 1; type2 = 2000000; type3 = 0; type5 = 0; type6 = 0; type8 = 0; day = 0; minute = 0 };
    })
    ∷ Guaranteed 1 (record {
      net = 2000000;
      control = record { p_act = 0; type2 = 0; type3 = 2000000; type5 = 0; type6 = 0; type8 = 0; day = 0; minute = 0 };
    })
    ∷ Use 1 50000000 ∷ Use 2 30000000 ∷ []

-- each unit gets its limit
abbrev pub found : Found
found = record {
  amount = λ g i. cond (g == 1) (slice_index (2000000 ∷ 1280000 ∷ []) i) (slice_index (2000000 ∷ []) i);
  run = λ i. slice_index (16000000 ∷ 620000 ∷ []) i;
}

abbrev pub book : Ledger
book = ledger_in found (entered entries) (metered entries readings)

abbrev pub rows : List (PriceRow (List Step) (List Step))
rows = []

abbrev pub pay : Pay
pay = pay_by step_price step_price rows step_price [] header

-- one offer, for two competitive units or for one guaranteed unit
abbrev pub offer : List Step
offer = step 1 1 ∷ []

-- the limits of a plant's units in a group
abbrev pub limits : ℕ → ℕ → List ℕ
limits g plant =
    map (λ i. (group_in g step_price (offer ∷ offer ∷ []) plant (entered entries)).limit i) (0 ∷ 1 ∷ [])

-- one unit of the worked hour's plant, with net energy and adjustments at their limits
abbrev pub adjusted_readings : List Reading
adjusted_readings =
    Competitive 1 (record {
      energies = record { net = 2000000; accepted = 0; lost = 0; limited = 0; executed = 0; asked = 0 };
      adjustments = record { opportunity = 100000000; planning = 30000000; cooperation = 20000000 };
      control = record { p_act = 0; type2 = 0; type3 = 0; type5 = 0; type6 = 0; type8 = 0; day = 0; minute = 0 };
    }) ∷ []

abbrev pub adjusted : Ledger
adjusted = ledger_in worked.found (entered worked.entries) (metered worked.entries adjusted_readings)

pub record LargestHour : Type 0 where
  pub limits_of_one : limits 1 1 ≡ 2000000 ∷ 0 ∷ []
  pub limits_of_two : limits 1 2 ≡ 0 ∷ 1280000 ∷ []
  pub guaranteed_limits : limits 2 1 ≡ 2000000 ∷ 0 ∷ []
  pub shares_one : share_one_in 1 2 1 (entered entries) ∷ share_two_in 1 2 1 (entered entries) ∷ [] ≡ 16000000 ∷ 4000000 ∷ []
  pub shares_two : share_one_in 2 2 1 (entered entries) ∷ share_two_in 2 2 1 (entered entries) ∷ [] ≡ 1900000 ∷ 0 ∷ []
  pub unit_one : unit_figures (pay 1 0 (book.unit 1 0)) (book.unit 1 0) ≡ record { allocated = 2000000; billed = 2000000; payment = 0 }
  pub unit_two : unit_figures (pay 1 1 (book.unit 1 1)) (book.unit 1 1) ≡ record { allocated = 1280000; billed = 1600000; payment = 0 }
  pub guaranteed : unit_figures (pay 2 0 (book.unit 2 0)) (book.unit 2 0) ≡ record { allocated = 2000000; billed = 2000000; payment = 0 }
  pub plant_one : plant_figures header pay book 0 ≡ record { committed = 20000000; allocated = 4000000; run = 16000000; support = 16500000; rate = 10000000; cost = 245000000000000 }
  pub plant_two : plant_figures header pay book 1 ≡ record { committed = 1900000; allocated = 1280000; run = 620000; support = 620000; rate = 0; cost = 3875000000000 }
  pub buyer_one : buyer_figures book 0 ≡ record { share = 3733333; net = negsuc 16266666 }
  pub buyer_two : buyer_figures book 1 ≡ record { share = 1866667; net = negsuc 33332 }
  pub hour : hour_figures book ≡ record { billed = 5600000; committed = 21900000; unassigned = 0 }
  pub adjusted_plant : plant_figures header pay adjusted 0 ≡ record { committed = 50; allocated = 40; run = 10; support = 50; rate = 25000; cost = 51250000 }
