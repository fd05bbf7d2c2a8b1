-- A fuller hour: two plants with losses, units of both groups, one put aside (twice), three corrected, one with no
-- reading, and two buyers. The amounts are those of the split, as the second calculation has them.
use Rattle.std.specs.Prelude.{◌≡◌, ℕ, cond, List, [], ◌∷◌, length, map, slice_index, pos, Ok, Err, ◌==◌}
use Rattle.curves.specs.Steps.{step_price}
use Rattle.curves.specs.declared.steps.Step.{Step}
use Rattle.settling.specs.Derived.{Found, ledger_in}
use Rattle.settling.specs.Figures.{Pay, pay_by, unit_figures, plant_over, plant_figures, buyer_figures, hour_figures}
use Rattle.settling.specs.Ledger.{Ledger}
use Rattle.settling.specs.declared.header.Header.{Header}
use Rattle.settling.specs.declared.rows.PriceRow.{PriceRow}
use Rattle.table.specs.ClosingLaw.{group_in, share_one_in, share_two_in}
use Rattle.table.specs.History.{view_in, answer_in}
use Rattle.table.specs.Metered.{reading_answer_in}
use Rattle.table.specs.declared.entries.Entry.{Entry}
use Rattle.table.specs.declared.entries.Entry.TheVariants.{AddPlant, AddBuyer, AddCompetitive, AddGuaranteed, Commit, Correct, PutAside, TakeBack}
use Rattle.table.specs.declared.readings.Reading.{Reading}
use Rattle.table.specs.declared.readings.Reading.TheVariants.{Competitive, Guaranteed, Use}
use Rattle.table.specs.declared.refusals.BookRefusal.TheVariants.{NoPlant}
use Rattle.book.specs.Law.{entered, metered}
use Rattle.worked_hour.specs.Examples.{step}

abbrev pub header : Header
header = record { ceiling = 400; coefficient = 9000; base = 200; saving = 70; tariff = 0 }

-- the last commitment but one names a plant that isn't there
abbrev pub entries : List Entry
entries =
    AddPlant 200 ∷ AddPlant 500 ∷ AddBuyer 100 ∷ AddBuyer 1500
    ∷ AddCompetitive 1 80 300 ∷ AddCompetitive 2 60 400 ∷ AddCompetitive 1 99 0
    ∷ AddGuaranteed 1 45 70 200 1 ∷ AddGuaranteed 2 90 40 0 0
    ∷ PutAside 1 3 ∷ PutAside 1 3 ∷ Correct 1 2 100 ∷ Correct 1 3 98 ∷ Correct 2 1 50 ∷ PutAside 2 2 ∷ TakeBack 2 2
    ∷ Commit 1 1 45 ∷ Commit 2 2 150 ∷ Commit 1 2 80 ∷ Commit 3 1 5 ∷ Commit 2 1 7 ∷ []

-- the second reading of unit 1 stands in place of the first
abbrev pub readings : List Reading
readings =
    Competitive 1 (record {
      energies = record { net = 1; accepted = 0; lost = 0; limited = 0; executed = 0; asked = 0 };
      adjustments = record { opportunity = 0; planning = 0; cooperation = 0 };
      control = record { p_act = 0; type2 = 0; type3 = 0; type5 = 0; type6 = 0; type8 = 0; day = 0; minute = 0 };
    })
    ∷ Competitive 1 (record {
      energies = record { net = 120; accepted = 70; lost = 20; limited = 10; executed = 115; asked = 1 };
      adjustments = record { opportunity = 5; planning = 2; cooperation = 1 };
      control = record { p_act = 20; type2 = 1; type3 = 2; type5 = 3; type6 = 4; type8 = 5; day = 2; minute = 780 };
    })
    ∷ Competitive 2 (record {
      energies = record { net = 150; accepted = 60; lost = 10; limited = 65; executed = 0; asked = 0 };
      adjustments = record { opportunity = 0; planning = 0; cooperation = 0 };
      control = record { p_act = 30; type2 = 0; type3 = 0; type5 = 0; type6 = 50; type8 = 0; day = 1; minute = 0 };
    })
    ∷ Guaranteed 1 (record {
      net = 66;
      control = record { p_act = 7; type2 = 0; type3 = 0; type5 = 9; type6 = 0; type8 = 0; day = 0; minute = 0 };
    })
    ∷ Guaranteed 2 (record {
      net = 88;
      control = record { p_act = 9; type2 = 3; type3 = 0; type5 = 0; type6 = 0; type8 = 0; day = 0; minute = 0 };
    })
    ∷ Use 1 200 ∷ Use 2 333 ∷ []

abbrev pub row : List Step → List Step → PriceRow (List Step) (List Step)
row offer cost = record { offer = offer; cost = cost }

abbrev pub rows : List (PriceRow (List Step) (List Step))
rows =
    row (step 30 300 ∷ step 40 500 ∷ step 100 520 ∷ []) (step 60 350 ∷ step 100 341 ∷ [])
    ∷ row (step 20 100 ∷ step 50 600 ∷ []) (step 100 450 ∷ step 100 90 ∷ [])
    ∷ row (step 10 200 ∷ []) (step 10 210 ∷ []) ∷ []

abbrev pub offers : List (List Step)
offers = (step 40 300 ∷ step 40 330 ∷ []) ∷ (step 100 250 ∷ []) ∷ []

abbrev pub found : Found
found = record {
  amount = λ g i. cond (g == 1) (slice_index (76 ∷ 82 ∷ 0 ∷ []) i) (slice_index (49 ∷ 38 ∷ []) i);
  run = λ i. slice_index (0 ∷ 37 ∷ []) i;
}

abbrev pub book : Ledger
book = ledger_in found (entered entries) (metered entries readings)

abbrev pub pay : Pay
pay = pay_by step_price step_price rows step_price offers header

-- the limit of a unit in a plant's group
abbrev pub limit_of : ℕ → ℕ → ℕ → ℕ
limit_of g plant i = (group_in g step_price offers plant (entered entries)).limit i

pub record FullerHour : Type 0 where
  pub accepted : length (entered entries) ≡ 20
  pub answers : map (λ entry. answer_in entry (entered entries)) (AddPlant 0 ∷ AddBuyer 0 ∷ AddCompetitive 1 0 0 ∷ AddGuaranteed 1 0 0 0 0 ∷ Correct 2 1 0 ∷ PutAside 1 2 ∷ TakeBack 1 3 ∷ Commit 1 1 1 ∷ Commit 3 1 5 ∷ []) ≡ Ok 3 ∷ Ok 3 ∷ Ok 4 ∷ Ok 3 ∷ Ok 1 ∷ Ok 2 ∷ Ok 3 ∷ Ok 5 ∷ Err NoPlant ∷ []
  pub reading_answers : map (λ reading. reading_answer_in (view_in (entered entries)) reading) readings ≡ Ok 1 ∷ Ok 1 ∷ Ok 2 ∷ Ok 1 ∷ Ok 2 ∷ Ok 1 ∷ Ok 2 ∷ []
  pub limits_of_one : map (limit_of 1 1) (0 ∷ 1 ∷ 2 ∷ []) ≡ 76 ∷ 0 ∷ 0 ∷ []
  pub limits_of_two : map (limit_of 1 2) (0 ∷ 1 ∷ 2 ∷ []) ≡ 0 ∷ 91 ∷ 0 ∷ []
  pub guaranteed_limits_of_one : map (limit_of 2 1) (0 ∷ 1 ∷ []) ≡ 67 ∷ 0 ∷ []
  pub guaranteed_limits_of_two : map (limit_of 2 2) (0 ∷ 1 ∷ []) ≡ 0 ∷ 38 ∷ []
  pub shares_one : share_one_in 1 3 2 (entered entries) ∷ share_two_in 1 3 2 (entered entries) ∷ [] ≡ 76 ∷ 49 ∷ []
  pub shares_two : share_one_in 2 3 2 (entered entries) ∷ share_two_in 2 3 2 (entered entries) ∷ [] ≡ 82 ∷ 75 ∷ []
  pub fewer_rows : share_one_in 2 1 2 (entered entries) ≡ 0
  pub unit_one : unit_figures (pay 1 0 (book.unit 1 0)) (book.unit 1 0) ≡ record { allocated = 76; billed = 117; payment = 15771 }
  pub unit_two : unit_figures (pay 1 1 (book.unit 1 1)) (book.unit 1 1) ≡ record { allocated = 82; billed = 142; payment = 11736 }
  pub unit_three : unit_figures (pay 1 2 (book.unit 1 2)) (book.unit 1 2) ≡ record { allocated = 0; billed = 0; payment = 0 }
  pub guaranteed_one : unit_figures (pay 2 0 (book.unit 2 0)) (book.unit 2 0) ≡ record { allocated = 49; billed = 64; payment = 24400 }
  pub guaranteed_two : unit_figures (pay 2 1 (book.unit 2 1)) (book.unit 2 1) ≡ record { allocated = 38; billed = 83; payment = 20750 }
  -- what plant 2 is billed over what it was allocated, and not over what it sold
  pub over : plant_over book 1 ≡ pos 105
  pub plant_one : plant_figures header pay book 0 ≡ record { committed = 125; allocated = 125; run = 0; support = 76; rate = 717; cost = 54492 }
  pub plant_two : plant_figures header pay book 1 ≡ record { committed = 157; allocated = 120; run = 37; support = 118; rate = 602; cost = 78046 }
  pub buyer_one : buyer_figures book 0 ≡ record { share = 140; net = pos 88 }
  pub buyer_two : buyer_figures book 1 ≡ record { share = 266; net = pos 36 }
  pub hour : hour_figures book ≡ record { billed = 406; committed = 282; unassigned = 0 }
