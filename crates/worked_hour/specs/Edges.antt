-- Further refusals, numbers at their limits, full tables, and units without rows.
use Rattle.std.specs.Prelude.{◌≡◌, ℕ, true, cond, List, [], ◌∷◌, ◌++◌, map, replicate, Ok, Err, Result, ◌==◌}
use Rattle.curves.specs.Refusals.{table_made, tariff_made}
use Rattle.curves.specs.Steps.{step_price}
use Rattle.curves.specs.declared.refusals.CurveRefusal.{CurveRefusal}
use Rattle.curves.specs.declared.refusals.CurveRefusal.TheVariants.{Steps, Price}
use Rattle.curves.specs.declared.steps.Step.{Step}
use Rattle.settlement.specs.Payments.{guaranteed_payment}
use Rattle.settlement.specs.Reference.{net_of, bill_of}
use Rattle.settlement.specs.Shares.{weight_of}
use Rattle.settling.specs.Derived.{Found, ledger_in}
use Rattle.settling.specs.Figures.{Pay, pay_by, unit_figures, plant_figures, hour_figures}
use Rattle.settling.specs.Headers.{checked}
use Rattle.settling.specs.Ledger.{Ledger}
use Rattle.settling.specs.declared.header.Header.{Header}
use Rattle.table.specs.ClosingLaw.{group_in, share_one_in, share_two_in}
use Rattle.table.specs.Effects.{priced_answer, after_priced, after_entry}
use Rattle.table.specs.History.{empty_table, units_in, answer_in}
use Rattle.table.specs.declared.entries.Entry.{Entry}
use Rattle.table.specs.declared.entries.Entry.TheVariants.{AddPlant, AddBuyer, AddCompetitive, AddGuaranteed, Commit, Correct}
use Rattle.table.specs.declared.readings.Reading.{Reading}
use Rattle.table.specs.declared.readings.Reading.TheVariants.{Competitive, Use}
use Rattle.table.specs.declared.records.Table.{Table}
use Rattle.table.specs.declared.refusals.BookRefusal.TheVariants.{NoPlant, Full, Percentage, Energy, Commitments}
use Rattle.table.specs.declared.refusals.UnitRefusal.TheVariants.{Book, Rows}
use Rattle.book.specs.Law.{entered, metered}
use Rattle.worked_hour.specs.Examples.{step, offer, cost}
use Rattle.worked_hour.specs.Refused.{seen, one, each, each_read, guaranteed, offer_told, cost_told, nine}

-- ten steps with a last one of a width and a price
abbrev pub tenth : ℕ → ℕ → List Step
tenth width price = nine ++ (step width price ∷ [])

-- lists that fall, that have a price over the highest, that have both, and that are too long besides; and some that are
-- made
abbrev pub lists : List (List Step)
lists =
    (step 1 20000000 ∷ step 1 15000000 ∷ []) ∷ (step 1 15000000 ∷ step 1 20000000 ∷ [])
    ∷ (step 1 10000001 ∷ step 1 10000000 ∷ []) ∷ (step 1 10000000 ∷ step 1 10000001 ∷ [])
    ∷ (step 1 10000001 ∷ step 1 5 ∷ []) ∷ (step 1 5 ∷ step 1 4 ∷ step 1 10000001 ∷ []) ∷ (step 1 5 ∷ step 1 10000001 ∷ step 1 4 ∷ [])
    ∷ replicate 11 (step 1 10000001) ∷ replicate 10 (step 1 10000001) ∷ tenth 1 10000001 ∷ (step 1 10000001 ∷ nine)
    ∷ tenth 1 0 ∷ tenth 0 1 ∷ tenth 2000001 1 ∷ tenth 0 10000001 ∷ (step 1 0 ∷ nine)
    ∷ replicate 10 (step 2000000 10000000) ∷ (step 1 0 ∷ []) ∷ []

-- a competitive reading of a unit by P_Act, the planning penalty, α, the maintenance day and UL energy, with no other
-- energy
abbrev pub reading : ℕ → ℕ → ℕ → ℕ → ℕ → ℕ → Reading
reading unit p_act planning asked day limited = Competitive unit (record {
  energies = record { net = 0; accepted = 0; lost = 0; limited = limited; executed = 0; asked = asked };
  adjustments = record { opportunity = 0; planning = planning; cooperation = 0 };
  control = record { p_act = p_act; type2 = 0; type3 = 0; type5 = 0; type6 = 0; type8 = 0; day = day; minute = 0 };
})

-- a table with one plant, and one with 128 competitive units besides
abbrev pub planted : Table
planted = after_entry (AddPlant 0) empty_table

abbrev pub crowded : Table
crowded = record {
  plants = planted.plants;
  competitive = record { count = 128; rows = [] };
  guaranteed = planted.guaranteed;
  buyers = planted.buyers;
  commitments = planted.commitments;
  sold = planted.sold;
  figures = planted.figures;
}

-- outcomes of making price rows: made, refused with 8, refused with 9
abbrev pub made : Result ℕ CurveRefusal
made = Ok 7

abbrev pub of_steps : Result ℕ CurveRefusal
of_steps = Err Steps

abbrev pub of_price : Result ℕ CurveRefusal
of_price = Err Price

-- one plant with so many units of each group
abbrev pub units : ℕ → ℕ → List Entry
units competitive guaranteed =
    AddPlant 0 ∷ replicate competitive (AddCompetitive 1 40 0) ++ replicate guaranteed (AddGuaranteed 1 30 20 0 1)

-- plant 1 sells all that it may to two buyers; the third commitment is turned down
abbrev pub sales : List Entry
sales =
    AddPlant 0 ∷ AddPlant 0 ∷ AddBuyer 0 ∷ AddBuyer 0 ∷ Commit 1 1 10000000 ∷ Commit 1 2 10000000 ∷ Commit 1 2 1 ∷ []

-- a guaranteed unit with no declared energy, and one with no seasonal energy
abbrev pub seasons : List Entry
seasons =
    AddPlant 0 ∷ AddBuyer 0 ∷ AddCompetitive 1 10 0 ∷ AddGuaranteed 1 0 20 0 0 ∷ AddGuaranteed 1 30 0 0 0 ∷ Commit 1 1 100 ∷ []

-- one plant with two units of each group, the guaranteed ones feeding the distribution grid. The first unit of each
-- group has a row, and the second has none.
abbrev pub entries : List Entry
entries =
    AddPlant 0 ∷ AddBuyer 0 ∷ AddCompetitive 1 40 0 ∷ AddCompetitive 1 60 0 ∷ AddGuaranteed 1 30 20 0 1 ∷ AddGuaranteed 1 50 50 0 1
    ∷ Commit 1 1 70 ∷ []

abbrev pub energy : ℕ → ℕ → Reading
energy unit net = Competitive unit (record {
  energies = record { net = net; accepted = 10; lost = 0; limited = 0; executed = 0; asked = 0 };
  adjustments = record { opportunity = 0; planning = 0; cooperation = 0 };
  control = record { p_act = 0; type2 = 0; type3 = 0; type5 = 0; type6 = 0; type8 = 0; day = 0; minute = 0 };
})

abbrev pub readings : List Reading
readings = energy 1 20 ∷ energy 2 30 ∷ guaranteed 1 17 0 0 0 ∷ guaranteed 2 19 0 0 0 ∷ []

abbrev pub header : Header
header = record { ceiling = 1000; coefficient = 10000; base = 200; saving = 30; tariff = 0 }

-- the shares are 40 and 30, the limits 40 and 20
abbrev pub found : Found
found = record { amount = λ g i. cond (i == 0) (cond (g == 1) 40 20) 0; run = λ i. 10 }

abbrev pub book : Ledger
book = ledger_in found (entered entries) (metered entries readings)

abbrev pub pay : Pay
pay = pay_by step_price step_price (record { offer = offer; cost = cost } ∷ []) step_price ((step 10 400 ∷ []) ∷ []) header

pub record EdgeExamples : Type 0 where
  -- step lists: 8 is judged over the whole list before 9, and on the prices as given
  pub offers : map offer_told lists ≡ 8 ∷ 9 ∷ 8 ∷ 9 ∷ 8 ∷ 8 ∷ 8 ∷ 8 ∷ 9 ∷ 9 ∷ 8 ∷ 8 ∷ 8 ∷ 8 ∷ 8 ∷ 0 ∷ 0 ∷ 0 ∷ []
  pub costs : map cost_told lists ≡ 9 ∷ 9 ∷ 9 ∷ 9 ∷ 9 ∷ 9 ∷ 9 ∷ 8 ∷ 9 ∷ 9 ∷ 9 ∷ 0 ∷ 8 ∷ 8 ∷ 8 ∷ 0 ∷ 0 ∷ 0 ∷ []
  pub no_rate : tariff_made 0 ≡ Ok (record { rate = 0 })
  pub ten : table_made true (tenth 1 2) ≡ Ok (record { count = 10; steps = tenth 1 2 })
  -- readings: the unit before all else, then 6, 9, 10, 11
  pub strangers : each_read (reading 2 2000001 0 0 0 0 ∷ reading 2 0 100000001 0 0 0 ∷ reading 2 0 0 2 0 0 ∷ reading 0 0 0 0 401 0 ∷ reading 2 0 0 0 0 1 ∷ guaranteed 2 0 2000001 0 0 ∷ guaranteed 0 0 0 401 0 ∷ guaranteed 2 0 0 0 1440 ∷ []) ≡ 2 ∷ 2 ∷ 2 ∷ 2 ∷ 2 ∷ 2 ∷ 2 ∷ 2 ∷ []
  pub energy_first : each_read (reading 1 2000001 100000001 2 401 1 ∷ reading 1 2000001 0 2 0 0 ∷ reading 1 2000001 0 0 401 0 ∷ reading 1 2000001 0 0 0 1 ∷ guaranteed 1 2000001 0 401 0 ∷ guaranteed 1 0 2000001 0 1440 ∷ []) ≡ 6 ∷ 6 ∷ 6 ∷ 6 ∷ 6 ∷ 6 ∷ []
  pub then_price : each_read (reading 1 0 100000001 2 0 1 ∷ reading 1 0 100000001 0 401 0 ∷ reading 1 0 100000001 0 0 1 ∷ reading 1 0 0 2 0 1 ∷ reading 1 0 0 0 401 1 ∷ []) ≡ 9 ∷ 9 ∷ 9 ∷ 10 ∷ 10 ∷ []
  -- nothing but zeros is accepted, and energy that a plant asked for without executing any
  pub zeros : each_read (reading 1 0 0 0 0 0 ∷ reading 1 0 0 1 0 0 ∷ guaranteed 1 0 0 0 0 ∷ Use 1 0 ∷ []) ≡ 0 ∷ 0 ∷ 0 ∷ 0 ∷ []
  pub no_header : checked (record { ceiling = 0; coefficient = 0; base = 0; saving = 0; tariff = 0 }) ≡ Ok (record { ceiling = 0; coefficient = 0; base = 0; saving = 0; tariff = 0 })
  -- 20,000,000 is the most that a plant sells, whoever buys it
  pub sold_out : each (record { plants = 2; competitive = 0; guaranteed = 0; buyers = 2; commitments = 0; sold = λ plant. cond (plant == 1) 20000000 0 }) (Commit 1 2 1 ∷ Commit 2 1 1 ∷ []) ≡ 7 ∷ 0 ∷ []
  pub sold_to_two : map (λ entry. answer_in entry (entered sales)) (Commit 1 1 1 ∷ Commit 1 2 20000001 ∷ Commit 2 1 20000000 ∷ []) ≡ Err Commitments ∷ Err Energy ∷ Ok 3 ∷ []
  -- a guaranteed unit's limit is by its seasonal energy alone, and its share by its declared energy alone
  pub seasonal : map (λ i. (group_in 2 step_price (offer ∷ offer ∷ []) 1 (entered seasons)).limit i) (0 ∷ 1 ∷ []) ≡ 20 ∷ 0 ∷ []
  pub seasonal_shares : share_one_in 1 1 2 (entered seasons) ∷ share_one_in 1 1 1 (entered seasons) ∷ [] ≡ 25 ∷ 100 ∷ []
  -- entries against two rows
  pub two_rows : each one (AddCompetitive 2 2000001 2001 ∷ AddGuaranteed 2 2000001 0 2001 2 ∷ AddGuaranteed 1 0 0 2001 2 ∷ AddGuaranteed 1 2000001 0 0 2 ∷ Commit 2 2 0 ∷ Commit 1 2 0 ∷ Correct 1 2 2000001 ∷ Correct 2 0 2000001 ∷ []) ≡ 1 ∷ 1 ∷ 5 ∷ 6 ∷ 1 ∷ 3 ∷ 2 ∷ 2 ∷ []
  pub into_full : each (seen 1 128 768 20000000) (AddCompetitive 1 2000001 0 ∷ AddGuaranteed 1 2000001 0 0 2 ∷ Commit 2 1 1 ∷ Commit 1 2 1 ∷ Commit 1 1 1 ∷ []) ≡ 4 ∷ 4 ∷ 1 ∷ 3 ∷ 4 ∷ []
  -- a unit that comes with its rows: the book's refusals, then those of the rows; a refused one changes nothing
  pub priced : map (λ made. priced_answer 1 2000000 2000 made planted) (made ∷ of_steps ∷ of_price ∷ []) ≡ Ok (1, 7) ∷ Err (Rows Steps) ∷ Err (Rows Price) ∷ []
  pub priced_late : priced_answer 1 2000001 0 of_price planted ∷ priced_answer 1 0 2001 of_steps planted ∷ priced_answer 2 0 0 made planted ∷ priced_answer 1 0 0 of_price crowded ∷ priced_answer 2 0 0 made crowded ∷ [] ≡ Err (Book Energy) ∷ Err (Book Percentage) ∷ Err (Book NoPlant) ∷ Err (Book Full) ∷ Err (Book NoPlant) ∷ []
  pub priced_after : map (λ made. (after_priced 1 9 8 made planted).competitive.count) (made ∷ of_steps ∷ of_price ∷ []) ≡ 1 ∷ 0 ∷ 0 ∷ []
  -- 128 units of each group are taken, and no more
  pub nearly_full : answer_in (AddCompetitive 1 0 0) (entered (units 127 128)) ∷ answer_in (AddGuaranteed 1 0 0 0 0) (entered (units 128 127)) ∷ [] ≡ Ok 128 ∷ Ok 128 ∷ []
  pub full : answer_in (AddCompetitive 1 0 0) (entered (units 129 0)) ∷ answer_in (AddGuaranteed 1 0 0 0 0) (entered (units 0 129)) ∷ [] ≡ Err Full ∷ Err Full ∷ []
  pub counted : units_in 1 (entered (units 129 130)) ∷ units_in 2 (entered (units 129 130)) ∷ [] ≡ 128 ∷ 128 ∷ []
  pub in_group : map (λ i. (group_in 1 step_price (replicate 130 offer) 1 (entered (units 129 0))).limit i) (0 ∷ 127 ∷ 128 ∷ []) ≡ 40 ∷ 40 ∷ 0 ∷ []
  pub group_size : (group_in 1 step_price (replicate 130 offer) 1 []).units ∷ (group_in 1 step_price (replicate 127 offer) 1 []).units ∷ [] ≡ 128 ∷ 127 ∷ []
  -- energy at its limit, with loss and without
  pub bills : map (bill_of 0) (0 ∷ 1999999 ∷ 2000000 ∷ 2000001 ∷ []) ≡ 0 ∷ 1999999 ∷ 2000000 ∷ 2000000 ∷ []
  pub carried_bills : bill_of 1 2000000 ∷ bill_of 200 2000001 ∷ bill_of 2000 2000000 ∷ bill_of 2001 4000000000 ∷ [] ≡ 1999800 ∷ 1960000 ∷ 1600000 ∷ 1600000 ∷ []
  pub limits : net_of 0 0 2000000 ∷ net_of 2000 2000 2000000 ∷ net_of 2001 2500 2000000 ∷ [] ≡ 2000000 ∷ 1280000 ∷ 1280000 ∷ []
  pub weights : weight_of 2000 10000 ∷ weight_of 2001 10000 ∷ weight_of 1999 10000 ∷ weight_of 2000 50000000 ∷ [] ≡ 12000 ∷ 12000 ∷ 11999 ∷ 60000000 ∷ []
  pub most_saved : guaranteed_payment 2000001 (λ k. 3) 1 30 ≡ 66000000
  -- units without a row have limit 0, count in no share and are paid nothing, though they are billed
  pub limits_one : map (λ i. (group_in 1 step_price (offer ∷ []) 1 (entered entries)).limit i) (0 ∷ []) ≡ 40 ∷ []
  pub limits_two : map (λ i. (group_in 2 step_price (offer ∷ []) 1 (entered entries)).limit i) (0 ∷ []) ≡ 20 ∷ []
  pub shares : share_one_in 1 1 1 (entered entries) ∷ share_two_in 1 1 1 (entered entries) ∷ [] ≡ 40 ∷ 30 ∷ []
  pub competitive_one : unit_figures (pay 1 0 (book.unit 1 0)) (book.unit 1 0) ≡ record { allocated = 40; billed = 20; payment = 0 }
  pub competitive_two : unit_figures (pay 1 1 (book.unit 1 1)) (book.unit 1 1) ≡ record { allocated = 0; billed = 30; payment = 0 }
  pub guaranteed_one : unit_figures (pay 2 0 (book.unit 2 0)) (book.unit 2 0) ≡ record { allocated = 20; billed = 17; payment = 7310 }
  pub guaranteed_two : unit_figures (pay 2 1 (book.unit 2 1)) (book.unit 2 1) ≡ record { allocated = 0; billed = 19; payment = 0 }
  pub plant : plant_figures header pay book 0 ≡ record { committed = 70; allocated = 60; run = 10; support = 70; rate = 456; cost = 33920 }
  pub hour : hour_figures book ≡ record { billed = 86; committed = 70; unassigned = 86 }
