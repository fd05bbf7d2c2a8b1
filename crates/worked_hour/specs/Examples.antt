-- The worked examples: limits, shares, the split, payments, the maintenance mark, day support, the buyers' shares, and
-- the figures of the worked hour.
use Rattle.std.specs.Prelude.{◌≡◌, ℕ, ◌-◌, true, false, List, [], ◌∷◌, pos, negsuc, ◌-ℤ◌}
use Rattle.allocation.specs.TwoUnits.{WorkedExample}
use Rattle.curves.specs.Steps.{step_price}
use Rattle.curves.specs.declared.steps.Step.{Step}
use Rattle.settlement.specs.Payments.{sum_a, sum_b, sum_c}
use Rattle.settlement.specs.Reference.{net_of}
use Rattle.settlement.specs.Shares.{running_share, group_one_share, group_two_share}
use Rattle.settlement.specs.Support.{marked, day_support}
use Rattle.settlement.specs.declared.payments.PaidUnit.{PaidUnit}
use Rattle.settling.specs.Derived.{Found, ledger_in}
use Rattle.settling.specs.Figures.{Pay, pay_by, unit_figures, plant_figures, buyer_figures, hour_figures}
use Rattle.settling.specs.Ledger.{Ledger}
use Rattle.settling.specs.declared.header.Header.{Header}
use Rattle.table.specs.declared.entries.Entry.{Entry}
use Rattle.table.specs.declared.entries.Entry.TheVariants.{AddPlant, AddBuyer, AddCompetitive, Commit}
use Rattle.table.specs.declared.readings.Reading.{Reading}
use Rattle.table.specs.declared.readings.Reading.TheVariants.{Competitive, Use}
use Rattle.book.specs.Law.{entered, metered}

abbrev pub step : ℕ → ℕ → Step
step width price = record { width = width; price = price }

-- 100 kWh at 300 rial per MWh, then 500; and a cost of 350
abbrev pub offer : List Step
offer = step 100 300 ∷ (step 100 500 ∷ [])

abbrev pub cost : List Step
cost = step 100 350 ∷ []

-- the worked unit with an allocated amount: net energy 130, accepted 110, UL 20
abbrev pub unit : ℕ → PaidUnit
unit allocated = record {
  loss = 0;
  internal = 0;
  allocated = allocated;
  energies = record { net = 130; accepted = 110; lost = 0; limited = 20; executed = 0; asked = 0 };
}

-- the share of 100 kWh that buyer b has, of three buyers with the weight 1 each
abbrev pub third : ℕ → ℕ
third b = running_share 100 b 3 - running_share 100 (b - 1) 3

-- the worked hour: one plant with one unit sells 50 kWh to one buyer
abbrev pub header : Header
header = record { ceiling = 1000; coefficient = 10000; base = 200; saving = 0; tariff = 0 }

abbrev pub entries : List Entry
entries = AddPlant 0 ∷ (AddBuyer 0 ∷ (AddCompetitive 1 40 0 ∷ (Commit 1 1 50 ∷ [])))

abbrev pub readings : List Reading
readings =
    Competitive 1 (record {
      energies = record { net = 130; accepted = 110; lost = 0; limited = 20; executed = 0; asked = 0 };
      adjustments = record { opportunity = 0; planning = 0; cooperation = 0 };
      control = record { p_act = 30; type2 = 0; type3 = 0; type5 = 0; type6 = 0; type8 = 0; day = 0; minute = 0 };
    })
    ∷ (Use 1 200 ∷ [])

-- closing allocates 40 kWh and leaves 10 to run support
abbrev pub found : Found
found = record { amount = λ g i. 40; run = λ i. 10 }

abbrev pub book : Ledger
book = ledger_in found (entered entries) (metered entries readings)

abbrev pub pay : Pay
pay = pay_by step_price step_price (record { offer = offer; cost = cost } ∷ []) step_price [] header

pub record WorkedExamples : Type 0 where
  pub limit : net_of 500 200 100000 ≡ 93100
  pub smallest_limit : net_of 0 1 1 ≡ 0
  pub share_one_is : group_one_share 100 200 100 ≡ 66
  pub share_two_is : group_two_share 100 200 100 ≡ 34
  pub split : WorkedExample
  pub part_a : sum_a (unit 40) (step_price offer) ≡ 15000
  pub part_b : sum_b (unit 40) (step_price offer) (step_price cost) ≡ 7000
  pub part_c : sum_c (unit 40) (step_price offer) (step_price cost) 1000 ≡ 6000
  pub free_a : sum_a (unit 90) (step_price offer) ≡ 0
  pub free_b : sum_b (unit 90) (step_price offer) (step_price cost) ≡ 7000
  pub free_c : sum_c (unit 90) (step_price offer) (step_price cost) 1000 ≡ 8400
  pub unmarked : marked 2 780 ≡ false
  pub marked : marked 2 781 ≡ true
  pub day_support_is : day_support 200 150 100 ≡ 52
  pub first_share : third 1 ≡ 33
  pub second_share : third 2 ≡ 33
  pub third_share : third 3 ≡ 34
  pub third_net : pos (third 3) -ℤ pos 40 ≡ negsuc 5
  pub hour_unit : unit_figures (pay 1 0 (book.unit 1 0)) (book.unit 1 0) ≡ record { allocated = 40; billed = 130; payment = 28000 }
  pub hour_plant : plant_figures header pay book 0 ≡ record { committed = 50; allocated = 40; run = 10; support = 20; rate = 350; cost = 9000 }
  pub hour_buyer : buyer_figures book 0 ≡ record { share = 130; net = pos 80 }
  pub hour_hour : hour_figures book ≡ record { billed = 130; committed = 50; unassigned = 0 }
