-- Sums whose fractions, dropped one by one, come to a kWh more or less than dropped once; and the kWh whose price the
-- rest of the billed energy has.
use Rattle.std.specs.Prelude.{◌≡◌, ℕ, ◌*◌, List, [], ◌∷◌, negsuc, cond, ◌==◌}
use Rattle.curves.specs.Steps.{step_price}
use Rattle.curves.specs.declared.steps.Step.{Step}
use Rattle.settlement.specs.Payments.{sum_a, sum_b, sum_c, first_part, second_part}
use Rattle.settlement.specs.declared.payments.PaidUnit.{PaidUnit}
use Rattle.settling.specs.Derived.{Found, ledger_in}
use Rattle.settling.specs.Figures.{sum_units, billed_unit, plant_over, hour_over, hour_figures, day_in}
use Rattle.settling.specs.Ledger.{Ledger, table_of}
use Rattle.table.specs.Closing.{plant_group}
use Rattle.table.specs.ClosingLaw.{group_in}
use Rattle.table.specs.Effects.{after_entries}
use Rattle.table.specs.History.{empty_table}
use Rattle.table.specs.declared.entries.Entry.{Entry}
use Rattle.table.specs.declared.entries.Entry.TheVariants.{AddPlant, AddBuyer, AddCompetitive, AddGuaranteed, Commit}
use Rattle.table.specs.declared.readings.Reading.{Reading}
use Rattle.table.specs.declared.readings.Reading.TheVariants.{Competitive, Guaranteed}
use Rattle.book.specs.Law.{entered, metered}
use Rattle.worked_hour.specs.Examples.{step}

-- a unit by its plant's loss, its allocated amount, and its net, accepted, lost and UL energy
abbrev pub unit : ℕ → ℕ → ℕ → ℕ → ℕ → ℕ → PaidUnit
unit loss allocated net accepted lost limited = record {
  loss = loss;
  internal = 0;
  allocated = allocated;
  energies = record { net = net; accepted = accepted; lost = lost; limited = limited; executed = 0; asked = 0 };
}

-- a unit whose plant asked (α is 1), with executed gross energy 8; internal consumption and loss each leave four fifths
abbrev pub asked : PaidUnit
asked = record {
  loss = 2000;
  internal = 2000;
  allocated = 0;
  energies = record { net = 20; accepted = 0; lost = 0; limited = 0; executed = 8; asked = 1 };
}

-- the ends of the first and the second part of a unit's billed energy
abbrev pub ends : PaidUnit → List ℕ
ends u = first_part u ∷ second_part u ∷ []

-- the three sums where kWh k costs k by the offer, and ten times that by the cost curve
abbrev pub parts : PaidUnit → List ℕ
parts u = sum_a u (λ k. k) ∷ sum_b u (λ k. k) (λ k. 10 * k) ∷ sum_c u (λ k. k) (λ k. 10 * k) 1000000 ∷ []

-- Com is kWh 70, which is 63 at the reference point; the second part ends at 72, the bill at 90
abbrev pub rest : ℕ → PaidUnit
rest allocated = unit 1000 allocated 100 60 20 10

-- kWh 63, 69, 70, 71, 72 and 73 each at a price of its own
abbrev pub offer : List Step
offer =
    step 62 100 ∷ step 1 110 ∷ step 5 120 ∷ step 1 130 ∷ step 1 140 ∷ step 1 150 ∷ step 1 160 ∷ step 1 170 ∷ step 10 180 ∷ []

-- the three sums by this offer and a cost of 1,000
abbrev pub steep_parts : PaidUnit → List ℕ
steep_parts u =
    sum_a u (step_price offer) ∷ sum_b u (step_price offer) (λ k. 1000) ∷ sum_c u (step_price offer) (λ k. 1000) 1000 ∷ []

-- units of both groups of 8 kWh, with the same consumption and loss
abbrev pub small_units : List Entry
small_units = AddPlant 2000 ∷ AddCompetitive 1 8 2000 ∷ AddGuaranteed 1 1 8 2000 0 ∷ []

-- one offer, for the one unit of either group
abbrev pub offers : List (ℕ → ℕ)
offers = (λ kwh. 300) ∷ []

-- the limit of the one unit of a group, by the entries and by the table
abbrev pub limit_in_group : ℕ → ℕ
limit_in_group g = (group_in g (λ f. f) offers 1 (entered small_units)).limit 0

abbrev pub limit_in_table : ℕ → ℕ
limit_in_table g = (plant_group (λ f. f) offers 1 2000 (table_of g (after_entries small_units empty_table))).limit 0

-- a plant with a unit of each group, which sells 40 kWh
abbrev pub entries : List Entry
entries = AddPlant 500 ∷ AddBuyer 0 ∷ AddCompetitive 1 30 0 ∷ AddGuaranteed 1 20 20 0 0 ∷ Commit 1 1 40 ∷ []

-- Readings of both units by P_Act, with deviations of type 6 of 30 and 10. The maintenance mark is set for the
-- competitive unit alone, so its 30 don't count.
abbrev pub readings : ℕ → ℕ → List Reading
readings one two =
    Competitive 1 (record {
      energies = record { net = 10; accepted = 0; lost = 0; limited = 0; executed = 0; asked = 0 };
      adjustments = record { opportunity = 0; planning = 0; cooperation = 0 };
      control = record { p_act = one; type2 = 0; type3 = 0; type5 = 0; type6 = 30; type8 = 0; day = 1; minute = 0 };
    })
    ∷ Guaranteed 1 (record {
      net = 10;
      control = record { p_act = two; type2 = 0; type3 = 0; type5 = 0; type6 = 10; type8 = 0; day = 2; minute = 780 };
    }) ∷ []

-- each unit is allocated its group's share, which is within its limit
abbrev pub found : Found
found = record { amount = λ g i. cond (g == 1) 24 16; run = λ i. 0 }

abbrev pub book : ℕ → ℕ → Ledger
book one two = ledger_in found (entered entries) (metered entries (readings one two))

pub record FractionExamples : Type 0 where
  -- accepted and lost energy of 10 each: together 19 are left of them, and not 9 + 9
  pub lost_ends : ends (unit 500 0 40 10 10 0) ≡ 19 ∷ 19 ∷ []
  pub lost_parts : parts (unit 500 0 40 10 10 0) ≡ 190 ∷ 0 ∷ 380 ∷ []
  -- 20 accepted less 10 UL: 9 are left, and not 19 - 9
  pub limited_ends : ends (unit 500 0 40 20 0 10) ≡ 9 ∷ 19 ∷ []
  pub limited_parts : parts (unit 500 0 40 20 0 10) ≡ 45 ∷ 145 ∷ 190 ∷ []
  -- 10 accepted and 30 lost less 20 UL: 19 are left, and not 9 + 28 - 19
  pub all_ends : ends (unit 500 0 60 10 30 20) ≡ 19 ∷ 38 ∷ []
  pub all_parts : parts (unit 500 0 60 10 30 20) ≡ 190 ∷ 551 ∷ 380 ∷ []
  -- 5.12 of 8 are left; with the first fraction dropped too it would be 4.8 of 6
  pub asked_ends : ends asked ≡ 0 ∷ 5 ∷ []
  pub asked_parts : parts asked ≡ 0 ∷ 15 ∷ 1452 ∷ []
  pub limits : limit_in_group 1 ∷ limit_in_group 2 ∷ [] ≡ 5 ∷ 5 ∷ []
  pub table_limits : limit_in_table 1 ∷ limit_in_table 2 ∷ [] ≡ 5 ∷ 5 ∷ []
  -- the rest is priced at kWh 70, or each kWh by the raised cost curve
  pub rest_ends : ends (rest 40) ∷ ends (rest 80) ∷ [] ≡ (63 ∷ 72 ∷ []) ∷ (80 ∷ 72 ∷ []) ∷ []
  pub rest_parts : parts (rest 40) ≡ 1196 ∷ 612 ∷ 1260 ∷ []
  pub rest_by_steps : steep_parts (rest 40) ≡ 2310 ∷ 1180 ∷ 2520 ∷ []
  pub rest_raised : parts (rest 80) ≡ 0 ∷ 0 ∷ 10260 ∷ []
  -- each unit's bill drops its own fraction: 9 + 9, and not 19
  pub bills : sum_units (book 10 0) billed_unit ≡ 18
  pub over : plant_over (book 10 0) 0 ∷ hour_over (book 10 0) ∷ [] ≡ negsuc 21 ∷ negsuc 21 ∷ []
  pub hour : hour_figures (book 10 0) ≡ record { billed = 18; committed = 40; unassigned = 18 }
  -- active energies of 10 each: together 19 are left of them, and not 9 + 9
  pub active : day_in (book 10 0) 0 ≡ 21
  -- what one unit made over its amount covers what the other fell short of
  pub covered : day_in (book 60 0) 0 ∷ day_in (book 0 60) 0 ∷ [] ≡ 0 ∷ 0 ∷ []
