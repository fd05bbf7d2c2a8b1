-- The small examples: roundings, limits past which a number is read as its limit, and the cases of each formula.
use Rattle.std.specs.Prelude.{◌≡◌, ℕ, true, false, List, [], ◌∷◌, drop, map, pos, negsuc}
use Rattle.curves.specs.Kinds.{raised_price, tariff_price}
use Rattle.curves.specs.Limits.{read_energy, read_kwh, read_price, read_count}
use Rattle.curves.specs.Steps.{step_price, read_from}
use Rattle.curves.specs.declared.steps.Step.{Step}
use Rattle.settlement.specs.Payments.{sum_a, sum_b, sum_c, guaranteed_payment}
use Rattle.settlement.specs.Reference.{kept, at_reference, net_of, bill_of}
use Rattle.settlement.specs.Shares.{group_one_share, weight_of}
use Rattle.settlement.specs.Support.{marked, active_of, rate_of, support_cost}
use Rattle.settlement.specs.declared.payments.PaidUnit.{PaidUnit}
use Rattle.settlement.specs.declared.readings.Control.{Control}
use Rattle.settling.specs.Derived.{ledger_in}
use Rattle.settling.specs.Figures.{hour_figures}
use Rattle.book.specs.Law.{entered, metered}
use Rattle.worked_hour.specs.Examples.{step, offer, cost, unit, entries, readings, found}

-- a unit with an internal consumption of 500 hundredths of a percent and executed gross energy 125, by α
abbrev pub executed_unit : ℕ → PaidUnit
executed_unit asked = record {
  loss = 0;
  internal = 500;
  allocated = 40;
  energies = record { net = 130; accepted = 70; lost = 20; limited = 10; executed = 125; asked = asked };
}

-- a unit that is billed less than its accepted energy
abbrev pub little : PaidUnit
little = record {
  loss = 0;
  internal = 0;
  allocated = 40;
  energies = record { net = 50; accepted = 70; lost = 20; limited = 10; executed = 0; asked = 0 };
}

-- a control part of maintenance day 2 by its exit minute, with a digit of its own for each energy
abbrev pub control : ℕ → Control
control minute =
    record { p_act = 1; type2 = 10; type3 = 100; type5 = 1000; type6 = 10000; type8 = 100000; day = 2; minute = minute }

-- a list whose second price falls
abbrev pub falling : List Step
falling = step 10 300 ∷ step 0 200 ∷ step 3000000 20000000 ∷ []

pub record SmallExamples : Type 0 where
  -- one fraction is dropped, once
  pub reference : at_reference 2000 2 ≡ 1
  pub limit_once : net_of 2000 2000 8 ≡ 5
  pub weight_is : weight_of 2000 3 ≡ 3
  pub raised : raised_price 1000 (λ k. 3) 1 ≡ 3
  pub readiness : support_cost 500 10 7 350 9000 200 ≡ 7844
  -- numbers past their limits are read as the limits
  pub losses : kept 2001 ≡ 8000
  pub weight_loss : weight_of 2500 100 ≡ 120
  pub net_read : bill_of 0 2000001 ≡ 2000000
  pub energy_read : map read_energy (0 ∷ 2000000 ∷ 2000001 ∷ []) ≡ 0 ∷ 2000000 ∷ 2000000 ∷ []
  pub kwh_read : map read_kwh (0 ∷ 1 ∷ 2000000 ∷ 2000001 ∷ []) ≡ 1 ∷ 1 ∷ 2000000 ∷ 2000000 ∷ []
  pub price_is_read : map read_price (0 ∷ 10000000 ∷ 10000001 ∷ []) ≡ 0 ∷ 10000000 ∷ 10000000 ∷ []
  pub count_read : map read_count (0 ∷ 1 ∷ 10 ∷ 11 ∷ []) ≡ 1 ∷ 1 ∷ 10 ∷ 10 ∷ []
  pub ceiling : raised_price 400 (λ k. 350) 1 ≡ 400
  pub ceiling_read : raised_price 20000000 (λ k. 9000000) 1 ≡ 10000000
  pub one_rate : tariff_price (record { rate = 5 }) 7 ≡ 5
  pub rate_read : tariff_price (record { rate = 10000001 }) 7 ≡ 10000000
  -- step lists: an offer's prices are lifted and a cost's are not; past all steps the last price goes on
  pub lifted : map (step_price (read_from true 0 falling)) (10 ∷ 11 ∷ 12 ∷ 2000000 ∷ []) ≡ 300 ∷ 300 ∷ 10000000 ∷ 10000000 ∷ []
  pub as_given : map (step_price (read_from false 0 falling)) (10 ∷ 11 ∷ 12 ∷ 2000000 ∷ []) ≡ 300 ∷ 200 ∷ 10000000 ∷ 10000000 ∷ []
  pub past_all : map (step_price offer) (1 ∷ 100 ∷ 101 ∷ 200 ∷ 201 ∷ []) ≡ 300 ∷ 300 ∷ 500 ∷ 500 ∷ 500 ∷ []
  -- nothing is declared, or only in group 2
  pub nothing_declared : group_one_share 100 0 0 ∷ group_one_share 100 0 5 ∷ [] ≡ 100 ∷ 0 ∷ []
  -- the whole of what was offered is allocated: all that is billed past it is raised
  pub allocated_more : sum_a (unit 120) (step_price offer) ∷ sum_b (unit 120) (step_price offer) (step_price cost) ∷ sum_c (unit 120) (step_price offer) (step_price cost) 1000 ∷ [] ≡ 0 ∷ 0 ∷ 4200 ∷ []
  pub at_ceiling : sum_c (unit 90) (step_price offer) (step_price cost) 400 ≡ 8000
  -- lost and executed energy
  pub asked : sum_a (executed_unit 1) (step_price offer) ∷ sum_b (executed_unit 1) (step_price offer) (step_price cost) ∷ sum_c (executed_unit 1) (step_price offer) (step_price cost) 1000 ∷ [] ≡ 12000 ∷ 13300 ∷ 3600 ∷ []
  pub asked_twice : sum_b (executed_unit 2) (step_price offer) (step_price cost) ≡ 13300
  pub not_asked : sum_a (executed_unit 0) (step_price offer) ∷ sum_b (executed_unit 0) (step_price offer) (step_price cost) ∷ sum_c (executed_unit 0) (step_price offer) (step_price cost) 1000 ∷ [] ≡ 12000 ∷ 3000 ∷ 12000 ∷ []
  -- less is billed than was accepted
  pub little_billed : sum_a little (step_price offer) ∷ sum_b little (step_price offer) (step_price cost) ∷ sum_c little (step_price offer) (step_price cost) 1000 ∷ [] ≡ 3000 ∷ 0 ∷ 0 ∷ []
  -- the lesser of two sums, and not the sum of the lesser prices
  pub as_wholes : sum_b (unit 40) (λ k. k) (λ k. 100) ≡ 2000
  -- a guaranteed unit with β 0, 1 and 2
  pub feeding : map (λ feeds. guaranteed_payment 50 (step_price offer) feeds 200) (0 ∷ 1 ∷ 2 ∷ []) ≡ 15000 ∷ 25000 ∷ 25000 ∷ []
  -- the maintenance mark, active energy, rates of support
  pub marked_days : marked 0 781 ∷ marked 1 0 ∷ marked 3 781 ∷ [] ≡ false ∷ true ∷ false ∷ []
  pub active : map (λ minute. active_of (control minute)) (780 ∷ 781 ∷ []) ≡ 111111 ∷ 101111 ∷ []
  pub own_rate : rate_of 100 (pos 3) (pos 0) (pos 0) 7 ∷ rate_of 200 (pos 5) (pos 100) (pos 3) 7 ∷ [] ≡ 33 ∷ 40 ∷ []
  pub hour_rate : rate_of 100 (pos 3) (pos 200) (pos 5) 7 ∷ rate_of 100 (pos 0) (pos 200) (pos 3) 7 ∷ [] ≡ 40 ∷ 66 ∷ []
  pub no_rate : rate_of 9 (negsuc 0) (negsuc 4) (pos 0) 7 ∷ rate_of 9 (pos 0) (pos 9) (negsuc 0) 7 ∷ [] ≡ 7 ∷ 7 ∷ []
  pub no_money : rate_of 100 (pos 0) (negsuc 4) (pos 1) 7 ≡ 0
  pub highest_rates : rate_of 3000000000 (pos 1) (pos 0) (pos 0) 7 ∷ rate_of 0 (pos 0) (pos 3000000000) (pos 1) 7 ∷ rate_of 3000000000 (pos 1) (pos 2) (pos 1) 7 ∷ [] ≡ 1000000000 ∷ 1000000000 ∷ 1000000000 ∷ []
  -- an hour in which no use was read: all that is billed falls to nobody
  pub nobody : hour_figures (ledger_in found (entered entries) (drop 1 (metered entries readings))) ≡ record { billed = 130; committed = 50; unassigned = 130 }
