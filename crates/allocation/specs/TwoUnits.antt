-- A worked example. Unit 1 offers 50 kWh at 300 and then 500, unit 2 offers 80 at 400 and then 500. Each limit is 100.
use Rattle.std.specs.Prelude.{◌≡◌, ℕ, [], ◌∷◌}
use Rattle.curves.specs.Steps.{step_price}
use Rattle.curves.specs.declared.steps.Step.{Step}
use Rattle.allocation.specs.Groups.{Group, units_of, amount_at, cost}
use Rattle.allocation.specs.Merit.{MeritOrder}
use Rattle.allocation.specs.Laws.{uncovered}

abbrev pub step : ℕ → ℕ → Step
step width price = record { width = width; price = price }

abbrev pub two_units : Group
two_units =
    units_of step_price ((step 50 300 ∷ (step 50 500 ∷ [])) ∷ ((step 80 400 ∷ (step 20 500 ∷ [])) ∷ [])) (100 ∷ (100 ∷ [])) 2

abbrev pub amounts : ℕ → ℕ → ℕ → ℕ
amounts first second = amount_at (first ∷ (second ∷ []))

-- A share of 150 gives 70 and 80, which cost 57,000. A share of 200 gives 100 and 100 and leaves nothing. Of 201 one
-- kWh stays uncovered.
pub record WorkedExample : Type 0 where
  pub of_150 : MeritOrder two_units 150 (amounts 70 80)
  pub cost_150 : cost two_units (amounts 70 80) ≡ 57000
  pub of_200 : MeritOrder two_units 200 (amounts 100 100)
  pub left_200 : uncovered two_units 200 (amounts 100 100) ≡ 0
  pub of_201 : MeritOrder two_units 201 (amounts 100 100)
  pub left_201 : uncovered two_units 201 (amounts 100 100) ≡ 1
