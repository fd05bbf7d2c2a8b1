-- Ledgers that agree on the rows that are there give the same figures.
use Rattle.std.proofs.Common.{◌≡◌, ℕ, ◌+◌, ◌*◌, ◌<◌, ◌≤◌, ℤ, pos, ◌-ℤ◌, unwrap_or, ap, ◌∙◌, arith}
use Rattle.allocation.specs.Groups.{sum_of}
use Rattle.allocation.proofs.Sums.{sum_cong}
use Rattle.settlement.specs.Shares.{weight_of}
use Rattle.settlement.specs.Support.{day_support, rate_of, support_cost}
use Rattle.table.specs.declared.records.PlantFigures.{PlantFigures}
use Rattle.settling.specs.Figures.{Pay, sum_units, of_plant, billed_unit, active_unit, opportunity_unit, penalty_unit, volumes, bought_by, hour_money, hour_over, plant_figures, weight_in, weights_to, buyer_figures, hour_figures}
use Rattle.settling.specs.Ledger.{UnitCase, PlantCase, BuyerCase, Ledger}
use Rattle.settling.specs.Stages.{hour_by, buyer_figures_by}
use Rattle.settling.specs.declared.header.Header.{Header}

pub record Agree (a b : Ledger) : Type 0 where
  pub plants : a.plants ≡ b.plants
  pub plant : (i : ℕ) → i < a.plants → a.plant i ≡ b.plant i
  pub units1 : a.units 1 ≡ b.units 1
  pub units2 : a.units 2 ≡ b.units 2
  pub unit1 : (i : ℕ) → i < a.units 1 → a.unit 1 i ≡ b.unit 1 i
  pub unit2 : (i : ℕ) → i < a.units 2 → a.unit 2 i ≡ b.unit 2 i
  pub buyers : a.buyers ≡ b.buyers
  pub buyer : (i : ℕ) → i < a.buyers → a.buyer i ≡ b.buyer i
  pub commitments : a.commitments ≡ b.commitments

-- a plant's figures, by what they look at
abbrev figures_from : Header → PlantCase → ℕ → ℕ → ℕ → ℤ → ℤ → PlantFigures
figures_from header p billed paid active money over =
    let day = day_support p.loss p.allocated active in
    let rate = rate_of paid (pos billed -ℤ pos p.allocated) money over header.ceiling in
    record {
      committed = p.committed;
      allocated = p.allocated;
      run = p.run;
      support = p.run + day;
      rate = rate;
      cost = support_cost p.loss p.run day rate header.coefficient header.base;
    }

module _ (a b : Ledger) (same : Agree a b) where
  pub sum_agree : (f : ℕ → ℕ → UnitCase → ℕ) → sum_units a f ≡ sum_units b f
  sum_agree f =
      let one : sum_of (a.units 1) (λ i. f 1 i (a.unit 1 i)) ≡ sum_of (b.units 1) (λ i. f 1 i (b.unit 1 i)) =
      sum_cong (a.units 1) _ _ (λ i lt. ap (f 1 i) (same.unit1 i lt)) ∙ ap (λ n. sum_of n (λ i. f 1 i (b.unit 1 i))) same.units1 in
      let two : sum_of (a.units 2) (λ i. f 2 i (a.unit 2 i)) ≡ sum_of (b.units 2) (λ i. f 2 i (b.unit 2 i)) =
      sum_cong (a.units 2) _ _ (λ i lt. ap (f 2 i) (same.unit2 i lt)) ∙ ap (λ n. sum_of n (λ i. f 2 i (b.unit 2 i))) same.units2 in
      ap (λ x. x + sum_of (a.units 2) (λ i. f 2 i (a.unit 2 i))) one ∙ ap (λ y. sum_of (b.units 1) (λ i. f 1 i (b.unit 1 i)) + y) two

  money_agree : (pay : Pay) → hour_money pay a ≡ hour_money pay b
  money_agree pay =
      let money = λ (x o q : ℕ). pos (x + o * 1000) -ℤ pos (q * 1000) in
      ap (λ x. money x (sum_units a opportunity_unit) (sum_units a penalty_unit)) (sum_agree pay)
      ∙ ap (λ o. money (sum_units b pay) o (sum_units a penalty_unit)) (sum_agree opportunity_unit)
      ∙ ap (money (sum_units b pay) (sum_units b opportunity_unit)) (sum_agree penalty_unit)

  over_agree : hour_over a ≡ hour_over b
  over_agree =
      ap (λ x. pos x -ℤ pos (volumes a.commitments)) (sum_agree billed_unit) ∙ ap (λ l. pos (sum_units b billed_unit) -ℤ pos (volumes l)) same.commitments

  pub plant_agree : (header : Header) (pay : Pay) (i : ℕ) → i < a.plants → plant_figures header pay a i ≡ plant_figures header pay b i
  plant_agree header pay i lt =
      let F = figures_from header in
      let billed = λ (x : Ledger). sum_units x (of_plant (i + 1) billed_unit) in
      let paid = λ (x : Ledger). sum_units x (of_plant (i + 1) pay) in
      let active = λ (x : Ledger). sum_units x (of_plant (i + 1) active_unit) in
      ap (λ p. F p (billed a) (paid a) (active a) (hour_money pay a) (hour_over a)) (same.plant i lt)
      ∙ ap (λ x. F (b.plant i) x (paid a) (active a) (hour_money pay a) (hour_over a)) (sum_agree (of_plant (i + 1) billed_unit))
      ∙ ap (λ x. F (b.plant i) (billed b) x (active a) (hour_money pay a) (hour_over a)) (sum_agree (of_plant (i + 1) pay))
      ∙ ap (λ x. F (b.plant i) (billed b) (paid b) x (hour_money pay a) (hour_over a)) (sum_agree (of_plant (i + 1) active_unit))
      ∙ ap (λ m. F (b.plant i) (billed b) (paid b) (active b) m (hour_over a)) (money_agree pay)
      ∙ ap (F (b.plant i) (billed b) (paid b) (active b) (hour_money pay b)) over_agree

  weights_agree : (n : ℕ) → n ≤ a.buyers → weights_to a n ≡ weights_to b n
  weights_agree n le = sum_cong n (weight_in a) (weight_in b) (λ i lt. weight_agree i (omega arith))
    where
      weight_agree : (i : ℕ) → i < a.buyers → weight_in a i ≡ weight_in b i
      weight_agree i lt = ap (λ (x : BuyerCase). weight_of x.loss (unwrap_or x.used 0)) (same.buyer i lt)

  weights_all : weights_to a a.buyers ≡ weights_to b b.buyers
  weights_all = weights_agree a.buyers (omega arith) ∙ ap (weights_to b) same.buyers

  pub buyer_agree : (i : ℕ) → i < a.buyers → buyer_figures a i ≡ buyer_figures b i
  buyer_agree i lt =
      let F = buyer_figures_by in
      ap (λ x. F x (weights_to a i) (weights_to a (i + 1)) (weights_to a a.buyers) (bought_by (i + 1) a.commitments)) (sum_agree billed_unit)
      ∙ ap (λ x. F (sum_units b billed_unit) x (weights_to a (i + 1)) (weights_to a a.buyers) (bought_by (i + 1) a.commitments)) (weights_agree i (omega arith))
      ∙ ap (λ x. F (sum_units b billed_unit) (weights_to b i) x (weights_to a a.buyers) (bought_by (i + 1) a.commitments)) (weights_agree (i + 1) (omega arith))
      ∙ ap (λ x. F (sum_units b billed_unit) (weights_to b i) (weights_to b (i + 1)) x (bought_by (i + 1) a.commitments)) weights_all
      ∙ ap (λ l. F (sum_units b billed_unit) (weights_to b i) (weights_to b (i + 1)) (weights_to b b.buyers) (bought_by (i + 1) l)) same.commitments

  pub hour_agree : hour_figures a ≡ hour_figures b
  hour_agree =
      ap (λ x. hour_by x (volumes a.commitments) (weights_to a a.buyers)) (sum_agree billed_unit)
      ∙ ap (λ l. hour_by (sum_units b billed_unit) (volumes l) (weights_to a a.buyers)) same.commitments
      ∙ ap (hour_by (sum_units b billed_unit) (volumes b.commitments)) weights_all
