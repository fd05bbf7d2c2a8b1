use Rattle.std.proofs.Common.{◌≡◌, ℕ, ◌+◌, ◌≤◌, max, sym, ap, ◌∙◌, subst, arith}
use Rattle.std.proofs.lemmas.Bool.{cond-true, cond-false, eq-eqb, ne_eqb}
use Rattle.curves.specs.KindLaws.{modified_bounded, raised_bounded}
use Rattle.curves.specs.Kinds.{raised_price}
use Rattle.curves.specs.Limits.{read_energy, read_kwh}
use Rattle.curves.specs.Prices.{cost_of}
use Rattle.curves.proofs.Costs.{cost_le}
use Rattle.settlement.specs.declared.payments.PaidUnit.{PaidUnit}
use Rattle.settlement.specs.Fractions.{PaidParts}
use Rattle.settlement.specs.Payments.{cost_between, lesser, billed, committed, first_part, second_part, modified, sum_a, sum_b, sum_c, competitive_payment}
use Rattle.settlement.proofs.Bounds.{billed_le, first_le, second_le, lesser_le, payment_le}
use Rattle.settlement.proofs.Fractions.{paid_parts}
use Rattle.settlement.proofs.Sums.{from_start, between_bound, lesser_from}
use Rattle.settlement.proofs.payments.competitive_payment.Goals as goal
use Rattle.settlement.proofs.payments.competitive_payment.Goals.{then-paid_a-eq0, else-paid_a-eq0}

-- no cost by the modified offer is over 20,000,000,000,000
modified_le : (u : PaidUnit) (offer : ℕ → ℕ) → ((k : ℕ) → offer k ≤ 10000000) → (kwh : ℕ) → cost_of (modified u offer) (read_energy kwh) ≤ 20000000000000
modified_le u offer bounded kwh = cost_le (modified u offer) (modified_bounded u.allocated offer bounded) (read_energy kwh) (omega arith)

pub overflow_add-result : goal.overflow_add-result
overflow_add-result g c =
    omega (
      arith,
      c.cost-paid_a.ensures,
      modified_le c.args.unit.now (g.O.Curve.prices c.args.offer.now) (g.met.O.Curve.bounded c.args.offer.now) c.first_part-first.result,
      c.lesser_cost-paid_b.ensures,
      lesser_le (g.C.Curve.prices c.args.cost.now) (modified c.args.unit.now (g.O.Curve.prices c.args.offer.now)) (g.met.C.Curve.bounded c.args.cost.now) (read_energy c.first_part-first.result) (read_energy c.second_part-second.result) (omega arith),
    )

pub overflow_add-result-2 : goal.overflow_add-result-2
overflow_add-result-2 g c =
    let u = c.args.unit.now in
    let offer = g.O.Curve.prices c.args.offer.now in
    let cost = g.C.Curve.prices c.args.cost.now in
    let each = modified_bounded u.allocated offer (g.met.O.Curve.bounded c.args.offer.now) in
    let a = modified_le u offer (g.met.O.Curve.bounded c.args.offer.now) c.first_part-first.result in
    let b = lesser_le cost (modified u offer) (g.met.C.Curve.bounded c.args.cost.now) (read_energy c.first_part-first.result) (read_energy c.second_part-second.result) (omega arith) in
    let from = read_energy c.max.result in
    let to = read_energy c.billed.result in
    elim c.if-paid_a-eq0.branch [
      | then-paid_a-eq0 w ↦ omega (arith, c.cost-paid_a.ensures, a, c.lesser_cost-paid_b.ensures, b, w.paid_c-is, w.cost-paid_c.ensures, between_bound (raised_price c.args.ceiling cost) (raised_bounded c.args.ceiling cost) from to (omega arith))
      | else-paid_a-eq0 w ↦ omega (arith, c.cost-paid_a.ensures, a, c.lesser_cost-paid_b.ensures, b, w.paid_c-is, w.cost_at-paid_c.ensures, between_bound (λ _. modified u offer (read_kwh w.min-kwh.result)) (λ _. each (read_kwh w.min-kwh.result)) from to (omega arith))
    ]

pub returns : goal.returns
returns g c =
    let u = c.args.unit.now in
    let offer = g.O.Curve.prices c.args.offer.now in
    let cost = g.C.Curve.prices c.args.cost.now in
    let ceiling = c.args.ceiling in
    let first : read_energy c.first_part-first.result ≡ first_part u = omega (arith, c.first_part-first.ensures, first_le u) in
    let second : read_energy c.second_part-second.result ≡ second_part u = omega (arith, c.second_part-second.ensures, second_le u) in
    let last : read_energy c.billed.result ≡ billed u = omega (arith, c.billed.ensures, billed_le u) in
    let past : read_energy c.max.result ≡ max (first_part u) (second_part u) = omega (arith, c.max.ensures, first, second) in
    let rest : (price : ℕ → ℕ) → cost_between price (read_energy c.max.result) (read_energy c.billed.result) ≡ cost_between price (max (first_part u) (second_part u)) (billed u) =
    λ price. ap (λ a. cost_between price a (read_energy c.billed.result)) past ∙ ap (cost_between price (max (first_part u) (second_part u))) last in
    let is-a : c.cost-paid_a.result ≡ sum_a u offer = c.cost-paid_a.ensures ∙ from_start (modified u offer) _ ∙ ap (cost_between (modified u offer) 0) first in
    let is_b : c.lesser_cost-paid_b.result ≡ sum_b u offer cost =
    c.lesser_cost-paid_b.ensures
    ∙ ap (λ a. lesser cost (modified u offer) a (read_energy c.second_part-second.result)) first
    ∙ ap (lesser cost (modified u offer) (first_part u)) second
    ∙ lesser_from cost (modified u offer) (first_part u) (second_part u) in
    let is_c : c.if-paid_a-eq0.paid_c ≡ sum_c u offer cost ceiling = elim c.if-paid_a-eq0.branch [
      | then-paid_a-eq0 w ↦
          let none : sum_a u offer ≡ 0 = omega (arith, is-a, w.if-paid_a-eq0.true) in
          w.paid_c-is ∙ w.cost-paid_c.ensures ∙ rest (raised_price ceiling cost)
          ∙ sym (cond-true _ _ _ (eq-eqb _ _ none))
      | else-paid_a-eq0 w ↦
          let at : read_kwh w.min-kwh.result ≡ read_kwh (committed u) = omega (arith, w.min-kwh.ensures, w.committed.ensures) in
          w.paid_c-is ∙ w.cost_at-paid_c.ensures
          ∙ ap (λ k. cost_between (λ _. modified u offer k) (read_energy c.max.result) (read_energy c.billed.result)) at
          ∙ rest (λ _. modified u offer (read_kwh (committed u)))
          ∙ sym (cond-false _ _ _ (ne_eqb (sum_a u offer) 0 (λ none. w.if-paid_a-eq0.false (is-a ∙ none))))
    ] in
    let value : c.cost-paid_a.result + c.lesser_cost-paid_b.result + c.if-paid_a-eq0.paid_c ≡ competitive_payment u offer cost ceiling = omega (arith, is-a, is_b, is_c) in
    record {
      value = value;
      parts = subst (PaidParts u offer cost ceiling) (sym value) (paid_parts u offer cost ceiling);
      bound = omega (arith, is-a, is_b, is_c, payment_le u offer cost ceiling (g.met.O.Curve.bounded c.args.offer.now) (g.met.C.Curve.bounded c.args.cost.now));
    }
