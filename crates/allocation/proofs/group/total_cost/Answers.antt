use Rattle.std.proofs.Common.{rules, tests, ◌≡◌, ℕ, take, ap, ◌∙◌, arith}
use Rattle.std.specs.List.{zip}
use Rattle.std.proofs.lemmas.List.{length-take}
use Rattle.std.proofs.lemmas.Iterator.{YieldsList-from_slice, YieldsList-from_zip, YieldsList-from_take, YieldsList-from_map}
use Rattle.std.proofs.lemmas.Iterator.Consumers.{YieldsList-at, sum_by_from_yields_List}
use Rattle.std.proofs.lemmas.Iterator.Adapters.{fits_from_length, at_most_from_yields_List}
use Rattle.curves.specs.Limits.{read_energy}
use Rattle.curves.specs.Prices.{cost_of}
use Rattle.curves.proofs.Costs.{cost_le}
use Rattle.allocation.specs.Groups.{sum_of, price_at, amount_at}
use Rattle.allocation.proofs.Rows.{row_sum}
use Rattle.allocation.proofs.group.total_cost.Goals as goal

pub sum-requires-clause-fits : goal.sum-requires-clause-fits
sum-requires-clause-fits g c =
    let offers = c.args.offers.now in
    let amounts = c.args.amounts.now in
    fits_from_length _ _ 128 _
    (at_most_from_yields_List
    (YieldsList-at c.map.ensures.source (YieldsList-from_take 128 (YieldsList-at c.take.ensures.source (YieldsList-from_zip (YieldsList-from_slice offers (cc)) (YieldsList-from_slice amounts (cc)))) (cc)))
    (omega (arith, length-take 128 (zip offers amounts))))
    c.map.ensures.closure (omega arith)
    (λ x r q k.
    let cost : (q ≡ _) × (r ≡ cost_of (g.O.Curve.prices x.0.now) (read_energy x.1.now)) = search (rules, tests) in (
      cost.0,
      omega (arith, cost.1, cost_le (g.O.Curve.prices x.0.now) (g.met.O.Curve.bounded x.0.now) (read_energy x.1.now) (omega arith)),
    ))

pub returns : goal.returns
returns g c =
    let offers = c.args.offers.now in
    let amounts = c.args.amounts.now in
    let cost = λ (price : ℕ → ℕ) (amount : ℕ). cost_of price (read_energy amount) in
    sum_by_from_yields_List _ (take 128 (zip offers amounts)) c.map.result _ c.sum.ensures.ran
    (YieldsList-from_map _ (λ p. cost (g.O.Curve.prices p.0) p.1)
    (YieldsList-at c.map.ensures.source (YieldsList-from_take 128 (YieldsList-at c.take.ensures.source (YieldsList-from_zip (YieldsList-from_slice offers (cc)) (YieldsList-from_slice amounts (cc)))) (cc)))
    c.map.ensures.closure
    (λ x r q k. search (rules, tests)))
    ∙ row_sum g.O.Curve.prices cost 128 offers amounts
    ∙ ap (λ n. sum_of n (λ i. cost (price_at g.O.Curve.prices offers i) (amount_at amounts i))) (omega arith)
