use Rattle.std.proofs.Common.{rules, tests, ◌≡◌, min, length, get_or, None, sym, ap, ◌∙◌, subst, arith}
use Rattle.std.proofs.lemmas.Iterator.{YieldsList-from_slice}
use Rattle.std.proofs.lemmas.Iterator.Consumers.{YieldsList-at, YieldsList-from_filter}
use Rattle.std.proofs.lemmas.List.{get_or-take, length-take}
use Rattle.settling.specs.Totals.{counted, PaymentFits, sum_totals}
use Rattle.settling.proofs.Volumes.{filter_few}
use Rattle.settling.proofs.Folded.{blank, summed_all, callable_all, totals_cong, totals_kept, paid_kept}
use Rattle.settling.proofs.totals.group_totals.Goals as goal

pub fold-requires-clause-callable : goal.fold-requires-clause-callable
fold-requires-clause-callable c =
    let t = c.args.group.now in
    let us = c.entered.result.now in
    let n = min t.count 128 in
    let long : length us ≡ n = omega (arith, c.entered.ensures.few, ap length c.entered.ensures.value, length-take n t.rows) in
    callable_all None _ _ c.default.result (search rules)
    (YieldsList-from_filter _ (counted c.args.plant) (YieldsList-at c.filter.ensures.source (YieldsList-from_slice us (cc))) c.filter.ensures.closure (λ x r q k. search (rules, tests))) (λ a x b q k. search (rules, tests))
    (paid_kept (counted c.args.plant) us (λ i lt. subst PaymentFits (sym (ap (λ l. get_or l i blank) c.entered.ensures.value ∙ get_or-take n t.rows i blank (omega (arith, long)))) (c.requires i (omega (arith, long)))))
    (filter_few (counted c.args.plant) us 128 (omega (arith, long)))
    (λ a x fits paid. search (rules, tests))

pub returns-clause-value : goal.returns-clause-value
returns-clause-value c =
    let plant = c.args.plant in
    let t = c.args.group.now in
    let us = c.entered.result.now in
    let n = min t.count 128 in
    let long : length us ≡ n = omega (arith, c.entered.ensures.few, ap length c.entered.ensures.value, length-take n t.rows) in
    let all = summed_all None _ _ c.default.result (search rules)
    (YieldsList-from_filter _ (counted plant) (YieldsList-at c.filter.ensures.source (YieldsList-from_slice us (cc))) c.filter.ensures.closure (λ x r q k. search (rules, tests))) (λ a x b q k. search (rules, tests)) c.fold.result c.fold.ensures.ran in
    all.value ∙ totals_kept plant us ∙ totals_cong plant us t.rows (length us) (λ i lt. ap (λ l. get_or l i blank) c.entered.ensures.value ∙ get_or-take n t.rows i blank (omega (arith, long))) ∙ ap (sum_totals plant t.rows) long

pub returns-clause-fits : goal.returns-clause-fits
returns-clause-fits c =
    let plant = c.args.plant in
    let t = c.args.group.now in
    let us = c.entered.result.now in
    let n = min t.count 128 in
    let long : length us ≡ n = omega (arith, c.entered.ensures.few, ap length c.entered.ensures.value, length-take n t.rows) in
    let all = summed_all None _ _ c.default.result (search rules)
    (YieldsList-from_filter _ (counted plant) (YieldsList-at c.filter.ensures.source (YieldsList-from_slice us (cc))) c.filter.ensures.closure (λ x r q k. search (rules, tests))) (λ a x b q k. search (rules, tests)) c.fold.result c.fold.ensures.ran in
    let few = filter_few (counted plant) us 128 (omega (arith, long)) in
    let below = all.bound (paid_kept (counted plant) us (λ i lt. subst PaymentFits (sym (ap (λ l. get_or l i blank) c.entered.ensures.value ∙ get_or-take n t.rows i blank (omega (arith, long)))) (c.requires i (omega (arith, long))))) in
    record {
      billed = omega (arith, below.billed, few);
      paid = omega (arith, below.paid, few);
      active = omega (arith, below.active, few);
      opportunity = omega (arith, below.opportunity, few);
      penalties = omega (arith, below.penalties, few);
    }
