use Rattle.std.proofs.Common.{rules, ◌≡◌, ◌/◌, length, take, ap, sym, ◌∙◌, arith}
use Rattle.std.proofs.lemmas.List.{get_or-take, length-take}
use Rattle.std.proofs.lemmas.List.FromFn.{fill_by_all}
use Rattle.curves.specs.declared.steps.Step.{Step}
use Rattle.table.proofs.Closings.{made_each}
use Rattle.hourfile.specs.Words.{words}
use Rattle.hourfile.specs.Calls.{step_at}
use Rattle.hourfile.proofs.Values.{words_long}
use Rattle.hourfile.proofs.steps.first_steps.Goals as goal

pub returns : goal.returns
returns c = λ few.
    let values = words c.args.values.now in
    let n = length values / 2 in
    let d : Step = record { width = 0; price = 0 } in
    let long : length c.from_fn.result ≡ 10 = omega (arith, c.from_fn.type_inv) in
    let same : length c.args.values.now / 2 ≡ n = ap (λ k. k / 2) (sym (words_long c.args.values.now)) in
    ap (λ k. take k c.from_fn.result) same
    ∙ fill_by_all (step_at values) (take n c.from_fn.result) n d (omega (arith, length-take n c.from_fn.result, long, same, few))
    (λ k lt. get_or-take n c.from_fn.result k d lt ∙ made_each _ _ (step_at values) (λ i y q called. search rules) c.from_fn.result 10 c.from_fn.ensures.items k d (omega (arith, same, few)))
