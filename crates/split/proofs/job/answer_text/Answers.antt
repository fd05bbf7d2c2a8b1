use Rattle.std.proofs.Common.{◌≡◌, length, string_bytes, ap, ◌∙◌, subst, arith}
use Rattle.std.proofs.lemmas.List.{take_at}
use Rattle.std.proofs.lemmas.Result.{IfOk-weaker}
use Rattle.allocation.specs.Groups.{group_of, amount_at, row_cost}
use Rattle.allocation.specs.Laws.{Split}
use Rattle.curves.specs.Kinds.{stepped_offer_price}
use Rattle.split.specs.Answers.{Answer}
use Rattle.split.specs.Text.{share_text}
use Rattle.split.proofs.job.answer_text.Goals as goal

pub returns : goal.returns
returns c =
    let offers = c.args.offers.now in
    let limits = c.args.limits.now in
    let share = c.args.share in
    let row = c.split-uncovered.new.amounts in
    let left = c.split-uncovered.result in
    let cost = c.total_cost-cost.result in
    let places : length c.as_mut_slice.result.now ≡ length offers = omega (arith, c.in_ok-amounts.ensures.len) in
    let long : length row ≡ c.in_ok-amounts.amounts.len = omega arith in
    let costed : c.as_slice.result.now ≡ row = c.as_slice.ensures.value ∙ take_at row _ _ long in
    let written : c.as_slice-2.result.now ≡ row = c.as_slice-2.ensures.value ∙ take_at row _ _ long in
    IfOk-weaker c.share_text.result (λ t. string_bytes t ≡ share_text share c.as_slice-2.result.now cost left) (λ t. Answer offers limits share (string_bytes t))
    (λ t text. record {
      amounts = row;
      left = left;
      all_units = omega arith;
      split = subst (λ n. Split (group_of stepped_offer_price offers limits n) share (amount_at row) left) places c.split-uncovered.ensures;
      lines = text ∙ ap (λ r. share_text share r cost left) written
          ∙ ap (λ k. share_text share row k left) (c.total_cost-cost.ensures ∙ ap (row_cost stepped_offer_price offers) costed);
    })
    c.share_text.ensures
