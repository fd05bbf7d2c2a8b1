use Rattle.std.proofs.Common.{◌+◌, ◌<◌, ◌≤◌, rules}
use Rattle.std.proofs.lemmas.Iterator.{first_from_Range}
use Rattle.curves.specs.Limits.{read_kwh}
use Rattle.split_cases.specs.Singles.{single_price, single_rises}
use Rattle.split_cases.proofs.Counts.{counted}
use Rattle.split_cases.proofs.single.SingleOffer.count_at_most.Goals as goal

pub returns-clause-rises : goal.returns-clause-rises
returns-clause-rises c = single_rises c.args.self.now

pub returns-clause-count : goal.returns-clause-count
returns-clause-count c =
    let s = c.args.self.now in
    let p = c.args.price in
    counted s _ _ p _ _ c.min-energy.ensures c.unwrap_or.ensures
    (first_from_Range _ _ _ _ (λ k. p < single_price s (read_kwh (k + 1))) (λ k. single_price s (read_kwh (k + 1)) ≤ p) c.find.ensures.ran
    (λ k q e. search rules) (λ k q e. search rules))
