use Rattle.std.proofs.Common.{rules, tests, ◌≡◌, min, MatchOption, ap, ◌∙◌, subst}
use Rattle.settlement.specs.Support.{quotient, read_money, greater}
use Rattle.settlement.proofs.Rates.{greater_is}
use Rattle.settlement.proofs.support.rate.Goals as goal

pub returns : goal.returns
returns c =
    let own : c.quotient-own.result ≡ quotient c.args.payments c.args.over = search rules in
    let hour : c.quotient-hour.result ≡ quotient (read_money c.args.hour_money) c.args.hour_over = search rules in
    let read : MatchOption c.max.result (c.map_or.result ≡ c.args.ceiling) (λ q. c.map_or.result ≡ min q 1000000000) = search (rules, tests) in
    greater_is _ _ c.args.ceiling c.map_or.result (subst (λ m. MatchOption m (c.map_or.result ≡ c.args.ceiling) (λ q. c.map_or.result ≡ min q 1000000000)) c.max.ensures read)
    ∙ ap (λ q. greater q c.quotient-hour.result c.args.ceiling) own
    ∙ ap (λ q. greater (quotient c.args.payments c.args.over) q c.args.ceiling) hour
