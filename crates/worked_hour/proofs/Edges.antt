-- The examples at limits, computed.
use Rattle.std.proofs.Common.{◌≡◌, ℕ, zero, suc, ◌+◌, ◌*◌, leb, refl, ap, arith}
use Rattle.std.proofs.lemmas.Bool.{cond-false, lt-leb}
use Rattle.allocation.specs.Groups.{sum_of}
use Rattle.settlement.specs.Payments.{cost_between, guaranteed_payment}
use Rattle.settlement.specs.Shares.{running_share}
use Rattle.worked_hour.specs.Edges.{EdgeExamples}

-- one price for all kWh
level : (p n : ℕ) → cost_between (λ k. p) 0 n ≡ p * n
unfolding cost_between
level p zero = omega arith
level p (suc n) = omega (arith, level p n, cond-false (leb (suc n) 0) 0 p (lt-leb (suc n) 0 (omega arith)))

saved : guaranteed_payment 2000001 (λ k. 3) 1 30 ≡ 66000000
saved = ap (λ c. c + 2000000 * 1 * 30) (level 3 2000000)

pub edge_examples : EdgeExamples
unfolding cost_between running_share sum_of
edge_examples = record {
  offers = refl;
  costs = refl;
  no_rate = refl;
  ten = refl;
  strangers = refl;
  energy_first = refl;
  then_price = refl;
  zeros = refl;
  no_header = refl;
  sold_out = refl;
  sold_to_two = refl;
  seasonal = refl;
  seasonal_shares = refl;
  two_rows = refl;
  into_full = refl;
  priced = refl;
  priced_late = refl;
  priced_after = refl;
  nearly_full = refl;
  full = refl;
  counted = refl;
  in_group = refl;
  group_size = refl;
  bills = refl;
  carried_bills = refl;
  limits = refl;
  weights = refl;
  most_saved = saved;
  limits_one = refl;
  limits_two = refl;
  shares = refl;
  competitive_one = refl;
  competitive_two = refl;
  guaranteed_one = refl;
  guaranteed_two = refl;
  plant = refl;
  hour = refl;
}
