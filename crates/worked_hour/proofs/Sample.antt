-- The sample hour, computed.
use Rattle.std.proofs.Common.{refl}
use Rattle.allocation.specs.Groups.{sum_of}
use Rattle.settlement.specs.Payments.{cost_between}
use Rattle.settlement.specs.Shares.{running_share}
use Rattle.worked_hour.specs.Sample.{SampleHour}

pub sample_hour : SampleHour
unfolding cost_between running_share sum_of
sample_hour = record {
  limits_of_one = refl;
  limits_of_two = refl;
  guaranteed_limits = refl;
  shares = refl;
  unit_one = refl;
  unit_two = refl;
  unit_three = refl;
  unit_four = refl;
  guaranteed = refl;
  plant_one = refl;
  plant_two = refl;
  buyer_one = refl;
  buyer_two = refl;
  hour = refl;
}
