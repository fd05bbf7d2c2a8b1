-- The hour at its limits, computed.
use Rattle.std.proofs.Common.{refl}
use Rattle.allocation.specs.Groups.{sum_of}
use Rattle.settlement.specs.Payments.{cost_between}
use Rattle.settlement.specs.Shares.{running_share}
use Rattle.worked_hour.specs.Largest.{LargestHour}

pub largest_hour : LargestHour
unfolding cost_between running_share sum_of
largest_hour = record {
  limits_of_one = refl;
  limits_of_two = refl;
  guaranteed_limits = refl;
  shares_one = refl;
  shares_two = refl;
  unit_one = refl;
  unit_two = refl;
  guaranteed = refl;
  plant_one = refl;
  plant_two = refl;
  buyer_one = refl;
  buyer_two = refl;
  hour = refl;
  adjusted_plant = refl;
}
