-- Fractions of sums, computed.
use Rattle.std.proofs.Common.{refl}
use Rattle.settlement.specs.Payments.{cost_between}
use Rattle.settlement.specs.Shares.{running_share}
use Rattle.allocation.specs.Groups.{sum_of}
use Rattle.worked_hour.specs.Fractions.{FractionExamples}

pub fraction_examples : FractionExamples
unfolding cost_between running_share sum_of
fraction_examples = record {
  lost_ends = refl;
  lost_parts = refl;
  limited_ends = refl;
  limited_parts = refl;
  all_ends = refl;
  all_parts = refl;
  asked_ends = refl;
  asked_parts = refl;
  limits = refl;
  table_limits = refl;
  rest_ends = refl;
  rest_parts = refl;
  rest_by_steps = refl;
  rest_raised = refl;
  bills = refl;
  over = refl;
  hour = refl;
  active = refl;
  covered = refl;
}
