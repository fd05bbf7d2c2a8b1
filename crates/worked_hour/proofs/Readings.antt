-- Units and buyers that are read again, computed.
use Rattle.std.proofs.Common.{refl}
use Rattle.settlement.specs.Payments.{cost_between}
use Rattle.settlement.specs.Shares.{running_share}
use Rattle.allocation.specs.Groups.{sum_of}
use Rattle.worked_hour.specs.Readings.{ReadingExamples}

pub reading_examples : ReadingExamples
unfolding cost_between running_share sum_of
reading_examples = record {
  answers = refl;
  competitive_one = (refl, refl);
  competitive_two = (refl, refl);
  competitive_three = (refl, refl);
  guaranteed_one = (refl, refl);
  guaranteed_two = (refl, refl);
  guaranteed_three = (refl, refl);
  uses = refl;
  uses_of_table = refl;
  billed = refl;
  table_billed = refl;
  all_billed = refl;
  active = refl;
  opportunity = refl;
  day = refl;
  weights = refl;
  table_weights = refl;
  shares = refl;
}
