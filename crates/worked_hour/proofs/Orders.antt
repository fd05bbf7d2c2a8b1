-- The orders of put aside, correct and take back, computed.
use Rattle.std.proofs.Common.{refl}
use Rattle.allocation.specs.Groups.{sum_of}
use Rattle.worked_hour.specs.Orders.{OrderExamples}

pub order_examples : OrderExamples
unfolding sum_of
order_examples = record {
  aside_correct_back = (refl, refl);
  aside_back_correct = (refl, refl);
  correct_aside_back = (refl, refl);
  correct_back_aside = (refl, refl);
  back_correct_aside = (refl, refl);
  back_aside_correct = (refl, refl);
  lowered = (refl, refl);
  raised = (refl, refl);
  lowered_then_raised = (refl, refl);
  raised_then_lowered = (refl, refl);
  as_it_was = (refl, refl);
  to_nothing = (refl, refl);
  twice_aside = (refl, refl);
  before_and_aside = (refl, refl);
  aside_and_after = (refl, refl);
  aside_twice = (refl, refl);
  aside_twice_back = (refl, refl);
  back_alone = (refl, refl);
  aside_again = (refl, refl);
  back_again = (refl, refl);
  back_in_two = (refl, refl);
  back_in_one = (refl, refl);
  back_of_another = (refl, refl);
  aside_in_two = (refl, refl);
  correct_in_two = (refl, refl);
  correct_in_one = (refl, refl);
  all_three_in_two = (refl, refl);
  added_later = (refl, refl);
  turned_down = (refl, refl);
  whole = (refl, refl);
  counted = (refl, refl);
  counted_aside = (refl, refl);
  counted_back = (refl, refl);
  counted_lower = (refl, refl);
}
