-- The worked examples, computed.
use Rattle.std.proofs.Common.{refl, ap, cond, ◌||◌, ◌%◌, not, eqb, ltb, Ok, Err}
use Rattle.hourfile.specs.Reading.{file_words}
use Rattle.hourfile.specs.declared.faults.Cause.TheVariants.{Length}
use Rattle.std.specs.Fmt.{digits}
use Rattle.allocation.proofs.TwoUnits.{worked_example}
use Rattle.allocation.specs.Groups.{sum_of}
use Rattle.reader.specs.Outcome.{read_on}
use Rattle.settlement.specs.Payments.{cost_between}
use Rattle.settlement.specs.Shares.{running_share}
use Rattle.worked_hour.specs.Calls.{CallExamples}
use Rattle.worked_hour.specs.Examples.{WorkedExamples}
use Rattle.worked_hour.specs.File.{FileExamples}
use Rattle.worked_hour.specs.Hour.{FullerHour}
use Rattle.worked_hour.specs.Refused.{RefusalTable}
use Rattle.worked_hour.specs.Values.{SmallExamples}

pub worked_examples : WorkedExamples
unfolding cost_between running_share sum_of
worked_examples = record {
  limit = refl;
  smallest_limit = refl;
  share_one_is = refl;
  share_two_is = refl;
  split = worked_example;
  part_a = refl;
  part_b = refl;
  part_c = refl;
  free_a = refl;
  free_b = refl;
  free_c = refl;
  unmarked = refl;
  marked = refl;
  day_support_is = refl;
  first_share = refl;
  second_share = refl;
  third_share = refl;
  third_net = refl;
  hour_unit = refl;
  hour_plant = refl;
  hour_buyer = refl;
  hour_hour = refl;
}

pub fuller_hour : FullerHour
unfolding cost_between running_share sum_of
fuller_hour = record {
  accepted = refl;
  answers = refl;
  reading_answers = refl;
  limits_of_one = refl;
  limits_of_two = refl;
  guaranteed_limits_of_one = refl;
  guaranteed_limits_of_two = refl;
  shares_one = refl;
  shares_two = refl;
  fewer_rows = refl;
  unit_one = refl;
  unit_two = refl;
  unit_three = refl;
  guaranteed_one = refl;
  guaranteed_two = refl;
  over = refl;
  plant_one = refl;
  plant_two = refl;
  buyer_one = refl;
  buyer_two = refl;
  hour = refl;
}

pub refusal_table : RefusalTable
refusal_table = record {
  headers = refl;
  plants = refl;
  plant_33 = refl;
  buyers = refl;
  buyer_65 = refl;
  unit_plants = refl;
  unit_128 = refl;
  unit_129 = refl;
  units = refl;
  guaranteed_units = refl;
  groups = refl;
  groups_apart = refl;
  corrections = refl;
  moved = refl;
  sales = refl;
  commitment_768 = refl;
  commitment_769 = refl;
  nearly_sold = refl;
  sold = refl;
  readings = refl;
  adjustments = refl;
  controls = refl;
  minutes = refl;
  guaranteed_readings = refl;
  uses = refl;
  priced = refl;
  offers = refl;
  costs = refl;
  tariff = refl;
  rates = refl;
}

pub small_examples : SmallExamples
unfolding cost_between running_share sum_of
small_examples = record {
  reference = refl;
  limit_once = refl;
  weight_is = refl;
  raised = refl;
  readiness = refl;
  losses = refl;
  weight_loss = refl;
  net_read = refl;
  energy_read = refl;
  kwh_read = refl;
  price_is_read = refl;
  count_read = refl;
  ceiling = refl;
  ceiling_read = refl;
  one_rate = refl;
  rate_read = refl;
  lifted = refl;
  as_given = refl;
  past_all = refl;
  nothing_declared = refl;
  allocated_more = refl;
  at_ceiling = refl;
  asked = refl;
  asked_twice = refl;
  not_asked = refl;
  little_billed = refl;
  as_wholes = refl;
  feeding = refl;
  marked_days = refl;
  active = refl;
  own_rate = refl;
  hour_rate = refl;
  no_rate = refl;
  no_money = refl;
  highest_rates = refl;
  nobody = refl;
}

pub file_examples : FileExamples
unfolding read_on digits
file_examples = record {
  word_is = refl;
  file = refl;
  bytes = refl;
  odd_length = refl;
  longest = λ file long. ap (λ n. cond (ltb 65536 n || not (eqb (n % 4) 0)) (Err (record { cause = Length; place = 0 })) (Ok (record { words = file_words file; place = 0 }))) long;
  too_long = λ file long. ap (λ n. cond (ltb 65536 n || not (eqb (n % 4) 0)) (Err (record { cause = Length; place = 0 })) (Ok (record { words = file_words file; place = 0 }))) long;
  nothing = refl;
  cut = refl;
  cut_record = refl;
  no_head = refl;
  header_twice = refl;
  after_settle = refl;
  no_plant = refl;
  bad_steps = refl;
  high_price = refl;
  book_first = refl;
  cost_price_last = refl;
  no_cost = refl;
  few_steps = refl;
  odd_values = refl;
  cut_unit = refl;
  head_inside = refl;
  far_count = refl;
  no_settle = refl;
  ended_line = refl;
  buffer_line = refl;
  length_line = refl;
  malformed_line = refl;
  misplaced_line = refl;
  book_line = refl;
  steps_line = refl;
  listed = refl;
  shown = refl;
  unit_questions = refl;
  plant_questions = refl;
  buyer_questions = refl;
  listing = refl;
}

pub call_examples : CallExamples
call_examples = record { each_told = refl; opened = refl; closed = refl; read = refl; settled = refl }
