use Rattle.worked_hour.proofs.Computed.{worked_examples, fuller_hour, call_examples, refusal_table, small_examples, file_examples}
use Rattle.worked_hour.proofs.Fractions.{fraction_examples}
use Rattle.worked_hour.proofs.Numbers.{number_examples}
use Rattle.worked_hour.proofs.Orders.{order_examples}
use Rattle.worked_hour.proofs.Readings.{reading_examples}
use Rattle.worked_hour.proofs.Edges.{edge_examples}
use Rattle.worked_hour.proofs.Largest.{largest_hour}
use Rattle.worked_hour.proofs.Merits.{merit_examples}
use Rattle.worked_hour.proofs.Rooms.{full_tables}
use Rattle.worked_hour.proofs.Sample.{sample_hour}
use Rattle.worked_hour.proofs.Spelled.{refusal_texts}
use Rattle.worked_hour.proofs.examples.worked_examples.Goals as goal

pub returns-clause-examples : goal.returns-clause-examples
returns-clause-examples c = worked_examples

pub returns-clause-hour : goal.returns-clause-hour
returns-clause-hour c = fuller_hour

pub returns-clause-calls : goal.returns-clause-calls
returns-clause-calls c = call_examples

pub returns-clause-refusals : goal.returns-clause-refusals
returns-clause-refusals c = refusal_table

pub returns-clause-small : goal.returns-clause-small
returns-clause-small c = small_examples

pub returns-clause-file : goal.returns-clause-file
returns-clause-file c = file_examples

pub returns-clause-orders : goal.returns-clause-orders
returns-clause-orders c = order_examples

pub returns-clause-numbers : goal.returns-clause-numbers
returns-clause-numbers c = number_examples

pub returns-clause-readings : goal.returns-clause-readings
returns-clause-readings c = reading_examples

pub returns-clause-fractions : goal.returns-clause-fractions
returns-clause-fractions c = fraction_examples

pub returns-clause-edges : goal.returns-clause-edges
returns-clause-edges c = edge_examples

pub returns-clause-rooms : goal.returns-clause-rooms
returns-clause-rooms c = full_tables

pub returns-clause-texts : goal.returns-clause-texts
returns-clause-texts c = refusal_texts

pub returns-clause-sample : goal.returns-clause-sample
returns-clause-sample c = sample_hour

pub returns-clause-largest : goal.returns-clause-largest
returns-clause-largest c = largest_hour

pub returns-clause-merits : goal.returns-clause-merits
returns-clause-merits c = merit_examples
