-- The examples of full tables, computed.
use Rattle.std.proofs.Common.{refl}
use Rattle.allocation.specs.Groups.{sum_of}
use Rattle.settlement.specs.Payments.{cost_between}
use Rattle.settlement.specs.Shares.{running_share}
use Rattle.worked_hour.specs.Rooms.{FullTables}

pub full_tables : FullTables
unfolding cost_between running_share sum_of
full_tables = record {
  plant_33 = refl;
  buyer_65 = refl;
  commitment_769 = refl;
  changes = refl;
  last_plant = refl;
  last_reading = refl;
  last_use = refl;
  nearly_full = refl;
  all_full = refl;
  taken = refl;
  read = refl;
  questions = refl;
  plant_questions = refl;
  buyer_questions = refl;
  hour = refl;
  last_competitive = refl;
  last_guaranteed = refl;
}
