-- The numbers of four tables, computed.
use Rattle.std.proofs.Common.{refl}
use Rattle.allocation.specs.Groups.{sum_of}
use Rattle.worked_hour.specs.Numbers.{NumberExamples}

pub number_examples : NumberExamples
unfolding sum_of
number_examples = record {
  among_most_plants = (refl, (refl, (refl, (refl, refl))));
  among_most_competitive = (refl, (refl, (refl, (refl, refl))));
  among_most_guaranteed = (refl, (refl, (refl, (refl, refl))));
  among_most_buyers = (refl, (refl, (refl, (refl, refl))));
  next_most_plants = (refl, refl);
  next_most_competitive = (refl, refl);
  next_most_guaranteed = (refl, refl);
  next_most_buyers = (refl, refl);
  settled_most_plants = refl;
  settled_most_guaranteed = refl;
  table_most_plants = refl;
  table_most_guaranteed = refl;
  lines_most_plants = refl;
  lines_most_competitive = refl;
  full_plants = refl;
  room_for_plants = refl;
  full_competitive = refl;
  room_for_competitive = refl;
  full_guaranteed = refl;
  room_for_guaranteed = refl;
  full_buyers = refl;
  room_for_buyers = refl;
  full_commitments = refl;
  room_for_commitments = refl;
  sold_by_plant = refl;
  losses = refl;
  table_losses = refl;
  buyer_losses = refl;
  table_buyer_losses = refl;
  competitive_units = (refl, refl);
  guaranteed_units = (refl, refl);
  further_guaranteed_units = (refl, refl);
  last_limit = refl;
  table_last_limit = refl;
  last_declared = refl;
  table_last_declared = refl;
  sold = refl;
  table_sold = refl;
  bought = refl;
}
