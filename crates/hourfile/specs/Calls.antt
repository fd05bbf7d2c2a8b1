-- The calls that records stand for.
use Rattle.std.specs.Prelude.{ℕ, ◌+◌, ◌*◌, ◌/◌, cond, List, map, length, take, drop, Option, Some, None, ◌==◌}
use Rattle.std.specs.List.{range_with_len}
use Rattle.curves.specs.declared.steps.Step.{Step}
use Rattle.settlement.specs.declared.readings.Control.{Control}
use Rattle.table.specs.declared.entries.Entry.{Entry}
use Rattle.table.specs.declared.entries.Entry.TheVariants.{AddPlant, AddGuaranteed, Correct, PutAside, TakeBack, AddBuyer, Commit}
use Rattle.table.specs.declared.readings.Reading.{Reading}
use Rattle.table.specs.declared.readings.Reading.TheVariants.{Competitive, Guaranteed, Use}
use Rattle.table.specs.declared.records.UnitReading.{UnitReading}
use Rattle.hourfile.specs.Words.{value_at}
use Rattle.hourfile.specs.Format.{Plain}

-- the entry of a record of kinds 7 to 9, which changes a unit
abbrev pub change_of : Plain → Option Entry
change_of r =
    let v = value_at r.values in
    cond (r.kind == 7) (Some (Correct (v 0) (v 1) (v 2)))
    (cond (r.kind == 8) (Some (PutAside (v 0) (v 1)))
    (cond (r.kind == 9) (Some (TakeBack (v 0) (v 1))) None))

-- the entry of a record of kinds 2 and 4 to 9; a unit of kind 3 is added with its rows
abbrev pub entry_of : Plain → Option Entry
entry_of r =
    let v = value_at r.values in
    cond (r.kind == 2) (Some (AddPlant (v 0)))
    (cond (r.kind == 4) (Some (AddGuaranteed (v 0) (v 1) (v 2) (v 3) (v 4)))
    (cond (r.kind == 5) (Some (AddBuyer (v 0)))
    (cond (r.kind == 6) (Some (Commit (v 0) (v 1) (v 2))) (change_of r))))

-- the control part of a reading, whose eight fields begin at a place
abbrev pub control_at : List ℕ → ℕ → Control
control_at values i = record {
  p_act = value_at values i;
  type2 = value_at values (i + 1);
  type3 = value_at values (i + 2);
  type5 = value_at values (i + 3);
  type6 = value_at values (i + 4);
  type8 = value_at values (i + 5);
  day = value_at values (i + 6);
  minute = value_at values (i + 7);
}

-- a competitive reading: the unit, then its 17 fields
abbrev pub unit_reading : List ℕ → UnitReading
unit_reading values = record {
  energies = record {
    net = value_at values 1;
    accepted = value_at values 2;
    lost = value_at values 3;
    limited = value_at values 4;
    executed = value_at values 5;
    asked = value_at values 6;
  };
  adjustments = record {
    opportunity = value_at values 15;
    planning = value_at values 16;
    cooperation = value_at values 17;
  };
  control = control_at values 7;
}

-- the reading of a record of kinds 11 to 13
abbrev pub reading_of : Plain → Option Reading
reading_of r =
    let v = value_at r.values in
    cond (r.kind == 11) (Some (Competitive (v 0) (unit_reading r.values)))
    (cond (r.kind == 12) (Some (Guaranteed (v 0) (record { net = v 1; control = control_at r.values 2 })))
    (cond (r.kind == 13) (Some (Use (v 0) (v 1))) None))

-- the steps of a list of values: two values for each, its width and its price
abbrev pub step_at : List ℕ → ℕ → Step
step_at values i = record { width = value_at values (2 * i); price = value_at values (2 * i + 1) }

abbrev pub steps_of : List ℕ → List Step
steps_of values = map (step_at values) (range_with_len 0 (length values / 2))

-- the steps of a competitive unit's offer and those of its cost curve, behind its first four values
abbrev pub offer_steps : List ℕ → List Step
offer_steps values = steps_of (take (2 * value_at values 3) (drop 4 values))

abbrev pub cost_steps : List ℕ → List Step
cost_steps values = steps_of (drop (2 * value_at values 3) (drop 4 values))
