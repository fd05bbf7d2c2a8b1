use Rattle.std.proofs.Common.{sym, subst}
use Rattle.table.specs.Entries.{view_of}
use Rattle.table.specs.Metered.{Metered, accepted_readings}
use Rattle.table.proofs.LastReadings.{readings_count}
use Rattle.table.proofs.Turns.{readings_metered_here}
use Rattle.table.proofs.records.Table.read_all.Goals as goal

pub returns-clause-metered : goal.returns-clause-metered
returns-clause-metered c =
    let view = view_of c.args.self.now in
    λ rs m. subst (Metered (accepted_readings view rs c.args.readings.now)) (sym c.make_all.ensures.after) (readings_metered_here c.args.readings.now rs c.args.self.now m)

pub returns-clause-counts : goal.returns-clause-counts
returns-clause-counts c = λ rs. readings_count (accepted_readings (view_of c.args.self.now) rs c.args.readings.now)
