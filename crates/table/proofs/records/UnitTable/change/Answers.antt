use Rattle.std.proofs.Common.{rules, refl}
use Rattle.table.proofs.records.UnitTable.change.Goals as goal

pub returns : goal.returns
returns g c = (c.change.new.arg2, record { shown = _; shows = search rules; left = _; met = c.change.ensures; leaves = refl }, search rules)
