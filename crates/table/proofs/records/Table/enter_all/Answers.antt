use Rattle.std.proofs.Common.{sym, subst}
use Rattle.table.specs.History.{Stands, accepted}
use Rattle.table.proofs.EachCounts.{accepted_count}
use Rattle.table.proofs.Turns.{entries_stand}
use Rattle.table.proofs.records.Table.enter_all.Goals as goal

pub returns-clause-stands : goal.returns-clause-stands
returns-clause-stands c = λ h s. subst (Stands (accepted h c.args.entries.now)) (sym c.make_all.ensures.after) (entries_stand c.args.entries.now h c.args.self.now s)

pub returns-clause-counts : goal.returns-clause-counts
returns-clause-counts c = λ h ok. accepted_count h c.args.entries.now ok
