use Rattle.std.proofs.Common.{refl}
use Rattle.hourfile.specs.Calls.{entry_of}
use Rattle.hourfile.specs.Format.{plain}
use Rattle.hourfile.specs.Words.{words}
use Rattle.reader.proofs.Takes.{closed_reached, unit_taken, entry_taken, other_call, adds_none}
use Rattle.reader.proofs.calls.on_open.Goals as goal

pub returns-in-Close : goal.returns-in-Close
returns-in-Close c = λ m t r.
    rw c.in-Close.is (refl, closed_reached t m c.args.hour c.close.result c.args.rows.now r c.close.ensures.closed c.close.ensures.header)

pub returns-in-CompetitiveUnit : goal.returns-in-CompetitiveUnit
returns-in-CompetitiveUnit c = λ m t r.
    let step = c.enter_unit-end in
    rw c.in-CompetitiveUnit.is
    (unit_taken t m (words c.in-CompetitiveUnit.values.now) c.args.hour step.new.hour c.args.rows.now step.new.rows r step.result step.ensures)

pub returns-in_default : goal.returns-in_default
returns-in_default c = λ m t r.
    let step = c.enter-end in
    rw (other_call m c.args.given.now c.in_default.not-Close c.in_default.not-CompetitiveUnit)
    (entry_taken t m c.args.hour step.new.hour c.args.rows.now r step.result (entry_of (plain c.args.given.now)) (adds_none c.args.given.now) step.ensures)
