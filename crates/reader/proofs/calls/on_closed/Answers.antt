use Rattle.std.proofs.Common.{refl}
use Rattle.hourfile.specs.Calls.{reading_of}
use Rattle.hourfile.specs.Format.{plain}
use Rattle.reader.proofs.Takes.{settled_reached, reading_taken, other_read}
use Rattle.reader.proofs.calls.on_closed.Goals as goal

pub returns-in-Settle : goal.returns-in-Settle
returns-in-Settle c = λ m t r.
    rw c.in-Settle.is (refl, settled_reached t m c.args.hour c.settle.result c.args.rows.now r c.settle.ensures)

pub returns : goal.returns
returns c = λ m t r.
    let step = c.read-end in
    rw (other_read m c.args.given.now c.in_default.not-Settle)
    (reading_taken t m c.args.hour step.new.hour c.args.rows.now r step.result (reading_of (plain c.args.given.now)) step.ensures)
