use Rattle.std.proofs.Common.{refl}
use Rattle.book.proofs.Hours.{readings_taken}
use Rattle.book.proofs.closed.ClosedHour.read_all.Goals as goal

pub returns : goal.returns
returns c = readings_taken c.args.readings.now c.args.answers.now c.read_all.new.answers c.args.self.now _ c.read_all.ensures.after c.read_all.ensures.answered refl refl
