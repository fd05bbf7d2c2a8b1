use Rattle.std.proofs.Common.{refl}
use Rattle.book.proofs.Hours.{reading_taken}
use Rattle.book.proofs.closed.ClosedHour.read.Goals as goal

pub returns : goal.returns
returns c = reading_taken c.args.reading c.read.result c.args.self.now _ c.read.ensures.answer c.read.ensures.after refl refl
