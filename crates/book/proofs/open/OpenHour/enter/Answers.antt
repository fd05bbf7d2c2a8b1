use Rattle.std.proofs.Common.{refl}
use Rattle.book.proofs.Hours.{entry_taken}
use Rattle.book.proofs.open.OpenHour.enter.Goals as goal

pub returns : goal.returns
returns c = entry_taken c.args.entry c.enter.result c.args.self.now _ c.enter.ensures.answer c.enter.ensures.after refl refl
