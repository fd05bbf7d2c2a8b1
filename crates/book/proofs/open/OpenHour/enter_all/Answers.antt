use Rattle.std.proofs.Common.{refl}
use Rattle.book.proofs.Hours.{entries_taken}
use Rattle.book.proofs.open.OpenHour.enter_all.Goals as goal

pub returns : goal.returns
returns c = entries_taken c.args.entries.now c.args.answers.now c.enter_all.new.answers c.args.self.now _ c.enter_all.ensures.after c.enter_all.ensures.answered refl refl
