use Rattle.std.proofs.Common.{refl}
use Rattle.book.proofs.Hours.{priced_taken}
use Rattle.book.proofs.open.OpenHour.add_priced.Goals as goal

pub returns : goal.returns
returns g c = priced_taken c.args.plant c.args.declared c.args.internal c.args.rows c.add_priced.result c.args.self.now _ c.add_priced.ensures.answer c.add_priced.ensures.after refl refl
