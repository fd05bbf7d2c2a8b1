use Rattle.std.proofs.Common.{refl}
use Rattle.book.proofs.Hours.{closes}
use Rattle.book.proofs.open.OpenHour.close.Goals as goal

pub returns-clause-stands : goal.returns-clause-stands
returns-clause-stands g c = closes g.O.Curve.prices c.args.offers.now g.G.Curve.prices c.args.guaranteed.now c.args.self _ c.close.ensures.after refl
