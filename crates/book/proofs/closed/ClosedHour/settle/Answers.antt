use Rattle.book.proofs.Hours.{settles}
use Rattle.book.proofs.closed.ClosedHour.settle.Goals as goal

pub returns-clause-law : goal.returns-clause-law
returns-clause-law g c = settles g.O.Curve.prices g.C.Curve.prices c.args.rows.now g.G.Curve.prices c.args.offers.now c.args.self _ c.write_figures.ensures.settled
