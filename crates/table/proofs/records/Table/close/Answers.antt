use Rattle.table.proofs.Laws.{closing_law, closing_law_any}
use Rattle.table.proofs.records.Table.close.Goals as goal

pub returns-clause-law : goal.returns-clause-law
returns-clause-law g c = λ h ok s. closing_law g.O.Curve.prices c.args.offers.now g.G.Curve.prices c.args.guaranteed.now h c.args.self.now _ ok s c.close_plants.ensures

pub returns-clause-any_history : goal.returns-clause-any_history
returns-clause-any_history g c = λ h s. closing_law_any g.O.Curve.prices c.args.offers.now g.G.Curve.prices c.args.guaranteed.now h c.args.self.now _ s c.close_plants.ensures
