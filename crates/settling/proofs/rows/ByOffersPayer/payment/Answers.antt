use Rattle.std.proofs.Common.{sym, ap, ◌∙◌}
use Rattle.settlement.specs.Payments.{guaranteed_payment}
use Rattle.settling.proofs.Lookups.{offer_past, offer_at}
use Rattle.settling.specs.Figures.{bill_in}
use Rattle.settling.specs.Ledger.{case_of}
use Rattle.settling.proofs.rows.ByOffersPayer.payment.Goals as goal

pub returns-clause-value : goal.returns-clause-value
returns-clause-value g c =
    let h = c.in-Some.ensures.lookup in
    let offer = c.in-Some.offer.now in
    let unit = c.args.unit.now in
    let own = offer_at g.G.Curve.prices c.args.self.now.saving c.args.self.now.offers.now c.args.place (bill_in (case_of c.args.loss unit)) unit.feeds offer h.3.0 h.1 in
    c.guaranteed_payment.ensures.value ∙ ap (λ b. guaranteed_payment b (g.G.Curve.prices offer) unit.feeds c.args.self.now.saving) c.requires.billed ∙ sym own

pub returns-in_default-clause-value : goal.returns-in_default-clause-value
returns-in_default-clause-value g c =
    let h = c.in_default.ensures.lookup in
    sym (offer_past g.G.Curve.prices c.args.self.now.saving c.args.self.now.offers.now c.args.place (bill_in (case_of c.args.loss c.args.unit.now)) c.args.unit.now.feeds h.3)
