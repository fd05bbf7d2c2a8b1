use Rattle.std.proofs.Common.{sym, ap, ◌∙◌}
use Rattle.settlement.specs.Payments.{competitive_payment}
use Rattle.settling.proofs.Lookups.{row_past, row_at}
use Rattle.settling.specs.Figures.{paid_case}
use Rattle.settling.specs.Ledger.{case_of}
use Rattle.settling.proofs.rows.ByRowsPayer.payment.Goals as goal

pub returns-clause-value : goal.returns-clause-value
returns-clause-value g c =
    let h = c.in-Some.ensures.lookup in
    let row = c.in-Some.row.now in
    let own = row_at g.O.Curve.prices g.C.Curve.prices c.args.self.now.ceiling c.args.self.now.rows.now c.args.place (paid_case (case_of c.args.loss c.args.unit.now)) row h.3.0 h.1 in
    c.competitive_payment.ensures.value ∙ ap (λ u. competitive_payment u (g.O.Curve.prices row.offer) (g.C.Curve.prices row.cost) c.args.self.now.ceiling) c.paid_unit.ensures ∙ sym own

pub returns-in_default-clause-value : goal.returns-in_default-clause-value
returns-in_default-clause-value g c =
    let h = c.in_default.ensures.lookup in
    sym (row_past g.O.Curve.prices g.C.Curve.prices c.args.self.now.ceiling c.args.self.now.rows.now c.args.place (paid_case (case_of c.args.loss c.args.unit.now)) h.3)
