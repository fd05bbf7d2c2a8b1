use Rattle.std.proofs.Common.{refl, sym, subst, ◌∙◌}
use Rattle.settling.specs.Figures.{pay_by}
use Rattle.settling.specs.Settled.{Settled}
use Rattle.settling.specs.declared.header.Header.{Header}
use Rattle.book.proofs.Hours.{settles, settled_rows}
use Rattle.book.proofs.Only.{only_figures}
use Rattle.book.proofs.Settles.{settled_law}
use Rattle.book.specs.Law.{entered, metered}
use Rattle.book.proofs.run.run_settled.Goals as goal

pub returns : goal.returns
returns g c =
    let h = entered c.args.calls.now.entries.now in
    let rs = metered c.args.calls.now.entries.now c.args.calls.now.readings.now in
    let offers = c.args.calls.now.offers.now in
    let guaranteed = c.args.calls.now.guaranteed.now in
    let prices1 = g.O.Curve.prices in
    let prices2 = g.G.Curve.prices in
    let run = c.run_closed-hour.ensures in
    let closed = run.stands.table in
    let t = c.run_closed-hour.result.book.now.table in
    let after = c.write_figures.new.self.book.now.table in
    let header = c.args.header in
    let pay = λ (h : Header). pay_by g.P.Curve.prices g.C.Curve.prices c.args.rows.now g.H.Curve.prices c.args.offers.now h in
    let settled = subst (λ h. Settled h (pay h) t after) run.stands.header c.write_figures.ensures.settled in
    let law = settled_law prices1 offers prices2 guaranteed header (pay header) h closed.proper rs t after closed.stands closed.metered run.law settled in
    let back = c.book-1.given.1 (sym (c.write_figures.ensures.book ∙ run.book)) in (
      (refl, (λ _. Prim.tt), refl),
      rw back (record {
        judged = run.judged;
        read = run.read;
        law = law;
        rows = settled_rows header (pay header) h t after closed.stands settled;
        only = only_figures prices1 offers prices2 guaranteed header (pay header) h rs after closed.proper law;
        stands = settles g.P.Curve.prices g.C.Curve.prices c.args.rows.now g.H.Curve.prices c.args.offers.now c.run_closed-hour.result _ c.write_figures.ensures.settled header _ h rs run.stands;
        book = Prim.tt;
      }),
    )
