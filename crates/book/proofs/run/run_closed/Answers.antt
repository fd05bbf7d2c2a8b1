use Rattle.std.proofs.Common.{sym, ◌∙◌, subst}
use Rattle.table.proofs.Laws.{closing_law}
use Rattle.table.proofs.Turns.{readings_law}
use Rattle.table.specs.ClosingLaw.{ClosingLaw}
use Rattle.book.specs.Law.{entered}
use Rattle.book.proofs.run.run_closed.Goals as goal

pub returns : goal.returns
returns g c =
    let h = entered c.args.calls.now.entries.now in
    let offers = c.args.calls.now.offers.now in
    let guaranteed = c.args.calls.now.guaranteed.now in
    let prices1 = g.O.Curve.prices in
    let prices2 = g.G.Curve.prices in
    let opened = c.run_open-open.ensures.stands in
    let closed = c.close-hour.ensures.stands _ _ opened in
    let law = closing_law prices1 offers prices2 guaranteed h _ _ opened.table.proper opened.table.stands c.close-hour.ensures.closed in
    record {
      judged = c.run_open-open.ensures.judged;
      read = c.read_all.ensures.follows _ _ _ _ closed;
      law = subst (ClosingLaw prices1 offers prices2 guaranteed h) (sym c.read_all.ensures.after) (readings_law prices1 offers prices2 guaranteed h c.args.calls.now.readings.now _ law);
      stands = c.read_all.ensures.stands _ _ _ _ closed;
      book = c.read_all.ensures.book ∙ c.close-hour.ensures.book ∙ c.run_open-open.ensures.book;
    }
