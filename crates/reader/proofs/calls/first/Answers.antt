use Rattle.std.proofs.Common.{sym, refl, ◌∙◌}
use Rattle.reader.proofs.calls.first.Goals as goal

pub returns-in-Ok : goal.returns-in-Ok
returns-in-Ok c = λ rows t r.
    rw c.in-Header.is (rw (sym c.header_of.ensures ∙ c.in-Ok.is) (refl, (((c.open.ensures.empty, refl), c.open.ensures.stands), r.1)))
