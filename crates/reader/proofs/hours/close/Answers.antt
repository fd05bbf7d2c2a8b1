use Rattle.std.proofs.Common.{sym, ap, ◌∙◌}
use Rattle.reader.specs.Holds.{tariffs}
use Rattle.reader.proofs.hours.close.Goals as goal

pub returns-clause-closed : goal.returns-clause-closed
returns-clause-closed c =
    rw (sym (c.tariffs.ensures ∙ ap tariffs c.header-header.ensures)) (rw (sym c.offers-offers.ensures) c.close.ensures.closed)
