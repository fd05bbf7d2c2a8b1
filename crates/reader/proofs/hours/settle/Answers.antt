use Rattle.std.proofs.Common.{sym, ap, ◌∙◌}
use Rattle.reader.specs.Holds.{tariffs}
use Rattle.reader.proofs.hours.settle.Goals as goal

pub returns : goal.returns
returns c =
    rw (sym (c.tariffs.ensures ∙ ap tariffs c.header-header.ensures)) (rw (sym c.kept.ensures) c.settle.ensures.settled)
