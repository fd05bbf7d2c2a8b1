use Rattle.std.proofs.Common.{◌∙◌}
use Rattle.book.proofs.run.run_open.Goals as goal

pub returns : goal.returns
returns c =
    let opened = c.open-hour.ensures.stands in
    record {
      judged = c.enter_all.ensures.follows _ _ opened;
      stands = c.enter_all.ensures.stands _ _ opened;
      book = c.enter_all.ensures.book ∙ c.open-hour.ensures.book;
    }
