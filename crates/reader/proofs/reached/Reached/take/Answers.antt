use Rattle.reader.proofs.Takes.{open_is}
use Rattle.reader.proofs.reached.Reached.take.Goals as goal

pub returns-in-Open : goal.returns-in-Open
returns-in-Open c = λ p t r.
    let (m, is, reached) = open_is t p c.in-Open.hour c.args.rows.now (rw c.in-Open.is at r) in
    rw is (c.on_open.ensures m t reached)
