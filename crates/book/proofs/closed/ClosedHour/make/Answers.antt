use Rattle.book.proofs.States.{read_made, settle_made}
use Rattle.book.proofs.closed.ClosedHour.make.Goals as goal

pub returns-in-Read : goal.returns-in-Read
returns-in-Read g c = rw (c.in-Read.is, c.told-answer.ensures) (read_made _ _ _ _ c.read.ensures)

pub returns-in-Settle : goal.returns-in-Settle
returns-in-Settle g c = rw c.in-Settle.is (settle_made _ _ _ c.settle.ensures.law)
