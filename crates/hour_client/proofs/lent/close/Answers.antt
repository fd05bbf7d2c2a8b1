use Rattle.hour_client.proofs.lent.close.Goals as goal

pub returns-clause-stands : goal.returns-clause-stands
returns-clause-stands g c =
    let opened = c.open-open.ensures.stands in
    let entered = c.enter_all.ensures.stands _ _ opened in
    let closed = c.close-closed.ensures.stands _ _ entered in
    c.read_all.ensures.stands _ _ _ _ closed
