use Rattle.hour_client.proofs.sales.sell.Goals as goal

pub returns : goal.returns
returns g c =
    let opened = c.open-open.ensures.stands in
    let with_plant = c.add_plant.ensures.stands _ _ opened in
    let with_buyer = c.add_buyer.ensures.stands _ _ with_plant in
    let with_unit = c.add_priced.ensures.stands _ _ with_buyer in
    let entered = c.enter_all.ensures.stands _ _ with_unit in
    let closed = c.close-closed.ensures.stands _ _ entered in
    let used = c.read_use.ensures.stands _ _ _ _ closed in
    let read = c.read_all.ensures.stands _ _ _ _ used in
    c.settle.ensures.law _ _ _ _ read
