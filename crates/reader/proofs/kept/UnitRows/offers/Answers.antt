use Rattle.std.proofs.Common.{rules, ◌≡◌, ◌<◌, ◌≤◌, List, [], length, get_or, map, take, sym, ap, ◌∙◌, arith}
use Rattle.std.proofs.lemmas.List.{ext_get_or, get_or-take, get_or-map, length-take, length-map}
use Rattle.curves.specs.Kinds.{SteppedOffer, SteppedCost}
use Rattle.table.proofs.Closings.{made_each}
use Rattle.reader.specs.Rows.{UnitRow}
use Rattle.reader.proofs.kept.UnitRows.offers.Goals as goal

pub returns : goal.returns
returns c =
    let n = c.args.self.now.count in
    let rows = c.args.self.now.rows in
    let offer : UnitRow → SteppedOffer = λ row. row.offer in
    let blank : SteppedOffer = record { table = record { count = 0; steps = [] } } in
    let cost : SteppedCost = record { table = record { count = 0; steps = [] } } in
    let d : UnitRow = record { offer = blank; cost = cost } in
    let made : List SteppedOffer = c.from_fn.result in
    let few : n ≤ 128 = c.args.self.now.few in
    let long : length made ≡ 128 = omega (arith, c.from_fn.type_inv) in
    let wide : length rows ≡ 128 = c.args.self.now.long in
    ext_get_or blank (take n made) (map offer (take n rows)) (omega (arith, length-take n made, length-map (take n rows) offer, length-take n rows, long, wide))
    (λ i lt.
    let below : i < n = omega (arith, length-take n made, lt) in
    get_or-take n made i blank below
    ∙ made_each _ _ (λ k. offer (get_or rows k d)) (λ j y q called. search rules) made 128 c.from_fn.ensures.items i blank (omega (arith, few, below))
    ∙ sym (get_or-map offer (take n rows) i d blank (omega (arith, length-take n rows, wide, few, below)) ∙ ap offer (get_or-take n rows i d below)))
