use Rattle.std.proofs.Common.{◌≡◌, ◌<◌, slice_index, sym, ap, arith}
use Rattle.curves.specs.Limits.{read_energy}
use Rattle.allocation.specs.Units.{place_in, units_in}
use Rattle.allocation.specs.Supply.{up_to}
use Rattle.allocation.proofs.Sums.{sum_none, sum_more}
use Rattle.allocation.proofs.Counts.{count_is}
use Rattle.allocation.proofs.Rows.{price_read, at_most_same}
use Rattle.allocation.proofs.group.Units.supply_up_to.Goals as goal

pub loop-place-init : goal.loop-place-init
loop-place-init g c = (omega (arith, sum_none (up_to (units_in g.O.Curve.prices c.args.self.now) c.args.price)), omega arith)

pub loop-place-preserved : goal.loop-place-preserved
loop-place-preserved g c =
    let units = c.args.self.now in
    let group = units_in g.O.Curve.prices units in
    let i = c.loop-place.place-index in
    let lt : i < units.count = omega (arith, c.loop-place-test.true, c.places-place-items.ensures.number) in
    let place = slice_index c.places-place-items.result.now i in
    let at : place ≡ place_in units i = c.places-place-items.ensures.each i lt in
    let within = units.inside i lt in
    let counted = at_most_same (group.price i) _ (group.limit i) _ c.args.price c.count_at_most-supply.result
    (price_read g.O.Curve.prices units.offers.now (place_in units i) place c.index-self-place.result at (omega arith))
    (ap (λ p. read_energy (slice_index units.limits.now p)) (sym at)) c.count_at_most-supply.ensures.count in
    let count = count_is _ _ _ _ counted in (
      omega (arith, sum_more i (up_to group c.args.price), count),
      omega (arith, counted.within),
    )
