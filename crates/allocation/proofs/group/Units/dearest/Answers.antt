use Rattle.std.proofs.Common.{◌≡◌, ℕ, ◌<◌, ◌≤◌, get_or, slice_index, sym, ap, arith}
use Rattle.curves.specs.Limits.{read_energy, read_kwh}
use Rattle.allocation.specs.Units.{place_in, units_in}
use Rattle.allocation.proofs.Fills.{below_more}
use Rattle.allocation.proofs.Rows.{price_read}
use Rattle.allocation.proofs.group.Units.dearest.Goals as goal

pub loop-place-init : goal.loop-place-init
loop-place-init g c = λ i lt. absurd (omega arith)

pub loop-place-preserved : goal.loop-place-preserved
loop-place-preserved g c =
    let units = c.args.self.now in
    let group = units_in g.O.Curve.prices units in
    let n = c.loop-place.place-index in
    let dearest = c.max-dearest.result in
    let lt : n < units.count = omega (arith, c.loop-place-test.true, c.places-place-items.ensures.number) in
    let place = slice_index c.places-place-items.result.now n in
    let at : place ≡ place_in units n = c.places-place-items.ensures.each n lt in
    let inside = units.inside n lt in
    let priced = price_read g.O.Curve.prices units.offers.now (place_in units n) place c.index-self-place.result at (omega arith) in
    let limit : group.limit n ≡ read_energy (slice_index units.limits.now place) = ap (λ q. read_energy (slice_index units.limits.now q)) (sym at) in
    below_more (λ i. (k : ℕ) → 1 ≤ k → k ≤ group.limit i → group.price i k ≤ dearest) n
    (λ i lt k low high. omega (arith, c.loop-place.invariant i lt k low high, c.max-dearest.ensures))
    (λ k low high. omega (
      arith,
      priced k,
      g.met.O.Offer.rises (get_or units.offers.now place c.index-self-place.result) k (read_kwh (slice_index units.limits.now place)) low (omega arith) (omega arith),
      c.price.ensures,
      c.max-dearest.ensures,
    ))
