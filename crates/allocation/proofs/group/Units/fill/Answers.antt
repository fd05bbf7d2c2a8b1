use Rattle.std.proofs.Common.{◌≡◌, suc, ◌+◌, ◌-◌, ◌<◌, length, set, get_or, slice_index, sym, refl, ap, subst, ◌∙◌, arith}
use Rattle.std.proofs.lemmas.List.{get_or-set_same, get_or-set_other}
use Rattle.curves.specs.Limits.{read_energy}
use Rattle.allocation.specs.Groups.{amount_at}
use Rattle.allocation.specs.Units.{place_in, units_in}
use Rattle.allocation.specs.Supply.{Filled, Parted, up_to, below}
use Rattle.allocation.proofs.Counts.{count_is, at_most_count, cheaper_first}
use Rattle.allocation.proofs.Fills.{filled_none, filled_more}
use Rattle.allocation.proofs.Rows.{price_read, at_most_same}
use Rattle.allocation.proofs.group.Units.fill.Goals as goal

pub loop-place-init : goal.loop-place-init
loop-place-init g c = (filled_none _ _ _ _, λ j other. refl)

pub overflow_sub-marginal : goal.overflow_sub-marginal
overflow_sub-marginal g c = cheaper_first _ _ c.args.price _ _ c.count_below-cheaper.ensures c.count_at_most.ensures.count

pub loop-place-preserved : goal.loop-place-preserved
loop-place-preserved g c =
    let units = c.args.self.now in
    let group = units_in g.O.Curve.prices units in
    let i = c.loop-place.place-index in
    let p = c.args.price in
    let row = c.loop-place.amounts in
    let lt : i < units.count = omega (arith, c.loop-place-test.true, c.places-place-items.ensures.number) in
    let place = slice_index c.places-place-items.result.now i in
    let at : place ≡ place_in units i = c.places-place-items.ensures.each i lt in
    let inside = units.inside i lt in
    let priced = price_read g.O.Curve.prices units.offers.now (place_in units i) place c.index-self-place.result at (omega arith) in
    let whole = ap (λ q. read_energy (slice_index units.limits.now q)) (sym at) in
    let cheaper = at_most_same (λ k. suc (group.price i k)) _ (group.limit i) _ p c.count_below-cheaper.result (λ k. ap suc (priced k)) whole c.count_below-cheaper.ensures in
    let marginal = at_most_same (group.price i) _ (group.limit i) _ p c.count_at_most.result priced whole c.count_at_most.ensures.count in
    let is-cheaper : c.count_below-cheaper.result ≡ below group p i = count_is _ _ _ _ cheaper in
    let is-marginal : c.count_at_most.result ≡ up_to group p i = count_is _ _ _ _ marginal in
    let parted : Parted group p i = record { cheaper = at_most_count _ _ _ _ cheaper; marginal = at_most_count _ _ _ _ marginal } in
    let amount = c.count_below-cheaper.result + c.min-more.result in
    let next = set row place amount in
    let room : place < length row = omega (arith, at, c.requires i lt) in (
      filled_more group i p c.args.left c.loop-place.rest (c.loop-place.rest - c.min-more.result) (λ k. amount_at row (place_in units k)) (λ k. amount_at next (place_in units k)) c.min-more.result c.loop-place.invariant.0
          (λ k less. get_or-set_other row place (place_in units k) amount 0 (omega (arith, at, units.rises k i less lt)))
          parted
          (omega (arith, c.min-more.ensures))
          (omega (arith, ap (λ q. get_or next q 0) at, get_or-set_same row place amount 0 room))
          (omega arith),
      λ j other. get_or-set_other row place j amount 0 (λ same. other i lt (sym at ∙ sym same)) ∙ c.loop-place.invariant.1 j other,
    )

pub returns-clause-filled : goal.returns-clause-filled
returns-clause-filled g c =
    let units = c.args.self.now in
    let all : c.loop-place.place-index ≡ units.count = omega (arith, c.loop-place-test.false, c.places-place-items.ensures.number) in
    subst (λ n. Filled (units_in g.O.Curve.prices units) n c.args.price c.args.left c.loop-place.rest (λ i. amount_at c.loop-place.amounts (place_in units i))) all c.loop-place.invariant.0
