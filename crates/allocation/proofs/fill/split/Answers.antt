use Rattle.std.proofs.Common.{◌≡◌, ℕ, ◌<◌, length, List, ap, subst, ◌∙◌, arith}
use Rattle.allocation.specs.Groups.{units_of, group_of, amount_at}
use Rattle.allocation.specs.Merit.{MeritOrder}
use Rattle.allocation.specs.Units.{BusyPlaces, part_of, place_in, units_in}
use Rattle.allocation.proofs.Fills.{supply_below, filled_merit}
use Rattle.allocation.proofs.Busy.{merit_busy}
use Rattle.allocation.proofs.Orders.{split_of}
use Rattle.allocation.proofs.fill.split.Goals as goal

pub overflow_sub-rest : goal.overflow_sub-rest
overflow_sub-rest g c =
    let units = units_in g.O.Curve.prices c.new-units.result in
    omega (arith, c.supply_below.ensures, supply_below units units.units c.args.share _ c.marginal_price-price.ensures)

pub returns : goal.returns
returns g c =
    let prices = g.O.Curve.prices in
    let group = group_of prices c.args.offers.now c.args.limits.now (length c.args.amounts.now) in
    let units = c.new-units.result in
    let place = place_in units in
    let places : BusyPlaces group.limit group.units units.count place = c.new-units.ensures.busy in
    let share = c.args.share in
    let row = amount_at c.fill.new.amounts in
    let left = c.fill.result in
    let found = filled_merit (units_in prices units) share c.marginal_price-price.result _ left (λ i. row (place i))
    c.marginal_price-price.ensures
    (omega (arith, c.supply_below.ensures)) c.fill.ensures.filled in
    let none : (j : ℕ) → ((i : ℕ) → i < units.count → place i ≡ j → ⊥) → row j ≡ 0 = λ j other. c.fill.ensures.others j other ∙ c.clear.ensures.zeros j in
    let idle : (j : ℕ) → j < group.units → group.limit j ≡ 0 → row j ≡ 0 = λ j lt idle. none j (λ i at same. omega (arith, places.busy i at, ap group.limit same)) in
    let part = λ (offers : List g.row.O.Denot) (limits : List ℕ). MeritOrder (part_of (units_of prices offers limits units.count) units.count place) share (λ i. row (place i)) in
    let merit = subst (part c.args.offers.now) c.new-units.ensures.limits (subst (λ offers. part offers units.limits.now) c.new-units.ensures.offers found.0) in
    split_of group share row left (merit_busy group share units.count place row places idle merit)
    (omega (arith, found.1, places.sum row idle))
    (λ j from. none j (λ i at same. omega (arith, places.inside i at)))
