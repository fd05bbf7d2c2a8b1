use Rattle.std.proofs.Common.{◌≡◌, ◌≤◌, length, get_or, None, refl, ap, ◌∙◌, subst, arith}
use Rattle.std.proofs.lemmas.List.{get_or-take}
use Rattle.allocation.specs.Groups.{amount_at}
use Rattle.allocation.specs.Laws.{Split}
use Rattle.table.specs.Closing.{allocated_to}
use Rattle.table.specs.Rows.{new_unit}
use Rattle.table.proofs.Closings.{group_same, front_long, front_at, front_past}
use Rattle.table.proofs.closing.UnitTable.close.Goals as goal

pub returns : goal.returns
returns g c =
    let before = c.args.self.now in
    let none = new_unit 0 0 None 0 0 in
    let entered = c.entered-entered.result.now in
    let few = c.entered-entered.ensures.few in
    let same = group_same g.O.Curve.prices c.args.offers.now c.args.plant.number c.args.plant.loss before c.limits-limits.result 128 (omega arith) refl c.limits-limits.ensures in
    let amounts = c.split-uncovered.new.amounts in
    let front = c.allocate_all.new.units in
    let n = length entered in
    let within : n ≤ length before.rows = omega (arith, few) in
    let long : length front ≡ n = omega (arith, few) in
    record {
      amount = amount_at amounts;
      split = subst (λ group. Split group c.args.share (amount_at amounts) c.split-uncovered.result) same c.split-uncovered.ensures;
      count = refl;
      long = front_long before.rows front n within long none;
      entered = λ i lt. front_at before.rows front n within long none i (omega (arith, few)) ∙ c.allocate_all.ensures i (omega (arith, few, long))
          ∙ ap (allocated_to c.args.plant.number (get_or amounts i 0)) (get_or-take n before.rows i none (omega (arith, few)));
      others = λ i past. front_past before.rows front n within long none i (omega (arith, few));
    }
