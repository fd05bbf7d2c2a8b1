use Rattle.table.specs.Places.{unit_at}
use Rattle.std.proofs.Common.{◌≡◌, ◌≤◌, min, take, None, sum_by, ap, ◌∙◌, arith}
use Rattle.std.proofs.lemmas.List.{take-take}
use Rattle.allocation.specs.Groups.{sum_of}
use Rattle.table.specs.Closing.{declared_in}
use Rattle.table.specs.Rows.{new_unit}
use Rattle.table.proofs.Steps.{sum_take, blank_declares}
use Rattle.table.proofs.closing.UnitTable.declared.Goals as goal

pub returns : goal.returns
returns c =
    let t = c.args.self.now in
    let plant = c.args.plant in
    let rows = c.min.result in
    let within : rows ≤ min t.count 128 = omega (arith, c.min.ensures, c.entered-units.ensures.few) in
    let counted : rows ≡ min (min t.count 128) c.args.rows = omega (arith, c.min.ensures, c.entered-units.ensures.few) in
    let list = ap (take rows) c.entered-units.ensures.value ∙ take-take rows (min t.count 128) t.rows within in
    c.declared_by.ensures ∙ ap (sum_by (declared_in plant)) list
    ∙ sum_take (declared_in plant) (new_unit 0 0 None 0 0) (blank_declares plant) t.rows rows
    ∙ ap (λ m. sum_of m (λ i. declared_in plant (unit_at t i))) counted
