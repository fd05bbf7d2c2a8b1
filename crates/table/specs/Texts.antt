-- How figures print: their fields in order, a blank between.
use Rattle.std.specs.Prelude.{ℕ, List, ◌++◌, codes}
use Rattle.std.specs.Fmt.{decimal, signed_decimal}
use Rattle.table.specs.declared.records.UnitFigures.{UnitFigures}
use Rattle.table.specs.declared.records.PlantFigures.{PlantFigures}
use Rattle.table.specs.declared.records.BuyerFigures.{BuyerFigures}
use Rattle.table.specs.declared.records.HourFigures.{HourFigures}

abbrev pub unit_text : UnitFigures → List ℕ
unit_text u = decimal u.allocated ++ (codes " " ++ (decimal u.billed ++ (codes " " ++ decimal u.payment)))

abbrev pub plant_text : PlantFigures → List ℕ
plant_text p =
    decimal p.committed ++ (codes " " ++ (decimal p.allocated ++ (codes " " ++ (decimal p.run ++ (codes " " ++
    (decimal p.support ++ (codes " " ++ (decimal p.rate ++ (codes " " ++ decimal p.cost)))))))))

-- a net purchase may be under 0
abbrev pub buyer_text : BuyerFigures → List ℕ
buyer_text b = decimal b.share ++ (codes " " ++ signed_decimal b.net)

abbrev pub hour_text : HourFigures → List ℕ
hour_text h = decimal h.billed ++ (codes " " ++ (decimal h.committed ++ (codes " " ++ decimal h.unassigned)))
