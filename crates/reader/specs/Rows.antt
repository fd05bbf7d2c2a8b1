-- The price rows that a file's competitive units bring.
use Rattle.std.specs.Prelude.{List, map, take}
use Rattle.curves.specs.Kinds.{SteppedOffer, SteppedCost}
use Rattle.settling.specs.declared.rows.PriceRow.{PriceRow}
use Rattle.reader.specs.declared.kept.UnitRows.{UnitRows}

abbrev pub UnitRow : Type 0
UnitRow = PriceRow SteppedOffer SteppedCost

-- the rows that are kept
abbrev pub rows_of : UnitRows → List UnitRow
rows_of r = take r.count r.rows

-- the offers of some rows
abbrev pub offers_of : List UnitRow → List SteppedOffer
offers_of rows = map (λ row. row.offer) rows
