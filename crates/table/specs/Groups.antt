-- The two contract groups: their numbers, and a table's units by group.
use Rattle.std.specs.Prelude.{ℕ, cond, Ok, Err, Result, ◌==◌}
use Rattle.std.specs.Borrow.{Lends, MutBor, Fml}
use Rattle.table.specs.Effects.{with_competitive, with_guaranteed}
use Rattle.table.specs.contracts.records.Table.{the_row as table_row}
use Rattle.table.specs.contracts.records.UnitRecord.{the_row as unit_row}
use Rattle.table.specs.contracts.rows.Rows.{the_row as rows_row}
use denote.Param.{number}
use Rattle.table.specs.Rows.{UnitTable}
use Rattle.table.specs.declared.groups.Group.{Group}
use Rattle.table.specs.declared.groups.Group.TheVariants.{Competitive, Guaranteed}
use Rattle.table.specs.declared.records.Table.{Table}
use Rattle.table.specs.declared.refusals.BookRefusal.{BookRefusal}
use Rattle.table.specs.declared.refusals.BookRefusal.TheVariants.{NoUnit}

-- the group of a number, and a group's units in a table
abbrev pub group_named : ℕ → Result Group BookRefusal
group_named number = cond (number == 1) (Ok Competitive) (cond (number == 2) (Ok Guaranteed) (Err NoUnit))

abbrev pub units_of : Group → Table → UnitTable
units_of Competitive t = t.competitive
units_of Guaranteed t = t.guaranteed

-- one group's units changed, and the other rows as they were
abbrev pub with_units : Group → UnitTable → Table → Table
with_units Competitive units t = with_competitive units t
with_units Guaranteed units t = with_guaranteed units t

-- a table ends with what is left of the units that it lent
abbrev pub LendsUnits : Group → MutBor Table → MutBor UnitTable → Fml
LendsUnits group t units = Lends table_row (rows_row unit_row (number 128)) t units (λ w. with_units group w t.now)
