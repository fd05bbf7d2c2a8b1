-- A file that was read: where reading ended, and what the book then holds.
use Rattle.std.specs.Prelude.{◌≡◌}
use Rattle.table.specs.declared.records.Table.{Table}
use Rattle.reader.specs.Outcome.{Outcome, end_of}
use Rattle.reader.specs.Reached.{BookHolds}
use Rattle.reader.specs.declared.reached.FileHour.{FileHour}

-- the fault is that of the outcome, and the book holds the effect of exactly the records before it
pub record FileRead (before : Table) (o : Outcome) (hour : FileHour) : Type 0 where
  pub end : hour.end ≡ end_of o.fault
  pub holds : BookHolds before o.progress hour.reached
