-- The hour that a file's records lead to: it stands where they say, and holds what they say.
use Rattle.std.specs.Prelude.{◌≡◌, List, [], Ok, Err, Result}
use Rattle.table.specs.History.{units_in}
use Rattle.table.specs.declared.entries.Entry.{Entry}
use Rattle.table.specs.declared.records.Table.{Table}
use Rattle.book.specs.Hours.{IsOpen, IsClosed, IsSettled}
use Rattle.hourfile.specs.Format.{Plain}
use Rattle.hourfile.specs.declared.faults.Cause.{Cause}
use Rattle.hourfile.specs.declared.faults.FileFault.{FileFault}
use Rattle.reader.specs.Calls.{unplaced}
use Rattle.reader.specs.Holds.{OpenHolds, ClosedHolds, SettledHolds, closing_offers, settling_rows}
use Rattle.reader.specs.Progress.{Progress, call}
use Rattle.reader.specs.Progress.Progress.{Unopened, Opened, Closed, Settled}
use Rattle.reader.specs.Rows.{UnitRow, rows_of}
use Rattle.reader.specs.declared.kept.UnitRows.{UnitRows}
use Rattle.reader.specs.declared.reached.Reached.{Reached}
use Rattle.reader.specs.declared.reached.Reached.TheVariants.{Unopened as NoHour, Open as OpenAt, Closed as ClosedAt, Settled as SettledAt}

-- What the book holds where the calls have led: exactly the effect of the accepted calls, and the laws of an hour. The
-- hour stands for these calls, as if each were made on it by itself. Before one is opened, the book has the table that
-- it had.
abbrev pub BookHolds : Table → Progress → Reached → Type 0
BookHolds t Unopened (NoHour book) = book.now.table ≡ t
BookHolds t (Opened m) (OpenAt hour) = OpenHolds m hour.book.now.table × IsOpen m.header m.entries hour
BookHolds t (Closed m) (ClosedAt hour) =
    ClosedHolds m hour.book.now.table × IsClosed m.header (closing_offers m) m.entries m.readings hour
BookHolds t (Settled m) (SettledAt hour) =
    SettledHolds m hour.book.now.table × IsSettled m.header (closing_offers m) (settling_rows m) m.entries m.readings hour
BookHolds t p reached = ⊥

-- the rows that are kept are those of the accepted competitive units
pub record KeptRows (made : List UnitRow) (h : List Entry) (kept : UnitRows) : Type 0 where
  pub rows : rows_of kept ≡ made
  pub count : kept.count ≡ units_in 1 h

-- the rows that are kept where the calls have led: none before an hour is opened, and any once it is settled
abbrev pub RowsKept : Progress → UnitRows → Type 0
RowsKept Unopened kept = KeptRows [] [] kept
RowsKept (Opened m) kept = KeptRows m.rows m.entries kept
RowsKept (Closed m) kept = KeptRows m.rows m.entries kept
RowsKept (Settled m) kept = Unit {0}

-- the hour stands where the calls have led
abbrev pub Reaches : Table → Progress → Reached → UnitRows → Type 0
Reaches t p reached rows = BookHolds t p reached × RowsKept p rows

-- a call leads on, or it is turned down and everything stays
abbrev pub Taken : Table → Progress → Result Progress Cause → Result Unit FileFault → Reached → UnitRows → Type 0
Taken t p (Ok next) result reached rows = (result ≡ Ok Prim.tt) × Reaches t next reached rows
Taken t p (Err cause) result reached rows = (result ≡ Err (unplaced cause)) × Reaches t p reached rows

-- a record is a call that leads on or is turned down, on an hour that stands where the calls before it have led
abbrev pub Takes : Progress → Plain → Reached → UnitRows → Result Unit FileFault → Reached → UnitRows → Type 0
Takes p given reached rows result next new =
    (t : Table) → Reaches t p reached rows → Taken t p (call p given) result next new
