-- What the call of a record makes of an hour.
use Rattle.std.specs.Prelude.{◌≡◌, ℕ, ◌+◌, ◌<◌, ◌++◌, ◌∷◌, [], List, Option, Some, None, Ok, Err, Result}
use Rattle.table.specs.declared.entries.Entry.{Entry}
use Rattle.table.specs.declared.readings.Reading.{Reading}
use Rattle.table.specs.declared.refusals.BookRefusal.{BookRefusal}
use Rattle.table.specs.declared.refusals.UnitRefusal.{UnitRefusal}
use Rattle.book.specs.Taken.{EntryTaken, PricedTaken, ReadingTaken}
use Rattle.book.specs.declared.closed.ClosedHour.{ClosedHour}
use Rattle.book.specs.declared.open.OpenHour.{OpenHour}
use Rattle.hourfile.specs.Faults.{unit_cause}
use Rattle.hourfile.specs.Words.{value_at}
use Rattle.hourfile.specs.declared.faults.Cause.{Cause}
use Rattle.hourfile.specs.declared.faults.Cause.TheVariants.{Misplaced, Book}
use Rattle.hourfile.specs.declared.faults.FileFault.{FileFault}
use Rattle.reader.specs.Progress.{unit_row}
use Rattle.reader.specs.Rows.{UnitRow, rows_of}
use Rattle.reader.specs.declared.kept.UnitRows.{UnitRows}

-- the fault of a cause, at place 0 until that of the record is set
abbrev pub unplaced : Cause → FileFault
unplaced cause = record { cause = cause; place = 0 }

-- the answer of a call of the book, as a fault of the file
abbrev pub book_end : {A : Type 0} → Result A BookRefusal → Result Unit FileFault
book_end (Ok x) = Ok tt
book_end (Err refusal) = Err (unplaced (Book refusal))

abbrev pub unit_end : {A : Type 0} → Result A UnitRefusal → Result Unit FileFault
unit_end (Ok x) = Ok tt
unit_end (Err refusal) = Err (unplaced (unit_cause refusal))

-- the rows after a competitive unit's answer: its row is kept behind the others, or they stay as they were
abbrev pub RowsAfter : Result (ℕ × UnitRow) UnitRefusal → UnitRows → UnitRows → Type 0
RowsAfter (Ok x) old new = old.count < 128 → (rows_of new ≡ rows_of old ++ (x.1 ∷ [])) × (new.count ≡ old.count + 1)
RowsAfter (Err refusal) old new = new ≡ old

-- The entry of a record is taken, and its answer is told as the file's. A record that is none is misplaced, and the
-- hour stays.
abbrev pub EntryMade : Option Entry → Result Unit FileFault → OpenHour → OpenHour → Type 0
EntryMade None end hour next = (end ≡ Err (unplaced Misplaced)) × (next ≡ hour)
EntryMade (Some e) end hour next = (answer : Result ℕ BookRefusal) × (end ≡ book_end answer) × EntryTaken e answer hour next

-- A competitive unit is added with the outcome of making its row, and the answer is told as the file's.
pub record UnitMade (v : List ℕ) (end : Result Unit FileFault) (hour next : OpenHour) (kept new : UnitRows) : Type 0 where
  pub answer : Result (ℕ × UnitRow) UnitRefusal
  pub told : end ≡ unit_end answer
  pub taken : PricedTaken (value_at v 0) (value_at v 1) (value_at v 2) (unit_row v) answer hour next
  pub rows : RowsAfter answer kept new

-- The reading of a record is taken, and its answer is told as the file's. A record that is none is misplaced, and the
-- hour stays.
abbrev pub ReadingMade : Option Reading → Result Unit FileFault → ClosedHour → ClosedHour → Type 0
ReadingMade None end hour next = (end ≡ Err (unplaced Misplaced)) × (next ≡ hour)
ReadingMade (Some r) end hour next = (answer : Result ℕ BookRefusal) × (end ≡ book_end answer) × ReadingTaken r answer hour next
