-- What a file's records make of an hour: which calls are accepted, by those accepted before, and what turns one down.
use Rattle.std.specs.Prelude.{ℕ, true, false, cond, List, [], ◌∷◌, ◌++◌, Option, Some, None, Ok, Err, Result, ◌==◌}
use Rattle.curves.specs.Kinds.{SteppedOffer, SteppedCost}
use Rattle.curves.specs.Refusals.{stepped_made}
use Rattle.curves.specs.declared.refusals.CurveRefusal.{CurveRefusal}
use Rattle.curves.specs.declared.refusals.CurveRefusal.TheVariants.{Steps, Price}
use Rattle.settling.specs.Headers.{checked}
use Rattle.settling.specs.declared.header.Header.{Header}
use Rattle.table.specs.Entries.{rows}
use Rattle.table.specs.History.{view_in}
use Rattle.table.specs.Readings.{reading_rows}
use Rattle.table.specs.declared.entries.Entry.{Entry}
use Rattle.table.specs.declared.entries.Entry.TheVariants.{AddCompetitive}
use Rattle.table.specs.declared.readings.Reading.{Reading}
use Rattle.table.specs.declared.refusals.BookRefusal.{BookRefusal}
use Rattle.hourfile.specs.Words.{value_at}
use Rattle.hourfile.specs.Format.{Plain}
use Rattle.hourfile.specs.Calls.{entry_of, reading_of, offer_steps, cost_steps}
use Rattle.hourfile.specs.declared.faults.Cause.{Cause}
use Rattle.hourfile.specs.declared.faults.Cause.TheVariants.{Misplaced, Book, Steps as ByLists}
use Rattle.reader.specs.Rows.{UnitRow}

-- the accepted calls of a file: the newest entry and reading first, and the rows of the competitive units by their
-- number
pub record Made : Type 0 where
  pub header : Header
  pub entries : List Entry
  pub rows : List UnitRow
  pub readings : List Reading

-- where the hour stands
pub data Progress : Type 0 where
  Unopened : Progress
  Opened : Made → Progress
  Closed : Made → Progress
  Settled : Made → Progress

-- the refusal of the row that applies, or what follows where none does
abbrev pub taken : Option BookRefusal → Result Progress Cause → Result Progress Cause
taken None next = next
taken (Some refusal) next = Err (Book refusal)

-- the header of a record's values
abbrev pub header_of : List ℕ → Header
header_of v = record {
  ceiling = value_at v 0;
  coefficient = value_at v 1;
  base = value_at v 2;
  saving = value_at v 3;
  tariff = value_at v 4;
}

-- an empty hour is opened with a header
abbrev pub opened : Result Header BookRefusal → Result Progress Cause
opened (Ok header) = Ok (Opened (record { header = header; entries = []; rows = []; readings = [] }))
opened (Err refusal) = Err (Book refusal)

-- one entry more
abbrev pub entered : Made → Entry → Made
entered m e = record { header = m.header; entries = e ∷ m.entries; rows = m.rows; readings = m.readings }

abbrev pub entry_call : Made → Option Entry → Result Progress Cause
entry_call m None = Err Misplaced
entry_call m (Some e) = taken (rows (view_in m.entries) e) (Ok (Opened (entered m e)))

-- the row of two lists, or the refusal of one: 8 of either comes before 9 of either
abbrev pub row_made : Result SteppedOffer CurveRefusal → Result SteppedCost CurveRefusal → Result UnitRow CurveRefusal
row_made (Ok offer) (Ok cost) = Ok (record { offer = offer; cost = cost })
row_made (Ok offer) (Err Steps) = Err Steps
row_made (Ok offer) (Err Price) = Err Price
row_made (Err Steps) cost = Err Steps
row_made (Err Price) (Ok cost) = Err Price
row_made (Err Price) (Err Steps) = Err Steps
row_made (Err Price) (Err Price) = Err Price

-- the row of a competitive unit's values
abbrev pub unit_row : List ℕ → Result UnitRow CurveRefusal
unit_row values = row_made (stepped_made true (offer_steps values)) (stepped_made false (cost_steps values))

-- the entry of a competitive unit's values
abbrev pub unit_entry : List ℕ → Entry
unit_entry v = AddCompetitive (value_at v 0) (value_at v 1) (value_at v 2)

-- one competitive unit more, with its row
abbrev pub unit_entered : Made → Entry → UnitRow → Made
unit_entered m e row = record { header = m.header; entries = e ∷ m.entries; rows = m.rows ++ (row ∷ []); readings = m.readings }

abbrev pub with_row : Made → Entry → Result UnitRow CurveRefusal → Result Progress Cause
with_row m e (Ok row) = Ok (Opened (unit_entered m e row))
with_row m e (Err refusal) = Err (ByLists refusal)

-- the book's rows of refusals come before those of the lists
abbrev pub unit_call : Made → List ℕ → Result Progress Cause
unit_call m v = taken (rows (view_in m.entries) (unit_entry v)) (with_row m (unit_entry v) (unit_row v))

-- a record on an open hour: close, a competitive unit with its rows, or another entry
abbrev pub open_call : Made → Plain → Result Progress Cause
open_call m r =
    cond (r.kind == 10) (Ok (Closed m)) (cond (r.kind == 3) (unit_call m r.values) (entry_call m (entry_of r)))

-- one reading more
abbrev pub read : Made → Reading → Made
read m rd = record { header = m.header; entries = m.entries; rows = m.rows; readings = rd ∷ m.readings }

abbrev pub reading_call : Made → Option Reading → Result Progress Cause
reading_call m None = Err Misplaced
reading_call m (Some rd) = taken (reading_rows (view_in m.entries) rd) (Ok (Closed (read m rd)))

-- a record on a closed hour: settle, or a reading
abbrev pub closed_call : Made → Plain → Result Progress Cause
closed_call m r = cond (r.kind == 14) (Ok (Settled m)) (reading_call m (reading_of r))

-- a record is one call: where it leads, or what turns it down
abbrev pub call : Progress → Plain → Result Progress Cause
call Unopened r = cond (r.kind == 1) (opened (checked (header_of r.values))) (Err Misplaced)
call (Opened m) r = open_call m r
call (Closed m) r = closed_call m r
call (Settled m) r = Err Misplaced
