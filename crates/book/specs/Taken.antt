-- Calls on an hour: what one answers, what its table then holds, and that header and book stay. And by whatever calls
-- the hour stood for: the answer follows from them, by the table of refusals, and the hour then stands for them with
-- the call.
use Rattle.std.specs.Prelude.{◌≡◌, ℕ, List, [], Ok, Err, Result}
use Rattle.curves.specs.declared.refusals.CurveRefusal.{CurveRefusal}
use Rattle.settling.specs.Figures.{Pay}
use Rattle.settling.specs.Settled.{Settled}
use Rattle.settling.specs.declared.header.Header.{Header}
use Rattle.table.specs.Effects.{answer_of, after_entry, after_entries, priced_answer, after_priced, unless}
use Rattle.table.specs.Entries.{rows}
use Rattle.table.specs.History.{view_in, number_in, answer_in, next_history, accepted}
use Rattle.table.specs.Metered.{next_readings, accepted_readings, reading_answer_in}
use Rattle.table.specs.Readings.{reading_answer, after_reading, after_readings}
use Rattle.table.specs.RowsApply.{EntryJudged, ReadingJudged}
use Rattle.table.specs.Turns.{Answers, EntriesAnswered, ReadingsAnswered}
use Rattle.table.specs.declared.entries.Entry.{Entry}
use Rattle.table.specs.declared.entries.Entry.TheVariants.{AddCompetitive}
use Rattle.table.specs.declared.readings.Reading.{Reading}
use Rattle.table.specs.declared.records.Table.{Table}
use Rattle.table.specs.declared.refusals.BookRefusal.{BookRefusal}
use Rattle.table.specs.declared.refusals.UnitRefusal.{UnitRefusal}
use Rattle.table.specs.declared.refusals.UnitRefusal.TheVariants.{Book, Rows}
use Rattle.book.specs.Hours.{Offers, PriceRows, IsOpen, IsClosed, IsSettled}
use Rattle.book.specs.Law.{EntriesJudgedFrom, ReadingsJudgedBy}
use Rattle.book.specs.declared.closed.ClosedHour.{ClosedHour}
use Rattle.book.specs.declared.open.OpenHour.{OpenHour}
use Rattle.book.specs.declared.settled.SettledHour.{SettledHour}

-- an open hour takes an entry
pub record EntryTaken (entry : Entry) (result : Result ℕ BookRefusal) (hour next : OpenHour) : Type 0 where
  pub answer : result ≡ answer_of entry hour.book.now.table
  pub after : next.book.now.table ≡ after_entry entry hour.book.now.table
  pub header : next.header ≡ hour.header
  pub book : next.book.ghost_name ≡ hour.book.ghost_name
  pub follows : (header : Header) (h : List Entry) → IsOpen header h hour → result ≡ answer_in entry h
  pub judged : (header : Header) (h : List Entry) → IsOpen header h hour → EntryJudged entry h result
  pub stands : (header : Header) (h : List Entry) → IsOpen header h hour → IsOpen header (next_history entry h) next

-- What a competitive unit with the outcome of making its rows answers by the entries accepted before, and the history
-- with it: the book's refusals come first, and where either refuses nothing is added.
abbrev pub priced_answer_in : {R : Type 0} → ℕ → ℕ → ℕ → Result R CurveRefusal → List Entry → Result (ℕ × R) UnitRefusal
priced_answer_in plant declared internal (Ok made) h =
    unless (rows (view_in h) (AddCompetitive plant declared internal)) (λ refusal. Err (Book refusal)) (Ok (number_in (AddCompetitive plant declared internal) h, made))
priced_answer_in plant declared internal (Err refused) h =
    unless (rows (view_in h) (AddCompetitive plant declared internal)) (λ refusal. Err (Book refusal)) (Err (Rows refused))

-- the history after such a call
abbrev pub next_priced : {R : Type 0} → ℕ → ℕ → ℕ → Result R CurveRefusal → List Entry → List Entry
next_priced plant declared internal (Ok made) h = next_history (AddCompetitive plant declared internal) h
next_priced plant declared internal (Err refused) h = h

-- an open hour takes a competitive unit with the outcome of making its rows
pub record PricedTaken {R : Type 0} (plant declared internal : ℕ) (rows : Result R CurveRefusal) (result : Result (ℕ × R) UnitRefusal) (hour next : OpenHour) : Type 0 where
  pub answer : result ≡ priced_answer plant declared internal rows hour.book.now.table
  pub after : next.book.now.table ≡ after_priced plant declared internal rows hour.book.now.table
  pub header : next.header ≡ hour.header
  pub book : next.book.ghost_name ≡ hour.book.ghost_name
  pub follows : (header : Header) (h : List Entry) → IsOpen header h hour → result ≡ priced_answer_in plant declared internal rows h
  pub stands : (header : Header) (h : List Entry) → IsOpen header h hour → IsOpen header (next_priced plant declared internal rows h) next

-- an open hour takes a list of entries
pub record EntriesTaken (entries : List Entry) (before after_all : Answers) (hour next : OpenHour) : Type 0 where
  pub after : next.book.now.table ≡ after_entries entries hour.book.now.table
  pub answered : EntriesAnswered entries hour.book.now.table before after_all
  pub header : next.header ≡ hour.header
  pub book : next.book.ghost_name ≡ hour.book.ghost_name
  pub follows : (header : Header) (h : List Entry) → IsOpen header h hour → EntriesJudgedFrom h entries before after_all
  pub stands : (header : Header) (h : List Entry) → IsOpen header h hour → IsOpen header (accepted h entries) next

-- a closed hour takes a reading
pub record ReadingTaken (reading : Reading) (result : Result ℕ BookRefusal) (hour next : ClosedHour) : Type 0 where
  pub answer : result ≡ reading_answer reading hour.book.now.table
  pub after : next.book.now.table ≡ after_reading reading hour.book.now.table
  pub header : next.header ≡ hour.header
  pub book : next.book.ghost_name ≡ hour.book.ghost_name
  pub follows : (header : Header) (offers : Offers) (h : List Entry) (rs : List Reading) → IsClosed header offers h rs hour → result ≡ reading_answer_in (view_in h) reading
  pub judged : (header : Header) (offers : Offers) (h : List Entry) (rs : List Reading) → IsClosed header offers h rs hour → ReadingJudged reading h result
  pub stands : (header : Header) (offers : Offers) (h : List Entry) (rs : List Reading) → IsClosed header offers h rs hour → IsClosed header offers h (next_readings (view_in h) reading rs) next

-- a closed hour takes a list of readings
pub record ReadingsTaken (readings : List Reading) (before after_all : Answers) (hour next : ClosedHour) : Type 0 where
  pub after : next.book.now.table ≡ after_readings readings hour.book.now.table
  pub answered : ReadingsAnswered readings hour.book.now.table before after_all
  pub header : next.header ≡ hour.header
  pub book : next.book.ghost_name ≡ hour.book.ghost_name
  pub follows : (header : Header) (offers : Offers) (h : List Entry) (rs : List Reading) → IsClosed header offers h rs hour → ReadingsJudgedBy h readings before after_all
  pub stands : (header : Header) (offers : Offers) (h : List Entry) (rs : List Reading) → IsClosed header offers h rs hour → IsClosed header offers h (accepted_readings (view_in h) rs readings) next

-- what settling writes of a closed hour, by what units are paid under its header
abbrev pub SettledFrom : (Header → Pay) → ClosedHour → Table → Type 0
SettledFrom pay hour t = Settled hour.header (pay hour.header) hour.book.now.table t

-- An open hour that is closed by offers is a closed one of the same entries, and a closed hour that is settled by price
-- rows a settled one of the same calls.
abbrev pub ClosesBy : Offers → OpenHour → ClosedHour → Type 0
ClosesBy offers hour next = (header : Header) (h : List Entry) → IsOpen header h hour → IsClosed header offers h [] next

abbrev pub SettlesBy : PriceRows → ClosedHour → SettledHour → Type 0
SettlesBy rows hour next =
    (header : Header) (offers : Offers) (h : List Entry) (rs : List Reading) → IsClosed header offers h rs hour → IsSettled header offers rows h rs next
