-- Lists of calls that are in the order of an hour: what is accepted of them, and what holds of the hour that they lead
-- to.
use Rattle.std.specs.Prelude.{List}
use Rattle.settling.specs.Figures.{Pay}
use Rattle.settling.specs.declared.header.Header.{Header}
use Rattle.table.specs.ClosingLaw.{ClosingLaw}
use Rattle.table.specs.declared.entries.Entry.{Entry}
use Rattle.table.specs.declared.readings.Reading.{Reading}
use Rattle.table.specs.declared.records.Table.{Table}
use Rattle.book.specs.Hours.{Prices, Offers, offers_by, PriceRows, IsClosed, IsSettled}
use Rattle.book.specs.Law.{entered, metered, SettledLaw, OnlyFigures}
use Rattle.book.specs.declared.closed.ClosedHour.{ClosedHour}
use Rattle.book.specs.declared.run.Calls.{Calls}
use Rattle.book.specs.declared.settled.SettledHour.{SettledHour}

-- the accepted entries and readings of the lists, and the offers of closing
abbrev pub entries_in : {O G : Type 0} → Calls O G → List Entry
entries_in calls = entered calls.entries.now

abbrev pub readings_in : {O G : Type 0} → Calls O G → List Reading
readings_in calls = metered calls.entries.now calls.readings.now

abbrev pub offers_in : {O G : Type 0} → (O → Prices) → (G → Prices) → Calls O G → Offers
offers_in prices1 prices2 calls = offers_by prices1 calls.offers.now prices2 calls.guaranteed.now

-- the laws by the offers of closing as they were given
abbrev pub RunClosingLaw : {O G : Type 0} → (O → Prices) → (G → Prices) → Calls O G → Table → Type 0
RunClosingLaw prices1 prices2 calls t =
    ClosingLaw prices1 calls.offers.now prices2 calls.guaranteed.now (entries_in calls) t

abbrev pub RunSettledLaw : {O G : Type 0} → (O → Prices) → (G → Prices) → Calls O G → Header → Pay → Table → Type 0
RunSettledLaw prices1 prices2 calls header pay t =
    SettledLaw prices1 calls.offers.now prices2 calls.guaranteed.now header pay (entries_in calls) (readings_in calls) t

abbrev pub RunOnlyFigures : {O G : Type 0} → (O → Prices) → (G → Prices) → Calls O G → Header → Pay → Table → Type 0
RunOnlyFigures prices1 prices2 calls header pay t =
    OnlyFigures prices1 calls.offers.now prices2 calls.guaranteed.now header pay (entries_in calls) (readings_in calls) t

-- a closed and a settled hour stand for the calls of the lists
abbrev pub RunClosed : {O G : Type 0} → (O → Prices) → (G → Prices) → Calls O G → Header → ClosedHour → Type 0
RunClosed prices1 prices2 calls header hour =
    IsClosed header (offers_in prices1 prices2 calls) (entries_in calls) (readings_in calls) hour

abbrev pub RunSettled : {O G : Type 0} → (O → Prices) → (G → Prices) → Calls O G → Header → PriceRows → SettledHour → Type 0
RunSettled prices1 prices2 calls header rows hour =
    IsSettled header (offers_in prices1 prices2 calls) rows (entries_in calls) (readings_in calls) hour
