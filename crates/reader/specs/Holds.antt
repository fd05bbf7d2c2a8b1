-- What a book holds once some calls of a file are accepted: exactly their effect, and the laws of an hour.
use Rattle.std.specs.Prelude.{◌≡◌, List, [], ◌∷◌, replicate}
use Rattle.book.specs.Hours.{Offers, offers_by, PriceRows, rows_by, ClosedTable}
use Rattle.curves.specs.Kinds.{stepped_offer_price, stepped_cost_price, tariff_price}
use Rattle.curves.specs.declared.tariff.Tariff.{Tariff}
use Rattle.settling.specs.Figures.{Pay, pay_by}
use Rattle.settling.specs.Settled.{Settled as HourSettled}
use Rattle.settling.specs.declared.header.Header.{Header}
use Rattle.table.specs.Closing.{Closed as HourClosed}
use Rattle.table.specs.ClosingLaw.{ClosingLaw}
use Rattle.table.specs.Effects.{after_entry}
use Rattle.table.specs.History.{empty_table}
use Rattle.table.specs.Readings.{after_reading}
use Rattle.table.specs.declared.entries.Entry.{Entry}
use Rattle.table.specs.declared.readings.Reading.{Reading}
use Rattle.table.specs.declared.records.Table.{Table}
use Rattle.book.specs.Law.{SettledLaw, OnlyFigures}
use Rattle.reader.specs.Progress.{Made}
use Rattle.reader.specs.Rows.{UnitRow, offers_of}

-- the table that entries and readings lead to, the newest first
abbrev pub entries_made : List Entry → Table
entries_made [] = empty_table
entries_made (e ∷ h) = after_entry e (entries_made h)

abbrev pub readings_made : Table → List Reading → Table
readings_made t [] = t
readings_made t (r ∷ rs) = after_reading r (readings_made t rs)

-- each guaranteed unit's offer is the header's tariff
abbrev pub tariffs : Header → List Tariff
tariffs header = replicate 128 (record { rate = header.tariff })

-- the offers that a file's hour is closed by, and the price rows that it is settled by
abbrev pub closing_offers : Made → Offers
closing_offers m = offers_by stepped_offer_price (offers_of m.rows) tariff_price (tariffs m.header)

abbrev pub settling_rows : Made → PriceRows
settling_rows m = rows_by stepped_offer_price stepped_cost_price m.rows tariff_price (tariffs m.header)

-- a table after the closing and the settling of a file's hour
abbrev pub ClosedBy : Header → List UnitRow → Table → Table → Type 0
ClosedBy header rows before after =
    HourClosed stepped_offer_price (offers_of rows) tariff_price (tariffs header) before after

abbrev pub pay_of : Header → List UnitRow → Pay
pay_of header rows = pay_by stepped_offer_price stepped_cost_price rows tariff_price (tariffs header) header

-- an open hour: the entries and nothing else
abbrev pub OpenHolds : Made → Table → Type 0
OpenHolds m t = (t ≡ entries_made m.entries) × (m.readings ≡ [])

-- a closed hour: the entries, closing and the readings, and the law of a closed hour
pub record ClosedHolds (m : Made) (t : Table) : Type 0 where
  pub closed : Table
  pub closing : ClosedBy m.header m.rows (entries_made m.entries) closed
  pub table : t ≡ readings_made closed m.readings
  pub law : ClosingLaw stepped_offer_price (offers_of m.rows) tariff_price (tariffs m.header) m.entries t

-- a settled hour: the figures of a closed hour are settled, and the law of a settled hour
pub record SettledHolds (m : Made) (t : Table) : Type 0 where
  pub closed : Table
  pub before : ClosedHolds m closed
  pub stands : ClosedTable (closing_offers m) m.entries m.readings closed
  pub settling : HourSettled m.header (pay_of m.header m.rows) closed t
  pub law : SettledLaw stepped_offer_price (offers_of m.rows) tariff_price (tariffs m.header) m.header (pay_of m.header m.rows) m.entries m.readings t
  pub only : OnlyFigures stepped_offer_price (offers_of m.rows) tariff_price (tariffs m.header) m.header (pay_of m.header m.rows) m.entries m.readings t
