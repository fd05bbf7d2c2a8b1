-- What an hour stands for: the calls that it has accepted. Rows of offers stand there as lists of prices, a function of
-- the kWh for each.
use Rattle.std.specs.Prelude.{◌≡◌, ℕ, List, [], map}
use Rattle.settling.specs.Figures.{Pay, pay_by}
use Rattle.settling.specs.declared.header.Header.{Header}
use Rattle.settling.specs.declared.rows.PriceRow.{PriceRow}
use Rattle.table.specs.ClosingLaw.{ClosingLaw}
use Rattle.table.specs.History.{Proper, Stands}
use Rattle.table.specs.Metered.{Metered}
use Rattle.table.specs.declared.entries.Entry.{Entry}
use Rattle.table.specs.declared.readings.Reading.{Reading}
use Rattle.table.specs.declared.records.Table.{Table}
use Rattle.book.specs.Law.{RowsOf, SettledLaw, OnlyFigures}
use Rattle.book.specs.declared.closed.ClosedHour.{ClosedHour}
use Rattle.book.specs.declared.open.OpenHour.{OpenHour}
use Rattle.book.specs.declared.settled.SettledHour.{SettledHour}

-- the price of each kWh
abbrev pub Prices : Type 0
Prices = ℕ → ℕ

-- the offers that an hour is closed by, for each group
pub record Offers : Type 0 where
  pub competitive : List Prices
  pub guaranteed : List Prices

-- the offers of both groups as lists of prices
abbrev pub offers_by : {O G : Type 0} → (O → Prices) → List O → (G → Prices) → List G → Offers
offers_by prices1 offers1 prices2 offers2 =
    record { competitive = map prices1 offers1; guaranteed = map prices2 offers2 }

-- the price rows that an hour is settled by
pub record PriceRows : Type 0 where
  pub competitive : List (PriceRow Prices Prices)
  pub guaranteed : List Prices

-- a price row, and those of both groups, as prices
abbrev pub row_by : {O C : Type 0} → (O → Prices) → (C → Prices) → PriceRow O C → PriceRow Prices Prices
row_by offer cost row = record { offer = offer row.offer; cost = cost row.cost }

abbrev pub rows_by : {O C G : Type 0} → (O → Prices) → (C → Prices) → List (PriceRow O C) → (G → Prices) → List G → PriceRows
rows_by offer cost rows guaranteed offers =
    record { competitive = map (row_by offer cost) rows; guaranteed = map guaranteed offers }

-- what units are paid by such rows
abbrev pub pay_in : PriceRows → Header → Pay
pay_in rows header = pay_by (λ f. f) (λ f. f) rows.competitive (λ f. f) rows.guaranteed header

-- by such offers and rows: the law of a closed hour, that of a settled one, and that no other figures meet it
abbrev pub ClosingLawBy : Offers → List Entry → Table → Type 0
ClosingLawBy offers h t = ClosingLaw (λ f. f) offers.competitive (λ f. f) offers.guaranteed h t

abbrev pub SettledLawBy : Header → Offers → PriceRows → List Entry → List Reading → Table → Type 0
SettledLawBy header offers rows h rs t =
    SettledLaw (λ f. f) offers.competitive (λ f. f) offers.guaranteed header (pay_in rows header) h rs t

abbrev pub OnlyFiguresBy : Header → Offers → PriceRows → List Entry → List Reading → Table → Type 0
OnlyFiguresBy header offers rows h rs t =
    OnlyFigures (λ f. f) offers.competitive (λ f. f) offers.guaranteed header (pay_in rows header) h rs t

-- a table holds accepted entries, and no reading
pub record OpenTable (h : List Entry) (t : Table) : Type 0 where
  pub proper : Proper h
  pub stands : Stands h t
  pub unread : Metered [] t

-- a table holds accepted entries, accepted readings since closing, and the law of a closed hour
pub record ClosedTable (offers : Offers) (h : List Entry) (rs : List Reading) (t : Table) : Type 0 where
  pub proper : Proper h
  pub stands : Stands h t
  pub metered : Metered rs t
  pub law : ClosingLawBy offers h t

-- A table holds accepted entries, accepted readings since closing, and the law of a settled hour, with the rows that
-- were entered and the only figures that meet that law.
pub record SettledTable (header : Header) (offers : Offers) (rows : PriceRows) (h : List Entry) (rs : List Reading) (t : Table) : Type 0 where
  pub proper : Proper h
  pub stands : Stands h t
  pub metered : Metered rs t
  pub law : SettledLawBy header offers rows h rs t
  pub entered : RowsOf h t
  pub only : OnlyFiguresBy header offers rows h rs t

-- An hour stands for these calls: an open one for entries, a closed one for offers and readings too, and a settled one
-- for the price rows as well. An open and a closed hour have the header that was given.
pub record IsOpen (given : Header) (h : List Entry) (hour : OpenHour) : Type 0 where
  pub header : hour.header ≡ given
  pub table : OpenTable h hour.book.now.table

pub record IsClosed (given : Header) (offers : Offers) (h : List Entry) (rs : List Reading) (hour : ClosedHour) : Type 0 where
  pub header : hour.header ≡ given
  pub table : ClosedTable offers h rs hour.book.now.table

pub record IsSettled (header : Header) (offers : Offers) (rows : PriceRows) (h : List Entry) (rs : List Reading) (hour : SettledHour) : Type 0 where
  pub table : SettledTable header offers rows h rs hour.book.now.table
