-- The calls of a sale: which are accepted, by the calls before them.
use Rattle.std.specs.Prelude.{ℕ, List, [], Result}
use Rattle.curves.specs.declared.refusals.CurveRefusal.{CurveRefusal}
use Rattle.table.specs.History.{next_history, accepted, view_in}
use Rattle.table.specs.Metered.{next_readings, accepted_readings}
use Rattle.table.specs.declared.entries.Entry.{Entry}
use Rattle.table.specs.declared.entries.Entry.TheVariants.{AddPlant, AddBuyer}
use Rattle.table.specs.declared.readings.Reading.{Reading}
use Rattle.table.specs.declared.readings.Reading.TheVariants.{Use}
use Rattle.settling.specs.declared.header.Header.{Header}
use Rattle.book.specs.Hours.{Prices, Offers, offers_by, PriceRows, rows_by, IsSettled}
use Rattle.book.specs.Taken.{next_priced}
use Rattle.book.specs.declared.settled.SettledHour.{SettledHour}
use Rattle.hour_client.specs.declared.sales.Sale.{Sale}

-- the accepted ones of a plant, a buyer, a unit with the outcome of making its rows, and the entries of a list
abbrev pub entries_of : {R : Type 0} → Result R CurveRefusal → List Entry → List Entry
entries_of unit entries =
    accepted (next_priced 1 40 0 unit (next_history (AddBuyer 0) (next_history (AddPlant 0) []))) entries

-- the accepted ones of the buyer's use and the readings of a list
abbrev pub readings_of : List Entry → ℕ → List Reading → List Reading
readings_of h used readings = accepted_readings (view_in h) (next_readings (view_in h) (Use 1 used) []) readings

-- the offers and price rows of a sale
abbrev pub offers_in : {O G P C H : Type 0} → (O → Prices) → (G → Prices) → Sale O G P C H → Offers
offers_in prices1 prices2 sale = offers_by prices1 sale.offers.now prices2 sale.guaranteed.now

abbrev pub rows_in : {O G P C H : Type 0} → (P → Prices) → (C → Prices) → (H → Prices) → Sale O G P C H → PriceRows
rows_in offer cost guaranteed sale = rows_by offer cost sale.rows.now guaranteed sale.row_offers.now

-- the law of the settled hour, by the calls of a sale
abbrev pub SoldBy : {R O G P C H : Type 0} → Offers → PriceRows → Header → Result R CurveRefusal → Sale O G P C H → SettledHour → Type 0
SoldBy offers rows header unit sale hour =
    IsSettled header offers rows (entries_of unit sale.entries.now) (readings_of (entries_of unit sale.entries.now) sale.used sale.readings.now) hour
