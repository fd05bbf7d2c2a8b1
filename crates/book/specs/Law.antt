-- The law over runs: what holds of an hour after any list of calls, by the accepted calls alone. Amounts, run support,
-- net purchases and unassigned energy are the book's own; limits, shares, commitments and billed energy are derived.
use Rattle.table.specs.Places.{unit_at, plant_at, buyer_at}
use Rattle.std.specs.Prelude.{◌≡◌, ℕ, ◌<◌, ◌≤◌, List, [], length, take, slice_index_or}
use Rattle.settling.specs.Derived.{ledger_in, found_in, NetsAddUp}
use Rattle.settling.specs.Figures.{Pay, unit_figures, plant_figures, buyer_figures, hour_figures}
use Rattle.settling.specs.Ledger.{Ledger}
use Rattle.settling.specs.declared.header.Header.{Header}
use Rattle.table.specs.ClosingLaw.{ClosingLaw}
use Rattle.table.specs.History.{plants_in, units_in, buyers_in, view_in, accepted, answer_in}
use Rattle.table.specs.Metered.{accepted_readings, reading_answer_in}
use Rattle.table.specs.Turns.{Answers, answer_at}
use Rattle.table.specs.declared.entries.Entry.{Entry}
use Rattle.table.specs.declared.entries.Entry.TheVariants.{AddPlant}
use Rattle.table.specs.declared.readings.Reading.{Reading}
use Rattle.table.specs.declared.readings.Reading.TheVariants.{Use}
use Rattle.table.specs.declared.records.Table.{Table}

-- the accepted entries of a list, the newest first, and its accepted readings, which look at what was entered
abbrev pub entered : List Entry → List Entry
entered entries = accepted [] entries

abbrev pub metered : List Entry → List Reading → List Reading
metered entries readings = accepted_readings (view_in (entered entries)) [] readings

-- each entry of a list is answered by the entries accepted before it, those before the list among them
pub record EntriesJudgedFrom (h entries : List Entry) (before after : Answers) : Type 0 where
  pub answered : (i : ℕ) → i < length entries → i < length before → answer_at after i ≡ answer_in (slice_index_or entries i (AddPlant 0)) (accepted h (take i entries))
  pub others : (i : ℕ) → length entries ≤ i → answer_at after i ≡ answer_at before i

-- the same of a list that begins with an hour's first entry
abbrev pub EntriesJudged : List Entry → Answers → Answers → Type 0
EntriesJudged entries before after = EntriesJudgedFrom [] entries before after

-- each reading of a list is answered by the entries accepted before closing
pub record ReadingsJudgedBy (h : List Entry) (readings : List Reading) (before after : Answers) : Type 0 where
  pub answered : (i : ℕ) → i < length readings → i < length before → answer_at after i ≡ reading_answer_in (view_in h) (slice_index_or readings i (Use 0 0))
  pub others : (i : ℕ) → length readings ≤ i → answer_at after i ≡ answer_at before i

-- the same of readings after a list of entries
abbrev pub ReadingsJudged : List Entry → List Reading → Answers → Answers → Type 0
ReadingsJudged entries readings before after = ReadingsJudgedBy (entered entries) readings before after

-- the table has a row for each plant, unit and buyer that was entered, and no other
pub record RowsOf (h : List Entry) (t : Table) : Type 0 where
  pub plants : t.plants.count ≡ plants_in h
  pub competitive : t.competitive.count ≡ units_in 1 h
  pub guaranteed : t.guaranteed.count ≡ units_in 2 h
  pub buyers : t.buyers.count ≡ buyers_in h

-- the ledger of the accepted calls, with the amounts and the run support that stand in the table
abbrev pub ledger : List Entry → List Reading → Table → Ledger
ledger h rs t = ledger_in (found_in t) h rs

-- Once settled: the law of a closed hour still holds, every figure is that of the ledger, and the net purchases add up.
pub record SettledLaw {O P : Type 0} (prices1 : O → ℕ → ℕ) (offers1 : List O) (prices2 : P → ℕ → ℕ) (offers2 : List P) (header : Header) (pay : Pay) (h : List Entry) (rs : List Reading) (t : Table) : Type 0 where
  pub closing : ClosingLaw prices1 offers1 prices2 offers2 h t
  pub competitive : (i : ℕ) → i < units_in 1 h → (unit_at t.competitive i).figures ≡ unit_figures (pay 1 i ((ledger h rs t).unit 1 i)) ((ledger h rs t).unit 1 i)
  pub guaranteed : (i : ℕ) → i < units_in 2 h → (unit_at t.guaranteed i).figures ≡ unit_figures (pay 2 i ((ledger h rs t).unit 2 i)) ((ledger h rs t).unit 2 i)
  pub plants : (i : ℕ) → i < plants_in h → (plant_at t i).figures ≡ plant_figures header pay (ledger h rs t) i
  pub buyers : (i : ℕ) → i < buyers_in h → (buyer_at t i).figures ≡ buyer_figures (ledger h rs t) i
  pub hour : t.figures ≡ hour_figures (ledger h rs t)
  pub nets : NetsAddUp (buyers_in h) (λ b. (buyer_at t b).figures.net) t.figures.unassigned (ledger h rs t)

-- two tables have the same figures
pub record SameFigures (h : List Entry) (t u : Table) : Type 0 where
  pub competitive : (i : ℕ) → i < units_in 1 h → (unit_at t.competitive i).figures ≡ (unit_at u.competitive i).figures
  pub guaranteed : (i : ℕ) → i < units_in 2 h → (unit_at t.guaranteed i).figures ≡ (unit_at u.guaranteed i).figures
  pub plants : (i : ℕ) → i < plants_in h → (plant_at t i).figures ≡ (plant_at u i).figures
  pub buyers : (i : ℕ) → i < buyers_in h → (buyer_at t i).figures ≡ (buyer_at u i).figures
  pub hour : t.figures ≡ u.figures

-- the figures are one function of header, accepted calls and rows: any table of which the law holds has the same
abbrev pub OnlyFigures : {O P : Type 0} → (O → ℕ → ℕ) → List O → (P → ℕ → ℕ) → List P → Header → Pay → List Entry → List Reading → Table → Type 0
OnlyFigures prices1 offers1 prices2 offers2 header pay h rs t =
    (u : Table) → SettledLaw prices1 offers1 prices2 offers2 header pay h rs u → SameFigures h t u
