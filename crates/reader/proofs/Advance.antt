-- What the table holds after a call, by the calls accepted before.
use Rattle.std.proofs.Common.{◌≡◌, ℕ, List, ◌∷◌, Option, Some, None, Ok, Err, Result, refl, ap, ◌∙◌}
use Rattle.curves.specs.declared.refusals.CurveRefusal.{CurveRefusal}
use Rattle.table.proofs.Views.{rows_same, view_same}
use Rattle.table.specs.Effects.{unless, applied, after_entry, after_priced}
use Rattle.table.specs.Entries.{rows}
use Rattle.table.specs.History.{Stands, view_in, next_history}
use Rattle.table.specs.Metered.{next_readings}
use Rattle.table.specs.Readings.{reading_rows, applied_reading, after_reading}
use Rattle.table.specs.declared.entries.Entry.{Entry}
use Rattle.table.specs.declared.entries.Entry.TheVariants.{AddCompetitive}
use Rattle.table.specs.declared.readings.Reading.{Reading}
use Rattle.table.specs.declared.records.Table.{Table}
use Rattle.table.specs.declared.refusals.BookRefusal.{BookRefusal}
use Rattle.book.specs.Taken.{next_priced}
use Rattle.reader.specs.Holds.{entries_made, readings_made}
use Rattle.reader.specs.Rows.{UnitRow}

-- the table after an entry is that of the accepted entries
module _ (e : Entry) (h : List Entry) (t : Table) (stands : Stands h t) (is : t ≡ entries_made h) where
  entry_by : (o : Option BookRefusal) → rows (view_in h) e ≡ o → after_entry e t ≡ entries_made (unless o (λ _. h) (e ∷ h))
  entry_by None same = ap (after_entry e) is
  entry_by (Some refusal) same = ap (λ o. unless o (λ _. t) (applied e t)) (rows_same e h t stands ∙ same) ∙ is

  pub entry_made : after_entry e t ≡ entries_made (next_history e h)
  entry_made = entry_by (rows (view_in h) e) refl

pub priced_made : (plant declared internal : ℕ) (x : Result UnitRow CurveRefusal) (h : List Entry) (t : Table) → Stands h t → t ≡ entries_made h → after_priced plant declared internal x t ≡ entries_made (next_priced plant declared internal x h)
priced_made plant declared internal (Ok row) h t stands is = entry_made (AddCompetitive plant declared internal) h t stands is
priced_made plant declared internal (Err refusal) h t stands is = is

-- the table after a reading is that of the accepted readings
module _ (r : Reading) (h : List Entry) (rs : List Reading) (closed t : Table) (stands : Stands h t) (is : t ≡ readings_made closed rs) where
  reading_by : (o : Option BookRefusal) → reading_rows (view_in h) r ≡ o → after_reading r t ≡ readings_made closed (unless o (λ _. rs) (r ∷ rs))
  reading_by None same = ap (after_reading r) is
  reading_by (Some refusal) same = ap (λ o. unless o (λ _. t) (applied_reading r t)) (ap (λ v. reading_rows v r) (view_same h t stands) ∙ same) ∙ is

  pub reading_made : after_reading r t ≡ readings_made closed (next_readings (view_in h) r rs)
  reading_made = reading_by (reading_rows (view_in h) r) refl
