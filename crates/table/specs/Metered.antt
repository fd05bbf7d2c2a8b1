-- What the accepted readings of an hour say, by themselves: a list of them, the newest first.
use Rattle.table.specs.Places.{unit_at, buyer_at}
use Rattle.std.specs.Prelude.{◌≡◌, ℕ, ◌+◌, ◌<◌, cond, List, [], ◌∷◌, length, Some, None, Ok, Err, Option, Result, ◌==◌}
use Rattle.table.specs.Effects.{unless}
use Rattle.table.specs.Entries.{View}
use Rattle.table.specs.Readings.{reading_rows, reading_number}
use Rattle.table.specs.Rows.{kept_reading}
use Rattle.table.specs.declared.readings.Reading.{Reading}
use Rattle.table.specs.declared.readings.Reading.TheVariants.{Competitive, Guaranteed, Use}
use Rattle.table.specs.declared.records.UnitReading.{UnitReading}
use Rattle.table.specs.declared.records.Table.{Table}
use Rattle.table.specs.declared.refusals.BookRefusal.{BookRefusal}

-- the last accepted reading of a unit of group 1, of one of group 2, and the last use of a buyer, if there is one
abbrev pub last_competitive : ℕ → List Reading → Option UnitReading
last_competitive i [] = None
last_competitive i (Competitive unit reading ∷ rs) = cond (i == unit) (Some reading) (last_competitive i rs)
last_competitive i (Guaranteed unit reading ∷ rs) = last_competitive i rs
last_competitive i (Use buyer used ∷ rs) = last_competitive i rs

abbrev pub last_guaranteed : ℕ → List Reading → Option UnitReading
last_guaranteed i [] = None
last_guaranteed i (Competitive unit reading ∷ rs) = last_guaranteed i rs
last_guaranteed i (Guaranteed unit reading ∷ rs) = cond (i == unit) (Some (kept_reading reading)) (last_guaranteed i rs)
last_guaranteed i (Use buyer used ∷ rs) = last_guaranteed i rs

abbrev pub last_use : ℕ → List Reading → Option ℕ
last_use b [] = None
last_use b (Competitive unit reading ∷ rs) = last_use b rs
last_use b (Guaranteed unit reading ∷ rs) = last_use b rs
last_use b (Use buyer used ∷ rs) = cond (b == buyer) (Some used) (last_use b rs)

-- the accepted readings after one more: with it where no row turns it down, by what was entered
abbrev pub next_readings : View → Reading → List Reading → List Reading
next_readings v r rs = unless (reading_rows v r) (λ _. rs) (r ∷ rs)

-- the accepted readings after those of a list, made in turn
abbrev pub accepted_readings : View → List Reading → List Reading → List Reading
accepted_readings v rs [] = rs
accepted_readings v rs (r ∷ more) = accepted_readings v (next_readings v r rs) more

-- what a reading answers, by what was entered
abbrev pub reading_answer_in : View → Reading → Result ℕ BookRefusal
reading_answer_in v r = unless (reading_rows v r) Err (Ok (reading_number r))

-- a table holds the last readings of a list
pub record Metered (rs : List Reading) (t : Table) : Type 0 where
  pub competitive_long : length t.competitive.rows ≡ 128
  pub guaranteed_long : length t.guaranteed.rows ≡ 128
  pub buyers_long : length t.buyers.rows ≡ 64
  pub competitive : (i : ℕ) → i < 128 → (unit_at t.competitive i).reading ≡ last_competitive (i + 1) rs
  pub guaranteed : (i : ℕ) → i < 128 → (unit_at t.guaranteed i).reading ≡ last_guaranteed (i + 1) rs
  pub uses : (i : ℕ) → i < 64 → (buyer_at t i).used ≡ last_use (i + 1) rs
