-- The listing of a settled hour.
use Rattle.std.specs.Prelude.{◌≡◌, ℕ, ◌<◌, ◌≤◌, min, List, [], ◌++◌, length, drop, codes, Option, Some, None, Ok, Err, Result, IsErr, ◌↔◌}
use Rattle.std.specs.List.{flat_map, range_with_len}
use Rattle.table.specs.Texts.{hour_text}
use Rattle.table.specs.declared.records.HourFigures.{HourFigures}
use Rattle.table.specs.declared.records.Table.{Table}
use Rattle.listing.specs.Rows.{row_text, row_in}
use Rattle.listing.specs.declared.errors.ShortBuffer.{ShortBuffer}
use Rattle.listing.specs.declared.rows.Kind.{Kind}
use Rattle.listing.specs.declared.rows.Kind.TheVariants.{Competitive, Guaranteed, Plants, Buyers}
use Rattle.listing.specs.declared.rows.Row.{Row}

-- how many rows of a kind there are
abbrev pub count_of : Kind → Table → ℕ
count_of Competitive t = min t.competitive.count 128
count_of Guaranteed t = min t.guaranteed.count 128
count_of Plants t = min t.plants.count 32
count_of Buyers t = min t.buyers.count 64

-- the line of a row, with its line feed; nothing where there is no row
abbrev pub line_of : Option Row → List ℕ
line_of None = []
line_of (Some row) = row_text row ++ codes "\n"

-- the rows of a kind, by rising number
abbrev pub lines_of : Kind → Table → List ℕ
lines_of kind t = flat_map (λ number. line_of (row_in kind number t)) (range_with_len 1 (count_of kind t))

-- H and the hour's figures
abbrev pub hour_line : HourFigures → List ℕ
hour_line figures = codes "H " ++ (hour_text figures ++ codes "\n")

-- competitive units, guaranteed units, plants, buyers, and the hour
abbrev pub listing_of : Table → List ℕ
listing_of t =
    lines_of Competitive t ++ (lines_of Guaranteed t ++ (lines_of Plants t ++ (lines_of Buyers t ++
    hour_line t.figures)))

-- the text stands at the buffer's start and the rest is as it was; or nothing is written
abbrev pub ListingWritten : List ℕ → List ℕ → Result ℕ ShortBuffer → List ℕ → Type 0
ListingWritten text before (Ok n) after = (n ≡ length text) × ((n ≤ length before) × (after ≡ text ++ drop n before))
ListingWritten text before (Err e) after = (length before < length text) × (after ≡ before)

-- The answer is the listing's length or a short buffer (13), and this comes exactly where the buffer is shorter.
pub record ShortExactly (text before : List ℕ) (result : Result ℕ ShortBuffer) : Type 0 where
  pub fits : length text ≤ length before → result ≡ Ok (length text)
  pub short : length before < length text ↔ IsErr result
