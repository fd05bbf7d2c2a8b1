-- The most bytes that lines take: the digits of the widest numbers, letters, blanks and line feeds.
use Rattle.std.specs.Prelude.{ℕ, ◌*◌}
use Rattle.listing.specs.declared.rows.Kind.{Kind}
use Rattle.listing.specs.declared.rows.Kind.TheVariants.{Competitive as CompetitiveUnits, Guaranteed as GuaranteedUnits, Plants, Buyers}
use Rattle.listing.specs.declared.rows.Row.{Row}
use Rattle.listing.specs.declared.rows.Row.TheVariants.{Competitive, Guaranteed, Plant, Buyer}

-- the line of a row
abbrev pub line_room : Row → ℕ
line_room (Competitive number figures) = 51
line_room (Guaranteed number figures) = 51
line_room (Plant number figures) = 111
line_room (Buyer number figures) = 48

-- the lines of all rows of a kind
abbrev pub rows_room : Kind → ℕ
rows_room CompetitiveUnits = 128 * 51
rows_room GuaranteedUnits = 128 * 51
rows_room Plants = 32 * 111
rows_room Buyers = 64 * 48
