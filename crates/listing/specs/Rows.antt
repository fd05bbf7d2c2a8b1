-- The rows of a settled hour, a line for each.
use Rattle.std.specs.Prelude.{ℕ, List, ◌++◌, codes, Option}
use Rattle.std.specs.Option.{option_map}
use Rattle.std.specs.Result.{result_ok}
use Rattle.std.specs.Fmt.{decimal}
use Rattle.book.specs.Questions.{unit_answer, plant_answer, buyer_answer}
use Rattle.table.specs.Texts.{unit_text, plant_text, buyer_text}
use Rattle.table.specs.declared.records.Table.{Table}
use Rattle.listing.specs.declared.rows.Kind.{Kind}
use Rattle.listing.specs.declared.rows.Kind.TheVariants.{Competitive as CompetitiveUnits, Guaranteed as GuaranteedUnits, Plants, Buyers}
use Rattle.listing.specs.declared.rows.Row.{Row}
use Rattle.listing.specs.declared.rows.Row.TheVariants.{Competitive, Guaranteed, Plant, Buyer}

-- U and the group, P or B, then the number and the figures, with one blank between
abbrev pub row_text : Row → List ℕ
row_text (Competitive number figures) = codes "U C " ++ (decimal number ++ (codes " " ++ unit_text figures))
row_text (Guaranteed number figures) = codes "U G " ++ (decimal number ++ (codes " " ++ unit_text figures))
row_text (Plant number figures) = codes "P " ++ (decimal number ++ (codes " " ++ plant_text figures))
row_text (Buyer number figures) = codes "B " ++ (decimal number ++ (codes " " ++ buyer_text figures))

-- the row of a number, if there is one
abbrev pub row_in : Kind → ℕ → Table → Option Row
row_in CompetitiveUnits number t = option_map (λ f. Competitive number f) (result_ok (unit_answer 1 number t))
row_in GuaranteedUnits number t = option_map (λ f. Guaranteed number f) (result_ok (unit_answer 2 number t))
row_in Plants number t = option_map (λ f. Plant number f) (result_ok (plant_answer number t))
row_in Buyers number t = option_map (λ f. Buyer number f) (result_ok (buyer_answer number t))
