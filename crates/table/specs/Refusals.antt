-- The number of each refusal in the table of refusals.
use Rattle.std.specs.Prelude.{ℕ, List, ◌++◌, codes}
use Rattle.std.specs.Fmt.{decimal}
use Rattle.curves.specs.Refusals.{refusal_number as curve_number, refusal_text as curve_text}
use Rattle.table.specs.declared.refusals.BookRefusal.{BookRefusal}
use Rattle.table.specs.declared.refusals.BookRefusal.TheVariants.{NoPlant, NoUnit, NoBuyer, Full, Percentage, Energy, Commitments, Price, OutsideSet, Limited}
use Rattle.table.specs.declared.refusals.UnitRefusal.{UnitRefusal}
use Rattle.table.specs.declared.refusals.UnitRefusal.TheVariants.{Book, Rows}

abbrev pub refusal_number : BookRefusal → ℕ
refusal_number NoPlant = 1
refusal_number NoUnit = 2
refusal_number NoBuyer = 3
refusal_number Full = 4
refusal_number Percentage = 5
refusal_number Energy = 6
refusal_number Commitments = 7
refusal_number Price = 9
refusal_number OutsideSet = 10
refusal_number Limited = 11

-- the number of a refused unit that came with its price rows: that of the refusal within
abbrev pub unit_refusal_number : UnitRefusal → ℕ
unit_refusal_number (Book refusal) = refusal_number refusal
unit_refusal_number (Rows refusal) = curve_number refusal

-- how a refusal prints
abbrev pub refusal_text : ℕ → List ℕ
refusal_text number = codes "refused with " ++ decimal number

-- a unit's refusal prints as the refusal within
abbrev pub unit_refusal_text : UnitRefusal → List ℕ
unit_refusal_text (Book refusal) = refusal_text (refusal_number refusal)
unit_refusal_text (Rows refusal) = curve_text refusal
