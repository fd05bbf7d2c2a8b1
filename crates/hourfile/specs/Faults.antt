-- The faults of an hour file: the number, the layer and the text of each.
use Rattle.std.specs.Prelude.{ℕ, List, ◌∷◌, ◌++◌, codes}
use Rattle.std.specs.Fmt.{decimal}
use Rattle.curves.specs.Refusals.{refusal_number as steps_number}
use Rattle.table.specs.Refusals.{refusal_number}
use Rattle.table.specs.declared.refusals.UnitRefusal.{UnitRefusal}
use Rattle.table.specs.declared.refusals.UnitRefusal.TheVariants.{Book as ByBook, Rows as ByRows}
use Rattle.hourfile.specs.declared.faults.Cause.{Cause}
use Rattle.hourfile.specs.declared.faults.Cause.TheVariants.{Ended, ShortBuffer, Length, Malformed, Misplaced, Book, Steps}
use Rattle.hourfile.specs.declared.faults.FileFault.{FileFault}

-- the number of a fault, or of the refusal that it is
abbrev pub cause_number : Cause → ℕ
cause_number Ended = 12
cause_number ShortBuffer = 13
cause_number Length = 14
cause_number Malformed = 15
cause_number Misplaced = 16
cause_number (Book refusal) = refusal_number refusal
cause_number (Steps refusal) = steps_number refusal

-- the letter of the layer that finds a fault: B the book, O step lists, F the file
abbrev pub cause_layer : Cause → ℕ
cause_layer Ended = 70
cause_layer ShortBuffer = 70
cause_layer Length = 70
cause_layer Malformed = 70
cause_layer Misplaced = 70
cause_layer (Book refusal) = 66
cause_layer (Steps refusal) = 79

-- a unit with its rows is refused by the book or by the rows
abbrev pub unit_cause : UnitRefusal → Cause
unit_cause (ByBook refusal) = Book refusal
unit_cause (ByRows refusal) = Steps refusal

-- R, layer, number and place
abbrev pub fault_text : FileFault → List ℕ
fault_text fault =
    codes "R " ++ (cause_layer fault.cause ∷ (codes " " ++ (decimal (cause_number fault.cause) ++ (codes " " ++ decimal fault.place))))
