-- What hourlist prints for a file.
use Rattle.std.specs.Prelude.{◌≡◌, ℕ, List, ◌++◌, codes, Option, Some, None}
use Rattle.table.specs.declared.records.Table.{Table}
use Rattle.hourfile.specs.Faults.{fault_text}
use Rattle.hourfile.specs.declared.faults.FileFault.{FileFault}
use Rattle.reader.specs.Holds.{SettledHolds}
use Rattle.reader.specs.Outcome.{outcome}
use Rattle.reader.specs.Progress.{Progress}
use Rattle.reader.specs.Progress.Progress.{Unopened as NotOpened, Opened, Closed as IsClosed, Settled as Done}
use Rattle.reader.specs.declared.reached.Reached.{Reached}
use Rattle.reader.specs.declared.reached.Reached.TheVariants.{Unopened, Open, Closed, Settled}
use Rattle.listing.specs.Files.{ended}
use Rattle.listing.specs.Listing.{listing_of}

-- the line of a fault, with its line feed
abbrev pub fault_line : FileFault → List ℕ
fault_line fault = fault_text fault ++ codes "\n"

-- a settled hour is shown by its listing; another has none, and is a file that ended too soon
abbrev pub HourShown : Reached → ℕ → List ℕ → Type 0
HourShown (Unopened book) place text = text ≡ fault_line (ended place)
HourShown (Open hour) place text = text ≡ fault_line (ended place)
HourShown (Closed hour) place text = text ≡ fault_line (ended place)
HourShown (Settled hour) place text = text ≡ listing_of hour.book.now.table

-- a table with the figures of the hour that a file led to
abbrev pub HourOf : Progress → Table → Type 0
HourOf NotOpened t = ⊥
HourOf (Opened m) t = ⊥
HourOf (IsClosed m) t = ⊥
HourOf (Done m) t = SettledHolds m t

-- the listing of the settled hour, or the line of the file's fault
abbrev pub ShownFor : Option FileFault → Progress → List ℕ → Type 0
ShownFor (Some fault) p text = text ≡ fault_line fault
ShownFor None p text = (t : Table) × HourOf p t × (text ≡ listing_of t)

abbrev pub IsPrinted : List ℕ → List ℕ → Type 0
IsPrinted file text = ShownFor (outcome file).fault (outcome file).progress text

-- a file's hour has one listing: any two tables with its figures are listed alike
abbrev pub OneListing : Progress → Type 0
OneListing p = (t u : Table) → HourOf p t → HourOf p u → listing_of t ≡ listing_of u
