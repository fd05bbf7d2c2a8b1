-- Listing an hour file: from its first byte to the listing's last.
use Rattle.std.specs.Prelude.{◌≡◌, ℕ, ◌<◌, ◌≤◌, List, ◌++◌, length, drop, Option, Some, None, Ok, Err, Result, ◌≢◌, ◌↔◌}
use Rattle.table.specs.declared.records.Table.{Table}
use Rattle.hourfile.specs.declared.faults.Cause.TheVariants.{ShortBuffer, Ended}
use Rattle.hourfile.specs.declared.faults.FileFault.{FileFault}
use Rattle.reader.specs.Outcome.{outcome}
use Rattle.reader.specs.Reached.{BookHolds}
use Rattle.reader.specs.declared.reached.Reached.{Reached}
use Rattle.reader.specs.declared.reached.Reached.TheVariants.{Unopened, Open, Closed, Settled}
use Rattle.listing.specs.Listing.{listing_of}
use Rattle.listing.specs.declared.errors.ShortBuffer.{ShortBuffer as TooShort}
use Rattle.listing.specs.declared.listed.Listed.{Listed}

-- fault 13 at the file's length
abbrev pub too_short : ℕ → FileFault
too_short place = record { cause = ShortBuffer; place = place }

-- fault 12 at the file's length
abbrev pub ended : ℕ → FileFault
ended place = record { cause = Ended; place = place }

-- what writing a listing answers, as the file's answer
abbrev pub list_end : Result ℕ TooShort → ℕ → Result ℕ FileFault
list_end (Ok n) place = Ok n
list_end (Err e) place = Err (too_short place)

-- The listing stands at the buffer's start, and the rest is as it was. Or the buffer is too short, and nothing is
-- written.
abbrev pub IsListed : List ℕ → ℕ → List ℕ → Result ℕ FileFault → List ℕ → Type 0
IsListed text place before (Ok n) after = (n ≡ length text) × ((n ≤ length before) × (after ≡ text ++ drop n before))
IsListed text place before (Err fault) after =
    (fault ≡ too_short place) × ((length before < length text) × (after ≡ before))

-- a settled hour is listed; another has no listing
abbrev pub ReachedListed : Reached → ℕ → List ℕ → Result ℕ FileFault → List ℕ → Type 0
ReachedListed (Unopened book) place before end after = (end ≡ Err (ended place)) × (after ≡ before)
ReachedListed (Open hour) place before end after = (end ≡ Err (ended place)) × (after ≡ before)
ReachedListed (Closed hour) place before end after = (end ≡ Err (ended place)) × (after ≡ before)
ReachedListed (Settled hour) place before end after = IsListed (listing_of hour.book.now.table) place before end after

-- a fault of the file is the answer, and nothing is written; without one the settled hour is listed
abbrev pub EndsAs : Option FileFault → Reached → ℕ → List ℕ → Result ℕ FileFault → List ℕ → Type 0
EndsAs (Some fault) reached place before end after = (end ≡ Err fault) × (after ≡ before)
EndsAs None (Unopened book) place before end after = ⊥
EndsAs None (Open hour) place before end after = ⊥
EndsAs None (Closed hour) place before end after = ⊥
EndsAs None (Settled hour) place before end after = IsListed (listing_of hour.book.now.table) place before end after

-- a file that was listed: the book holds the effect of exactly the records before the fault, and the end is the file's
pub record HourListed (book : Table) (file before : List ℕ) (listed : Listed) (after : List ℕ) : Type 0 where
  pub holds : BookHolds book (outcome file).progress listed.reached
  pub end : EndsAs (outcome file).fault listed.reached (length file) before listed.end after

-- The end is the listing's length or 13, and 13 comes exactly where the buffer is shorter than the listing.
pub record EndsExactly (text : List ℕ) (place : ℕ) (before : List ℕ) (end : Result ℕ FileFault) : Type 0 where
  pub fits : length text ≤ length before → end ≡ Ok (length text)
  pub short : length before < length text ↔ (end ≡ Err (too_short place))

-- A settled hour's end is the listing's length or 13, by the buffer's length alone. A fault of the file is never 13.
abbrev pub FileEndsExactly : Option FileFault → Reached → ℕ → List ℕ → Result ℕ FileFault → Type 0
FileEndsExactly (Some fault) reached place before end = (end ≡ Err fault) × (fault.cause ≢ ShortBuffer)
FileEndsExactly None (Settled hour) place before end = EndsExactly (listing_of hour.book.now.table) place before end
FileEndsExactly None reached place before end = ⊥
