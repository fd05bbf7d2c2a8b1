-- Reading a whole file: the calls that are accepted, and the fault at which reading stops.
use Rattle.std.specs.Prelude.{◌≡◌, ℕ, zero, suc, ◌+◌, ◌*◌, ◌%◌, ◌<◌, ◌≤◌, List, [], ◌∷◌, length, slice_index_or, Option, Some, None, Ok, Err, Result}
use Rattle.std.specs.List.{flat_map}
use Rattle.hourfile.specs.Format.{Plain, Writable, record_words}
use Rattle.hourfile.specs.Reading.{Rest, At, found_next, after_next, file_words, start}
use Rattle.hourfile.specs.declared.faults.Cause.{Cause}
use Rattle.hourfile.specs.declared.faults.Cause.TheVariants.{Ended}
use Rattle.hourfile.specs.declared.faults.FileFault.{FileFault}
use Rattle.reader.specs.Progress.{Progress, call}
use Rattle.reader.specs.Progress.Progress.{Unopened, Opened, Closed, Settled}

-- where the hour stands when reading ends, and the fault that ended it
pub record Outcome : Type 0 where
  pub progress : Progress
  pub fault : Option FileFault

-- the fault of a file that ends here: 12, if the hour isn't settled
abbrev pub end_fault : ℕ → Progress → Option FileFault
end_fault place Unopened = Some (record { cause = Ended; place = place })
end_fault place (Opened m) = Some (record { cause = Ended; place = place })
end_fault place (Closed m) = Some (record { cause = Ended; place = place })
end_fault place (Settled m) = None

abbrev pub stopped : Progress → FileFault → Outcome
stopped p fault = record { progress = p; fault = Some fault }

-- where a call leads, reading goes on; a call that is turned down is a fault at its record's place
abbrev pub go_on : (Progress → Outcome) → Progress → ℕ → Result Progress Cause → Outcome
go_on more p place (Ok next) = more next
go_on more p place (Err cause) = stopped p (record { cause = cause; place = place })

abbrev pub found_there : (Progress → Outcome) → ℕ → Progress → Result (Option At) FileFault → Outcome
found_there more place p (Ok None) = record { progress = p; fault = end_fault place p }
found_there more place p (Ok (Some at)) = go_on more p at.place (call p at.found)
found_there more place p (Err fault) = stopped p fault

-- The records of what is still to be read, one after another. A record has at least one word, so there are at most as
-- many records as words.
unfoldable pub read_on : ℕ → Rest → Progress → Outcome
read_on zero r p = record { progress = p; fault = end_fault r.place p }
read_on (suc n) r p = found_there (read_on n (after_next r)) r.place p (found_next r)

abbrev pub read_from : Result Rest FileFault → Outcome
read_from (Ok r) = read_on (length r.words) r Unopened
read_from (Err fault) = stopped Unopened fault

-- what reading a file comes to
abbrev pub outcome : List ℕ → Outcome
outcome file = read_from (start file)

-- a fault as a result
abbrev pub end_of : Option FileFault → Result Unit FileFault
end_of None = Ok Prim.tt
end_of (Some fault) = Err fault

-- A list of records read in turn, from a place on: where each call leads, and the fault that ends it.
unfoldable pub records_read : ℕ → Progress → List Plain → Outcome
records_read place p [] = record { progress = p; fault = end_fault place p }
records_read place p (r ∷ rs) = go_on (λ q. records_read (place + 4 * (1 + length r.values)) q rs) p place (call p r)

-- a file of these records: the words of each, one after another
pub record FileOf (rs : List Plain) (file : List ℕ) : Type 0 where
  pub whole : length file % 4 ≡ 0
  pub short : length file ≤ 65536
  pub writable : (i : ℕ) → i < length rs → Writable (slice_index_or rs i (record { kind = 0; values = [] }))
  pub words : file_words file ≡ flat_map record_words rs
