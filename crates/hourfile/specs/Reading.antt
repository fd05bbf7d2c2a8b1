-- Reading a file record by record.
use Rattle.std.specs.Prelude.{ℕ, ◌+◌, ◌-◌, ◌*◌, ◌/◌, ◌%◌, cond, not, ◌||◌, List, length, Option, Some, None, Ok, Err, Result, ◌==◌, nat_lt}
use Rattle.std.specs.Simd.{first_chunks}
use Rattle.hourfile.specs.Words.{words}
use Rattle.hourfile.specs.Format.{Plain, First, plain, first}
use Rattle.hourfile.specs.declared.faults.Cause.{Cause}
use Rattle.hourfile.specs.declared.faults.Cause.TheVariants.{Length}
use Rattle.hourfile.specs.declared.faults.FileFault.{FileFault}
use Rattle.hourfile.specs.declared.reading.PlacedRecord.{PlacedRecord}
use Rattle.hourfile.specs.declared.reader.Reader.{Reader}

-- what is still to be read of a file: its words, and the place of the first in bytes
pub record Rest : Type 0 where
  pub words : List ℕ
  pub place : ℕ

abbrev pub rest_of : Reader → Rest
rest_of r = record { words = words r.words.now; place = r.place }

-- a record with its place
pub record At : Type 0 where
  pub found : Plain
  pub place : ℕ

-- the record that stands next, or what is wrong there
abbrev pub found_at : ℕ → Result (Option First) Cause → Result (Option At) FileFault
found_at place (Ok None) = Ok None
found_at place (Ok (Some f)) = Ok (Some (record { found = f.found; place = place }))
found_at place (Err cause) = Err (record { cause = cause; place = place })

abbrev pub found_next : Rest → Result (Option At) FileFault
found_next r = found_at r.place (first r.words)

-- what is still to be read after it
abbrev pub rest_after : Rest → Result (Option First) Cause → Rest
rest_after r (Ok None) = r
rest_after r (Ok (Some f)) = record { words = f.rest; place = r.place + 4 * (length r.words - length f.rest) }
rest_after r (Err cause) = r

abbrev pub after_next : Rest → Rest
after_next r = rest_after r (first r.words)

-- the answer of the reader, without where its record lies in memory
abbrev pub view_next : Result (Option PlacedRecord) FileFault → Result (Option At) FileFault
view_next (Ok None) = Ok None
view_next (Ok (Some p)) = Ok (Some (record { found = plain p.record; place = p.place }))
view_next (Err fault) = Err fault

-- the words of a file
abbrev pub file_words : List ℕ → List ℕ
file_words bytes = words (first_chunks 4 (length bytes / 4) bytes)

-- a file is read from its first word on; one that isn't made of whole words, or is too long, is not
abbrev pub start : List ℕ → Result Rest FileFault
start bytes =
    cond (nat_lt 65536 (length bytes) || not (length bytes % 4 == 0))
    (Err (record { cause = Length; place = 0 })) (Ok (record { words = file_words bytes; place = 0 }))

abbrev pub view_start : Result Reader FileFault → Result Rest FileFault
view_start (Ok r) = Ok (rest_of r)
view_start (Err fault) = Err fault
