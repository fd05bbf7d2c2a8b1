use Rattle.std.proofs.Common.{length}
use Rattle.hourfile.specs.Reading.{rest_of}
use Rattle.reader.proofs.Rounds.{Left}
use Rattle.reader.specs.Outcome.{read_on}
use Rattle.reader.specs.Progress.Progress.{Unopened}
use Rattle.reader.proofs.reading.read_records.Given as goal

-- what is left gives the whole's outcome, and the hour stands where the records read so far have led
abbrev pub invariant-loop-fault : goal.invariant-loop-fault
invariant-loop-fault l =
    let whole = rest_of l.fn.reader in
    Left l.fn.book.table (read_on (length whole.words) whole Unopened) (rest_of l.reader) l.reached l.rows

abbrev pub decreases-loop-fault : goal.decreases-loop-fault
decreases-loop-fault l = length l.reader.words.now
