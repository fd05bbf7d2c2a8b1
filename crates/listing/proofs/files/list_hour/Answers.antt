use Rattle.std.proofs.Common.{length, sym, subst}
use Rattle.reader.specs.Outcome.{outcome}
use Rattle.listing.proofs.Filed.{fault_listed, hour_listed}
use Rattle.listing.proofs.Exactly.{ends_exactly}
use Rattle.listing.proofs.Never.{never_short}
use Rattle.listing.proofs.Unique.{one_listing}
use Rattle.listing.specs.Files.{ReachedListed}
use Rattle.listing.proofs.files.list_hour.Goals as goal
use Rattle.listing.proofs.files.list_hour.Goals.{in-Ok, in-Err}

pub returns-clause-listed : goal.returns-clause-listed
returns-clause-listed c =
    let book = c.args.book.now.table in
    let file = c.args.file.now in
    let before = c.args.out.now in
    let read = c.read_hour-reached.result in
    elim c.match-end.branch [
      | in-Ok w ↦
          hour_listed book file before read c.read_hour-reached.ensures.read c.match-end.end c.match-end.out w.in-Ok.field-0 w.length_of.result w.in-Ok.is w.length_of.ensures
          (subst (λ e. ReachedListed read.reached w.length_of.result before e c.match-end.out) (sym w.end-is)
          (subst (λ o. ReachedListed read.reached w.length_of.result before w.list_reached-end.result o) (sym w.out-is) w.list_reached-end.ensures))
      | in-Err w ↦
          fault_listed book file before read c.read_hour-reached.ensures.read c.match-end.end c.match-end.out w.in-Err.fault w.in-Err.is w.end-is w.out-is
    ]

pub returns-clause-one : goal.returns-clause-one
returns-clause-one c = one_listing (outcome c.args.file.now).progress

pub returns-clause-exactly : goal.returns-clause-exactly
returns-clause-exactly c =
    let file = c.args.file.now in
    ends_exactly (outcome file).fault c.read_hour-reached.result.reached (length file) c.args.out.now c.match-end.out c.match-end.end (never_short file) (returns-clause-listed c).end
