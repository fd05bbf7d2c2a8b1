-- A file without a fault is listed as its settled hour.
use Rattle.std.proofs.Common.{◌≡◌, ℕ, min, List, length, Option, Some, None, Ok, Err, Result, is_ok, sym, refl, ap, subst, ◌∙◌, arith}
use Rattle.std.proofs.lemmas.Bool.{true≢false}
use Rattle.table.specs.declared.records.Table.{Table}
use Rattle.hourfile.specs.declared.faults.FileFault.{FileFault}
use Rattle.reader.proofs.Ended.{outcome_done, outcome_short}
use Rattle.reader.specs.Outcome.{outcome, end_of}
use Rattle.reader.specs.Progress.{Made}
use Rattle.reader.specs.Progress.Progress.{Settled as Done}
use Rattle.reader.specs.Read.{FileRead}
use Rattle.reader.specs.Reached.{BookHolds}
use Rattle.reader.specs.declared.reached.FileHour.{FileHour}
use Rattle.reader.specs.declared.reached.Reached.{Reached}
use Rattle.reader.specs.declared.reached.Reached.TheVariants.{Unopened, Open, Closed, Settled}
use Rattle.listing.specs.Files.{EndsAs, ReachedListed, HourListed}

-- where the end is no fault, the outcome has none
pub no_fault : (o : Option FileFault) (x : Unit) → end_of o ≡ Ok x → o ≡ None
no_fault None x is = refl
no_fault (Some fault) x is = absurd (true≢false (sym (ap is_ok is)))

pub a_fault : (o : Option FileFault) (fault : FileFault) → end_of o ≡ Err fault → o ≡ Some fault
a_fault None fault is = absurd (true≢false (ap is_ok is))
a_fault (Some f) fault is = ap fault_of is
  where
    fault_of : Result Unit FileFault → Option FileFault
    fault_of (Ok x) = Some f
    fault_of (Err e) = Some e

-- a settled hour is the one that is listed
settled_listed : (m : Made) (book : Table) (reached : Reached) (place : ℕ) (before after : List ℕ) (end : Result ℕ FileFault) → BookHolds book (Done m) reached → ReachedListed reached place before end after → EndsAs None reached place before end after
settled_listed m book (Unopened b) place before after end is listed = absurd is
settled_listed m book (Open hour) place before after end is listed = absurd is
settled_listed m book (Closed hour) place before after end is listed = absurd is
settled_listed m book (Settled hour) place before after end is listed = listed

module _ (book : Table) (file before : List ℕ) (read : FileHour) (so : FileRead book (outcome file) read) (end : Result ℕ FileFault) (after : List ℕ) where
  pub fault_listed : (fault : FileFault) → read.end ≡ Err fault → end ≡ Err fault → after ≡ before → HourListed book file before (record { reached = read.reached; end = end }) after
  fault_listed fault is same stays =
      let found = a_fault (outcome file).fault fault (sym so.end ∙ is) in
      record {
        holds = so.holds;
        end = subst (λ o. EndsAs o read.reached (length file) before end after) (sym found) (same, stays);
      }

  pub hour_listed : (x : Unit) (place : ℕ) → read.end ≡ Ok x → place ≡ min (length file) 65536 → ReachedListed read.reached place before end after → HourListed book file before (record { reached = read.reached; end = end }) after
  hour_listed x place is there listed =
      let none = no_fault (outcome file).fault x (sym so.end ∙ is) in
      let (m, done) = outcome_done file none in
      let here : place ≡ length file = omega (arith, there, outcome_short file none) in
      let settled = settled_listed m book read.reached place before after end (subst (λ p. BookHolds book p read.reached) done so.holds) listed in
      record {
        holds = so.holds;
        end = subst (λ o. EndsAs o read.reached (length file) before end after) (sym none) (subst (λ k. EndsAs None read.reached k before end after) here settled);
      }
