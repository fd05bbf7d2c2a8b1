-- What is printed is the listing or the line of the fault.
use Rattle.std.proofs.Common.{◌≡◌, ℕ, List, None, Ok, Err, Result, IfOk, sym, subst, ◌∙◌}
use Rattle.table.specs.declared.records.Table.{Table}
use Rattle.hourfile.specs.declared.faults.FileFault.{FileFault}
use Rattle.reader.proofs.Ended.{outcome_done}
use Rattle.reader.specs.Outcome.{outcome}
use Rattle.reader.specs.Progress.{Made}
use Rattle.reader.specs.Progress.Progress.{Settled as Done}
use Rattle.reader.specs.Read.{FileRead}
use Rattle.reader.specs.Reached.{BookHolds}
use Rattle.reader.specs.declared.reached.FileHour.{FileHour}
use Rattle.reader.specs.declared.reached.Reached.{Reached}
use Rattle.reader.specs.declared.reached.Reached.TheVariants.{Unopened, Open, Closed, Settled}
use Rattle.listing.proofs.Filed.{no_fault, a_fault}
use Rattle.listing.specs.Printed.{fault_line, HourShown, ShownFor, IsPrinted}

-- what holds of a value where there is one
pub on_ok : {T E : Type 0} (P Q : T → Type 0) → ((x : T) → P x → Q x) → (r : Result T E) → IfOk r P → IfOk r Q
on_ok P Q each (Ok x) holds = each x holds
on_ok P Q each (Err e) holds = holds

-- a settled hour is shown by its listing
settled_shown : (m : Made) (book : Table) (reached : Reached) (place : ℕ) (text : List ℕ) → BookHolds book (Done m) reached → HourShown reached place text → ShownFor None (Done m) text
settled_shown m book (Unopened b) place text is shown = absurd is
settled_shown m book (Open hour) place text is shown = absurd is
settled_shown m book (Closed hour) place text is shown = absurd is
settled_shown m book (Settled hour) place text is shown = (hour.book.now.table, is.0, shown)

module _ (book : Table) (file : List ℕ) (read : FileHour) (so : FileRead book (outcome file) read) (text : List ℕ) where
  pub shows_hour : (x : Unit) (place : ℕ) → read.end ≡ Ok x → HourShown read.reached place text → IsPrinted file text
  shows_hour x place is shown =
      let none = no_fault (outcome file).fault x (sym so.end ∙ is) in
      let (m, done) = outcome_done file none in
      let holds = subst (λ p. BookHolds book p read.reached) done so.holds in
      subst (λ o. ShownFor o (outcome file).progress text) (sym none) (subst (λ p. ShownFor None p text) (sym done) (settled_shown m book read.reached place text holds shown))

  pub shows_fault : (fault : FileFault) → read.end ≡ Err fault → text ≡ fault_line fault → IsPrinted file text
  shows_fault fault is same =
      subst (λ o. ShownFor o (outcome file).progress text) (sym (a_fault (outcome file).fault fault (sym so.end ∙ is))) same
