-- Reading a file record by record: what is left gives the whole's outcome.
use Rattle.std.proofs.Common.{◌≡◌, ℕ, zero, suc, ◌<◌, ◌≤◌, List, [], ◌∷◌, length, Option, Some, None, Ok, Err, Result, is_ok, is_some, sym, refl, ap, subst, ◌∙◌, arith, length-append}
use Rattle.std.proofs.lemmas.Bool.{true≢false}
use Rattle.table.specs.declared.records.Table.{Table}
use Rattle.hourfile.proofs.Advancing.{next_spelt}
use Rattle.hourfile.specs.Format.{First, first}
use Rattle.hourfile.specs.Reading.{Rest, At, found_at, found_next, rest_after, after_next}
use Rattle.hourfile.specs.declared.faults.Cause.{Cause}
use Rattle.hourfile.specs.declared.faults.FileFault.{FileFault}
use Rattle.reader.specs.Outcome.{Outcome, end_fault, stopped, go_on, found_there, read_on, end_of}
use Rattle.reader.specs.Progress.{Progress, call}
use Rattle.reader.specs.Read.{FileRead}
use Rattle.reader.specs.Reached.{Reaches, BookHolds, Taken, Takes}
use Rattle.reader.specs.declared.kept.UnitRows.{UnitRows}
use Rattle.reader.specs.declared.reached.Reached.{Reached}

-- where no word is left, no record is found
none_left : (place : ℕ) (ws : List ℕ) → length ws ≤ 0 → found_at place (first ws) ≡ Ok None
none_left place [] few = refl
none_left place (w ∷ ws) few = absurd (omega (arith, few))

-- a record that was found
abbrev found_one : Result (Option At) FileFault → Option At
found_one (Ok o) = o
found_one (Err fault) = None

ends : (n : ℕ) (r : Rest) (p : Progress) → found_next r ≡ Ok None → read_on n r p ≡ record { progress = p; fault = end_fault r.place p }
unfolding read_on
ends zero r p none = refl
ends (suc n) r p none = ap (found_there (read_on n (after_next r)) r.place p) none

fails : (n : ℕ) (r : Rest) (p : Progress) (fault : FileFault) → length r.words ≤ n → found_next r ≡ Err fault → read_on n r p ≡ stopped p fault
unfolding read_on
fails zero r p fault few bad = absurd (true≢false (ap is_ok (sym (none_left r.place r.words few) ∙ bad)))
fails (suc n) r p fault few bad = ap (found_there (read_on n (after_next r)) r.place p) bad

pub shorter : (r : Rest) (at : At) → found_next r ≡ Ok (Some at) → length (after_next r).words < length r.words
shorter r at one =
    let spelt = ap length (next_spelt r at one).words in
    omega (arith, spelt, length-append at.found.values (after_next r).words)

goes : (n : ℕ) (r : Rest) (p : Progress) (at : At) → length r.words ≤ n → found_next r ≡ Ok (Some at) → (k : ℕ) × (length (after_next r).words ≤ k) × (read_on n r p ≡ go_on (read_on k (after_next r)) p at.place (call p at.found))
unfolding read_on
goes zero r p at few one = absurd (omega (arith, shorter r at one, few))
goes (suc n) r p at few one =
    (n, omega (arith, shorter r at one, few), ap (found_there (read_on n (after_next r)) r.place p) one)

-- at the end nothing is read
stays_by : (r : Rest) (o : Result (Option First) Cause) → found_at r.place o ≡ Ok None → rest_after r o ≡ r
stays_by r (Ok None) none = refl
stays_by r (Ok (Some f)) none = absurd (true≢false (ap (λ x. is_some (found_one x)) none))
stays_by r (Err cause) none = absurd (true≢false (ap is_ok (sym none)))

pub stays_there : (r : Rest) → found_next r ≡ Ok None → after_next r ≡ r
stays_there r none = stays_by r (first r.words) none

-- what is left gives the whole's outcome, and the hour stands where the records read so far have led
abbrev pub Left : Table → Outcome → Rest → Reached → UnitRows → Type 0
Left t whole r reached rows =
    (n : ℕ) × (p : Progress) × (length r.words ≤ n) × (read_on n r p ≡ whole) × Reaches t p reached rows

module _ (t : Table) (whole : Outcome) (r : Rest) (reached : Reached) (rows : UnitRows) (left : Left t whole r reached rows) where
  read_so : (o : Outcome) (end : Result Unit FileFault) (next : Reached) → whole ≡ o → end ≡ end_of o.fault → BookHolds t o.progress next → FileRead t whole (record { reached = next; end = end })
  read_so o end next is same holds = record {
    end = same ∙ ap (λ x. end_of x.fault) (sym is);
    holds = subst (λ x. BookHolds t x.progress next) (sym is) holds;
  }

  pub stops_malformed : (fault : FileFault) → found_next r ≡ Err fault → FileRead t whole (record { reached = reached; end = Err fault })
  stops_malformed fault bad =
      let (n, p, few, is, there) = left in
      read_so (stopped p fault) (Err fault) reached (sym is ∙ fails n r p fault few bad) refl there.0

  pub stops_at_end : (end : Result Unit FileFault) (place : ℕ) → found_next r ≡ Ok None → place ≡ r.place → ((t : Table) (p : Progress) → BookHolds t p reached → end ≡ end_of (end_fault place p)) → FileRead t whole (record { reached = reached; end = end })
  stops_at_end end place none there says =
      let (n, p, few, is, stands) = left in
      read_so (record { progress = p; fault = end_fault r.place p }) end reached (sym is ∙ ends n r p none)
      (says t p stands.0 ∙ ap (λ k. end_of (end_fault k p)) there) stands.0

  module _ (at : At) (one : found_next r ≡ Ok (Some at)) (result : Result Unit FileFault) (next : Reached) (new : UnitRows) (taken : (p : Progress) → Takes p at.found reached rows result next new) where
    goes_on_by : (p : Progress) (k : ℕ) (o : Result Progress Cause) (x : Unit) → length (after_next r).words ≤ k → whole ≡ go_on (read_on k (after_next r)) p at.place o → Taken t p o result next new → result ≡ Ok x → Left t whole (after_next r) next new
    goes_on_by p k (Ok q) x few is step fine = (k, q, few, sym is, step.1)
    goes_on_by p k (Err cause) x few is step fine = absurd (true≢false (ap is_ok (sym fine ∙ step.0)))

    pub goes_on : (x : Unit) → result ≡ Ok x → Left t whole (after_next r) next new
    goes_on x fine =
        let (n, p, few, is, stands) = left in
        let (k, shorter, more) = goes n r p at few one in
        goes_on_by p k (call p at.found) x shorter (sym is ∙ more) (taken p t stands) fine

    stops_by : (p : Progress) (k : ℕ) (o : Result Progress Cause) (fault : FileFault) → whole ≡ go_on (read_on k (after_next r)) p at.place o → Taken t p o result next new → result ≡ Err fault → FileRead t whole (record { reached = next; end = Err (record { cause = fault.cause; place = at.place }) })
    stops_by p k (Ok q) fault is step bad = absurd (true≢false (ap is_ok (sym step.0 ∙ bad)))
    stops_by p k (Err cause) fault is step bad =
        let same = ap error_of (sym bad ∙ step.0) in
        read_so (stopped p (record { cause = cause; place = at.place })) (Err (record { cause = fault.cause; place = at.place })) next is
        (ap (λ f. let x : Result Unit FileFault = Err (record { cause = f.cause; place = at.place }) in x) same) step.1.0
      where
        error_of : Result Unit FileFault → FileFault
        error_of (Ok x) = fault
        error_of (Err f) = f

    pub stops_refused : (fault : FileFault) → result ≡ Err fault → FileRead t whole (record { reached = next; end = Err (record { cause = fault.cause; place = at.place }) })
    stops_refused fault bad =
        let (n, p, few, is, stands) = left in
        let (k, shorter, more) = goes n r p at few one in
        stops_by p k (call p at.found) fault (sym is ∙ more) (taken p t stands) bad

-- the same hour and the same end
pub read_is : (t : Table) (o : Outcome) (reached reached' : Reached) (end end' : Result Unit FileFault) → reached ≡ reached' → end ≡ end' → FileRead t o (record { reached = reached'; end = end' }) → FileRead t o (record { reached = reached; end = end })
read_is t o reached reached' end end' there same read = record {
  end = same ∙ read.end;
  holds = subst (BookHolds t o.progress) (sym there) read.holds;
}
