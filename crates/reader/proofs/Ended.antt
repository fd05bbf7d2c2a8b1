-- A file without a fault has led to a settled hour, and is not too long.
use Rattle.std.proofs.Common.{◌≡◌, ℕ, zero, suc, ◌≤◌, Bool, true, false, cond, List, length, Option, Some, None, Ok, Err, Result, is_some, refl, ap, arith}
use Rattle.std.proofs.lemmas.Bool.{true≢false, ltb-false, or_parts}
use Rattle.hourfile.specs.Reading.{Rest, At, found_next, after_next, start}
use Rattle.hourfile.specs.declared.faults.Cause.{Cause}
use Rattle.hourfile.specs.declared.faults.Cause.TheVariants.{Length}
use Rattle.hourfile.specs.declared.faults.FileFault.{FileFault}
use Rattle.reader.specs.Outcome.{Outcome, end_fault, go_on, found_there, read_on, read_from, outcome}
use Rattle.reader.specs.Progress.{Made, Progress, call}
use Rattle.reader.specs.Progress.Progress.{Unopened, Opened, Closed, Settled}

-- the hour of an outcome is settled
abbrev pub IsDone : Outcome → Type 0
IsDone o = (m : Made) × (o.progress ≡ Settled m)

end_done : (place : ℕ) (p : Progress) → end_fault place p ≡ None → (m : Made) × (p ≡ Settled m)
end_done place Unopened none = absurd (true≢false (ap is_some none))
end_done place (Opened m) none = absurd (true≢false (ap is_some none))
end_done place (Closed m) none = absurd (true≢false (ap is_some none))
end_done place (Settled m) none = (m, refl)

go_done : (more : Progress → Outcome) (p : Progress) (place : ℕ) → ((q : Progress) → (more q).fault ≡ None → IsDone (more q)) → (o : Result Progress Cause) → (go_on more p place o).fault ≡ None → IsDone (go_on more p place o)
go_done more p place each (Ok q) none = each q none
go_done more p place each (Err cause) none = absurd (true≢false (ap is_some none))

found_done : (more : Progress → Outcome) (place : ℕ) (p : Progress) → ((q : Progress) → (more q).fault ≡ None → IsDone (more q)) → (x : Result (Option At) FileFault) → (found_there more place p x).fault ≡ None → IsDone (found_there more place p x)
found_done more place p each (Ok None) none = end_done place p none
found_done more place p each (Ok (Some at)) none = go_done more p at.place each (call p at.found) none
found_done more place p each (Err fault) none = absurd (true≢false (ap is_some none))

read_done : (n : ℕ) (r : Rest) (p : Progress) → (read_on n r p).fault ≡ None → IsDone (read_on n r p)
unfolding read_on
read_done zero r p none = end_done r.place p none
read_done (suc n) r p none = found_done (read_on n (after_next r)) r.place p (λ q. read_done n (after_next r) q) (found_next r) none

from_done : (x : Result Rest FileFault) → (read_from x).fault ≡ None → IsDone (read_from x)
from_done (Ok r) none = read_done (length r.words) r Unopened none
from_done (Err fault) none = absurd (true≢false (ap is_some none))

pub outcome_done : (file : List ℕ) → (outcome file).fault ≡ None → IsDone (outcome file)
outcome_done file none = from_done (start file) none

-- a file of another length has a fault
short_by : (b : Bool) (place : ℕ) (r : Rest) → (read_from (cond b (Err (record { cause = Length; place = place })) (Ok r))).fault ≡ None → b ≡ false
short_by true place r none = absurd (true≢false (ap is_some none))
short_by false place r none = refl

pub outcome_short : (file : List ℕ) → (outcome file).fault ≡ None → length file ≤ 65536
outcome_short file none = omega (arith, ltb-false 65536 (length file) (or_parts _ _ (short_by _ 0 _ none)).0)
