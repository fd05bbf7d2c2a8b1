-- No fault of reading a file is that of a short buffer.
use Rattle.std.proofs.Common.{◌≡◌, ◌≢◌, ℕ, zero, suc, cond, Bool, true, false, List, [], ◌∷◌, length, Option, Some, None, Ok, Err, Result, subst, ◌==◌}
use Rattle.table.specs.Entries.{rows}
use Rattle.table.specs.History.{view_in}
use Rattle.table.specs.Readings.{reading_rows}
use Rattle.table.specs.declared.refusals.BookRefusal.{BookRefusal}
use Rattle.table.specs.declared.entries.Entry.{Entry}
use Rattle.table.specs.declared.readings.Reading.{Reading}
use Rattle.settling.specs.declared.header.Header.{Header}
use Rattle.settling.specs.Headers.{checked}
use Rattle.curves.specs.declared.refusals.CurveRefusal.{CurveRefusal}
use Rattle.hourfile.specs.Calls.{entry_of, reading_of}
use Rattle.hourfile.specs.Format.{Plain, First, or_malformed, headed_record, first}
use Rattle.hourfile.specs.Reading.{Rest, found_at, after_next}
use Rattle.hourfile.specs.declared.faults.Cause.{Cause}
use Rattle.hourfile.specs.declared.faults.Cause.TheVariants.{ShortBuffer, Length, Misplaced}
use Rattle.hourfile.specs.declared.faults.FileFault.{FileFault}
use Rattle.reader.specs.Outcome.{Outcome, end_fault, go_on, found_there, read_on, read_from, outcome}
use Rattle.reader.specs.Progress.{Made, Progress, call, taken, opened, entered, entry_call, with_row, unit_call, unit_entry, unit_row, read, reading_call, header_of}
use Rattle.reader.specs.Progress.Progress.{Unopened, Opened, Closed, Settled}
use Rattle.reader.specs.Rows.{UnitRow}

-- another cause than the buffer
abbrev Other : Cause → Type 0
Other ShortBuffer = ⊥
Other cause = Unit {0}

other : (cause : Cause) → Other cause → cause ≢ ShortBuffer
other cause is same = subst Other same is

-- a fault, if there is one, has another cause
abbrev OtherFault : Option FileFault → Type 0
OtherFault None = Unit {0}
OtherFault (Some fault) = Other fault.cause

-- what is turned down is for another cause
abbrev OtherOr : {T : Type 0} → Result T Cause → Type 0
OtherOr (Ok x) = Unit {0}
OtherOr (Err cause) = Other cause

by_case : {T : Type 0} (b : Bool) (x y : Result T Cause) → OtherOr x → OtherOr y → OtherOr (cond b x y)
by_case true x y l r = l
by_case false x y l r = r

by_rows : (o : Option BookRefusal) (next : Result Progress Cause) → OtherOr next → OtherOr (taken o next)
by_rows None next is = is
by_rows (Some refusal) next is = Prim.tt

by_header : (r : Result Header BookRefusal) → OtherOr (opened r)
by_header (Ok header) = Prim.tt
by_header (Err refusal) = Prim.tt

by_lists : (m : Made) (e : Entry) (r : Result UnitRow CurveRefusal) → OtherOr (with_row m e r)
by_lists m e (Ok row) = Prim.tt
by_lists m e (Err refusal) = Prim.tt

by_unit : (m : Made) (v : List ℕ) → OtherOr (unit_call m v)
by_unit m v = by_rows (rows (view_in m.entries) (unit_entry v)) (with_row m (unit_entry v) (unit_row v)) (by_lists m (unit_entry v) (unit_row v))

by_entry : (m : Made) (e : Option Entry) → OtherOr (entry_call m e)
by_entry m None = Prim.tt
by_entry m (Some e) = by_rows (rows (view_in m.entries) e) (Ok (Opened (entered m e))) (Prim.tt {0})

by_reading : (m : Made) (r : Option Reading) → OtherOr (reading_call m r)
by_reading m None = Prim.tt
by_reading m (Some rd) = by_rows (reading_rows (view_in m.entries) rd) (Ok (Closed (read m rd))) (Prim.tt {0})

by_call : (p : Progress) (r : Plain) → OtherOr (call p r)
by_call Unopened r = by_case (r.kind == 1) _ (Err Misplaced) (by_header (checked (header_of r.values))) (Prim.tt {0})
by_call (Opened m) r =
    by_case (r.kind == 10) (Ok (Closed m)) _ (Prim.tt {0})
    (by_case (r.kind == 3) (unit_call m r.values) (entry_call m (entry_of r)) (by_unit m r.values) (by_entry m (entry_of r)))
by_call (Closed m) r = by_case (r.kind == 14) (Ok (Settled m)) (reading_call m (reading_of r)) (Prim.tt {0}) (by_reading m (reading_of r))
by_call (Settled m) r = Prim.tt

by_end : (place : ℕ) (p : Progress) → OtherFault (end_fault place p)
by_end place Unopened = Prim.tt
by_end place (Opened m) = Prim.tt
by_end place (Closed m) = Prim.tt
by_end place (Settled m) = Prim.tt

going : (more : Progress → Outcome) (p : Progress) (place : ℕ) → ((q : Progress) → OtherFault (more q).fault) → (o : Result Progress Cause) → OtherOr o → OtherFault (go_on more p place o).fault
going more p place each (Ok q) is = each q
going more p place each (Err cause) is = is

by_first : (o : Option First) → OtherOr (or_malformed o)
by_first None = Prim.tt
by_first (Some f) = Prim.tt

by_words : (ws : List ℕ) → OtherOr (first ws)
by_words [] = Prim.tt
by_words (head ∷ rest) = by_first (headed_record head rest)

finding : (more : Progress → Outcome) (place : ℕ) (p : Progress) → ((q : Progress) → OtherFault (more q).fault) → (x : Result (Option First) Cause) → OtherOr x → OtherFault (found_there more place p (found_at place x)).fault
finding more place p each (Ok None) is = by_end place p
finding more place p each (Ok (Some f)) is = going more p place each (call p f.found) (by_call p f.found)
finding more place p each (Err cause) is = is

reading : (n : ℕ) (r : Rest) (p : Progress) → OtherFault (read_on n r p).fault
unfolding read_on
reading zero r p = by_end r.place p
reading (suc n) r p = finding (read_on n (after_next r)) r.place p (λ q. reading n (after_next r) q) (first r.words) (by_words r.words)

starting : (b : Bool) (r : Rest) → OtherFault (read_from (cond b (Err (record { cause = Length; place = 0 })) (Ok r))).fault
starting true r = Prim.tt
starting false r = reading (length r.words) r Unopened

not_short : (o : Option FileFault) (fault : FileFault) → OtherFault o → o ≡ Some fault → fault.cause ≢ ShortBuffer
not_short o fault is same = other fault.cause (subst OtherFault same is)

pub never_short : (file : List ℕ) (fault : FileFault) → (outcome file).fault ≡ Some fault → fault.cause ≢ ShortBuffer
never_short file fault is = not_short (outcome file).fault fault (starting _ _) is
