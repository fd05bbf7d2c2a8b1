-- One record is one call: where it leads, by the hour that stands there.
use Rattle.std.proofs.Common.{◌≡◌, ℕ, List, ◌∷◌, [], ◌++◌, Option, Some, None, Ok, Err, Result, sym, refl, ap, subst, ◌∙◌, arith}
use denote.Ref.{Bor}
use Rattle.book.proofs.Hours.{closes, settling_settles}
use Rattle.book.proofs.Only.{only_figures}
use Rattle.book.proofs.Settles.{settled_law}
use Rattle.book.specs.Hours.{IsOpen, IsClosed}
use Rattle.book.specs.Taken.{priced_answer_in, next_priced}
use Rattle.book.specs.declared.closed.ClosedHour.{ClosedHour}
use Rattle.book.specs.declared.open.OpenHour.{OpenHour}
use Rattle.book.specs.declared.settled.SettledHour.{SettledHour}
use Rattle.curves.specs.Kinds.{stepped_offer_price, stepped_cost_price, tariff_price}
use Rattle.curves.specs.declared.refusals.CurveRefusal.{CurveRefusal}
use Rattle.settling.specs.Settled.{Settled as HourSettled}
use Rattle.table.proofs.Kept.{reading_law}
use Rattle.table.proofs.Laws.{closing_law}
use Rattle.table.specs.ClosingLaw.{ClosingLaw}
use Rattle.table.specs.Effects.{unless}
use Rattle.table.specs.Entries.{rows}
use Rattle.table.specs.History.{view_in, adds_unit, number_in}
use Rattle.table.specs.Readings.{reading_rows, reading_number}
use Rattle.table.specs.declared.entries.Entry.{Entry}
use Rattle.table.specs.declared.readings.Reading.{Reading}
use Rattle.table.specs.declared.records.Table.{Table}
use Rattle.table.specs.declared.refusals.BookRefusal.{BookRefusal}
use Rattle.table.specs.declared.refusals.UnitRefusal.{UnitRefusal}
use Rattle.table.specs.declared.refusals.UnitRefusal.TheVariants.{Book as ByBook, Rows as ByRows}
use Rattle.hourfile.specs.Calls.{entry_of, reading_of}
use Rattle.hourfile.specs.Words.{value_at}
use Rattle.hourfile.specs.Faults.{unit_cause}
use Rattle.hourfile.specs.Format.{plain}
use Rattle.hourfile.specs.declared.faults.Cause.TheVariants.{Steps as ByLists}
use Rattle.hourfile.specs.declared.faults.FileFault.{FileFault}
use Rattle.hourfile.specs.declared.records.Record.{Record}
use Rattle.hourfile.specs.declared.records.Record.TheVariants.{Header as HeaderOf, Plant, CompetitiveUnit, GuaranteedUnit, Buyer, Commit, Correct, PutAside, TakeBack, Close, CompetitiveReading, GuaranteedReading, BuyerReading, Settle}
use Rattle.reader.proofs.Advance.{entry_made, priced_made, reading_made}
use Rattle.reader.specs.Calls.{book_end, unit_end, RowsAfter, EntryMade, UnitMade, ReadingMade}
use Rattle.reader.specs.Holds.{entries_made, readings_made, tariffs, closing_offers, ClosedBy, pay_of, ClosedHolds, SettledHolds}
use Rattle.reader.specs.Progress.{Made, Progress, entered, unit_entered, unit_entry, unit_row, with_row, taken, unit_call, entry_call, reading_call, open_call, closed_call, read}
use Rattle.reader.specs.Progress.Progress.{Unopened, Opened, Closed, Settled}
use Rattle.reader.specs.Reached.{KeptRows, Reaches, Taken}
use Rattle.reader.specs.Rows.{UnitRow, rows_of, offers_of}
use Rattle.reader.specs.declared.kept.UnitRows.{UnitRows}
use Rattle.reader.specs.declared.reached.Reached.TheVariants.{Open as OpenAt, Closed as ClosedAt, Settled as SettledAt}

-- closing an hour by the rows that are kept
pub closed_reached : (t : Table) (m : Made) (hour : OpenHour) (next : ClosedHour) (kept : UnitRows) → Reaches t (Opened m) (OpenAt hour) kept → ClosedBy hour.header (rows_of kept) hour.book.now.table next.book.now.table → next.header ≡ hour.header → Reaches t (Closed m) (ClosedAt next) kept
closed_reached t m hour next kept (((table, unread), stands), rows) closing same =
    let both : ClosedBy m.header m.rows hour.book.now.table next.book.now.table = rw (sym rows.rows) (rw (sym stands.header) closing) in
    let holds : ClosedHolds m next.book.now.table = record {
      closed = next.book.now.table;
      closing = subst (λ x. ClosedBy m.header m.rows x next.book.now.table) table both;
      table = ap (readings_made next.book.now.table) (sym unread);
      law = closing_law _ _ _ _ m.entries hour.book.now.table next.book.now.table stands.table.proper stands.table.stands both;
    } in
    let closed = closes _ _ _ _ hour next both same m.header m.entries stands in
    ((holds, subst (λ rs. IsClosed m.header (closing_offers m) m.entries rs next) (sym unread) closed), rows)

-- settling a closed hour by the rows that are kept
pub settled_reached : (t : Table) (m : Made) (hour : ClosedHour) (next : SettledHour) (kept : UnitRows) → Reaches t (Closed m) (ClosedAt hour) kept → HourSettled hour.header (pay_of hour.header (rows_of kept)) hour.book.now.table next.book.now.table → Reaches t (Settled m) (SettledAt next) kept
settled_reached t m hour next kept ((holds, stands), rows) settling =
    let both : HourSettled m.header (pay_of m.header m.rows) hour.book.now.table next.book.now.table = rw (sym rows.rows) (rw (sym stands.header) settling) in
    let c = stands.table in
    let law = settled_law _ _ _ _ m.header (pay_of m.header m.rows) m.entries c.proper m.readings hour.book.now.table next.book.now.table c.stands c.metered holds.law both in
    let settled : SettledHolds m next.book.now.table = record {
      closed = hour.book.now.table;
      before = holds;
      stands = c;
      settling = both;
      law = law;
      only = only_figures _ _ _ _ m.header (pay_of m.header m.rows) m.entries m.readings next.book.now.table c.proper law;
    } in
    let table = settling_settles stepped_offer_price stepped_cost_price m.rows tariff_price (tariffs m.header) m.header (closing_offers m) m.entries m.readings hour.book.now.table next.book.now.table both c in
    ((settled, record { table = table }), Prim.tt)

-- how many competitive units a record's entry adds, if it is an entry
abbrev pub added_by : Option Entry → ℕ
added_by None = 0
added_by (Some e) = adds_unit 1 e

-- no other record than kind 3 adds a competitive unit
pub adds_none : (r : Record) → added_by (entry_of (plain r)) ≡ 0
adds_none (HeaderOf v) = refl
adds_none (Plant v) = refl
adds_none (CompetitiveUnit v) = refl
adds_none (GuaranteedUnit v) = refl
adds_none (Buyer v) = refl
adds_none (Commit v) = refl
adds_none (Correct v) = refl
adds_none (PutAside v) = refl
adds_none (TakeBack v) = refl
adds_none (Close v) = refl
adds_none (CompetitiveReading v) = refl
adds_none (GuaranteedReading v) = refl
adds_none (BuyerReading v) = refl
adds_none (Settle v) = refl

-- another record than close and a competitive unit is an entry or misplaced
pub other_call : (m : Made) (r : Record) → ((v : Bor (List (List ℕ))) → r ≡ Close v → ⊥) → ((v : Bor (List (List ℕ))) → r ≡ CompetitiveUnit v → ⊥) → open_call m (plain r) ≡ entry_call m (entry_of (plain r))
other_call m (HeaderOf v) close unit = refl
other_call m (Plant v) close unit = refl
other_call m (CompetitiveUnit v) close unit = absurd (unit v refl)
other_call m (GuaranteedUnit v) close unit = refl
other_call m (Buyer v) close unit = refl
other_call m (Commit v) close unit = refl
other_call m (Correct v) close unit = refl
other_call m (PutAside v) close unit = refl
other_call m (TakeBack v) close unit = refl
other_call m (Close v) close unit = absurd (close v refl)
other_call m (CompetitiveReading v) close unit = refl
other_call m (GuaranteedReading v) close unit = refl
other_call m (BuyerReading v) close unit = refl
other_call m (Settle v) close unit = refl

pub other_read : (m : Made) (r : Record) → ((v : Bor (List (List ℕ))) → r ≡ Settle v → ⊥) → closed_call m (plain r) ≡ reading_call m (reading_of (plain r))
other_read m (HeaderOf v) settle = refl
other_read m (Plant v) settle = refl
other_read m (CompetitiveUnit v) settle = refl
other_read m (GuaranteedUnit v) settle = refl
other_read m (Buyer v) settle = refl
other_read m (Commit v) settle = refl
other_read m (Correct v) settle = refl
other_read m (PutAside v) settle = refl
other_read m (TakeBack v) settle = refl
other_read m (Close v) settle = refl
other_read m (CompetitiveReading v) settle = refl
other_read m (GuaranteedReading v) settle = refl
other_read m (BuyerReading v) settle = refl
other_read m (Settle v) settle = absurd (settle v refl)

-- the call of an entry, or of a record that is none
module _ (t : Table) (m : Made) (hour next : OpenHour) (kept : UnitRows) (r : Reaches t (Opened m) (OpenAt hour) kept) (end : Result Unit FileFault) where
  entry_by : (e : Entry) (o : Option BookRefusal) → adds_unit 1 e ≡ 0 → end ≡ book_end (unless o Err (Ok (number_in e m.entries))) → next.book.now.table ≡ entries_made (unless o (λ _. m.entries) (e ∷ m.entries)) → IsOpen m.header (unless o (λ _. m.entries) (e ∷ m.entries)) next → Taken t (Opened m) (taken o (Ok (Opened (entered m e)))) end (OpenAt next) kept
  entry_by e None none told table stands =
      (told, (((table, r.0.0.1), stands), record { rows = r.1.rows; count = r.1.count ∙ omega (arith, none) }))
  entry_by e (Some refusal) none told table stands = (told, (((table, r.0.0.1), stands), r.1))

  pub entry_taken : (o : Option Entry) → added_by o ≡ 0 → EntryMade o end hour next → Taken t (Opened m) (entry_call m o) end (OpenAt next) kept
  entry_taken None none (told, same) = (told, subst (λ x. Reaches t (Opened m) (OpenAt x) kept) (sym same) r)
  entry_taken (Some e) none (answer, told, made) =
      let (holds, stands) = r.0 in
      entry_by e (rows (view_in m.entries) e) none (told ∙ ap book_end (made.follows m.header m.entries stands))
      (made.after ∙ entry_made e m.entries hour.book.now.table stands.table.stands holds.0)
      (made.stands m.header m.entries stands)

-- the call of a competitive unit with its rows: the book's rows of refusals, then the lists'
module _ (t : Table) (m : Made) (v : List ℕ) (hour next : OpenHour) (kept new : UnitRows) (r : Reaches t (Opened m) (OpenAt hour) kept) (end : Result Unit FileFault) where
  -- what is told by an answer, and the entries accepted with it
  record UnitStep (answer : Result (ℕ × UnitRow) UnitRefusal) (h : List Entry) : Type 0 where
    told : end ≡ unit_end answer
    table : next.book.now.table ≡ entries_made h
    stands : IsOpen m.header h next
    rows : RowsAfter answer kept new

  turned_down : (refusal : UnitRefusal) → UnitStep (Err refusal) m.entries → Taken t (Opened m) (Err (unit_cause refusal)) end (OpenAt next) new
  turned_down refusal s = (s.told, (((s.table, r.0.0.1), s.stands), subst (KeptRows m.rows m.entries) (sym s.rows) r.1))

  row_by : (row : UnitRow) (o : Option BookRefusal) → UnitStep (unless o (λ x. Err (ByBook x)) (Ok (number_in (unit_entry v) m.entries, row))) (unless o (λ _. m.entries) (unit_entry v ∷ m.entries)) → Taken t (Opened m) (taken o (Ok (Opened (unit_entered m (unit_entry v) row)))) end (OpenAt next) new
  row_by row None s =
      let both = s.rows (omega (arith, s.stands.table.stands.competitive.room, r.1.count)) in
      let more : KeptRows (m.rows ++ (row ∷ [])) (unit_entry v ∷ m.entries) new = record { rows = both.0 ∙ ap (λ l. l ++ (row ∷ [])) r.1.rows; count = both.1 ∙ omega (arith, r.1.count) } in
      (s.told, (((s.table, r.0.0.1), s.stands), more))
  row_by row (Some refusal) s = turned_down (ByBook refusal) s

  lists_by : (refusal : CurveRefusal) (o : Option BookRefusal) → UnitStep (unless o (λ x. Err (ByBook x)) (Err (ByRows refusal))) m.entries → Taken t (Opened m) (taken o (Err (ByLists refusal))) end (OpenAt next) new
  lists_by refusal None s = turned_down (ByRows refusal) s
  lists_by refusal (Some first) s = turned_down (ByBook first) s

  unit_by : (x : Result UnitRow CurveRefusal) → UnitStep (priced_answer_in (value_at v 0) (value_at v 1) (value_at v 2) x m.entries) (next_priced (value_at v 0) (value_at v 1) (value_at v 2) x m.entries) → Taken t (Opened m) (taken (rows (view_in m.entries) (unit_entry v)) (with_row m (unit_entry v) x)) end (OpenAt next) new
  unit_by (Ok row) s = row_by row (rows (view_in m.entries) (unit_entry v)) s
  unit_by (Err refusal) s = lists_by refusal (rows (view_in m.entries) (unit_entry v)) s

  pub unit_taken : UnitMade v end hour next kept new → Taken t (Opened m) (unit_call m v) end (OpenAt next) new
  unit_taken made =
      let (holds, stands) = r.0 in
      let follows = made.taken.follows m.header m.entries stands in
      unit_by (unit_row v) (record {
        told = made.told ∙ ap unit_end follows;
        table = made.taken.after ∙ priced_made (value_at v 0) (value_at v 1) (value_at v 2) (unit_row v) m.entries hour.book.now.table stands.table.stands holds.0;
        stands = made.taken.stands m.header m.entries stands;
        rows = subst (λ a. RowsAfter a kept new) follows made.rows;
      })

-- the call of a reading, or of a record that is none
module _ (t : Table) (m : Made) (hour next : ClosedHour) (kept : UnitRows) (r : Reaches t (Closed m) (ClosedAt hour) kept) (end : Result Unit FileFault) where
  reading_by : (x : Reading) (o : Option BookRefusal) → end ≡ book_end (unless o Err (Ok (reading_number x))) → next.book.now.table ≡ readings_made r.0.0.closed (unless o (λ _. m.readings) (x ∷ m.readings)) → ClosingLaw stepped_offer_price (offers_of m.rows) tariff_price (tariffs m.header) m.entries next.book.now.table → IsClosed m.header (closing_offers m) m.entries (unless o (λ _. m.readings) (x ∷ m.readings)) next → Taken t (Closed m) (taken o (Ok (Closed (read m x)))) end (ClosedAt next) kept
  reading_by x None told table law stands =
      (told, ((record { closed = r.0.0.closed; closing = r.0.0.closing; table = table; law = law }, stands), r.1))
  reading_by x (Some refusal) told table law stands =
      (told, ((record { closed = r.0.0.closed; closing = r.0.0.closing; table = table; law = law }, stands), r.1))

  pub reading_taken : (o : Option Reading) → ReadingMade o end hour next → Taken t (Closed m) (reading_call m o) end (ClosedAt next) kept
  reading_taken None (told, same) = (told, subst (λ x. Reaches t (Closed m) (ClosedAt x) kept) (sym same) r)
  reading_taken (Some x) (answer, told, made) =
      let (holds, stands) = r.0 in
      reading_by x (reading_rows (view_in m.entries) x) (told ∙ ap book_end (made.follows m.header (closing_offers m) m.entries m.readings stands))
      (made.after ∙ reading_made x m.entries m.readings holds.closed hour.book.now.table stands.table.stands holds.table)
      (rw made.after (reading_law _ _ _ _ m.entries hour.book.now.table x holds.law))
      (made.stands m.header (closing_offers m) m.entries m.readings stands)

-- the records that an open hour has led to
pub open_is : (t : Table) (p : Progress) (hour : OpenHour) (kept : UnitRows) → Reaches t p (OpenAt hour) kept → (m : Made) × (p ≡ Opened m) × Reaches t (Opened m) (OpenAt hour) kept
open_is t Unopened hour kept r = absurd r.0
open_is t (Opened m) hour kept r = (m, refl, r)
open_is t (Closed m) hour kept r = absurd r.0
open_is t (Settled m) hour kept r = absurd r.0
