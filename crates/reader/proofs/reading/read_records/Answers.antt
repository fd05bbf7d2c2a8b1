use Rattle.std.proofs.Common.{◌≡◌, length, Some, None, Ok, Err, sym, ap, subst, ◌∙◌, arith}
use Rattle.hourfile.proofs.Values.{words_long}
use Rattle.hourfile.specs.Format.{plain}
use Rattle.hourfile.specs.Reading.{Rest, At, rest_of, found_next, view_next}
use Rattle.reader.proofs.Rounds.{Left, shorter, goes_on, stops_malformed, stops_at_end, stops_refused, read_is, stays_there}
use Rattle.reader.specs.Outcome.{Outcome, read_on}
use Rattle.reader.specs.Progress.Progress.{Unopened}
use Rattle.reader.proofs.reading.read_records.Goals as goal
use Rattle.reader.proofs.reading.read_records.Goals.{in-Err, in-Ok-None, in-Ok-Some+in-Err-outcome}

pub loop-fault-smaller : goal.loop-fault-smaller
loop-fault-smaller c =
    let r = rest_of c.loop-fault.reader in
    let at : At = record { found = plain c.in-Ok-Some.placed.record; place = c.in-Ok-Some.placed.place } in
    let one : found_next r ≡ Ok (Some at) = sym c.next.ensures.found ∙ ap view_next (c.in-Ok-Some.is ∙ ap Ok c.in-Ok-Some.field-0-is) in
    let after = ap (λ (x : Rest). length x.words) c.next.ensures.after in
    omega (arith, shorter r at one, after, words_long c.loop-fault.reader.words.now, words_long c.next.new.self.words.now)

pub loop-fault-preserved : goal.loop-fault-preserved
loop-fault-preserved c =
    let r = rest_of c.loop-fault.reader in
    let whole = rest_of c.args.reader.now in
    let t = c.args.book.now.table in
    let o : Outcome = read_on (length whole.words) whole Unopened in
    let at : At = record { found = plain c.in-Ok-Some.placed.record; place = c.in-Ok-Some.placed.place } in
    let one : found_next r ≡ Ok (Some at) = sym c.next.ensures.found ∙ ap view_next (c.in-Ok-Some.is ∙ ap Ok c.in-Ok-Some.field-0-is) in
    subst (λ x. Left t o x c.take-next.result.0 c.take-next.new.rows) (sym c.next.ensures.after)
    (goes_on t o r c.loop-fault.reached c.loop-fault.rows c.loop-fault.invariant at one c.take-next.result.1 c.take-next.result.0 c.take-next.new.rows c.take-next.ensures c.in_default.field-0 c.in_default.is)

pub returns : goal.returns
returns c =
    let r = rest_of c.loop-fault.reader in
    let whole = rest_of c.args.reader.now in
    let t = c.args.book.now.table in
    let o : Outcome = read_on (length whole.words) whole Unopened in
    elim c.match-next.branch [
      | in-Err w ↦
          read_is t o c.match-next.reached c.loop-fault.reached c.match-next.end (Err w.in-Err.fault) w.reached-is w.end-is
          (stops_malformed t o r c.loop-fault.reached c.loop-fault.rows c.loop-fault.invariant w.in-Err.fault (sym c.next.ensures.found ∙ ap view_next w.in-Err.is))
      | in-Ok-None w ↦
          let none : found_next r ≡ Ok None = sym c.next.ensures.found ∙ ap view_next (w.in-Ok-None.is ∙ ap Ok w.in-Ok-None.field-0-is) in
          let there : w.place.result ≡ r.place = w.place.ensures ∙ ap (λ (x : Rest). x.place) (c.next.ensures.after ∙ stays_there r none) in
          read_is t o c.match-next.reached c.loop-fault.reached c.match-next.end w.ended-end.result w.reached-is w.end-is
          (stops_at_end t o r c.loop-fault.reached c.loop-fault.rows c.loop-fault.invariant w.ended-end.result w.place.result none there w.ended-end.ensures)
      | in-Ok-Some+in-Err-outcome w ↦
          let at : At = record { found = plain w.in-Ok-Some.placed.record; place = w.in-Ok-Some.placed.place } in
          let one : found_next r ≡ Ok (Some at) = sym c.next.ensures.found ∙ ap view_next (w.in-Ok-Some.is ∙ ap Ok w.in-Ok-Some.field-0-is) in
          read_is t o c.match-next.reached w.take-next.result.0 c.match-next.end (Err (record { cause = w.in-Err-outcome.fault.cause; place = at.place })) w.reached-is (w.end-is ∙ ap Err w.at.ensures)
          (stops_refused t o r c.loop-fault.reached c.loop-fault.rows c.loop-fault.invariant at one w.take-next.result.1 w.take-next.result.0 w.take-next.new.rows w.take-next.ensures w.in-Err-outcome.fault w.in-Err-outcome.is)
    ]
