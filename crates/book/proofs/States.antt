-- What calls of an hour lead to, whatever their order.
use Rattle.std.proofs.Common.{◌≡◌, ℕ, ◌+◌, ◌<◌, ◌≤◌, List, [], ◌∷◌, ◌++◌, length, get_or, take, map, Some, Result, refl, sym, ap, ◌∙◌, subst, ⊎_elim, arith, below_more, set}
use Rattle.std.proofs.lemmas.Bool.{cases_eq}
use Rattle.std.proofs.lemmas.List.{length-map, get_or-map, get_or_default, get_or-set_same, get_or-set_other, take_more, take_all}
use Rattle.std.specs.Borrow.{GName}
use Rattle.settling.specs.declared.header.Header.{Header}
use Rattle.table.specs.declared.readings.Reading.{Reading}
use Rattle.table.specs.declared.refusals.BookRefusal.{BookRefusal}
use Rattle.book.proofs.Counting.{calls_count}
use Rattle.book.specs.States.{Call, State, next_state, told, answer_by, state_after, HourOf, StateCounts, Borrows, CallMade, CallsMade, turn_at}
use Rattle.book.specs.States.Call.{Read, Settle}
use Rattle.book.specs.States.State.{Open, Closed, Settled}
use Rattle.book.specs.Hours.{PriceRows}
use Rattle.book.specs.Taken.{ReadingTaken, SettlesBy}
use Rattle.book.specs.declared.calls.CallAnswer.{CallAnswer}
use Rattle.book.specs.declared.calls.CallAnswer.TheVariants.{Done}
use Rattle.book.specs.declared.calls.Hour.{Hour}
use Rattle.book.specs.declared.calls.HourCall.{HourCall}
use Rattle.book.specs.declared.calls.Turn.{Turn}
use Rattle.book.specs.declared.calls.Hour.TheVariants.{Open as OpenAt, Closed as ClosedAt, Settled as SettledAt}
use Rattle.book.specs.declared.closed.ClosedHour.{ClosedHour}
use Rattle.book.specs.declared.settled.SettledHour.{SettledHour}

-- a closed hour takes a reading
module _ (reading : Reading) (result : Result ℕ BookRefusal) (hour next : ClosedHour) (t : ReadingTaken reading result hour next) where
  read_follows : (header : Header) (s : State) → HourOf header s (ClosedAt hour) → answer_by result ≡ told (Read reading) s
  read_follows header (Open h) at = absurd at
  read_follows header (Closed offers h rs) at = ap answer_by (t.follows header offers h rs at)
  read_follows header (Settled offers rows h rs) at = absurd at

  read_stands : (header : Header) (s : State) → HourOf header s (ClosedAt hour) → HourOf header (next_state (Read reading) s) (ClosedAt next)
  read_stands header (Open h) at = absurd at
  read_stands header (Closed offers h rs) at = t.stands header offers h rs at
  read_stands header (Settled offers rows h rs) at = absurd at

  pub read_made : CallMade (Read reading) (ClosedAt hour) (ClosedAt next) (answer_by result)
  read_made = record { follows = read_follows; stands = read_stands; book = λ name same. t.book ∙ same }

-- a closed hour is settled
module _ (rows : PriceRows) (hour : ClosedHour) (next : SettledHour) (law : SettlesBy rows hour next) where
  settle_follows : (header : Header) (s : State) → HourOf header s (ClosedAt hour) → Done ≡ told (Settle rows) s
  settle_follows header (Open h) at = absurd at
  settle_follows header (Closed offers h rs) at = refl
  settle_follows header (Settled offers rows h rs) at = absurd at

  settle_stands : (header : Header) (s : State) → HourOf header s (ClosedAt hour) → HourOf header (next_state (Settle rows) s) (SettledAt next)
  settle_stands header (Open h) at = absurd at
  settle_stands header (Closed offers h rs) at = law header offers h rs at
  settle_stands header (Settled offers rows h rs) at = absurd at

  pub settle_made : CallMade (Settle rows) (ClosedAt hour) (SettledAt next) Done
  settle_made = record { follows = settle_follows; stands = settle_stands; book = λ name same. Prim.tt }

pub state_after-append : (cs more : List Call) (s : State) → state_after (cs ++ more) s ≡ state_after more (state_after cs s)
state_after-append [] more s = refl
state_after-append (c ∷ cs) more s = state_after-append cs more (next_state c s)

-- an hour that stands in a state has accepted what led to it
state_counts : (header : Header) (s : State) (hour : Hour) → HourOf header s hour → StateCounts s
state_counts header (Open h) (OpenAt hour) at = calls_count h [] at.table.proper
state_counts header (Open h) (ClosedAt hour) at = absurd at
state_counts header (Open h) (SettledAt hour) at = absurd at
state_counts header (Closed offers h rs) (OpenAt hour) at = absurd at
state_counts header (Closed offers h rs) (ClosedAt hour) at = calls_count h rs at.table.proper
state_counts header (Closed offers h rs) (SettledAt hour) at = absurd at
state_counts header (Settled offers rows h rs) (OpenAt hour) at = absurd at
state_counts header (Settled offers rows h rs) (ClosedAt hour) at = absurd at
state_counts header (Settled offers rows h rs) (SettledAt hour) at = calls_count h rs at.table.proper

-- the first calls of a list are made in turn, on the hour that stood there first
pub record MadeTo {O G P C H : Type 0} (by : HourCall O G P C H → Call) (header : Header) (n : ℕ) (before after : List (Turn O G P C H)) (first hour : Hour) : Type 0 where
  pub stands : HourOf header (state_after (take n (map (λ turn. by turn.call) before)) (Open [])) hour
  pub answers : (i : ℕ) → i < n → (turn_at after i).answer ≡ Some (told (by (turn_at before i).call) (state_after (take i (map (λ turn. by turn.call) before)) (Open [])))
  pub calls : (i : ℕ) → (turn_at after i).call ≡ (turn_at before i).call
  pub book : (name : GName) → Borrows name first → Borrows name hour

module _ {O G P C H : Type 0} (by : HourCall O G P C H → Call) (header : Header) (before : List (Turn O G P C H)) where
  abbrev calls : List Call
  calls = map (λ turn. by turn.call) before

  -- the state after the first n calls
  abbrev state : ℕ → State
  state n = state_after (take n calls) (Open [])

  state_more : (i : ℕ) → i < length before → state (i + 1) ≡ next_state (by (turn_at before i).call) (state i)
  state_more i lt =
      let d = by (turn_at [] 0).call in
      let here : get_or calls i d ≡ by (turn_at before i).call = get_or-map (λ (turn : Turn O G P C H). by turn.call) before i (turn_at [] 0) d lt in
      ap (λ cs. state_after cs (Open [])) (take_more calls i d (omega (arith, length-map before (λ (turn : Turn O G P C H). by turn.call))) ∙ ap (λ c. take i calls ++ (c ∷ [])) here)
      ∙ state_after-append (take i calls) (by (turn_at before i).call ∷ []) (Open [])

  -- the next call of the list is made
  module _ (i : ℕ) (after : List (Turn O G P C H)) (first hour next : Hour) (answer : CallAnswer) (d : Turn O G P C H) (lt : i < length before) (long : length after ≡ length before) (m : MadeTo by header i before after first hour) (made : CallMade (by (get_or after i d).call) hour next answer) where
    abbrev turn : Turn O G P C H
    turn = record { call = (get_or after i d).call; answer = Some answer }

    same : (get_or after i d).call ≡ (turn_at before i).call
    same = ap (λ (t : Turn O G P C H). t.call) (get_or_default after i d (turn_at [] 0) (omega (arith, long))) ∙ m.calls i

    mine : CallMade (by (turn_at before i).call) hour next answer
    mine = subst (λ c. CallMade (by c) hour next answer) same made

    written : turn_at (set after i turn) i ≡ turn
    written = get_or-set_same after i turn (turn_at [] 0) (omega (arith, long))

    kept : (k : ℕ) → (k ≡ i → ⊥) → turn_at (set after i turn) k ≡ turn_at after k
    kept k ne = get_or-set_other after i k turn (turn_at [] 0) ne

    told_more : (k : ℕ) → k < i + 1 → (turn_at (set after i turn) k).answer ≡ Some (told (by (turn_at before k).call) (state k))
    told_more =
        below_more _ i
        (λ k below. ap (λ (t : Turn O G P C H). t.answer) (kept k (λ eq. absurd (omega (arith, eq)))) ∙ m.answers k below)
        (ap (λ (t : Turn O G P C H). t.answer) written ∙ ap Some (mine.follows header (state i) m.stands))

    calls_stay : (k : ℕ) → (turn_at (set after i turn) k).call ≡ (turn_at before k).call
    calls_stay k =
        ⊎_elim
        (λ (here : k ≡ i). subst (λ n. (turn_at (set after i turn) n).call ≡ (turn_at before n).call) (sym here) (ap (λ (t : Turn O G P C H). t.call) written ∙ same))
        (λ (other : k ≡ i → ⊥). ap (λ (t : Turn O G P C H). t.call) (kept k other) ∙ m.calls k)
        (cases_eq k i)

    pub made_more : MadeTo by header (i + 1) before (set after i turn) first next
    made_more = record {
      stands = subst (λ s. HourOf header s next) (sym (state_more i lt)) (mine.stands header (state i) m.stands);
      answers = told_more;
      calls = calls_stay;
      book = λ name borrowed. mine.book name (m.book name borrowed);
    }

  pub made_none : (first : Hour) → HourOf header (Open []) first → MadeTo by header 0 before before first first
  made_none first at = record { stands = at; answers = λ i lt. absurd (omega arith); calls = λ i. refl; book = λ name borrowed. borrowed }

  pub made_all : (n : ℕ) (after : List (Turn O G P C H)) (first hour : Hour) → length before ≤ n → MadeTo by header n before after first hour → CallsMade by header before after hour
  made_all n after first hour all m =
      let whole = take_all n calls (omega (arith, length-map before (λ (turn : Turn O G P C H). by turn.call))) in
      let stands = subst (λ cs. HourOf header (state_after cs (Open [])) hour) whole m.stands in
      record {
        stands = stands;
        answers = λ i lt. m.answers i (omega arith);
        calls = m.calls;
        counts = state_counts header (state_after calls (Open [])) hour stands;
      }
