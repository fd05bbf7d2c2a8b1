-- Any list of calls of an hour, in whatever order: which state they lead to and what each is told, by the calls
-- accepted before it. No table is looked at.
use Rattle.std.specs.Prelude.{◌≡◌, ℕ, ◌<◌, List, [], ◌∷◌, length, take, map, Some, None, Ok, Err, Result, slice_index_or}
use Rattle.std.specs.Borrow.{GName}
use Rattle.settling.specs.declared.header.Header.{Header}
use Rattle.table.specs.History.{view_in, answer_in, next_history}
use Rattle.table.specs.Metered.{next_readings, reading_answer_in}
use Rattle.table.specs.declared.entries.Entry.{Entry}
use Rattle.table.specs.declared.entries.Entry.TheVariants.{AddPlant}
use Rattle.table.specs.declared.readings.Reading.{Reading}
use Rattle.table.specs.declared.refusals.BookRefusal.{BookRefusal}
use Rattle.book.specs.Counts.{CallsCount}
use Rattle.book.specs.Hours.{Prices, Offers, offers_by, PriceRows, rows_by, IsOpen, IsClosed, IsSettled}
use Rattle.book.specs.declared.calls.CallAnswer.{CallAnswer}
use Rattle.book.specs.declared.calls.CallAnswer.TheVariants.{Number, Done, Refused, OutOfTurn}
use Rattle.book.specs.declared.calls.Hour.{Hour}
use Rattle.book.specs.declared.calls.Hour.TheVariants.{Open as OpenAt, Closed as ClosedAt, Settled as SettledAt}
use Rattle.book.specs.declared.calls.HourCall.{HourCall}
use Rattle.book.specs.declared.calls.HourCall.TheVariants.{Enter as EnterCall, Close as CloseCall, Read as ReadCall, Settle as SettleCall}
use Rattle.book.specs.declared.calls.Turn.{Turn}

-- a call, with its offers and price rows as lists of prices
pub data Call : Type 0 where
  Enter : Entry → Call
  Close : Offers → Call
  Read : Reading → Call
  Settle : PriceRows → Call

abbrev pub call_by : {O G P C H : Type 0} → (O → Prices) → (G → Prices) → (P → Prices) → (C → Prices) → (H → Prices) → HourCall O G P C H → Call
call_by o g p c h (EnterCall entry) = Enter entry
call_by o g p c h (CloseCall offers guaranteed) = Close (offers_by o offers.now g guaranteed.now)
call_by o g p c h (ReadCall reading) = Read reading
call_by o g p c h (SettleCall rows offers) = Settle (rows_by p c rows.now h offers.now)

-- The state of an hour: the accepted entries, the offers and the readings since closing, the price rows of settling.
pub data State : Type 0 where
  Open : List Entry → State
  Closed : Offers → List Entry → List Reading → State
  Settled : Offers → PriceRows → List Entry → List Reading → State

-- where a call leads; one that is refused or out of turn changes nothing
abbrev pub next_state : Call → State → State
next_state (Enter entry) (Open h) = Open (next_history entry h)
next_state (Close offers) (Open h) = Closed offers h []
next_state (Read reading) (Closed offers h rs) = Closed offers h (next_readings (view_in h) reading rs)
next_state (Settle rows) (Closed offers h rs) = Settled offers rows h rs
next_state call s = s

-- what an entry or a reading is told by its answer
abbrev pub answer_by : Result ℕ BookRefusal → CallAnswer
answer_by (Ok number) = Number number
answer_by (Err refusal) = Refused refusal

-- what a call is told in a state
abbrev pub told : Call → State → CallAnswer
told (Enter entry) (Open h) = answer_by (answer_in entry h)
told (Close offers) (Open h) = Done
told (Read reading) (Closed offers h rs) = answer_by (reading_answer_in (view_in h) reading)
told (Settle rows) (Closed offers h rs) = Done
told call s = OutOfTurn

-- the state after the calls of a list, made in turn
abbrev pub state_after : List Call → State → State
state_after [] s = s
state_after (c ∷ cs) s = state_after cs (next_state c s)

-- an hour of a header stands in a state, and holds what its calls have led to
abbrev pub HourOf : Header → State → Hour → Type 0
HourOf header (Open h) (OpenAt hour) = IsOpen header h hour
HourOf header (Closed offers h rs) (ClosedAt hour) = IsClosed header offers h rs hour
HourOf header (Settled offers rows h rs) (SettledAt hour) = IsSettled header offers rows h rs hour
HourOf header s hour = ⊥

-- what the calls that led to a state count for
abbrev pub StateCounts : State → Type 0
StateCounts (Open h) = CallsCount h []
StateCounts (Closed offers h rs) = CallsCount h rs
StateCounts (Settled offers rows h rs) = CallsCount h rs

-- an open or a closed hour borrows the book of this name; of a settled hour nothing is said
abbrev pub Borrows : GName → Hour → Type 0
Borrows name (OpenAt hour) = hour.book.ghost_name ≡ name
Borrows name (ClosedAt hour) = hour.book.ghost_name ≡ name
Borrows name (SettledAt hour) = Unit {0}

-- one call is made: by whatever calls the hour stood for, it is told what follows from them, and the next hour stands
-- for them with it
pub record CallMade (call : Call) (hour next : Hour) (answer : CallAnswer) : Type 0 where
  pub follows : (header : Header) (s : State) → HourOf header s hour → answer ≡ told call s
  pub stands : (header : Header) (s : State) → HourOf header s hour → HourOf header (next_state call s) next
  pub book : (name : GName) → Borrows name hour → Borrows name next

-- the turn at a place; past the list's end it is of no account
abbrev pub turn_at : {O G P C H : Type 0} → List (Turn O G P C H) → ℕ → Turn O G P C H
turn_at turns i = slice_index_or turns i (record { call = EnterCall (AddPlant 0); answer = None })

-- The calls of a list are made in turn on an empty hour of a header: the hour stands where they lead, each call is told
-- what follows from those before it, and the calls themselves stay. What the accepted ones count for is said of the
-- list alone.
pub record CallsMade {O G P C H : Type 0} (by : HourCall O G P C H → Call) (header : Header) (before after : List (Turn O G P C H)) (hour : Hour) : Type 0 where
  pub stands : HourOf header (state_after (map (λ turn. by turn.call) before) (Open [])) hour
  pub answers : (i : ℕ) → i < length before → (turn_at after i).answer ≡ Some (told (by (turn_at before i).call) (state_after (take i (map (λ turn. by turn.call) before)) (Open [])))
  pub calls : (i : ℕ) → (turn_at after i).call ≡ (turn_at before i).call
  pub counts : StateCounts (state_after (map (λ turn. by turn.call) before) (Open []))
