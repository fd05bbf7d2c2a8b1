-- What a book holds once the hour of lists of calls is let go.
use Rattle.std.specs.Prelude.{List, [], map}
use Rattle.settling.specs.declared.header.Header.{Header}
use Rattle.table.specs.declared.records.Table.{Table}
use Rattle.book.specs.Hours.{Prices, PriceRows, OpenTable, ClosedTable, SettledTable}
use Rattle.book.specs.Runs.{entries_in, readings_in, offers_in}
use Rattle.book.specs.States.{Call, State, state_after}
use Rattle.book.specs.States.State.{Open, Closed, Settled}
use Rattle.book.specs.declared.calls.HourCall.{HourCall}
use Rattle.book.specs.declared.calls.Turn.{Turn}
use Rattle.book.specs.declared.run.Calls.{Calls}

-- what lists of entries and readings leave of a closed hour, and with price rows of a settled one
abbrev pub ClosedLeft : {O G : Type 0} → (O → Prices) → (G → Prices) → Calls O G → Table → Type 0
ClosedLeft prices1 prices2 calls t =
    ClosedTable (offers_in prices1 prices2 calls) (entries_in calls) (readings_in calls) t

abbrev pub SettledLeft : {O G : Type 0} → (O → Prices) → (G → Prices) → Calls O G → Header → PriceRows → Table → Type 0
SettledLeft prices1 prices2 calls header rows t =
    SettledTable header (offers_in prices1 prices2 calls) rows (entries_in calls) (readings_in calls) t

-- the state that a list of calls in whatever order leads to
abbrev pub state_of : {O G P C H : Type 0} → (HourCall O G P C H → Call) → List (Turn O G P C H) → State
state_of by turns = state_after (map (λ turn. by turn.call) turns) (Open [])

-- what an hour in a state leaves; of a settled one that such a list led to nothing is said
abbrev pub Left : Header → State → Table → Type 0
Left header (Open h) t = OpenTable h t
Left header (Closed offers h rs) t = ClosedTable offers h rs t
Left header (Settled offers rows h rs) t = Unit {0}
