-- A list of calls in no order: what each is told, and what it leads to.
use Rattle.std.specs.Prelude.{◌≡◌, ℕ, List, [], ◌∷◌, take}
use Rattle.table.specs.declared.entries.Entry.TheVariants.{AddPlant, AddBuyer, Commit}
use Rattle.table.specs.declared.readings.Reading.TheVariants.{Use}
use Rattle.table.specs.declared.refusals.BookRefusal.TheVariants.{NoBuyer}
use Rattle.book.specs.Hours.{Offers, PriceRows}
use Rattle.book.specs.States.{Call, State, next_state, told, state_after}
use Rattle.book.specs.States.Call.{Enter, Close, Read, Settle}
use Rattle.book.specs.States.State.{Open, Closed, Settled}
use Rattle.book.specs.declared.calls.CallAnswer.{CallAnswer}
use Rattle.book.specs.declared.calls.CallAnswer.TheVariants.{Number, Done, Refused, OutOfTurn}

-- an offer of one price for guaranteed unit 1, and none for competitive units
abbrev pub offer : ℕ → Offers
offer price = record { competitive = []; guaranteed = (λ kwh. price) ∷ [] }

abbrev pub row : ℕ → PriceRows
row price = record { competitive = []; guaranteed = (λ kwh. price) ∷ [] }

-- of three closings and three settlings the first that is in turn counts
abbrev pub calls : List Call
calls =
    Read (Use 1 5) ∷ Enter (AddPlant 0) ∷ Enter (Commit 1 1 50) ∷ Settle (row 1)
    ∷ Enter (AddBuyer 0) ∷ Enter (Commit 1 1 50) ∷ Close (offer 2) ∷ Enter (AddPlant 0)
    ∷ Close (offer 3) ∷ Read (Use 1 5) ∷ Read (Use 2 6) ∷ Read (Use 1 7)
    ∷ Settle (row 4) ∷ Settle (row 5) ∷ Close (offer 6) ∷ Read (Use 1 8) ∷ Enter (AddBuyer 0) ∷ []

abbrev pub told_all : State → List Call → List CallAnswer
told_all s [] = []
told_all s (c ∷ cs) = told c s ∷ told_all (next_state c s) cs

-- where the first n calls lead
abbrev pub led_to : ℕ → State
led_to n = state_after (take n calls) (Open [])

pub record CallExamples : Type 0 where
  pub each_told : told_all (Open []) calls ≡ OutOfTurn ∷ Number 1 ∷ Refused NoBuyer ∷ OutOfTurn ∷ Number 1 ∷ Number 1 ∷ Done ∷ OutOfTurn ∷ OutOfTurn ∷ Number 1 ∷ Refused NoBuyer ∷ Number 1 ∷ Done ∷ OutOfTurn ∷ OutOfTurn ∷ OutOfTurn ∷ OutOfTurn ∷ []
  pub opened : led_to 6 ≡ Open (Commit 1 1 50 ∷ AddBuyer 0 ∷ AddPlant 0 ∷ [])
  pub closed : led_to 9 ≡ Closed (offer 2) (Commit 1 1 50 ∷ AddBuyer 0 ∷ AddPlant 0 ∷ []) []
  pub read : led_to 12 ≡ Closed (offer 2) (Commit 1 1 50 ∷ AddBuyer 0 ∷ AddPlant 0 ∷ []) (Use 1 7 ∷ Use 1 5 ∷ [])
  pub settled : led_to 17 ≡ Settled (offer 2) (row 4) (Commit 1 1 50 ∷ AddBuyer 0 ∷ AddPlant 0 ∷ []) (Use 1 7 ∷ Use 1 5 ∷ [])
