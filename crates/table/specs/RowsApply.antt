-- The table of refusals, row by row: when a row applies to an entry or a reading, by the entries accepted before it.
-- The first row that applies, in the table's order, turns the call down.
use Rattle.std.specs.Prelude.{◌≡◌, ℕ, ◌+◌, Bool, false, not, ◌||◌, List, [], ◌∷◌, Ok, Result, ◌==◌, nat_le, nat_lt}
use Rattle.std.specs.List.{count_by, find, list_any}
use Rattle.std.specs.Result.{result_err}
use Rattle.settlement.specs.declared.readings.Control.{Control}
use Rattle.table.specs.EntriesCount.{adds_a_plant, adds_a_unit, adds_a_buyer, commits}
use Rattle.table.specs.History.{sold_in}
use Rattle.table.specs.declared.entries.Entry.{Entry}
use Rattle.table.specs.declared.entries.Entry.TheVariants.{AddPlant, AddCompetitive, AddGuaranteed, Correct, PutAside, TakeBack, AddBuyer, Commit}
use Rattle.table.specs.declared.readings.Reading.{Reading}
use Rattle.table.specs.declared.readings.Reading.TheVariants.{Competitive, Guaranteed, Use}
use Rattle.table.specs.declared.refusals.BookRefusal.{BookRefusal}
use Rattle.table.specs.declared.refusals.BookRefusal.TheVariants.{NoPlant, NoUnit, NoBuyer, Full, Percentage, Energy, Commitments, Price, OutsideSet, Limited}

-- the table's rows for entries and readings, in their order
abbrev pub table_rows : List BookRefusal
table_rows = NoPlant ∷ NoUnit ∷ NoBuyer ∷ Full ∷ Percentage ∷ Energy ∷ Commitments ∷ Price ∷ OutsideSet ∷ Limited ∷ []

-- numbers go from 1 to how many of the kind were added
abbrev pub no_such : (Entry → Bool) → ℕ → List Entry → Bool
no_such kind number h = number == 0 || nat_lt (count_by kind h) number

-- the groups are 1 and 2, and each has numbers of its own
abbrev pub no_such_unit : ℕ → ℕ → List Entry → Bool
no_such_unit group unit h = not (group == 1 || group == 2) || no_such (adds_a_unit group) unit h

-- whether a row applies to an entry
abbrev pub applies : BookRefusal → Entry → List Entry → Bool
applies NoPlant (AddCompetitive plant declared internal) h = no_such adds_a_plant plant h
applies NoPlant (AddGuaranteed plant declared seasonal internal feeds) h = no_such adds_a_plant plant h
applies NoPlant (Commit plant buyer volume) h = no_such adds_a_plant plant h
applies NoUnit (Correct group unit declared) h = no_such_unit group unit h
applies NoUnit (PutAside group unit) h = no_such_unit group unit h
applies NoUnit (TakeBack group unit) h = no_such_unit group unit h
applies NoBuyer (Commit plant buyer volume) h = no_such adds_a_buyer buyer h
applies Full (AddPlant loss) h = nat_le 32 (count_by adds_a_plant h)
applies Full (AddCompetitive plant declared internal) h = nat_le 128 (count_by (adds_a_unit 1) h)
applies Full (AddGuaranteed plant declared seasonal internal feeds) h = nat_le 128 (count_by (adds_a_unit 2) h)
applies Full (AddBuyer loss) h = nat_le 64 (count_by adds_a_buyer h)
applies Full (Commit plant buyer volume) h = nat_le 768 (count_by commits h)
applies Percentage (AddPlant loss) h = nat_lt 2000 loss
applies Percentage (AddCompetitive plant declared internal) h = nat_lt 2000 internal
applies Percentage (AddGuaranteed plant declared seasonal internal feeds) h = nat_lt 2000 internal
applies Percentage (AddBuyer loss) h = nat_lt 2000 loss
applies Energy (AddCompetitive plant declared internal) h = nat_lt 2000000 declared
applies Energy (AddGuaranteed plant declared seasonal internal feeds) h = nat_lt 2000000 declared || nat_lt 2000000 seasonal
applies Energy (Correct group unit declared) h = nat_lt 2000000 declared
applies Energy (Commit plant buyer volume) h = volume == 0 || nat_lt 20000000 volume
applies Commitments (Commit plant buyer volume) h = nat_lt 20000000 (sold_in plant h + volume)
applies OutsideSet (AddGuaranteed plant declared seasonal internal feeds) h = nat_lt 1 feeds
applies row e h = false

-- the energies of a unit's control
abbrev pub controls : Control → List ℕ
controls c = c.p_act ∷ c.type2 ∷ c.type3 ∷ c.type5 ∷ c.type6 ∷ c.type8 ∷ []

-- whether a row applies to a reading
abbrev pub applies_to : BookRefusal → Reading → List Entry → Bool
applies_to NoUnit (Competitive unit r) h = no_such (adds_a_unit 1) unit h
applies_to NoUnit (Guaranteed unit r) h = no_such (adds_a_unit 2) unit h
applies_to NoBuyer (Use buyer used) h = no_such adds_a_buyer buyer h
applies_to Energy (Competitive unit r) h =
    list_any (nat_lt 2000000) (r.energies.net ∷ r.energies.accepted ∷ r.energies.lost ∷ r.energies.limited ∷ r.energies.executed ∷ controls r.control)
applies_to Energy (Guaranteed unit r) h = list_any (nat_lt 2000000) (r.net ∷ controls r.control)
applies_to Energy (Use buyer used) h = nat_lt 50000000 used
applies_to Price (Competitive unit r) h =
    list_any (nat_lt 100000000) (r.adjustments.opportunity ∷ r.adjustments.planning ∷ r.adjustments.cooperation ∷ [])
applies_to OutsideSet (Competitive unit r) h = nat_lt 1 r.energies.asked || (nat_lt 400 r.control.day || nat_lt 1439 r.control.minute)
applies_to OutsideSet (Guaranteed unit r) h = nat_lt 400 r.control.day || nat_lt 1439 r.control.minute
applies_to Limited (Competitive unit r) h = nat_lt (r.energies.accepted + r.energies.lost) r.energies.limited
applies_to row r h = false

-- The number of an accepted entry: a new row's is one more than there were of its kind, a changed row's its own.
abbrev pub entry_number : Entry → List Entry → ℕ
entry_number (AddPlant loss) h = count_by adds_a_plant h + 1
entry_number (AddCompetitive plant declared internal) h = count_by (adds_a_unit 1) h + 1
entry_number (AddGuaranteed plant declared seasonal internal feeds) h = count_by (adds_a_unit 2) h + 1
entry_number (Correct group unit declared) h = unit
entry_number (PutAside group unit) h = unit
entry_number (TakeBack group unit) h = unit
entry_number (AddBuyer loss) h = count_by adds_a_buyer h + 1
entry_number (Commit plant buyer volume) h = count_by commits h + 1

-- the number of an accepted reading: that of its unit or buyer
abbrev pub named_number : Reading → ℕ
named_number (Competitive unit r) = unit
named_number (Guaranteed unit r) = unit
named_number (Use buyer used) = buyer

-- what an entry and a reading are answered, by the table of refusals
pub record EntryJudged (e : Entry) (h : List Entry) (answer : Result ℕ BookRefusal) : Type 0 where
  pub refusal : result_err answer ≡ find (λ row. applies row e h) table_rows
  pub number : (n : ℕ) → answer ≡ Ok n → n ≡ entry_number e h

pub record ReadingJudged (r : Reading) (h : List Entry) (answer : Result ℕ BookRefusal) : Type 0 where
  pub refusal : result_err answer ≡ find (λ row. applies_to row r h) table_rows
  pub number : (n : ℕ) → answer ≡ Ok n → n ≡ named_number r
