-- What an entry answers, and what the table then holds.
use Rattle.std.specs.Prelude.{ℕ, ◌+◌, ◌-◌, true, false, cond, List, [], ◌∷◌, Some, None, Ok, Err, Option, Result, ◌==◌, slice_index, slice_set}
use Rattle.curves.specs.declared.refusals.CurveRefusal.{CurveRefusal}
use Rattle.table.specs.Entries.{rows, view_of}
use Rattle.table.specs.Rows.{UnitTable, new_plant, new_unit, new_buyer, corrected, moved, added_unit, changed}
use Rattle.table.specs.declared.entries.Entry.{Entry}
use Rattle.table.specs.declared.entries.Entry.TheVariants.{AddPlant, AddCompetitive, AddGuaranteed, Correct, PutAside, TakeBack, AddBuyer, Commit}
use Rattle.table.specs.declared.records.Buyer.{Buyer}
use Rattle.table.specs.declared.records.Commitment.{Commitment}
use Rattle.table.specs.declared.records.Plant.{Plant}
use Rattle.table.specs.declared.records.Table.{Table}
use Rattle.table.specs.declared.refusals.BookRefusal.{BookRefusal}
use Rattle.table.specs.declared.refusals.UnitRefusal.{UnitRefusal}
use Rattle.table.specs.declared.refusals.UnitRefusal.TheVariants.{Book, Rows}

-- one kind of rows changed, and the others as they were
abbrev pub with_plants : ℕ → List Plant → Table → Table
with_plants count rows t = record {
  plants = record { count = count; rows = rows };
  competitive = t.competitive;
  guaranteed = t.guaranteed;
  buyers = t.buyers;
  commitments = t.commitments;
  sold = t.sold;
  figures = t.figures;
}

abbrev pub with_competitive : UnitTable → Table → Table
with_competitive units t = record {
  plants = t.plants;
  competitive = units;
  guaranteed = t.guaranteed;
  buyers = t.buyers;
  commitments = t.commitments;
  sold = t.sold;
  figures = t.figures;
}

abbrev pub with_guaranteed : UnitTable → Table → Table
with_guaranteed units t = record {
  plants = t.plants;
  competitive = t.competitive;
  guaranteed = units;
  buyers = t.buyers;
  commitments = t.commitments;
  sold = t.sold;
  figures = t.figures;
}

abbrev pub with_buyers : ℕ → List Buyer → Table → Table
with_buyers count rows t = record {
  plants = t.plants;
  competitive = t.competitive;
  guaranteed = t.guaranteed;
  buyers = record { count = count; rows = rows };
  commitments = t.commitments;
  sold = t.sold;
  figures = t.figures;
}

abbrev pub with_commitments : ℕ → List Commitment → Table → Table
with_commitments count rows t = record {
  plants = t.plants;
  competitive = t.competitive;
  guaranteed = t.guaranteed;
  buyers = t.buyers;
  commitments = record { count = count; rows = rows };
  sold = t.sold;
  figures = t.figures;
}

abbrev pub with_sold : List ℕ → Table → Table
with_sold sold t = record {
  plants = t.plants;
  competitive = t.competitive;
  guaranteed = t.guaranteed;
  buyers = t.buyers;
  commitments = t.commitments;
  sold = sold;
  figures = t.figures;
}

-- what the plant of a number has sold grows by a volume
abbrev pub sold_more : ℕ → ℕ → Table → Table
sold_more plant volume t = with_sold (slice_set t.sold (plant - 1) (slice_index t.sold (plant - 1) + volume)) t

-- the units of a group changed, and the other rows as they were
abbrev pub in_group : ℕ → (UnitTable → UnitTable) → Table → Table
in_group group f t = cond (group == 1) (with_competitive (f t.competitive) t) (with_guaranteed (f t.guaranteed) t)

-- the number that an accepted entry answers: of the row that it makes or changes
abbrev pub number_of : Entry → Table → ℕ
number_of (AddPlant loss) t = t.plants.count + 1
number_of (AddCompetitive plant declared internal) t = t.competitive.count + 1
number_of (AddGuaranteed plant declared seasonal internal feeds) t = t.guaranteed.count + 1
number_of (Correct group unit declared) t = unit
number_of (PutAside group unit) t = unit
number_of (TakeBack group unit) t = unit
number_of (AddBuyer loss) t = t.buyers.count + 1
number_of (Commit plant buyer volume) t = t.commitments.count + 1

-- one value where a row turns a call down, and another where none does
abbrev pub unless : {A : Type 0} → Option BookRefusal → (BookRefusal → A) → A → A
unless None refused accepted = accepted
unless (Some refusal) refused accepted = refused refusal

-- what a check answers: the row that turns a call down, if there is one
abbrev pub passes : Option BookRefusal → Result Unit BookRefusal
passes refusal = unless refusal Err (Ok tt)

-- what an entry answers: the row that turns it down, else its number
abbrev pub answer_of : Entry → Table → Result ℕ BookRefusal
answer_of entry t = unless (rows (view_of t) entry) Err (Ok (number_of entry t))

-- an accepted entry's change of the table
abbrev pub applied : Entry → Table → Table
applied (AddPlant loss) t = with_plants (t.plants.count + 1) (slice_set t.plants.rows t.plants.count (new_plant loss)) t
applied (AddCompetitive plant declared internal) t =
    with_competitive (added_unit (new_unit plant declared None internal 0) t.competitive) t
applied (AddGuaranteed plant declared seasonal internal feeds) t =
    with_guaranteed (added_unit (new_unit plant declared (Some seasonal) internal feeds) t.guaranteed) t
applied (Correct group unit declared) t = in_group group (changed (corrected declared) unit) t
applied (PutAside group unit) t = in_group group (changed (moved true) unit) t
applied (TakeBack group unit) t = in_group group (changed (moved false) unit) t
applied (AddBuyer loss) t = with_buyers (t.buyers.count + 1) (slice_set t.buyers.rows t.buyers.count (new_buyer loss)) t
applied (Commit plant buyer volume) t =
    with_commitments (t.commitments.count + 1)
    (slice_set t.commitments.rows t.commitments.count (record { plant = plant; buyer = buyer; volume = volume })) (sold_more plant volume t)

-- the table after an entry; a refused one changes nothing
abbrev pub after_entry : Entry → Table → Table
after_entry entry t = unless (rows (view_of t) entry) (λ _. t) (applied entry t)

-- calls made in turn, by what one call makes of a table
abbrev pub after_calls : {C : Type 0} → (C → Table → Table) → List C → Table → Table
after_calls after [] t = t
after_calls after (c ∷ cs) t = after_calls after cs (after c t)

-- entries made in turn
abbrev pub after_entries : List Entry → Table → Table
after_entries entries t = after_calls after_entry entries t

-- A competitive unit that comes with the outcome of making its price rows: the book's rows are looked at first, then
-- the outcome. It is added where neither turns it down, as a competitive unit is.
abbrev pub priced_answer : {R : Type 0} → ℕ → ℕ → ℕ → Result R CurveRefusal → Table → Result (ℕ × R) UnitRefusal
priced_answer plant declared internal (Ok made) t =
    unless (rows (view_of t) (AddCompetitive plant declared internal)) (λ refusal. Err (Book refusal)) (Ok (number_of (AddCompetitive plant declared internal) t, made))
priced_answer plant declared internal (Err refused) t =
    unless (rows (view_of t) (AddCompetitive plant declared internal)) (λ refusal. Err (Book refusal)) (Err (Rows refused))

abbrev pub after_priced : {R : Type 0} → ℕ → ℕ → ℕ → Result R CurveRefusal → Table → Table
after_priced plant declared internal (Ok made) t = after_entry (AddCompetitive plant declared internal) t
after_priced plant declared internal (Err refused) t = t
