-- What the calls of a list answer, written down in their order as far as there is room.
use Rattle.std.specs.Prelude.{◌≡◌, ℕ, ◌<◌, ◌≤◌, List, length, take, Ok, Result, slice_index_or}
use Rattle.table.specs.Effects.{answer_of, after_entry, after_calls}
use Rattle.table.specs.Readings.{reading_answer, after_reading}
use Rattle.table.specs.declared.entries.Entry.{Entry}
use Rattle.table.specs.declared.entries.Entry.TheVariants.{AddPlant}
use Rattle.table.specs.declared.readings.Reading.{Reading}
use Rattle.table.specs.declared.readings.Reading.TheVariants.{Use}
use Rattle.table.specs.declared.records.Table.{Table}
use Rattle.table.specs.declared.refusals.BookRefusal.{BookRefusal}

abbrev pub Answers : Type 0
Answers = List (Result ℕ BookRefusal)

-- the answer at a place; past the list's end it is of no account
abbrev pub answer_at : Answers → ℕ → Result ℕ BookRefusal
answer_at answers i = slice_index_or answers i (Ok 0)

-- each answer is that of its call, made on the table that the calls before it lead to
pub record Answered {C : Type 0} (answer : C → Table → Result ℕ BookRefusal) (after_call : C → Table → Table) (d : C) (calls : List C) (start : Table) (before after : Answers) : Type 0 where
  pub answered : (i : ℕ) → i < length calls → i < length before → answer_at after i ≡ answer (slice_index_or calls i d) (after_calls after_call (take i calls) start)
  pub others : (i : ℕ) → length calls ≤ i → answer_at after i ≡ answer_at before i

-- the answers of a list of entries, and of a list of readings
abbrev pub EntriesAnswered : List Entry → Table → Answers → Answers → Type 0
EntriesAnswered entries start before after = Answered answer_of after_entry (AddPlant 0) entries start before after

abbrev pub ReadingsAnswered : List Reading → Table → Answers → Answers → Type 0
ReadingsAnswered readings start before after = Answered reading_answer after_reading (Use 0 0) readings start before after
