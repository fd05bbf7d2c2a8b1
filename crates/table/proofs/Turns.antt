-- Lists of calls made in turn: what the table then stands for, and what each answers.
use Rattle.std.proofs.Common.{◌≡◌, ℕ, ◌+◌, ◌<◌, List, [], ◌∷◌, ◌++◌, length, get_or, take, Ok, Err, sym, refl, ap, ◌∙◌, subst}
use Rattle.std.proofs.lemmas.List.{take_more}
use Rattle.table.proofs.Kept.{entry_unread, after_either, reading_stands, reading_law}
use Rattle.table.proofs.Meters.{reading_metered}
use Rattle.table.proofs.Standing.{entry_stands}
use Rattle.table.proofs.Views.{view_same}
use Rattle.table.specs.ClosingLaw.{ClosingLaw}
use Rattle.table.specs.Effects.{unless, number_of, answer_of, after_entry, after_calls, after_entries}
use Rattle.table.specs.Entries.{rows, view_of}
use Rattle.table.specs.History.{Stands, view_in, accepted, next_history, number_in, answer_in}
use Rattle.table.specs.Metered.{Metered, next_readings, accepted_readings, reading_answer_in}
use Rattle.table.specs.Readings.{reading_rows, reading_number, reading_answer, applied_reading, after_reading, after_readings}
use Rattle.table.specs.declared.entries.Entry.{Entry}
use Rattle.table.specs.declared.entries.Entry.TheVariants.{AddPlant, AddCompetitive, AddGuaranteed, Correct, PutAside, TakeBack, AddBuyer, Commit}
use Rattle.table.specs.declared.readings.Reading.{Reading}
use Rattle.table.specs.declared.readings.Reading.TheVariants.{Competitive, Guaranteed, Use}
use Rattle.table.specs.declared.records.Table.{Table}

-- one call more, made last
module _ {C : Type 0} (after : C → Table → Table) where
  calls_push : (cs : List C) (c : C) (t : Table) → after_calls after (cs ++ (c ∷ [])) t ≡ after c (after_calls after cs t)
  calls_push [] c t = refl
  calls_push (x ∷ cs) c t = calls_push cs c (after x t)

  pub calls_more : (cs : List C) (i : ℕ) (d : C) (t now : Table) → i < length cs → now ≡ after_calls after (take i cs) t → after (get_or cs i d) now ≡ after_calls after (take (i + 1) cs) t
  calls_more cs i d t now lt same =
      ap (after (get_or cs i d)) same ∙ sym (ap (λ l. after_calls after l t) (take_more cs i d lt) ∙ calls_push (take i cs) (get_or cs i d) t)

-- a table that stands for a history stands, after more entries, for the history with the accepted ones
pub entries_stand : (es h : List Entry) (t : Table) → Stands h t → Stands (accepted h es) (after_entries es t)
entries_stand [] h t s = s
entries_stand (e ∷ es) h t s = entries_stand es (next_history e h) (after_entry e t) (entry_stands e h t s)

pub entries_unread : (es : List Entry) (t : Table) → Metered [] t → Metered [] (after_entries es t)
entries_unread [] t m = m
entries_unread (e ∷ es) t m = entries_unread es (after_entry e t) (entry_unread e t m)

-- what an entry answers is known from the history alone
pub answer_same : (e : Entry) (h : List Entry) (t : Table) → Stands h t → answer_of e t ≡ answer_in e h
answer_same e h t s =
    ap (λ v. unless (rows v e) Err (Ok (number_of e t))) (view_same h t s) ∙ ap (λ n. unless (rows (view_in h) e) Err (Ok n)) (number_same e)
  where
    number_same : (x : Entry) → number_of x t ≡ number_in x h
    number_same (AddPlant loss) = ap (λ n. n + 1) s.plants.counted
    number_same (AddCompetitive plant declared internal) = ap (λ n. n + 1) s.competitive.count
    number_same (AddGuaranteed plant declared seasonal internal feeds) = ap (λ n. n + 1) s.guaranteed.count
    number_same (Correct group unit declared) = refl
    number_same (PutAside group unit) = refl
    number_same (TakeBack group unit) = refl
    number_same (AddBuyer loss) = ap (λ n. n + 1) s.buyers.counted
    number_same (Commit plant buyer volume) = ap (λ n. n + 1) s.commitments.counted

-- any readings keep what was entered and what closing found, and the table holds the last accepted ones
pub readings_stand : (rs : List Reading) (h : List Entry) (t : Table) → Stands h t → Stands h (after_readings rs t)
readings_stand [] h t s = s
readings_stand (r ∷ rs) h t s = readings_stand rs h (after_reading r t) (reading_stands r h t s)

pub readings_law : {O P : Type 0} (prices1 : O → ℕ → ℕ) (offers1 : List O) (prices2 : P → ℕ → ℕ) (offers2 : List P) (h : List Entry) (rs : List Reading) (t : Table) → ClosingLaw prices1 offers1 prices2 offers2 h t → ClosingLaw prices1 offers1 prices2 offers2 h (after_readings rs t)
readings_law prices1 offers1 prices2 offers2 h [] t law = law
readings_law prices1 offers1 prices2 offers2 h (r ∷ rs) t law =
    readings_law prices1 offers1 prices2 offers2 h rs (after_reading r t) (reading_law prices1 offers1 prices2 offers2 h t r law)

pub readings_metered : (more rs : List Reading) (h : List Entry) (t : Table) → Stands h t → Metered rs t → Metered (accepted_readings (view_in h) rs more) (after_readings more t)
readings_metered [] rs h t s m = m
readings_metered (r ∷ more) rs h t s m =
    readings_metered more (next_readings (view_in h) r rs) h (after_reading r t) (reading_stands r h t s)
    (subst (λ v. Metered (next_readings v r rs) (after_reading r t)) (view_same h t s) (reading_metered r rs t m))

-- readings keep what the rows see of a table
view_kept : (r : Reading) (t : Table) → view_of (after_reading r t) ≡ view_of t
view_kept r t = after_either (λ x. view_of x ≡ view_of t) r t refl (applied_view r)
  where
    applied_view : (x : Reading) → view_of (applied_reading x t) ≡ view_of t
    applied_view (Competitive unit reading) = refl
    applied_view (Guaranteed unit reading) = refl
    applied_view (Use buyer used) = refl

-- a table holds the last of the readings that its own view accepts
pub readings_metered_here : (more rs : List Reading) (t : Table) → Metered rs t → Metered (accepted_readings (view_of t) rs more) (after_readings more t)
readings_metered_here [] rs t m = m
readings_metered_here (r ∷ more) rs t m =
    subst (λ v. Metered (accepted_readings v (next_readings (view_of t) r rs) more) (after_readings more (after_reading r t))) (view_kept r t)
    (readings_metered_here more (next_readings (view_of t) r rs) (after_reading r t) (reading_metered r rs t m))

pub reading_answer_same : (r : Reading) (h : List Entry) (t : Table) → Stands h t → reading_answer r t ≡ reading_answer_in (view_in h) r
reading_answer_same r h t s = ap (λ v. unless (reading_rows v r) Err (Ok (reading_number r))) (view_same h t s)
