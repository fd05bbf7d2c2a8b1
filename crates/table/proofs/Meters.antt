-- After any reading the table holds the last accepted ones.
use Rattle.table.specs.Places.{unit_at}
use Rattle.std.proofs.Common.{◌≡◌, ℕ, ◌+◌, ◌-◌, ◌<◌, ◌≤◌, min, cond, eqb, List, ◌∷◌, length, get_or, set, Some, None, Option, sym, refl, ap, ◌∙◌, subst, ⊎_elim, arith}
use Rattle.std.proofs.lemmas.List.{get_or-set_same, get_or-set_other, length-set}
use Rattle.std.proofs.lemmas.Bool.{cases_eq, eq-eqb, ne_eqb, cond-true, cond-false}
use Rattle.table.proofs.Standing.{no_row, there}
use Rattle.table.specs.Effects.{unless}
use Rattle.table.specs.Entries.{view_of}
use Rattle.table.specs.Metered.{last_competitive, last_guaranteed, last_use, next_readings, Metered}
use Rattle.table.specs.Readings.{reading_rows, applied_reading, after_reading}
use Rattle.table.specs.Rows.{new_buyer, new_unit, read_use, with_reading, kept_reading}
use Rattle.table.specs.declared.readings.Reading.{Reading}
use Rattle.table.specs.declared.readings.Reading.TheVariants.{Competitive, Guaranteed, Use}
use Rattle.table.specs.declared.records.Buyer.{Buyer}
use Rattle.table.specs.declared.records.Table.{Table}
use Rattle.table.specs.declared.records.UnitRecord.{UnitRecord}
use Rattle.table.specs.declared.refusals.BookRefusal.{BookRefusal}

-- the row of a number written, and read by number
row_written : {X Y : Type 0} (rows : List X) (number n : ℕ) (x d : X) (f : X → Y) (last : ℕ → Y) → length rows ≡ n → 1 ≤ number → ((i : ℕ) → i < n → f (get_or rows i d) ≡ last (i + 1)) → (i : ℕ) → i < n → f (get_or (set rows (number - 1) x) i d) ≡ cond (eqb (i + 1) number) (f x) (last (i + 1))
row_written rows number n x d f last long low each i lt =
    ⊎_elim
    (λ (here : i + 1 ≡ number).
    let at : number - 1 ≡ i = omega arith in
    ap (λ k. f (get_or (set rows k x) i d)) at ∙ ap f (get_or-set_same rows i x d (omega arith)) ∙ sym (cond-true _ _ _ (eq-eqb (i + 1) number here)))
    (λ (other : i + 1 ≡ number → ⊥).
    ap f (get_or-set_other rows (number - 1) i x d (λ same. other (omega arith))) ∙ each i lt ∙ sym (cond-false _ _ _ (ne_eqb (i + 1) number other)))
    (cases_eq (i + 1) number)

applied_metered : (r : Reading) (rs : List Reading) (t : Table) → Metered rs t → reading_rows (view_of t) r ≡ None → Metered (r ∷ rs) (applied_reading r t)
applied_metered (Competitive unit reading) rs t m ok =
    let at = there unit (min t.competitive.count 128) (no_row _ _ _ ok).0 in
    record {
      competitive_long = length-set t.competitive.rows (unit - 1) _ ∙ m.competitive_long;
      guaranteed_long = m.guaranteed_long;
      buyers_long = m.buyers_long;
      competitive = row_written t.competitive.rows unit 128 (with_reading reading (unit_at t.competitive (unit - 1))) (new_unit 0 0 None 0 0) (λ (u : UnitRecord). u.reading) (λ k. last_competitive k rs) m.competitive_long at.0 m.competitive;
      guaranteed = m.guaranteed;
      uses = m.uses;
    }
applied_metered (Guaranteed unit reading) rs t m ok =
    let at = there unit (min t.guaranteed.count 128) (no_row _ _ _ ok).0 in
    record {
      competitive_long = m.competitive_long;
      guaranteed_long = length-set t.guaranteed.rows (unit - 1) _ ∙ m.guaranteed_long;
      buyers_long = m.buyers_long;
      competitive = m.competitive;
      guaranteed = row_written t.guaranteed.rows unit 128 (with_reading (kept_reading reading) (unit_at t.guaranteed (unit - 1))) (new_unit 0 0 None 0 0) (λ (u : UnitRecord). u.reading) (λ k. last_guaranteed k rs) m.guaranteed_long at.0 m.guaranteed;
      uses = m.uses;
    }
applied_metered (Use buyer used) rs t m ok =
    let at = there buyer (min t.buyers.count 64) (no_row _ _ _ ok).0 in
    record {
      competitive_long = m.competitive_long;
      guaranteed_long = m.guaranteed_long;
      buyers_long = length-set t.buyers.rows (buyer - 1) _ ∙ m.buyers_long;
      competitive = m.competitive;
      guaranteed = m.guaranteed;
      uses = row_written t.buyers.rows buyer 64 (read_use used (get_or t.buyers.rows (buyer - 1) (new_buyer 0))) (new_buyer 0) (λ (b : Buyer). b.used) (λ k. last_use k rs) m.buyers_long at.0 m.uses;
    }

-- after any reading, accepted or refused, the table holds the last accepted ones
pub reading_metered : (r : Reading) (rs : List Reading) (t : Table) → Metered rs t → Metered (next_readings (view_of t) r rs) (after_reading r t)
reading_metered r rs t m = by_row (reading_rows (view_of t) r) refl
  where
    by_row : (x : Option BookRefusal) → reading_rows (view_of t) r ≡ x → Metered (next_readings (view_of t) r rs) (after_reading r t)
    by_row None found =
        subst (λ x. Metered (unless x (λ _. rs) (r ∷ rs)) (unless x (λ _. t) (applied_reading r t))) (sym found) (applied_metered r rs t m found)
    by_row (Some refusal) found =
        subst (λ x. Metered (unless x (λ _. rs) (r ∷ rs)) (unless x (λ _. t) (applied_reading r t))) (sym found) m
