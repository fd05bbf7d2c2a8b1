-- What closing, readings and entries leave as it was.
use Rattle.table.specs.Places.{unit_at}
use Rattle.std.proofs.Common.{◌≡◌, ℕ, ◌+◌, ◌-◌, ◌<◌, ◌≤◌, true, false, cond, ◌&&◌, eqb, ltb, List, [], length, get_or, set, Some, None, Option, sym, refl, ap, ◌∙◌, subst, ⊎_elim, arith}
use mathlib.Core.Path.{fun_ext}
use Rattle.std.proofs.lemmas.List.{get_or-set_same, get_or-set_other, get_or_past, length-set}
use Rattle.std.proofs.lemmas.Bool.{cases_eq, cases_lt, cond_both}
use Rattle.allocation.specs.Groups.{Group, total}
use Rattle.allocation.specs.Laws.{Split}
use Rattle.table.specs.Closing.{terms_of, SameUnits, Closed}
use Rattle.table.specs.ClosingLaw.{group_in, share_one_in, share_two_in, amount_in, PlantLawOf, ClosingLaw}
use Rattle.table.specs.Effects.{unless, in_group, applied, after_entry, with_competitive, with_guaranteed}
use Rattle.table.specs.Entries.{rows, view_of}
use Rattle.table.specs.History.{units_in, unit_in, sold_in, BuyersStand, CommitmentsStand, SoldStands, UnitsStand, Stands}
use Rattle.table.specs.Metered.{Metered}
use Rattle.table.specs.Readings.{reading_rows, applied_reading, after_reading}
use Rattle.table.specs.Rows.{UnitTable, new_unit, next_unit, new_buyer, read_use, changed, corrected, moved, with_reading, read_unit, kept_reading}
use Rattle.table.specs.declared.entries.Entry.{Entry}
use Rattle.table.specs.declared.entries.Entry.TheVariants.{AddPlant, AddCompetitive, AddGuaranteed, Correct, PutAside, TakeBack, AddBuyer, Commit}
use Rattle.table.specs.declared.readings.Reading.{Reading}
use Rattle.table.specs.declared.readings.Reading.TheVariants.{Competitive, Guaranteed, Use}
use Rattle.table.specs.declared.records.Buyer.{Buyer}
use Rattle.table.specs.declared.records.Plant.{Plant}
use Rattle.table.specs.declared.records.Table.{Table}
use Rattle.table.specs.declared.records.UnitReading.{UnitReading}
use Rattle.table.specs.declared.records.UnitRecord.{UnitRecord}
use Rattle.table.specs.declared.refusals.BookRefusal.{BookRefusal}

same_units : (g : ℕ) (h : List Entry) (before after : UnitTable) → SameUnits before after → UnitsStand g h before → UnitsStand g h after
same_units g h before after same s = record {
  room = s.room;
  long = same.long ∙ s.long;
  count = same.count ∙ s.count;
  rows = λ i lt. same.terms i ∙ s.rows i lt;
}

module _ {O P : Type 0} (prices1 : O → ℕ → ℕ) (offers1 : List O) (prices2 : P → ℕ → ℕ) (offers2 : List P) (t after : Table) (closed : Closed prices1 offers1 prices2 offers2 t after) where
  -- closing keeps what was entered
  pub closed_stands : (h : List Entry) → Stands h t → Stands h after
  closed_stands h s = record {
    plants = record {
      room = s.plants.room;
      long = closed.long ∙ s.plants.long;
      counted = ap (λ (x : Table). x.plants.count) closed.rest ∙ s.plants.counted;
      rows = λ i lt. ap (λ (p : Plant). p.loss) (closed.plants i (omega (arith, s.plants.counted, s.plants.room))).row ∙ s.plants.rows i lt;
    };
    competitive = same_units 1 h t.competitive after.competitive closed.same1 s.competitive;
    guaranteed = same_units 2 h t.guaranteed after.guaranteed closed.same2 s.guaranteed;
    buyers = subst (λ (x : Table). BuyersStand h x.buyers.count x.buyers.rows) (sym closed.rest) s.buyers;
    commitments = subst (λ (x : Table). CommitmentsStand h x.commitments.count x.commitments.rows) (sym closed.rest) s.commitments;
    sold = subst (λ (x : Table). SoldStands h x.sold) (sym closed.rest) s.sold;
  }

  -- closing keeps the readings
  pub closed_metered : (rs : List Reading) → Metered rs t → Metered rs after
  closed_metered rs m =
      let buyers : after.buyers.rows ≡ t.buyers.rows = ap (λ (x : Table). x.buyers.rows) closed.rest in
      record {
        competitive_long = closed.same1.long ∙ m.competitive_long;
        guaranteed_long = closed.same2.long ∙ m.guaranteed_long;
        buyers_long = ap length buyers ∙ m.buyers_long;
        competitive = λ i lt. closed.same1.readings i ∙ m.competitive i lt;
        guaranteed = λ i lt. closed.same2.readings i ∙ m.guaranteed i lt;
        uses = λ i lt. ap (λ l. (get_or l i (new_buyer 0)).used) buyers ∙ m.uses i lt;
      }

-- tables of the same units and buyers hold the same readings
metered_as : {rs : List Reading} (t after : Table) → after.competitive ≡ t.competitive → after.guaranteed ≡ t.guaranteed → after.buyers.rows ≡ t.buyers.rows → Metered rs t → Metered rs after
metered_as t after one two buyers m = record {
  competitive_long = ap (λ (u : UnitTable). length u.rows) one ∙ m.competitive_long;
  guaranteed_long = ap (λ (u : UnitTable). length u.rows) two ∙ m.guaranteed_long;
  buyers_long = ap length buyers ∙ m.buyers_long;
  competitive = λ i lt. ap (λ u. (unit_at u i).reading) one ∙ m.competitive i lt;
  guaranteed = λ i lt. ap (λ u. (unit_at u i).reading) two ∙ m.guaranteed i lt;
  uses = λ i lt. ap (λ l. (get_or l i (new_buyer 0)).used) buyers ∙ m.uses i lt;
}

-- what holds of a row that is written, and of those that were there, holds of each afterwards
set_either : {X : Type 0} (K : X → Type 0) (xs : List X) (k i : ℕ) (x d : X) → (i ≡ k → K x) → K (get_or xs i d) → K (get_or (set xs k x) i d)
set_either K xs k i x d written kept =
    ⊎_elim
    (λ (here : i ≡ k). ⊎_elim
    (λ (lt : i < length xs). subst K (sym (ap (λ m. get_or (set xs m x) i d) (sym here) ∙ get_or-set_same xs i x d lt)) (written here))
    (λ (past : length xs ≤ i).
    subst K (get_or_past xs i d past ∙ sym (get_or_past (set xs k x) i d (omega (arith, length-set xs k x)))) kept)
    (cases_lt i (length xs)))
    (λ (other : i ≡ k → ⊥). subst K (sym (get_or-set_other xs k i x d other)) kept)
    (cases_eq i k)

-- a buyer's reading keeps its loss
use-keeps : (buyers : List Buyer) (k used i : ℕ) → (get_or (set buyers k (read_use used (get_or buyers k (new_buyer 0)))) i (new_buyer 0)).loss ≡ (get_or buyers i (new_buyer 0)).loss
use-keeps buyers k used i =
    set_either (λ (b : Buyer). b.loss ≡ (get_or buyers i (new_buyer 0)).loss) buyers k i _ (new_buyer 0) (λ here. ap (λ m. (get_or buyers m (new_buyer 0)).loss) (sym here)) refl

-- what is seen of each unit after one of them is changed in a way that leaves it
change-keeps : {Y : Type 0} (see : UnitRecord → Y) (f : UnitRecord → UnitRecord) → ((u : UnitRecord) → see (f u) ≡ see u) → (unit : ℕ) (t : UnitTable) (i : ℕ) → see (unit_at (changed f unit t) i) ≡ see (unit_at t i)
change-keeps see f kept unit t i =
    set_either (λ (u : UnitRecord). see u ≡ see (unit_at t i)) t.rows (unit - 1) i _ (new_unit 0 0 None 0 0) (λ here. kept (unit_at t (unit - 1)) ∙ ap (λ m. see (unit_at t m)) (sym here)) refl

-- a unit's reading leaves what was entered
read_stands : (g : ℕ) (h : List Entry) (reading : UnitReading) (unit : ℕ) (t : UnitTable) → UnitsStand g h t → UnitsStand g h (read_unit reading unit t)
read_stands g h reading unit t s = record {
  room = s.room;
  long = length-set t.rows (unit - 1) _ ∙ s.long;
  count = s.count;
  rows = λ i lt. change-keeps terms_of (with_reading reading) (λ u. refl) unit t i ∙ s.rows i lt;
}

applied_reading_stands : (r : Reading) (h : List Entry) (t : Table) → Stands h t → Stands h (applied_reading r t)
applied_reading_stands (Competitive unit reading) h t s = record {
  plants = s.plants;
  competitive = read_stands 1 h reading unit t.competitive s.competitive;
  guaranteed = s.guaranteed;
  buyers = s.buyers;
  commitments = s.commitments;
  sold = s.sold;
}
applied_reading_stands (Guaranteed unit reading) h t s = record {
  plants = s.plants;
  competitive = s.competitive;
  guaranteed = read_stands 2 h (kept_reading reading) unit t.guaranteed s.guaranteed;
  buyers = s.buyers;
  commitments = s.commitments;
  sold = s.sold;
}
applied_reading_stands (Use buyer used) h t s = record {
  plants = s.plants;
  competitive = s.competitive;
  guaranteed = s.guaranteed;
  buyers = record {
    room = s.buyers.room;
    long = length-set t.buyers.rows (buyer - 1) _ ∙ s.buyers.long;
    counted = s.buyers.counted;
    rows = λ i lt. use-keeps t.buyers.rows (buyer - 1) used i ∙ s.buyers.rows i lt;
  };
  commitments = s.commitments;
  sold = s.sold;
}

-- what holds of a table and of it after an accepted reading holds after any reading
pub after_either : (K : Table → Type 0) (r : Reading) (t : Table) → K t → K (applied_reading r t) → K (after_reading r t)
after_either K r t stays goes = by_row (reading_rows (view_of t) r)
  where
    by_row : (x : Option BookRefusal) → K (unless x (λ _. t) (applied_reading r t))
    by_row None = goes
    by_row (Some refusal) = stays

-- a reading keeps what was entered
pub reading_stands : (r : Reading) (h : List Entry) (t : Table) → Stands h t → Stands h (after_reading r t)
reading_stands r h t s = after_either (Stands h) r t s (applied_reading_stands r h t s)

-- a reading leaves what is allocated
amounts_kept : (g plant : ℕ) (h : List Entry) (reading : UnitReading) (unit : ℕ) (t : UnitTable) → amount_in g plant h t ≡ amount_in g plant h (read_unit reading unit t)
amounts_kept g plant h reading unit t =
    fun_ext (λ i. ap (λ a. cond (ltb i (units_in g h) && eqb (unit_in g (i + 1) h).plant plant) a 0)
    (sym (change-keeps (λ (u : UnitRecord). u.figures.allocated) (with_reading reading) (λ u. refl) unit t i)))

module _ {O P : Type 0} (prices1 : O → ℕ → ℕ) (offers1 : List O) (prices2 : P → ℕ → ℕ) (offers2 : List P) (plant : ℕ) (h : List Entry) (t : Table) (l : PlantLawOf (sold_in plant h) prices1 offers1 prices2 offers2 plant h t) where
  abbrev group1 : Group
  group1 = group_in 1 prices1 offers1 plant h

  abbrev group2 : Group
  group2 = group_in 2 prices2 offers2 plant h

  applied_reading_law : (r : Reading) → PlantLawOf (sold_in plant h) prices1 offers1 prices2 offers2 plant h (applied_reading r t)
  applied_reading_law (Competitive unit reading) =
      let same = amounts_kept 1 plant h reading unit t.competitive in
      record {
        left1 = l.left1;
        left2 = l.left2;
        one = subst (λ a. Split group1 (share_one_in plant (length offers1) (length offers2) h) a l.left1) same l.one;
        two = l.two;
        committed = l.committed;
        run = l.run;
        allocated = l.allocated ∙ ap (λ a. total group1 a + total group2 (amount_in 2 plant h t.guaranteed)) same;
        covers = l.covers;
      }
  applied_reading_law (Guaranteed unit reading) =
      let same = amounts_kept 2 plant h (kept_reading reading) unit t.guaranteed in
      record {
        left1 = l.left1;
        left2 = l.left2;
        one = l.one;
        two = subst (λ a. Split group2 (share_two_in plant (length offers1) (length offers2) h) a l.left2) same l.two;
        committed = l.committed;
        run = l.run;
        allocated = l.allocated ∙ ap (λ a. total group1 (amount_in 1 plant h t.competitive) + total group2 a) same;
        covers = l.covers;
      }
  applied_reading_law (Use buyer used) = record {
    left1 = l.left1;
    left2 = l.left2;
    one = l.one;
    two = l.two;
    committed = l.committed;
    run = l.run;
    allocated = l.allocated;
    covers = l.covers;
  }

-- a reading keeps the law of a closed hour
pub reading_law : {O P : Type 0} (prices1 : O → ℕ → ℕ) (offers1 : List O) (prices2 : P → ℕ → ℕ) (offers2 : List P) (h : List Entry) (t : Table) (r : Reading) → ClosingLaw prices1 offers1 prices2 offers2 h t → ClosingLaw prices1 offers1 prices2 offers2 h (after_reading r t)
reading_law prices1 offers1 prices2 offers2 h t r law place lt =
    let l = law place lt in
    after_either (PlantLawOf (sold_in (place + 1) h) prices1 offers1 prices2 offers2 (place + 1) h) r t l (applied_reading_law prices1 offers1 prices2 offers2 (place + 1) h t l r)

-- entries leave every reading missing
new_unread : (buyers : List Buyer) (k loss i : ℕ) → (get_or buyers i (new_buyer 0)).used ≡ None → (get_or (set buyers k (new_buyer loss)) i (new_buyer 0)).used ≡ None
new_unread buyers k loss i none = set_either (λ (b : Buyer). b.used ≡ None) buyers k i (new_buyer loss) (new_buyer 0) (λ _. refl) none

changed_unread : (group unit : ℕ) (f : UnitRecord → UnitRecord) → ((u : UnitRecord) → (f u).reading ≡ u.reading) → (t : Table) → Metered [] t → Metered [] (in_group group (changed f unit) t)
changed_unread group unit f kept t m =
    cond_both (eqb group 1) (with_competitive (changed f unit t.competitive) t) (with_guaranteed (changed f unit t.guaranteed) t) (Metered []) (λ _. record {
      competitive_long = length-set t.competitive.rows (unit - 1) _ ∙ m.competitive_long;
      guaranteed_long = m.guaranteed_long;
      buyers_long = m.buyers_long;
      competitive = λ i lt. change-keeps (λ (u : UnitRecord). u.reading) f kept unit t.competitive i ∙ m.competitive i lt;
      guaranteed = m.guaranteed;
      uses = m.uses;
    }) (λ _. record {
      competitive_long = m.competitive_long;
      guaranteed_long = length-set t.guaranteed.rows (unit - 1) _ ∙ m.guaranteed_long;
      buyers_long = m.buyers_long;
      competitive = m.competitive;
      guaranteed = λ i lt. change-keeps (λ (u : UnitRecord). u.reading) f kept unit t.guaranteed i ∙ m.guaranteed i lt;
      uses = m.uses;
    })

-- no place of a group has a reading, past the rows either
unread_at : (t : UnitTable) (k : ℕ) → length t.rows ≡ 128 → ((i : ℕ) → i < 128 → (unit_at t i).reading ≡ None) → (unit_at t k).reading ≡ None
unread_at t k long unread =
    ⊎_elim (λ lt. unread k lt) (λ past. ap (λ (u : UnitRecord). u.reading) (get_or_past t.rows k _ (omega (arith, long)))) (cases_lt k 128)

-- a unit that is added has no reading where its place had none
added_unread : (units : List UnitRecord) (k i : ℕ) (new : UnitRecord) → new.reading ≡ None → (get_or units i (new_unit 0 0 None 0 0)).reading ≡ None → (get_or (set units k new) i (new_unit 0 0 None 0 0)).reading ≡ None
added_unread units k i new unread none =
    set_either (λ (u : UnitRecord). u.reading ≡ None) units k i new (new_unit 0 0 None 0 0) (λ _. unread) none

applied_unread : (e : Entry) (t : Table) → Metered [] t → Metered [] (applied e t)
applied_unread (AddPlant loss) t m = metered_as t _ refl refl refl m
applied_unread (AddCompetitive plant declared internal) t m = record {
  competitive_long = length-set t.competitive.rows t.competitive.count _ ∙ m.competitive_long;
  guaranteed_long = m.guaranteed_long;
  buyers_long = m.buyers_long;
  competitive = λ i lt. added_unread t.competitive.rows t.competitive.count i (next_unit (new_unit plant declared None internal 0) t.competitive) (unread_at t.competitive t.competitive.count m.competitive_long m.competitive) (m.competitive i lt);
  guaranteed = m.guaranteed;
  uses = m.uses;
}
applied_unread (AddGuaranteed plant declared seasonal internal feeds) t m = record {
  competitive_long = m.competitive_long;
  guaranteed_long = length-set t.guaranteed.rows t.guaranteed.count _ ∙ m.guaranteed_long;
  buyers_long = m.buyers_long;
  competitive = m.competitive;
  guaranteed = λ i lt. added_unread t.guaranteed.rows t.guaranteed.count i (next_unit (new_unit plant declared (Some seasonal) internal feeds) t.guaranteed) (unread_at t.guaranteed t.guaranteed.count m.guaranteed_long m.guaranteed) (m.guaranteed i lt);
  uses = m.uses;
}
applied_unread (Correct group unit declared) t m = changed_unread group unit (corrected declared) (λ u. refl) t m
applied_unread (PutAside group unit) t m = changed_unread group unit (moved true) (λ u. refl) t m
applied_unread (TakeBack group unit) t m = changed_unread group unit (moved false) (λ u. refl) t m
applied_unread (AddBuyer loss) t m = record {
  competitive_long = m.competitive_long;
  guaranteed_long = m.guaranteed_long;
  buyers_long = length-set t.buyers.rows t.buyers.count (new_buyer loss) ∙ m.buyers_long;
  competitive = m.competitive;
  guaranteed = m.guaranteed;
  uses = λ i lt. new_unread t.buyers.rows t.buyers.count loss i (m.uses i lt);
}
applied_unread (Commit plant buyer volume) t m = metered_as t _ refl refl refl m

pub entry_unread : (e : Entry) (t : Table) → Metered [] t → Metered [] (after_entry e t)
entry_unread e t m = by_row (rows (view_of t) e)
  where
    by_row : (x : Option BookRefusal) → Metered [] (unless x (λ _. t) (applied e t))
    by_row None = applied_unread e t m
    by_row (Some refusal) = m
