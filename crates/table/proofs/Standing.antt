-- A table goes on standing for the history of its accepted entries.
use Rattle.table.specs.Places.{unit_at}
use Rattle.std.proofs.Common.{◌≡◌, ℕ, zero, suc, ◌+◌, ◌-◌, ◌<◌, ◌≤◌, min, Bool, true, false, cond, ◌&&◌, ◌||◌, eqb, ltb, leb, List, [], ◌∷◌, ◌++◌, length, get_or, set, Some, None, Option, sym, refl, ap, ◌∙◌, subst, ◌⊎◌, ⊎_elim, arith, length-append}
use Rattle.std.proofs.lemmas.List.{get_or-set_same, get_or-set_other, length-set, take_more_set}
use Rattle.std.proofs.lemmas.Bool.{cases_eq, eq-eqb, ne_eqb, cond-true, cond-false, leb-false, ltb-false, eqb-false, or_parts, true≢false}
use Rattle.table.proofs.Sold.{sold_push, sold_of}
use Rattle.table.proofs.Views.{rows_same}
use Rattle.table.specs.Closing.{terms_of}
use Rattle.table.specs.Effects.{in_group, applied, after_entry, unless}
use Rattle.table.specs.Entries.{lacks, lacks_unit, rows, view_of, sold_by, sold_at}
use Rattle.table.specs.History.{adds_plant, adds_unit, adds_buyer, plants_in, units_in, buyers_in, commitments_of, loss_in, buyer_loss_in, unit_in, UnitsStand, PlantsStand, BuyersStand, CommitmentsStand, SoldStands, sold_in, Stands, view_in, next_history}
use Rattle.table.specs.Rows.{UnitTable, new_plant, new_buyer, new_unit, next_unit, added, changed, corrected, moved}
use Rattle.table.specs.declared.entries.Entry.{Entry}
use Rattle.table.specs.declared.entries.Entry.TheVariants.{AddPlant, AddCompetitive, AddGuaranteed, Correct, PutAside, TakeBack, AddBuyer, Commit}
use Rattle.table.specs.declared.records.Buyer.{Buyer}
use Rattle.table.specs.declared.records.Commitment.{Commitment}
use Rattle.table.specs.declared.records.Plant.{Plant}
use Rattle.table.specs.declared.records.Table.{Table}
use Rattle.table.specs.declared.records.UnitRecord.{UnitRecord}
use Rattle.table.specs.declared.refusals.BookRefusal.{BookRefusal}
use Rattle.table.specs.declared.refusals.BookRefusal.TheVariants.{NoPlant, NoBuyer, Full, Energy, Commitments}

-- where no row turns an entry down, the first doesn't, and none after it does
pub no_row : (b : Bool) (r : BookRefusal) (rest : Option BookRefusal) → cond b (Some r) rest ≡ None → (b ≡ false) × (rest ≡ None)
no_row true r rest e = absurd (let z : ◌≡◌ {A = ℕ} 0 1 = cc in omega arith)
no_row false r rest e = (refl, e)

-- rows that an entry leaves alone
pub plants_stay : (e : Entry) (h : List Entry) (count : ℕ) (rows : List Plant) → adds_plant e ≡ 0 → ((i : ℕ) → loss_in i (e ∷ h) ≡ loss_in i h) → PlantsStand h count rows → PlantsStand (e ∷ h) count rows
plants_stay e h count rows none same s = record {
  room = omega (arith, s.room);
  long = s.long;
  counted = omega (arith, s.counted);
  rows = λ i lt. s.rows i (omega arith) ∙ sym (same (i + 1));
}

pub buyers_stay : (e : Entry) (h : List Entry) (count : ℕ) (rows : List Buyer) → adds_buyer e ≡ 0 → ((i : ℕ) → buyer_loss_in i (e ∷ h) ≡ buyer_loss_in i h) → BuyersStand h count rows → BuyersStand (e ∷ h) count rows
buyers_stay e h count rows none same s = record {
  room = omega (arith, s.room);
  long = s.long;
  counted = omega (arith, s.counted);
  rows = λ i lt. s.rows i (omega arith) ∙ sym (same (i + 1));
}

pub commitments_stay : (e : Entry) (h : List Entry) (count : ℕ) (rows : List Commitment) → commitments_of (e ∷ h) ≡ commitments_of h → CommitmentsStand h count rows → CommitmentsStand (e ∷ h) count rows
commitments_stay e h count rows same s =
    let number : length (commitments_of (e ∷ h)) ≡ length (commitments_of h) = ap length same in
    record {
      room = omega (arith, s.room);
      long = s.long;
      counted = omega (arith, s.counted);
      rows = s.rows ∙ sym same;
    }

pub sold_stay : (e : Entry) (h : List Entry) (sold : List ℕ) → commitments_of (e ∷ h) ≡ commitments_of h → SoldStands h sold → SoldStands (e ∷ h) sold
sold_stay e h sold same s = record {
  long = s.long;
  sums = λ p. s.sums p ∙ sym (ap (sold_by p) same);
}

pub units_stay : (g : ℕ) (e : Entry) (h : List Entry) (t : UnitTable) → adds_unit g e ≡ 0 → ((i : ℕ) → unit_in g i (e ∷ h) ≡ unit_in g i h) → UnitsStand g h t → UnitsStand g (e ∷ h) t
units_stay g e h t none same s = record {
  room = omega (arith, s.room);
  long = s.long;
  count = omega (arith, s.count);
  rows = λ i lt. s.rows i (omega arith) ∙ sym (same (i + 1));
}

-- one row more at the end of those that are entered, by what is seen of each
one_more : {X Y : Type 0} (see : X → Y) (rows : List X) (n : ℕ) (x d : X) (f f' : ℕ → Y) → n < length rows → ((i : ℕ) → i < n → see (get_or rows i d) ≡ f i) → ((i : ℕ) → i < n → f' i ≡ f i) → f' n ≡ see x → (i : ℕ) → i < n + 1 → see (get_or (set rows n x) i d) ≡ f' i
one_more see rows n x d f f' room each same last i lt =
    ⊎_elim
    (λ (here : i ≡ n). subst (λ k. see (get_or (set rows n x) k d) ≡ f' k) (sym here) (ap see (get_or-set_same rows n x d room) ∙ sym last))
    (λ (other : i ≡ n → ⊥). ap see (get_or-set_other rows n i x d other) ∙ each i (omega arith) ∙ sym (same i (omega arith)))
    (cases_eq i n)

-- a unit more in a group
pub units_add : (g : ℕ) (e : Entry) (h : List Entry) (t : UnitTable) (u : UnitRecord) → t.count < 128 → adds_unit g e ≡ 1 → ((i : ℕ) → unit_in g i (e ∷ h) ≡ cond (eqb i (units_in g h + 1)) (terms_of u) (unit_in g i h)) → UnitsStand g h t → UnitsStand g (e ∷ h) (added u t)
units_add g e h t u room one entered s =
    let at : t.count ≡ units_in g h = s.count in
    record {
      room = omega (arith, s.count);
      long = length-set t.rows t.count u ∙ s.long;
      count = omega (arith, s.count);
      rows = λ i lt. one_more terms_of t.rows t.count u (new_unit 0 0 None 0 0) (λ k. unit_in g (k + 1) h) (λ k. unit_in g (k + 1) (e ∷ h))
          (omega (arith, s.long)) (λ k below. s.rows k (omega arith))
          (λ k below. entered (k + 1) ∙ cond-false _ _ _ (ne_eqb (k + 1) (units_in g h + 1) (λ same. omega arith)))
          (entered (t.count + 1) ∙ cond-true _ _ _ (eq-eqb (t.count + 1) (units_in g h + 1) (omega arith)))
          i (omega arith);
    }

-- one unit changed
pub units_change : (g : ℕ) (e : Entry) (h : List Entry) (t : UnitTable) (unit : ℕ) (f : UnitRecord → UnitRecord) → ((u : UnitRecord) → terms_of (f u) ≡ f (terms_of u)) → 1 ≤ unit → unit ≤ units_in g h → adds_unit g e ≡ 0 → ((i : ℕ) → unit_in g i (e ∷ h) ≡ cond (eqb i unit) (f (unit_in g i h)) (unit_in g i h)) → UnitsStand g h t → UnitsStand g (e ∷ h) (changed f unit t)
units_change g e h t unit f terms low high none entered s = record {
  room = omega (arith, s.room);
  long = length-set t.rows (unit - 1) _ ∙ s.long;
  count = omega (arith, s.count);
  rows = λ i lt. ⊎_elim
      (λ (here : i ≡ unit - 1).
      let room : unit - 1 < length t.rows = omega (arith, s.long, s.room) in
      let number : unit - 1 + 1 ≡ unit = omega arith in
      subst (λ k. terms_of (get_or (set t.rows (unit - 1) (f (unit_at t (unit - 1)))) k (new_unit 0 0 None 0 0)) ≡ unit_in g (k + 1) (e ∷ h)) (sym here)
      (ap terms_of (get_or-set_same t.rows (unit - 1) _ _ room) ∙ terms (unit_at t (unit - 1)) ∙ ap f (s.rows (unit - 1) (omega arith))
      ∙ sym (entered (unit - 1 + 1) ∙ cond-true _ _ _ (eq-eqb _ _ number))))
      (λ (other : i ≡ unit - 1 → ⊥).
      ap terms_of (get_or-set_other t.rows (unit - 1) i _ _ other) ∙ s.rows i (omega arith)
      ∙ sym (entered (i + 1) ∙ cond-false _ _ _ (ne_eqb (i + 1) unit (λ same. other (omega arith)))))
      (cases_eq i (unit - 1));
}

-- a plant, a buyer and a commitment more
pub plants_add : (loss : ℕ) (h : List Entry) (count : ℕ) (rows : List Plant) → count < 32 → PlantsStand h count rows → PlantsStand (AddPlant loss ∷ h) (count + 1) (set rows count (new_plant loss))
plants_add loss h count rows room s =
    let at : count ≡ plants_in h = s.counted in
    record {
      room = omega (arith, s.counted);
      long = length-set rows count (new_plant loss) ∙ s.long;
      counted = omega (arith, s.counted);
      rows = λ i lt. one_more (λ (x : Plant). x.loss) rows count (new_plant loss) (new_plant 0) (λ k. loss_in (k + 1) h) (λ k. loss_in (k + 1) (AddPlant loss ∷ h))
          (omega (arith, s.long)) (λ k below. s.rows k (omega arith))
          (λ k below. cond-false _ _ _ (ne_eqb (k + 1) (plants_in h + 1) (λ same. omega arith)))
          (cond-true _ _ _ (eq-eqb (count + 1) (plants_in h + 1) (omega arith)))
          i (omega arith);
    }

pub buyers_add : (loss : ℕ) (h : List Entry) (count : ℕ) (rows : List Buyer) → count < 64 → BuyersStand h count rows → BuyersStand (AddBuyer loss ∷ h) (count + 1) (set rows count (new_buyer loss))
buyers_add loss h count rows room s =
    let at : count ≡ buyers_in h = s.counted in
    record {
      room = omega (arith, s.counted);
      long = length-set rows count (new_buyer loss) ∙ s.long;
      counted = omega (arith, s.counted);
      rows = λ i lt. one_more (λ (x : Buyer). x.loss) rows count (new_buyer loss) (new_buyer 0) (λ k. buyer_loss_in (k + 1) h) (λ k. buyer_loss_in (k + 1) (AddBuyer loss ∷ h))
          (omega (arith, s.long)) (λ k below. s.rows k (omega arith))
          (λ k below. cond-false _ _ _ (ne_eqb (k + 1) (buyers_in h + 1) (λ same. omega arith)))
          (cond-true _ _ _ (eq-eqb (count + 1) (buyers_in h + 1) (omega arith)))
          i (omega arith);
    }

pub commitments_add : (plant buyer volume : ℕ) (h : List Entry) (count : ℕ) (rows : List Commitment) → count < 768 → CommitmentsStand h count rows → CommitmentsStand (Commit plant buyer volume ∷ h) (count + 1) (set rows count (record { plant = plant; buyer = buyer; volume = volume }))
commitments_add plant buyer volume h count rows room s =
    let c : Commitment = record { plant = plant; buyer = buyer; volume = volume } in
    let number : length (commitments_of h ++ (c ∷ [])) ≡ length (commitments_of h) + 1 = length-append (commitments_of h) (c ∷ []) in
    record {
      room = omega (arith, number, s.counted);
      long = length-set rows count c ∙ s.long;
      counted = omega (arith, number, s.counted);
      rows = take_more_set rows count c (omega (arith, s.long)) ∙ ap (λ l. l ++ (c ∷ [])) s.rows;
    }

-- the number of a row that is there
pub there : (number count : ℕ) → lacks number count ≡ false → (1 ≤ number) × (number ≤ count)
there number count e =
    let parts = or_parts (eqb number 0) (ltb count number) e in
    (omega (arith, eqb-false number 0 parts.0), ltb-false count number parts.1)

-- what a plant has sold grows by the commitment's volume, and that of the others stays
pub sold_add : (plant buyer volume : ℕ) (h : List Entry) (sold : List ℕ) → 1 ≤ plant → plant ≤ 32 → SoldStands h sold → SoldStands (Commit plant buyer volume ∷ h) (set sold (plant - 1) (get_or sold (plant - 1) 0 + volume))
sold_add plant buyer volume h sold low high s =
    let c : Commitment = record { plant = plant; buyer = buyer; volume = volume } in
    record {
      long = length-set sold (plant - 1) _ ∙ s.long;
      sums = λ p. each p (sold_push p (commitments_of h) c) (cases_eq p plant);
    }
  where
    each : (p : ℕ) → sold_in p (Commit plant buyer volume ∷ h) ≡ sold_in p h + cond (eqb plant p) volume 0 → (p ≡ plant) ⊎ (p ≡ plant → ⊥) → sold_at (set sold (plant - 1) (get_or sold (plant - 1) 0 + volume)) p ≡ sold_in p (Commit plant buyer volume ∷ h)
    each zero more same =
        let none : cond (eqb plant 0) volume 0 ≡ 0 = cond-false _ _ _ (ne_eqb plant 0 (λ e. omega arith)) in
        omega (arith, more, none, s.sums 0)
    each (suc p) more same = ⊎_elim
        (λ (here : suc p ≡ plant).
        let place : p ≡ plant - 1 = omega arith in
        let own : cond (eqb plant (suc p)) volume 0 ≡ volume = cond-true _ _ _ (eq-eqb plant (suc p) (sym here)) in
        let wrote : get_or (set sold (plant - 1) (get_or sold (plant - 1) 0 + volume)) p 0 ≡ get_or sold p 0 + volume =
        subst (λ k. get_or (set sold (plant - 1) (get_or sold (plant - 1) 0 + volume)) k 0 ≡ get_or sold k 0 + volume) (sym place)
        (get_or-set_same sold (plant - 1) _ 0 (omega (arith, s.long))) in
        omega (arith, more, own, wrote, sold_of sold p, sold_of (set sold (plant - 1) (get_or sold (plant - 1) 0 + volume)) p, s.sums (suc p)))
        (λ (other : suc p ≡ plant → ⊥).
        let none : cond (eqb plant (suc p)) volume 0 ≡ 0 = cond-false _ _ _ (ne_eqb plant (suc p) (λ e. other (sym e))) in
        let kept : get_or (set sold (plant - 1) (get_or sold (plant - 1) 0 + volume)) p 0 ≡ get_or sold p 0 =
        get_or-set_other sold (plant - 1) p _ 0 (λ e. other (omega arith)) in
        omega (arith, more, none, kept, sold_of sold p, sold_of (set sold (plant - 1) (get_or sold (plant - 1) 0 + volume)) p, s.sums (suc p)))
        same

module _ (e : Entry) (group unit : ℕ) (f : UnitRecord → UnitRecord) (h : List Entry) (t : Table) (s : Stands h t) (no-plant : adds_plant e ≡ 0) (no-unit : (g : ℕ) → adds_unit g e ≡ 0) (no-buyer : adds_buyer e ≡ 0) (kept : commitments_of (e ∷ h) ≡ commitments_of h) (losses : (i : ℕ) → loss_in i (e ∷ h) ≡ loss_in i h) (buyer-losses : (i : ℕ) → buyer_loss_in i (e ∷ h) ≡ buyer_loss_in i h) (terms : (u : UnitRecord) → terms_of (f u) ≡ f (terms_of u)) (units : (g i : ℕ) → unit_in g i (e ∷ h) ≡ cond (eqb g group && eqb i unit) (f (unit_in g i h)) (unit_in g i h)) where
  in_group_lem : (g i : ℕ) → g ≡ group → unit_in g i (e ∷ h) ≡ cond (eqb i unit) (f (unit_in g i h)) (unit_in g i h)
  in_group_lem g i same = units g i ∙ ap (λ b. cond (b && eqb i unit) (f (unit_in g i h)) (unit_in g i h)) (eq-eqb g group same)

  off_group : (g i : ℕ) → (g ≡ group → ⊥) → unit_in g i (e ∷ h) ≡ unit_in g i h
  off_group g i other = units g i ∙ ap (λ b. cond (b && eqb i unit) (f (unit_in g i h)) (unit_in g i h)) (ne_eqb g group other)

  -- one unit of a group changes, and the table stands for the longer history
  pub change_stands : lacks_unit (view_of t) group unit ≡ false → Stands (e ∷ h) (in_group group (changed f unit) t)
  change_stands found =
      ⊎_elim
      (λ (one : group ≡ 1).
      let at = there unit (min t.competitive.count 128) (sym (cond-true _ _ _ (eq-eqb group 1 one)) ∙ found) in
      subst (Stands (e ∷ h)) (sym (cond-true _ _ _ (eq-eqb group 1 one))) record {
        plants = plants_stay e h _ _ no-plant losses s.plants;
        competitive = units_change 1 e h t.competitive unit f terms at.0 (omega (arith, at.1, s.competitive.count)) (no-unit 1) (λ i. in_group_lem 1 i (sym one)) s.competitive;
        guaranteed = units_stay 2 e h t.guaranteed (no-unit 2) (λ i. off_group 2 i (λ same. omega arith)) s.guaranteed;
        buyers = buyers_stay e h _ _ no-buyer buyer-losses s.buyers;
        commitments = commitments_stay e h _ _ kept s.commitments;
        sold = sold_stay e h _ kept s.sold;
      })
      (λ (not-one : group ≡ 1 → ⊥). ⊎_elim
      (λ (two : group ≡ 2).
      let at = there unit (min t.guaranteed.count 128) (sym (cond-false _ _ _ (ne_eqb group 1 not-one) ∙ cond-true _ _ _ (eq-eqb group 2 two)) ∙ found) in
      subst (Stands (e ∷ h)) (sym (cond-false _ _ _ (ne_eqb group 1 not-one))) record {
        plants = plants_stay e h _ _ no-plant losses s.plants;
        competitive = units_stay 1 e h t.competitive (no-unit 1) (λ i. off_group 1 i (λ same. omega arith)) s.competitive;
        guaranteed = units_change 2 e h t.guaranteed unit f terms at.0 (omega (arith, at.1, s.guaranteed.count)) (no-unit 2) (λ i. in_group_lem 2 i (sym two)) s.guaranteed;
        buyers = buyers_stay e h _ _ no-buyer buyer-losses s.buyers;
        commitments = commitments_stay e h _ _ kept s.commitments;
        sold = sold_stay e h _ kept s.sold;
      })
      (λ (neither : group ≡ 2 → ⊥). absurd (true≢false (sym (cond-false _ _ _ (ne_eqb group 1 not-one) ∙ cond-false _ _ _ (ne_eqb group 2 neither)) ∙ found)))
      (cases_eq group 2))
      (cases_eq group 1)

-- an accepted entry leads to a table that stands for the longer history
pub applied_stands : (e : Entry) (h : List Entry) (t : Table) → Stands h t → rows (view_of t) e ≡ None → Stands (e ∷ h) (applied e t)
applied_stands (AddPlant loss) h t s ok =
    let fits = leb-false 32 (min t.plants.count 32) (no_row _ _ _ ok).0 in
    record {
      plants = plants_add loss h t.plants.count t.plants.rows (omega arith) s.plants;
      competitive = units_stay 1 (AddPlant loss) h t.competitive refl (λ i. refl) s.competitive;
      guaranteed = units_stay 2 (AddPlant loss) h t.guaranteed refl (λ i. refl) s.guaranteed;
      buyers = buyers_stay (AddPlant loss) h _ _ refl (λ i. refl) s.buyers;
      commitments = commitments_stay (AddPlant loss) h _ _ refl s.commitments;
      sold = sold_stay (AddPlant loss) h _ refl s.sold;
    }
applied_stands (AddCompetitive plant declared internal) h t s ok =
    let e = AddCompetitive plant declared internal in
    let fits = leb-false 128 (min t.competitive.count 128) (no_row _ _ _ (no_row _ _ _ ok).1).0 in
    record {
      plants = plants_stay e h _ _ refl (λ i. refl) s.plants;
      competitive = units_add 1 e h t.competitive (next_unit (new_unit plant declared None internal 0) t.competitive) (omega arith) refl (λ i. refl) s.competitive;
      guaranteed = units_stay 2 e h t.guaranteed refl (λ i. refl) s.guaranteed;
      buyers = buyers_stay e h _ _ refl (λ i. refl) s.buyers;
      commitments = commitments_stay e h _ _ refl s.commitments;
      sold = sold_stay e h _ refl s.sold;
    }
applied_stands (AddGuaranteed plant declared seasonal internal feeds) h t s ok =
    let e = AddGuaranteed plant declared seasonal internal feeds in
    let fits = leb-false 128 (min t.guaranteed.count 128) (no_row _ _ _ (no_row _ _ _ ok).1).0 in
    record {
      plants = plants_stay e h _ _ refl (λ i. refl) s.plants;
      competitive = units_stay 1 e h t.competitive refl (λ i. refl) s.competitive;
      guaranteed = units_add 2 e h t.guaranteed (next_unit (new_unit plant declared (Some seasonal) internal feeds) t.guaranteed) (omega arith) refl (λ i. refl) s.guaranteed;
      buyers = buyers_stay e h _ _ refl (λ i. refl) s.buyers;
      commitments = commitments_stay e h _ _ refl s.commitments;
      sold = sold_stay e h _ refl s.sold;
    }
applied_stands (Correct group unit declared) h t s ok =
    change_stands (Correct group unit declared) group unit (corrected declared) h t s refl (λ g. refl) refl refl (λ i. refl) (λ i. refl) (λ u. refl) (λ g i. refl) (no_row _ _ _ ok).0
applied_stands (PutAside group unit) h t s ok =
    change_stands (PutAside group unit) group unit (moved true) h t s refl (λ g. refl) refl refl (λ i. refl) (λ i. refl) (λ u. refl) (λ g i. refl) (no_row _ _ _ ok).0
applied_stands (TakeBack group unit) h t s ok =
    change_stands (TakeBack group unit) group unit (moved false) h t s refl (λ g. refl) refl refl (λ i. refl) (λ i. refl) (λ u. refl) (λ g i. refl) (no_row _ _ _ ok).0
applied_stands (AddBuyer loss) h t s ok =
    let fits = leb-false 64 (min t.buyers.count 64) (no_row _ _ _ ok).0 in
    record {
      plants = plants_stay (AddBuyer loss) h _ _ refl (λ i. refl) s.plants;
      competitive = units_stay 1 (AddBuyer loss) h t.competitive refl (λ i. refl) s.competitive;
      guaranteed = units_stay 2 (AddBuyer loss) h t.guaranteed refl (λ i. refl) s.guaranteed;
      buyers = buyers_add loss h t.buyers.count t.buyers.rows (omega arith) s.buyers;
      commitments = commitments_stay (AddBuyer loss) h _ _ refl s.commitments;
      sold = sold_stay (AddBuyer loss) h _ refl s.sold;
    }
applied_stands (Commit plant buyer volume) h t s ok =
    let e = Commit plant buyer volume in
    let limited : Option BookRefusal = cond (eqb volume 0 || ltb 20000000 volume) (Some Energy) (cond (ltb 20000000 ((view_of t).sold plant + volume)) (Some Commitments) None) in
    let roomy : Option BookRefusal = cond (leb 768 (view_of t).commitments) (Some Full) limited in
    let known = no_row (lacks plant (view_of t).plants) NoPlant (cond (lacks buyer (view_of t).buyers) (Some NoBuyer) roomy) ok in
    let plant-there = there plant (min t.plants.count 32) known.0 in
    let bought = no_row (lacks buyer (view_of t).buyers) NoBuyer roomy known.1 in
    let fits = leb-false 768 (min t.commitments.count 768) (no_row (leb 768 (view_of t).commitments) Full limited bought.1).0 in
    record {
      plants = plants_stay e h _ _ refl (λ i. refl) s.plants;
      competitive = units_stay 1 e h t.competitive refl (λ i. refl) s.competitive;
      guaranteed = units_stay 2 e h t.guaranteed refl (λ i. refl) s.guaranteed;
      buyers = buyers_stay e h _ _ refl (λ i. refl) s.buyers;
      commitments = commitments_add plant buyer volume h t.commitments.count t.commitments.rows (omega arith) s.commitments;
      sold = sold_add plant buyer volume h t.sold plant-there.0 (omega (arith, plant-there.1)) s.sold;
    }

-- after any entry, accepted or refused, the table stands for the history of the accepted
pub entry_stands : (e : Entry) (h : List Entry) (t : Table) → Stands h t → Stands (next_history e h) (after_entry e t)
entry_stands e h t s = by_row (rows (view_of t) e) refl
  where
    same : (r : Option BookRefusal) → rows (view_of t) e ≡ r → rows (view_in h) e ≡ r
    same r found = sym (rows_same e h t s) ∙ found

    by_row : (r : Option BookRefusal) → rows (view_of t) e ≡ r → Stands (next_history e h) (after_entry e t)
    by_row None found =
        subst (λ x. Stands (unless x (λ _. h) (e ∷ h)) (after_entry e t)) (sym (same None found))
        (subst (λ x. Stands (e ∷ h) (unless x (λ _. t) (applied e t))) (sym found) (applied_stands e h t s found))
    by_row (Some refusal) found =
        subst (λ x. Stands (unless x (λ _. h) (e ∷ h)) (after_entry e t)) (sym (same (Some refusal) found))
        (subst (λ x. Stands h (unless x (λ _. t) (applied e t))) (sym found) s)
