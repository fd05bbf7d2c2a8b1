-- Closing one plant after another.
use Rattle.table.specs.Places.{unit_at, plant_at}
use Rattle.std.proofs.Common.{◌≡◌, ℕ, zero, suc, ◌+◌, ◌-◌, ◌<◌, ◌≤◌, min, cond, eqb, ltb, List, length, get_or, take, set, None, sum_by, sym, refl, ap, ◌∙◌, subst, ⊎_elim, add-one, arith}
use mathlib.Core.Path.{fun_ext}
use Rattle.std.proofs.lemmas.Bool.{cases_eq, cases_lt, eq-eqb, ne_eqb, cond-true, cond-false, cond_both}
use Rattle.std.proofs.lemmas.List.{get_or-set_same, get_or-set_other, length-set, get_or_past, take_all}
use Rattle.std.proofs.lemmas.List.Sums.{sum_by_more}
use Rattle.allocation.specs.Groups.{Group, price_at, sum_of}
use Rattle.allocation.specs.Laws.{Split}
use Rattle.allocation.proofs.Sums.{sum_cong}
use Rattle.curves.specs.Limits.{read_energy}
use Rattle.table.specs.Closing.{counts, limit_in, declared_in, with_amount, allocated_to, plant_group, GroupClosed, terms_of, SameUnits, SamePaid, OthersKept, Allotted, declared_by, committed_by, share_one, share_two, closed_plant, PlantClosed, PlantResult, ClosedTo}
use Rattle.settlement.specs.Shares.{group_one_share}
use Rattle.table.specs.Effects.{with_plants, with_competitive, with_guaranteed}
use Rattle.table.specs.Rows.{UnitTable, new_unit, new_plant}
use Rattle.table.specs.declared.records.Plant.{Plant}
use Rattle.table.specs.declared.records.Table.{Table}
use Rattle.table.specs.declared.records.UnitRecord.{UnitRecord}

-- an allocated unit has the terms that it had
terms_kept : (plant amount : ℕ) (u : UnitRecord) → terms_of (allocated_to plant amount u) ≡ terms_of u
terms_kept plant amount u =
    ⊎_elim
    (λ (same : u.plant ≡ plant). ap terms_of (cond-true _ _ _ (eq-eqb _ _ same)))
    (λ (other : u.plant ≡ plant → ⊥). ap terms_of (cond-false _ _ _ (ne_eqb _ _ other)))
    (cases_eq u.plant plant)

-- an allocated unit has the reading that it had
reading_kept : (plant amount : ℕ) (u : UnitRecord) → (allocated_to plant amount u).reading ≡ u.reading
reading_kept plant amount u =
    ⊎_elim
    (λ (same : u.plant ≡ plant). ap (λ (v : UnitRecord). v.reading) (cond-true _ _ _ (eq-eqb _ _ same)))
    (λ (other : u.plant ≡ plant → ⊥). ap (λ (v : UnitRecord). v.reading) (cond-false _ _ _ (ne_eqb _ _ other)))
    (cases_eq u.plant plant)

-- an allocated unit has each figure that it had but its amount
figure_kept : (f : UnitRecord → ℕ) (plant amount : ℕ) (u : UnitRecord) → (◌≡◌ {A = ℕ} (f (with_amount amount u)) (f u)) → f (allocated_to plant amount u) ≡ f u
figure_kept f plant amount u same_f =
    cond_both (eqb u.plant plant) (with_amount amount u) u (λ v. f v ≡ f u) (λ _. same_f) (λ _. refl)

-- units of another plant are as they were
kept_other : (plant amount : ℕ) (u : UnitRecord) → (u.plant ≡ plant → ⊥) → allocated_to plant amount u ≡ u
kept_other plant amount u other = cond-false _ _ _ (ne_eqb u.plant plant other)

given_own : (plant amount : ℕ) (u : UnitRecord) → u.plant ≡ plant → (allocated_to plant amount u).figures.allocated ≡ amount
given_own plant amount u own = ap (λ (v : UnitRecord). v.figures.allocated) (cond-true _ _ _ (eq-eqb u.plant plant own))

-- closing a group leaves each unit's figures but its amount
figure_after : (f : UnitRecord → ℕ) → ((amount : ℕ) (u : UnitRecord) → f (with_amount amount u) ≡ f u) → {O : Type 0} (prices : O → ℕ → ℕ) (offers : List O) (plant loss share : ℕ) (t now next : UnitTable) (left : ℕ) → ((i : ℕ) → f (unit_at now i) ≡ f (unit_at t i)) → GroupClosed prices offers plant loss share now next left → (i : ℕ) → f (unit_at next i) ≡ f (unit_at t i)
figure_after f stays prices offers plant loss share t now next left same closed i =
    ⊎_elim
    (λ lt. ap f (closed.entered i lt) ∙ figure_kept f plant (closed.amount i) (unit_at now i) (stays (closed.amount i) (unit_at now i)) ∙ same i)
    (λ past. ap f (closed.others i past) ∙ same i)
    (cases_lt i (min now.count 128))

paid_after : {O : Type 0} (prices : O → ℕ → ℕ) (offers : List O) (plant loss share : ℕ) (t now next : UnitTable) (left : ℕ) → SamePaid t now → GroupClosed prices offers plant loss share now next left → SamePaid t next
paid_after prices offers plant loss share t now next left same closed = record {
  billed = figure_after (λ u. u.figures.billed) (λ amount u. refl) prices offers plant loss share t now next left same.billed closed;
  payment = figure_after (λ u. u.figures.payment) (λ amount u. refl) prices offers plant loss share t now next left same.payment closed;
}

pub same_after : {O : Type 0} (prices : O → ℕ → ℕ) (offers : List O) (plant loss share : ℕ) (t now next : UnitTable) (left : ℕ) → SameUnits t now → GroupClosed prices offers plant loss share now next left → SameUnits t next
same_after prices offers plant loss share t now next left same closed = record {
  count = closed.count ∙ same.count;
  readings = λ i. ⊎_elim
      (λ lt. ap (λ (u : UnitRecord). u.reading) (closed.entered i lt) ∙ reading_kept plant (closed.amount i) (unit_at now i) ∙ same.readings i)
      (λ past. ap (λ (u : UnitRecord). u.reading) (closed.others i past) ∙ same.readings i)
      (cases_lt i (min now.count 128));
  long = closed.long ∙ same.long;
  terms = λ i. ⊎_elim
      (λ lt. ap terms_of (closed.entered i lt) ∙ terms_kept plant (closed.amount i) (unit_at now i) ∙ same.terms i)
      (λ past. ap terms_of (closed.others i past) ∙ same.terms i)
      (cases_lt i (min now.count 128));
}

others_after : {O : Type 0} (prices : O → ℕ → ℕ) (offers : List O) (n loss share : ℕ) (t now next : UnitTable) (left : ℕ) → SameUnits t now → OthersKept n t now → GroupClosed prices offers (n + 1) loss share now next left → OthersKept (n + 1) t next
others_after prices offers n loss share t now next left same kept closed = record {
  amounts = λ i other.
      let own : (unit_at now i).plant ≡ (unit_at t i).plant = ap (λ (u : UnitRecord). u.plant) (same.terms i) in
      let before = kept.amounts i (λ place lt. other place (omega arith)) in
      ⊎_elim
      (λ lt. ap (λ (u : UnitRecord). u.figures.allocated) (closed.entered i lt ∙ kept_other (n + 1) (closed.amount i) (unit_at now i) (λ mine. other n (omega arith) (sym own ∙ mine))) ∙ before)
      (λ past. ap (λ (u : UnitRecord). u.figures.allocated) (closed.others i past) ∙ before)
      (cases_lt i (min now.count 128));
  later = λ i past. closed.others i (omega (arith, same.count, past)) ∙ kept.later i past;
}

-- the limits and declared energies of a group are those of its terms
pub group_kept : {O : Type 0} (prices : O → ℕ → ℕ) (offers : List O) (plant loss : ℕ) (t now : UnitTable) → SameUnits t now → plant_group prices offers plant loss now ≡ plant_group prices offers plant loss t
group_kept prices offers plant loss t now same =
    let made = λ (limit : ℕ → ℕ). let g : Group = record { units = min (length offers) 128; price = price_at prices offers; limit = limit } in g in
    ap made (fun_ext (λ i.
    ap (λ c. read_energy (cond (ltb i (min c 128)) (limit_in plant loss (unit_at now i)) 0)) same.count
    ∙ ap (λ u. read_energy (cond (ltb i (min t.count 128)) (limit_in plant loss u) 0)) (same.terms i)))

pub declared_kept : (plant rows : ℕ) (t now : UnitTable) → SameUnits t now → declared_by plant rows now ≡ declared_by plant rows t
declared_kept plant rows t now same =
    ap (λ c. sum_of (min (min c 128) rows) (λ i. declared_in plant (unit_at now i))) same.count
    ∙ sum_cong (min (min t.count 128) rows) (λ i. declared_in plant (unit_at now i)) (λ i. declared_in plant (unit_at t i)) (λ i lt. ap (declared_in plant) (same.terms i))

-- a sum over the first n units of a list; past its end stands one that counts 0
pub sum_take : (f : UnitRecord → ℕ) (d : UnitRecord) → f d ≡ 0 → (xs : List UnitRecord) (n : ℕ) → sum_by f (take n xs) ≡ sum_of n (λ i. f (get_or xs i d))
unfolding sum_of
sum_take f d none xs zero = refl
sum_take f d none xs (suc n) =
    ⊎_elim
    (λ (lt : n < length xs).
    let next : sum_by f (take (suc n) xs) ≡ sum_by f (take (n + 1) xs) = ap (λ m. sum_by f (take m xs)) (sym (add-one n)) in
    omega (arith, next, sum_by_more f xs n d lt, sum_take f d none xs n))
    (λ (past : length xs ≤ n).
    let all : sum_by f (take (suc n) xs) ≡ sum_by f (take n xs) = ap (sum_by f) (take_all (suc n) xs (omega arith) ∙ sym (take_all n xs past)) in
    let last : f (get_or xs n d) ≡ 0 = ap f (get_or_past xs n d past) ∙ none in
    omega (arith, all, last, sum_take f d none xs n))
    (cases_lt n (length xs))

pub blank_declares : (plant : ℕ) → declared_in plant (new_unit 0 0 None 0 0) ≡ 0
blank_declares plant = cond_both (counts plant (new_unit 0 0 None 0 0)) 0 0 (λ v. v ≡ 0) (λ _. refl) (λ _. refl)

module _ {O : Type 0} (prices : O → ℕ → ℕ) (offers : List O) (plant : ℕ) (t now next : UnitTable) (same : SameUnits t now) where
  own_plant : (i : ℕ) → (unit_at now i).plant ≡ (unit_at t i).plant
  own_plant i = ap (λ (u : UnitRecord). u.plant) (same.terms i)

  -- the group that is closed now
  pub allotted_here : (loss loss' share share' left : ℕ) → loss' ≡ loss → share' ≡ share → GroupClosed prices offers plant loss' share' now next left → Allotted prices offers plant loss share t next left
  allotted_here loss loss' share share' left same_loss same-share closed = record {
    amount = closed.amount;
    split =
        let at-loss = subst (λ l. Split (plant_group prices offers plant l now) share' closed.amount left) same_loss closed.split in
        let at-share = subst (λ s. Split (plant_group prices offers plant loss now) s closed.amount left) same-share at-loss in
        subst (λ g. Split g share closed.amount left) (group_kept prices offers plant loss t now same) at-share;
    given = λ i lt own.
        ap (λ (u : UnitRecord). u.figures.allocated) (closed.entered i (omega (arith, same.count)))
        ∙ given_own plant (closed.amount i) (unit_at now i) (own_plant i ∙ own);
  }

  -- a group of another plant, closed before
  pub allotted_kept : (other loss loss' share share' left left' : ℕ) → (other ≡ plant → ⊥) → Allotted prices offers other loss share t now left → GroupClosed prices offers plant loss' share' now next left' → Allotted prices offers other loss share t next left
  allotted_kept other loss loss' share share' left left' differs before closed = record {
    amount = before.amount;
    split = before.split;
    given = λ i lt own.
        let kept = kept_other plant (closed.amount i) (unit_at now i) (λ mine. differs (sym own ∙ sym (own_plant i) ∙ mine)) in
        ap (λ (u : UnitRecord). u.figures.allocated) (closed.entered i (omega (arith, same.count)) ∙ kept) ∙ before.given i lt own;
  }

module _ {O P : Type 0} (prices1 : O → ℕ → ℕ) (offers1 : List O) (prices2 : P → ℕ → ℕ) (offers2 : List P) (n : ℕ) (before now next : Table) (inv : ClosedTo prices1 offers1 prices2 offers2 n before now) (closed : PlantClosed prices1 offers1 prices2 offers2 n now next) where
  rows_set : next.plants.rows ≡ set now.plants.rows n (closed_plant (committed_by (n + 1) now) (closed.left1 + closed.left2) (plant_at now n))
  rows_set = ap (λ (t : Table). t.plants.rows) closed.rest

  row_other : (place : ℕ) → (place ≡ n → ⊥) → plant_at next place ≡ plant_at now place
  row_other place differs =
      ap (λ rows. get_or rows place (new_plant 0)) rows_set ∙ get_or-set_other now.plants.rows n place _ (new_plant 0) differs

  -- commitments, declared energies and so shares are those of the start
  committed_same : (plant : ℕ) → committed_by plant now ≡ committed_by plant before
  committed_same plant = ap (committed_by plant) inv.rest

  share_one_lem : (plant rows1 rows2 : ℕ) → share_one plant rows1 rows2 now ≡ share_one plant rows1 rows2 before
  share_one_lem plant rows1 rows2 =
      ap (λ c. group_one_share c (declared_by plant rows1 now.competitive) (declared_by plant rows2 now.guaranteed)) (committed_same plant)
      ∙ ap (λ d. group_one_share (committed_by plant before) d (declared_by plant rows2 now.guaranteed)) (declared_kept plant rows1 before.competitive now.competitive inv.same1)
      ∙ ap (group_one_share (committed_by plant before) (declared_by plant rows1 before.competitive)) (declared_kept plant rows2 before.guaranteed now.guaranteed inv.same2)

  share_two_lem : (plant rows1 rows2 : ℕ) → share_two plant rows1 rows2 now ≡ share_two plant rows1 rows2 before
  share_two_lem plant rows1 rows2 =
      ap (λ c. c - share_one plant rows1 rows2 now) (committed_same plant) ∙ ap (λ s. committed_by plant before - s) (share_one_lem plant rows1 rows2)

  same_row : plant_at now n ≡ plant_at before n
  same_row = inv.later n (omega arith)

  same_loss : (plant_at now n).loss ≡ (plant_at before n).loss
  same_loss = ap (λ (p : Plant). p.loss) same_row

  here : n < length now.plants.rows → PlantResult prices1 offers1 prices2 offers2 n before next
  here room = record {
    left1 = closed.left1;
    left2 = closed.left2;
    one = allotted_here prices1 offers1 (n + 1) before.competitive now.competitive next.competitive inv.same1 _ _ _ _ _ same_loss (share_one_lem (n + 1) (length offers1) (length offers2)) closed.one;
    two = allotted_here prices2 offers2 (n + 1) before.guaranteed now.guaranteed next.guaranteed inv.same2 _ _ _ _ _ same_loss (share_two_lem (n + 1) (length offers1) (length offers2)) closed.two;
    row = ap (λ rows. get_or rows n (new_plant 0)) rows_set ∙ get_or-set_same now.plants.rows n _ (new_plant 0) room
        ∙ ap (λ c. closed_plant c (closed.left1 + closed.left2) (plant_at now n)) (committed_same (n + 1))
        ∙ ap (closed_plant (committed_by (n + 1) before) (closed.left1 + closed.left2)) same_row;
  }

  earlier : (place : ℕ) → place < n → PlantResult prices1 offers1 prices2 offers2 place before next
  earlier place lt =
      let was = inv.plants place lt in
      let differs : place + 1 ≡ n + 1 → ⊥ = λ e. omega arith in
      record {
        left1 = was.left1;
        left2 = was.left2;
        one = allotted_kept prices1 offers1 (n + 1) before.competitive now.competitive next.competitive inv.same1 (place + 1) _ _ _ _ _ _ differs was.one closed.one;
        two = allotted_kept prices2 offers2 (n + 1) before.guaranteed now.guaranteed next.guaranteed inv.same2 (place + 1) _ _ _ _ _ _ differs was.two closed.two;
        row = row_other place (λ e. omega arith) ∙ was.row;
      }

  pub close_step : n < length now.plants.rows → ClosedTo prices1 offers1 prices2 offers2 (n + 1) before next
  close_step room =
      let frame = λ (t : Table) (rows : List Plant). with_plants t.plants.count rows (with_competitive next.competitive (with_guaranteed next.guaranteed t)) in
      record {
        same1 = same_after prices1 offers1 (n + 1) _ _ before.competitive now.competitive next.competitive _ inv.same1 closed.one;
        same2 = same_after prices2 offers2 (n + 1) _ _ before.guaranteed now.guaranteed next.guaranteed _ inv.same2 closed.two;
        paid1 = paid_after prices1 offers1 (n + 1) _ _ before.competitive now.competitive next.competitive _ inv.paid1 closed.one;
        paid2 = paid_after prices2 offers2 (n + 1) _ _ before.guaranteed now.guaranteed next.guaranteed _ inv.paid2 closed.two;
        others1 = others_after prices1 offers1 n _ _ before.competitive now.competitive next.competitive _ inv.same1 inv.others1 closed.one;
        others2 = others_after prices2 offers2 n _ _ before.guaranteed now.guaranteed next.guaranteed _ inv.same2 inv.others2 closed.two;
        plants = λ place lt. ⊎_elim
            (λ (same : place ≡ n). subst (λ p. PlantResult prices1 offers1 prices2 offers2 p before next) (sym same) (here room))
            (λ (other : place ≡ n → ⊥). earlier place (omega arith))
            (cases_eq place n);
        later = λ place past. row_other place (λ e. omega arith) ∙ inv.later place (omega arith);
        long = ap length rows_set ∙ length-set now.plants.rows n _ ∙ inv.long;
        rest = closed.rest ∙ ap (frame now) (sym rows_set) ∙ ap (λ t. frame t next.plants.rows) inv.rest;
      }
