-- The law of a closed hour follows from what closing does and the history that the table stood for.
use Rattle.table.specs.Places.{unit_at, plant_at}
use Rattle.std.proofs.Common.{◌≡◌, ℕ, ◌+◌, ◌-◌, ◌<◌, ◌≤◌, min, cond, not, eqb, ltb, List, length, sym, ap, ◌∙◌, subst, ⊎_elim, arith}
use mathlib.Core.Path.{fun_ext}
use Rattle.std.proofs.lemmas.Bool.{cases_eq, cases_lt, eq-eqb, ne_eqb, lt-ltb, le-ltb, cond-true, cond-false, cond_both, and_from, and_left, and_right}
use Rattle.allocation.specs.Groups.{Group, price_at, sum_of}
use Rattle.allocation.specs.Laws.{Split}
use Rattle.allocation.proofs.Sums.{sum_cong}
use Rattle.curves.specs.Limits.{read_energy}
use Rattle.settlement.specs.Shares.{group_one_share, running_share}
use Rattle.settlement.proofs.Running.{share_le}
use Rattle.table.proofs.Accepted.{sold_bound}
use Rattle.table.proofs.Views.{stands_in_sum}
use Rattle.table.specs.Closing.{limit_in, declared_in, plant_group, declared_by, committed_by, share_one, share_two, Allotted, Closed}
use Rattle.table.specs.ClosingLaw.{group_in, declared_total, committed_in, share_one_of, share_two_of, amount_in, ClosingLawOf, ClosingLaw}
use Rattle.table.specs.History.{units_in, unit_in, loss_in, sold_in, UnitsStand, Stands, StandsInSum, Proper}
use Rattle.table.specs.Rows.{UnitTable, closed_figures}
use Rattle.table.specs.declared.entries.Entry.{Entry}
use Rattle.table.specs.declared.records.Plant.{Plant}
use Rattle.table.specs.declared.records.PlantFigures.{PlantFigures}
use Rattle.table.specs.declared.records.Table.{Table}
use Rattle.table.specs.declared.records.UnitRecord.{UnitRecord}

module _ (g : ℕ) (h : List Entry) (t : UnitTable) (s : UnitsStand g h t) where
  known : min t.count 128 ≡ units_in g h
  known = omega (arith, s.count, s.room)

  -- the limits of the table are those of the history
  pub group_stands : {O : Type 0} (prices : O → ℕ → ℕ) (offers : List O) (plant loss : ℕ) → loss ≡ loss_in plant h → plant_group prices offers plant loss t ≡ group_in g prices offers plant h
  group_stands prices offers plant loss same =
      let made = λ (limit : ℕ → ℕ). let x : Group = record { units = min (length offers) 128; price = price_at prices offers; limit = limit } in x in
      ap made (fun_ext (λ i. ap read_energy
      (ap (λ n. cond (ltb i n) (limit_in plant loss (unit_at t i)) 0) known
      ∙ ap (λ l. cond (ltb i (units_in g h)) (limit_in plant l (unit_at t i)) 0) same
      ∙ ⊎_elim
      (λ (lt : i < units_in g h). ap (λ u. cond (ltb i (units_in g h)) (limit_in plant (loss_in plant h) u) 0) (s.rows i lt))
      (λ (past : units_in g h ≤ i). cond-false _ _ _ (le-ltb i (units_in g h) past) ∙ sym (cond-false _ _ _ (le-ltb i (units_in g h) past)))
      (cases_lt i (units_in g h)))))

  pub declared_stands : (plant rows : ℕ) → declared_by plant rows t ≡ declared_total g plant rows h
  declared_stands plant rows =
      ap (λ n. sum_of (min n rows) (λ i. declared_in plant (unit_at t i))) known
      ∙ sum_cong (min (units_in g h) rows) (λ i. declared_in plant (unit_at t i)) (λ i. declared_in plant (unit_in g (i + 1) h)) (λ i lt. ap (declared_in plant) (s.rows i (omega arith)))

  -- a unit that is not the plant's has limit 0 in its group
  no_limit : {O : Type 0} (prices : O → ℕ → ℕ) (offers : List O) (plant : ℕ) (i : ℕ) → (i < units_in g h → (unit_in g (i + 1) h).plant ≡ plant → ⊥) → (group_in g prices offers plant h).limit i ≡ 0
  no_limit prices offers plant i other =
      ⊎_elim
      (λ (lt : i < units_in g h).
      let u = unit_in g (i + 1) h in
      let none : limit_in plant (loss_in plant h) u ≡ 0 = cond-false _ _ _ (and_left (eqb u.plant plant) (not u.aside) (ne_eqb u.plant plant (other lt))) in
      ap read_energy (cond-true _ _ _ (lt-ltb i (units_in g h) lt) ∙ none))
      (λ (past : units_in g h ≤ i). ap read_energy (cond-false _ _ _ (le-ltb i (units_in g h) past)))
      (cases_lt i (units_in g h))

  -- what the table has allocated to the plant's units are the amounts of the split
  pub allotted_law : {O : Type 0} (prices : O → ℕ → ℕ) (offers : List O) (plant loss share share' left : ℕ) (after : UnitTable) → loss ≡ loss_in plant h → share ≡ share' → Allotted prices offers plant loss share t after left → Split (group_in g prices offers plant h) share' (amount_in g plant h after) left
  allotted_law prices offers plant loss share share' left after same_loss same-share a =
      let group = group_in g prices offers plant h in
      let split = subst (λ x. Split group x a.amount left) same-share (subst (λ x. Split x share a.amount left) (group_stands prices offers plant loss same_loss) a.split) in
      let zero-amount : (i : ℕ) → group.limit i ≡ 0 → a.amount i ≡ 0 = λ i none.
      ⊎_elim (λ lt. omega (arith, split.merit.within i lt)) (λ past. split.others i past) (cases_lt i (min (length offers) 128)) in
      let same : (i : ℕ) → a.amount i ≡ amount_in g plant h after i = λ i. ⊎_elim
      (λ (lt : i < units_in g h). ⊎_elim
      (λ (own : (unit_in g (i + 1) h).plant ≡ plant).
      let row : (unit_at t i).plant ≡ plant = ap (λ (u : UnitRecord). u.plant) (s.rows i lt) ∙ own in
      sym (cond-true _ _ _ (and_from _ _ (lt-ltb i (units_in g h) lt) (eq-eqb _ _ own)) ∙ a.given i (omega (arith, known)) row))
      (λ (other : (unit_in g (i + 1) h).plant ≡ plant → ⊥).
      zero-amount i (no_limit prices offers plant i (λ _. other)) ∙ sym (cond-false _ _ _ (and_right _ _ (ne_eqb _ _ other))))
      (cases_eq (unit_in g (i + 1) h).plant plant))
      (λ (past : units_in g h ≤ i).
      zero-amount i (no_limit prices offers plant i (λ lt _. omega arith)) ∙ sym (cond-false _ _ _ (and_left _ _ (le-ltb i (units_in g h) past))))
      (cases_lt i (units_in g h)) in
      subst (λ amount. Split group share' amount left) (fun_ext same) split

-- group 1's share is a part of the whole
pub share_one_le : (whole gross1 gross2 : ℕ) → group_one_share whole gross1 gross2 ≤ whole
share_one_le whole gross1 gross2 =
    cond_both (eqb (gross1 + gross2) 0) whole (running_share whole gross1 (gross1 + gross2)) (λ v. v ≤ whole) (λ _. omega arith) (λ _. share_le whole gross1 (gross1 + gross2) (omega arith))

-- what the table holds of a plant's commitments is what it has sold
module _ (h : List Entry) (t : Table) (s : StandsInSum h t) (plant sold rows1 rows2 : ℕ) (same : committed_by plant t ≡ sold) where
  pub share_one_stands : share_one plant rows1 rows2 t ≡ share_one_of sold plant rows1 rows2 h
  share_one_stands =
      ap (λ c. group_one_share c (declared_by plant rows1 t.competitive) (declared_by plant rows2 t.guaranteed)) same
      ∙ ap (λ d. group_one_share sold d (declared_by plant rows2 t.guaranteed)) (declared_stands 1 h t.competitive s.competitive plant rows1)
      ∙ ap (group_one_share sold (declared_total 1 plant rows1 h)) (declared_stands 2 h t.guaranteed s.guaranteed plant rows2)

  pub share_two_stands : share_two plant rows1 rows2 t ≡ share_two_of sold plant rows1 rows2 h
  share_two_stands = ap (λ c. c - share_one plant rows1 rows2 t) same ∙ ap (λ x. sold - x) share_one_stands

-- the law of a closed hour, by what each plant has sold
closing_law_of : {O P : Type 0} (sold : ℕ → ℕ) (prices1 : O → ℕ → ℕ) (offers1 : List O) (prices2 : P → ℕ → ℕ) (offers2 : List P) (h : List Entry) (t after : Table) → StandsInSum h t → ((plant : ℕ) → committed_by plant t ≡ sold plant) → Closed prices1 offers1 prices2 offers2 t after → ClosingLawOf sold prices1 offers1 prices2 offers2 h after
closing_law_of sold prices1 offers1 prices2 offers2 h t after s same closed place lt =
    let plant = place + 1 in
    let r = closed.plants place (omega (arith, s.plants.counted, s.plants.room)) in
    let loss : (plant_at t place).loss ≡ loss_in plant h = s.plants.rows place lt in
    let back : place + 1 - 1 ≡ place = omega arith in
    let row : (plant_at after (plant - 1)).figures ≡ closed_figures (committed_by plant t) (r.left1 + r.left2) =
    ap (λ k. (plant_at after k).figures) back ∙ ap (λ (p : Plant). p.figures) r.row in
    let here = same plant in
    let one = allotted_law 1 h t.competitive s.competitive prices1 offers1 plant _ _ _ _ after.competitive loss (share_one_stands h t s plant (sold plant) (length offers1) (length offers2) here) r.one in
    let two = allotted_law 2 h t.guaranteed s.guaranteed prices2 offers2 plant _ _ _ _ after.guaranteed loss (share_two_stands h t s plant (sold plant) (length offers1) (length offers2) here) r.two in
    let part = share_one_le (sold plant) (declared_total 1 plant (length offers1) h) (declared_total 2 plant (length offers2) h) in
    let allocated : (plant_at after (plant - 1)).figures.allocated ≡ committed_by plant t - (r.left1 + r.left2) = ap (λ (f : PlantFigures). f.allocated) row in
    let run : (plant_at after (plant - 1)).figures.run ≡ r.left1 + r.left2 = ap (λ (f : PlantFigures). f.run) row in
    record {
      left1 = r.left1;
      left2 = r.left2;
      one = one;
      two = two;
      committed = ap (λ (f : PlantFigures). f.committed) row ∙ here;
      run = run;
      allocated = omega (arith, allocated, here, part, one.leaves, two.leaves, one.merit.covered, two.merit.covered);
      covers = omega (arith, allocated, run, here, part, one.leaves, two.leaves, one.merit.covered, two.merit.covered);
    }

-- the law of a closed hour for any history: a sum of commitments over 20,000,000 is read as 20,000,000
pub closing_law_any : {O P : Type 0} (prices1 : O → ℕ → ℕ) (offers1 : List O) (prices2 : P → ℕ → ℕ) (offers2 : List P) (h : List Entry) (t after : Table) → StandsInSum h t → Closed prices1 offers1 prices2 offers2 t after → ClosingLawOf (λ plant. committed_in plant h) prices1 offers1 prices2 offers2 h after
closing_law_any prices1 offers1 prices2 offers2 h t after s closed =
    closing_law_of (λ plant. committed_in plant h) prices1 offers1 prices2 offers2 h t after s (λ plant. ap (λ n. min n 20000000) (s.sold plant)) closed

-- the sums of accepted commitments are no greater, and are read as they are
pub committed_stands : (h : List Entry) → Proper h → (t : Table) → Stands h t → (plant : ℕ) → committed_by plant t ≡ sold_in plant h
committed_stands h ok t s plant = omega (arith, (stands_in_sum h t s).sold plant, sold_bound h ok plant)

pub closing_law : {O P : Type 0} (prices1 : O → ℕ → ℕ) (offers1 : List O) (prices2 : P → ℕ → ℕ) (offers2 : List P) (h : List Entry) (t after : Table) → Proper h → Stands h t → Closed prices1 offers1 prices2 offers2 t after → ClosingLaw prices1 offers1 prices2 offers2 h after
closing_law prices1 offers1 prices2 offers2 h t after ok s closed =
    closing_law_of (λ plant. sold_in plant h) prices1 offers1 prices2 offers2 h t after (stands_in_sum h t s) (committed_stands h ok t s) closed
