-- Settling a closed hour leads to the law of a settled one.
use Rattle.table.specs.Places.{unit_at, plant_at, buyer_at}
use Rattle.std.proofs.Common.{◌≡◌, ℕ, zero, suc, ◌+◌, ◌-◌, ◌<◌, ◌≤◌, min, cond, ◌&&◌, eqb, ltb, List, length, ℤ, pos, ◌+ℤ◌, sym, refl, ap, ◌∙◌, subst, ⊎_elim, arith}
use mathlib.Core.Path.{fun_ext}
use Rattle.std.proofs.lemmas.Bool.{cases_lt, le-ltb, cond-false, and_left}
use Rattle.allocation.specs.Groups.{total}
use Rattle.allocation.specs.Laws.{Split}
use Rattle.settling.proofs.Agree.{Agree, plant_agree, buyer_agree, hour_agree}
use Rattle.settling.proofs.Ledgers.{ledger_stands}
use Rattle.settling.proofs.Nets.{nets_add_up}
use Rattle.settling.specs.Derived.{Found, ledger_in, found_in, sum_z, NetsAddUp}
use Rattle.settling.specs.Figures.{Pay, unit_figures, plant_figures, buyer_figures, hour_figures, net_in, unassigned_in}
use Rattle.settling.specs.Ledger.{UnitCase, PlantCase, ledger_of}
use Rattle.settling.specs.Settled.{GroupSettled, Settled}
use Rattle.settling.specs.declared.header.Header.{Header}
use Rattle.table.proofs.Accepted.{all_named}
use Rattle.table.specs.ClosingLaw.{group_in, share_one_in, share_two_in, amount_in, ClosingLaw}
use Rattle.table.specs.History.{plants_in, units_in, unit_in, buyers_in, sold_in, loss_in, Proper, UnitsStand, Stands}
use Rattle.table.specs.Metered.{Metered}
use Rattle.table.specs.Rows.{UnitTable}
use Rattle.table.specs.declared.entries.Entry.{Entry}
use Rattle.table.specs.declared.readings.Reading.{Reading}
use Rattle.table.specs.declared.records.Buyer.{Buyer}
use Rattle.table.specs.declared.records.BuyerFigures.{BuyerFigures}
use Rattle.table.specs.declared.records.HourFigures.{HourFigures}
use Rattle.table.specs.declared.records.Plant.{Plant}
use Rattle.table.specs.declared.records.PlantFigures.{PlantFigures}
use Rattle.table.specs.declared.records.Table.{Table}
use Rattle.table.specs.declared.records.UnitFigures.{UnitFigures}
use Rattle.book.specs.Law.{ledger, SettledLaw}

-- ledgers of one history agree where what closing found does
pub found_agree : (h : List Entry) (rs : List Reading) (f f' : Found) → ((i : ℕ) → i < units_in 1 h → f.amount 1 i ≡ f'.amount 1 i) → ((i : ℕ) → i < units_in 2 h → f.amount 2 i ≡ f'.amount 2 i) → ((i : ℕ) → i < plants_in h → f.run i ≡ f'.run i) → Agree (ledger_in f h rs) (ledger_in f' h rs)
found_agree h rs f f' one two run =
    let a = ledger_in f h rs in
    let unit = λ (g i x : ℕ). let u : UnitCase = record {
      plant = (a.unit g i).plant;
      loss = (a.unit g i).loss;
      internal = (a.unit g i).internal;
      feeds = (a.unit g i).feeds;
      allocated = x;
      reading = (a.unit g i).reading;
    } in u in
    let plant = λ (i r : ℕ). let p : PlantCase = record {
      loss = loss_in (i + 1) h;
      committed = sold_in (i + 1) h;
      allocated = sold_in (i + 1) h - r;
      run = r;
    } in p in
    record {
      plants = refl;
      plant = λ i lt. ap (plant i) (run i lt);
      units1 = refl;
      units2 = refl;
      unit1 = λ i lt. ap (unit 1 i) (one i lt);
      unit2 = λ i lt. ap (unit 2 i) (two i lt);
      buyers = refl;
      buyer = λ i lt. refl;
      commitments = refl;
    }

sum_z_cong : (n : ℕ) (f f' : ℕ → ℤ) → ((i : ℕ) → i < n → f i ≡ f' i) → sum_z n f ≡ sum_z n f'
unfolding sum_z
sum_z_cong zero f f' same = refl
sum_z_cong (suc n) f f' same =
    ap (λ x. x +ℤ f n) (sum_z_cong n f f' (λ i lt. same i (omega arith))) ∙ ap (λ y. sum_z n f' +ℤ y) (same n (omega arith))

-- a group's amounts are what they were
amounts_kept : (g plant : ℕ) (h : List Entry) (before after : UnitTable) → ((i : ℕ) → i < units_in g h → (unit_at after i).figures.allocated ≡ (unit_at before i).figures.allocated) → amount_in g plant h before ≡ amount_in g plant h after
amounts_kept g plant h before after kept = fun_ext (λ i. ⊎_elim
    (λ (lt : i < units_in g h). ap (λ x. cond (ltb i (units_in g h) && eqb (unit_in g (i + 1) h).plant plant) x 0) (sym (kept i lt)))
    (λ (past : units_in g h ≤ i).
    cond-false _ _ _ (and_left _ _ (le-ltb i (units_in g h) past)) ∙ sym (cond-false _ _ _ (and_left _ _ (le-ltb i (units_in g h) past))))
    (cases_lt i (units_in g h)))

module _ {O P : Type 0} (prices1 : O → ℕ → ℕ) (offers1 : List O) (prices2 : P → ℕ → ℕ) (offers2 : List P) (header : Header) (pay : Pay) (h : List Entry) (ok : Proper h) (rs : List Reading) (t after : Table) (s : Stands h t) (m : Metered rs t) (law : ClosingLaw prices1 offers1 prices2 offers2 h t) (settled : Settled header pay t after) where
  amount_kept : (g : ℕ) (before next : UnitTable) → UnitsStand g h before → (p : ℕ → UnitCase → ℕ) → GroupSettled p t.plants.rows before next → (i : ℕ) → i < units_in g h → (unit_at next i).figures.allocated ≡ (unit_at before i).figures.allocated
  amount_kept g before next stands p group i lt = ap (λ (f : UnitFigures). f.allocated) (group.entered i (omega (arith, stands.count, stands.room)))

  one_kept : (i : ℕ) → i < units_in 1 h → (unit_at after.competitive i).figures.allocated ≡ (unit_at t.competitive i).figures.allocated
  one_kept = amount_kept 1 t.competitive after.competitive s.competitive (pay 1) settled.competitive

  two_kept : (i : ℕ) → i < units_in 2 h → (unit_at after.guaranteed i).figures.allocated ≡ (unit_at t.guaranteed i).figures.allocated
  two_kept = amount_kept 2 t.guaranteed after.guaranteed s.guaranteed (pay 2) settled.guaranteed

  there : (i : ℕ) → i < plants_in h → i < min t.plants.count 32
  there i lt = omega (arith, s.plants.counted, s.plants.room)

  -- settling keeps what closing wrote into a plant's row
  plant_kept : (F : PlantFigures → ℕ) → ((i : ℕ) → F (plant_figures header pay (ledger_of t) i) ≡ F (plant_at t i).figures) → (i : ℕ) → i < plants_in h → F (plant_at after i).figures ≡ F (plant_at t i).figures
  plant_kept F same i lt = ap (λ (p : Plant). F p.figures) (settled.plants i (there i lt)) ∙ same i

  closing_kept : ClosingLaw prices1 offers1 prices2 offers2 h after
  closing_kept place lt =
      let l = law place lt in
      let plant = place + 1 in
      let back : plant - 1 ≡ place = omega arith in
      let moved = λ (F : PlantFigures → ℕ) (same : (i : ℕ) → F (plant_figures header pay (ledger_of t) i) ≡ F (plant_at t i).figures).
      ap (λ k. F (plant_at after k).figures) back ∙ plant_kept F same place lt ∙ ap (λ k. F (plant_at t k).figures) (sym back) in
      let one = amounts_kept 1 plant h t.competitive after.competitive one_kept in
      let two = amounts_kept 2 plant h t.guaranteed after.guaranteed two_kept in
      let run = moved (λ f. f.run) (λ i. refl) in
      let allocated = moved (λ f. f.allocated) (λ i. refl) in
      record {
        left1 = l.left1;
        left2 = l.left2;
        one = subst (λ x. Split (group_in 1 prices1 offers1 plant h) (share_one_in plant (length offers1) (length offers2) h) x l.left1) one l.one;
        two = subst (λ x. Split (group_in 2 prices2 offers2 plant h) (share_two_in plant (length offers1) (length offers2) h) x l.left2) two l.two;
        committed = moved (λ f. f.committed) (λ i. refl) ∙ l.committed;
        run = run ∙ l.run;
        allocated = allocated ∙ l.allocated
            ∙ ap (λ x. total (group_in 1 prices1 offers1 plant h) x + total (group_in 2 prices2 offers2 plant h) (amount_in 2 plant h t.guaranteed)) one
            ∙ ap (λ y. total (group_in 1 prices1 offers1 plant h) (amount_in 1 plant h after.competitive) + total (group_in 2 prices2 offers2 plant h) y) two;
        covers = omega (arith, allocated, run, l.covers);
      }

  stands_agree : Agree (ledger_of t) (ledger_in (found_in t) h rs)
  stands_agree = ledger_stands prices1 offers1 prices2 offers2 h ok rs t s m law

  kept_agree : Agree (ledger_in (found_in t) h rs) (ledger h rs after)
  kept_agree =
      found_agree h rs (found_in t) (found_in after) (λ i lt. sym (one_kept i lt)) (λ i lt. sym (two_kept i lt)) (λ i lt. sym (plant_kept (λ f. f.run) (λ k. refl) i lt))

  buyers_settled : (i : ℕ) → i < buyers_in h → (buyer_at after i).figures ≡ buyer_figures (ledger h rs after) i
  buyers_settled i lt =
      ap (λ (b : Buyer). b.figures) (settled.buyers i (omega (arith, s.buyers.counted, s.buyers.room)))
      ∙ buyer_agree (ledger_of t) (ledger_in (found_in t) h rs) stands_agree i (omega (arith, s.buyers.counted, s.buyers.room))
      ∙ buyer_agree (ledger_in (found_in t) h rs) (ledger h rs after) kept_agree i lt

  hour_settled : after.figures ≡ hour_figures (ledger h rs after)
  hour_settled = settled.hour ∙ hour_agree (ledger_of t) (ledger_in (found_in t) h rs) stands_agree ∙ hour_agree (ledger_in (found_in t) h rs) (ledger h rs after) kept_agree

  nets_settled : NetsAddUp (buyers_in h) (λ b. (buyer_at after b).figures.net) after.figures.unassigned (ledger h rs after)
  nets_settled =
      let a = ledger h rs after in
      let each = sum_z_cong (buyers_in h) (λ b. (buyer_at after b).figures.net) (net_in a) (λ i lt. ap (λ (f : BuyerFigures). f.net) (buyers_settled i lt)) in
      let rest : after.figures.unassigned ≡ unassigned_in a = ap (λ (f : HourFigures). f.unassigned) hour_settled in
      ap (λ x. x +ℤ pos after.figures.unassigned) each ∙ ap (λ u. sum_z (buyers_in h) (net_in a) +ℤ pos u) rest
      ∙ nets_add_up a (plants_in h) (all_named h ok)

  pub settled_law : SettledLaw prices1 offers1 prices2 offers2 header pay h rs after
  settled_law = record {
    closing = closing_kept;
    competitive = λ i lt. settled.competitive.entered i (omega (arith, s.competitive.count, s.competitive.room))
        ∙ ap (λ u. unit_figures (pay 1 i u) u) (stands_agree.unit1 i (omega (arith, s.competitive.count, s.competitive.room)) ∙ kept_agree.unit1 i lt);
    guaranteed = λ i lt. settled.guaranteed.entered i (omega (arith, s.guaranteed.count, s.guaranteed.room))
        ∙ ap (λ u. unit_figures (pay 2 i u) u) (stands_agree.unit2 i (omega (arith, s.guaranteed.count, s.guaranteed.room)) ∙ kept_agree.unit2 i lt);
    plants = λ i lt. ap (λ (p : Plant). p.figures) (settled.plants i (there i lt))
        ∙ plant_agree (ledger_of t) (ledger_in (found_in t) h rs) stands_agree header pay i (there i lt)
        ∙ plant_agree (ledger_in (found_in t) h rs) (ledger h rs after) kept_agree header pay i lt;
    buyers = buyers_settled;
    hour = hour_settled;
    nets = nets_settled;
  }
