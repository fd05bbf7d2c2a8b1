-- The ledger of a table that stands for a history is the one that the history gives.
use Rattle.table.specs.Places.{unit_at, plant_at}
use Rattle.std.proofs.Common.{◌≡◌, ℕ, ◌+◌, ◌-◌, ◌<◌, ◌≤◌, min, List, take, Option, sym, refl, ap, ◌∙◌, arith}
use Rattle.table.proofs.Accepted.{units_placed}
use Rattle.table.specs.ClosingLaw.{ClosingLaw}
use Rattle.table.specs.History.{plants_in, loss_in, units_in, unit_in, Proper, UnitsStand, PlantsStand, Stands}
use Rattle.table.specs.Metered.{Metered, last_competitive, last_guaranteed}
use Rattle.table.specs.Rows.{UnitTable}
use Rattle.table.specs.declared.entries.Entry.{Entry}
use Rattle.table.specs.declared.readings.Reading.{Reading}
use Rattle.table.specs.declared.records.Plant.{Plant}
use Rattle.table.specs.declared.records.Table.{Table}
use Rattle.table.specs.declared.records.UnitReading.{UnitReading}
use Rattle.table.specs.declared.records.UnitRecord.{UnitRecord}
use Rattle.settling.proofs.Agree.{Agree}
use Rattle.settling.specs.Derived.{ledger_in, found_in}
use Rattle.settling.specs.Ledger.{UnitCase, PlantCase, BuyerCase, ledger_of, loss_at, case_at}

-- records are equal where their parts are
unit_same : (a b : UnitCase) → a.plant ≡ b.plant → a.loss ≡ b.loss → a.internal ≡ b.internal → a.feeds ≡ b.feeds → a.allocated ≡ b.allocated → a.reading ≡ b.reading → a ≡ b
unit_same a b e1 e2 e3 e4 e5 e6 =
    let made = λ (p l n f x : ℕ) (r : Option UnitReading). let u : UnitCase = record { plant = p; loss = l; internal = n; feeds = f; allocated = x; reading = r } in u in
    ap (λ p. made p a.loss a.internal a.feeds a.allocated a.reading) e1
    ∙ ap (λ l. made b.plant l a.internal a.feeds a.allocated a.reading) e2
    ∙ ap (λ n. made b.plant b.loss n a.feeds a.allocated a.reading) e3
    ∙ ap (λ f. made b.plant b.loss b.internal f a.allocated a.reading) e4
    ∙ ap (λ x. made b.plant b.loss b.internal b.feeds x a.reading) e5
    ∙ ap (made b.plant b.loss b.internal b.feeds b.allocated) e6

plant_same : (a b : PlantCase) → a.loss ≡ b.loss → a.committed ≡ b.committed → a.allocated ≡ b.allocated → a.run ≡ b.run → a ≡ b
plant_same a b e1 e2 e3 e4 =
    let made = λ (l c x r : ℕ). let p : PlantCase = record { loss = l; committed = c; allocated = x; run = r } in p in
    ap (λ l. made l a.committed a.allocated a.run) e1
    ∙ ap (λ c. made b.loss c a.allocated a.run) e2
    ∙ ap (λ x. made b.loss b.committed x a.run) e3
    ∙ ap (made b.loss b.committed b.allocated) e4

buyer_same : (a b : BuyerCase) → a.loss ≡ b.loss → a.used ≡ b.used → a ≡ b
buyer_same a b e1 e2 =
    let made = λ (l : ℕ) (u : Option ℕ). let x : BuyerCase = record { loss = l; used = u } in x in
    ap (λ l. made l a.used) e1 ∙ ap (made b.loss) e2

-- a unit's plant has the loss that was entered
loss_stands : (h : List Entry) (count : ℕ) (plants : List Plant) → PlantsStand h count plants → (p : ℕ) → 1 ≤ p → p ≤ plants_in h → loss_at plants p ≡ loss_in p h
loss_stands h count plants s p low high =
    let back : p - 1 + 1 ≡ p = omega arith in
    s.rows (p - 1) (omega arith) ∙ ap (λ k. loss_in k h) back

module _ (g : ℕ) (h : List Entry) (ok : Proper h) (t : UnitTable) (s : UnitsStand g h t) (count : ℕ) (plants : List Plant) (p : PlantsStand h count plants) where
  -- a unit's row by the history
  case_stands : (reading : Option UnitReading) (i : ℕ) → i < units_in g h → (unit_at t i).reading ≡ reading → case_at plants t i ≡ record { plant = (unit_in g (i + 1) h).plant; loss = loss_in (unit_in g (i + 1) h).plant h; internal = (unit_in g (i + 1) h).internal; feeds = (unit_in g (i + 1) h).feeds; allocated = (unit_at t i).figures.allocated; reading = reading }
  case_stands reading i lt read =
      let terms = s.rows i lt in
      let own : (unit_at t i).plant ≡ (unit_in g (i + 1) h).plant = ap (λ (u : UnitRecord). u.plant) terms in
      let placed = units_placed h ok g i lt in
      unit_same (case_at plants t i) (record { plant = (unit_in g (i + 1) h).plant; loss = loss_in (unit_in g (i + 1) h).plant h; internal = (unit_in g (i + 1) h).internal; feeds = (unit_in g (i + 1) h).feeds; allocated = (unit_at t i).figures.allocated; reading = reading }) own
      (ap (loss_at plants) own ∙ loss_stands h count plants p (unit_in g (i + 1) h).plant placed.0 placed.1)
      (ap (λ (u : UnitRecord). u.internal) terms) (ap (λ (u : UnitRecord). u.feeds) terms) refl read

module _ {O P : Type 0} (prices1 : O → ℕ → ℕ) (offers1 : List O) (prices2 : P → ℕ → ℕ) (offers2 : List P) (h : List Entry) (ok : Proper h) (rs : List Reading) (t : Table) (s : Stands h t) (m : Metered rs t) (law : ClosingLaw prices1 offers1 prices2 offers2 h t) where
  plant_stands : (i : ℕ) → i < plants_in h → (ledger_of t).plant i ≡ (ledger_in (found_in t) h rs).plant i
  plant_stands i lt =
      let l = law i lt in
      let back : i + 1 - 1 ≡ i = omega arith in
      let committed = ap (λ k. (plant_at t k).figures.committed) (sym back) ∙ l.committed in
      let allocated = ap (λ k. (plant_at t k).figures.allocated) (sym back) in
      let run = ap (λ k. (plant_at t k).figures.run) (sym back) in
      plant_same ((ledger_of t).plant i) ((ledger_in (found_in t) h rs).plant i) (s.plants.rows i lt) committed (omega (arith, allocated, run, l.covers)) refl

  pub ledger_stands : Agree (ledger_of t) (ledger_in (found_in t) h rs)
  ledger_stands =
      let plants : min t.plants.count 32 ≡ plants_in h = omega (arith, s.plants.counted, s.plants.room) in
      let units1 : min t.competitive.count 128 ≡ units_in 1 h = omega (arith, s.competitive.count, s.competitive.room) in
      let units2 : min t.guaranteed.count 128 ≡ units_in 2 h = omega (arith, s.guaranteed.count, s.guaranteed.room) in
      let whole : min t.commitments.count 768 ≡ t.commitments.count = omega (arith, s.commitments.counted, s.commitments.room) in
      record {
        plants = plants;
        plant = λ i lt. plant_stands i (omega arith);
        units1 = units1;
        units2 = units2;
        unit1 = λ i lt. case_stands 1 h ok t.competitive s.competitive t.plants.count t.plants.rows s.plants (last_competitive (i + 1) rs) i (omega arith) (m.competitive i (omega (arith, s.competitive.room)));
        unit2 = λ i lt. case_stands 2 h ok t.guaranteed s.guaranteed t.plants.count t.plants.rows s.plants (last_guaranteed (i + 1) rs) i (omega arith) (m.guaranteed i (omega (arith, s.guaranteed.room)));
        buyers = omega (arith, s.buyers.counted, s.buyers.room);
        buyer = λ i lt. buyer_same ((ledger_of t).buyer i) ((ledger_in (found_in t) h rs).buyer i) (s.buyers.rows i (omega (arith, s.buyers.counted))) (m.uses i (omega arith));
        commitments = ap (λ n. take n t.commitments.rows) whole ∙ s.commitments.rows;
      }
