-- The figures of a settled hour are one function of header, accepted calls and rows.
use Rattle.table.specs.Places.{unit_at, plant_at}
use Rattle.std.proofs.Common.{◌≡◌, ℕ, ◌+◌, ◌-◌, ◌<◌, List, length, sym, ap, ◌∙◌, ⊎_elim, arith}
use Rattle.std.proofs.lemmas.Bool.{cases_lt, lt-ltb, eq-eqb, cond-true, and_from}
use Rattle.allocation.specs.Groups.{Group}
use Rattle.allocation.specs.Laws.{Split}
use Rattle.allocation.proofs.Sums.{sum_cong}
use Rattle.settling.proofs.Agree.{plant_agree, buyer_agree, hour_agree}
use Rattle.settling.specs.Derived.{found_in}
use Rattle.settling.specs.Figures.{Pay, unit_figures}
use Rattle.settling.specs.declared.header.Header.{Header}
use Rattle.table.proofs.Accepted.{units_placed}
use Rattle.table.specs.ClosingLaw.{group_in, share_one_in, share_two_in, amount_in, ClosingLaw}
use Rattle.table.specs.History.{plants_in, units_in, unit_in, Proper}
use Rattle.table.specs.Rows.{UnitTable}
use Rattle.table.specs.declared.entries.Entry.{Entry}
use Rattle.table.specs.declared.readings.Reading.{Reading}
use Rattle.table.specs.declared.records.Table.{Table}
use Rattle.book.proofs.Settles.{found_agree}
use Rattle.book.specs.Law.{ledger, SettledLaw, SameFigures}

-- two splits of one share over one group
module _ (g : Group) (share left left' : ℕ) (x y : ℕ → ℕ) (a : Split g share x left) (b : Split g share y left') where
  same_amounts : (i : ℕ) → x i ≡ y i
  same_amounts i =
      ⊎_elim (λ lt. b.only x a.merit i lt) (λ past. a.others i past ∙ sym (b.others i past)) (cases_lt i g.units)

  same_left : left ≡ left'
  same_left = a.leaves ∙ ap (λ s. share - s) (sum_cong g.units x y (λ i lt. same_amounts i)) ∙ sym b.leaves

-- a unit's amount is its plant's
own_amount : (g : ℕ) (h : List Entry) (t : UnitTable) (i plant : ℕ) → i < units_in g h → (unit_in g (i + 1) h).plant ≡ plant → amount_in g plant h t i ≡ (unit_at t i).figures.allocated
own_amount g h t i plant lt own = cond-true _ _ _ (and_from _ _ (lt-ltb i (units_in g h) lt) (eq-eqb _ _ own))

-- the only amounts of a group are its plants' in both tables
amount_same : {O : Type 0} (g : ℕ) (prices : O → ℕ → ℕ) (offers : List O) (h : List Entry) (t u : UnitTable) (i plant share left left' : ℕ) → i < units_in g h → (unit_in g (i + 1) h).plant ≡ plant → Split (group_in g prices offers plant h) share (amount_in g plant h t) left → Split (group_in g prices offers plant h) share (amount_in g plant h u) left' → (unit_at t i).figures.allocated ≡ (unit_at u i).figures.allocated
amount_same g prices offers h t u i plant share left left' lt own a b =
    sym (own_amount g h t i plant lt own) ∙ same_amounts (group_in g prices offers plant h) share left left' _ _ a b i ∙ own_amount g h u i plant lt own

module _ {O P : Type 0} (prices1 : O → ℕ → ℕ) (offers1 : List O) (prices2 : P → ℕ → ℕ) (offers2 : List P) (h : List Entry) (ok : Proper h) (t u : Table) (lt-law : ClosingLaw prices1 offers1 prices2 offers2 h t) (lu-law : ClosingLaw prices1 offers1 prices2 offers2 h u) where
  -- the place of a unit's plant
  plant_of : (g i : ℕ) → i < units_in g h → (place : ℕ) × (place < plants_in h) × ((unit_in g (i + 1) h).plant ≡ place + 1)
  plant_of g i lt =
      let placed = units_placed h ok g i lt in
      ((unit_in g (i + 1) h).plant - 1, omega (arith, placed.0, placed.1), omega (arith, placed.0))

  one_same : (i : ℕ) → i < units_in 1 h → (unit_at t.competitive i).figures.allocated ≡ (unit_at u.competitive i).figures.allocated
  one_same i lt =
      let (place, there, own) = plant_of 1 i lt in
      amount_same 1 prices1 offers1 h t.competitive u.competitive i (place + 1) _ _ _ lt own (lt-law place there).one (lu-law place there).one

  two_same : (i : ℕ) → i < units_in 2 h → (unit_at t.guaranteed i).figures.allocated ≡ (unit_at u.guaranteed i).figures.allocated
  two_same i lt =
      let (place, there, own) = plant_of 2 i lt in
      amount_same 2 prices2 offers2 h t.guaranteed u.guaranteed i (place + 1) _ _ _ lt own (lt-law place there).two (lu-law place there).two

  run_same : (i : ℕ) → i < plants_in h → (plant_at t i).figures.run ≡ (plant_at u i).figures.run
  run_same i lt =
      let a = lt-law i lt in
      let b = lu-law i lt in
      let back : i ≡ i + 1 - 1 = omega arith in
      let one = same_left (group_in 1 prices1 offers1 (i + 1) h) (share_one_in (i + 1) (length offers1) (length offers2) h) a.left1 b.left1 _ _ a.one b.one in
      let two = same_left (group_in 2 prices2 offers2 (i + 1) h) (share_two_in (i + 1) (length offers1) (length offers2) h) a.left2 b.left2 _ _ a.two b.two in
      let here = ap (λ k. (plant_at t k).figures.run) back in
      let other = ap (λ k. (plant_at u k).figures.run) back in
      omega (arith, here, other, one, two, a.run, b.run)

pub only_figures : {O P : Type 0} (prices1 : O → ℕ → ℕ) (offers1 : List O) (prices2 : P → ℕ → ℕ) (offers2 : List P) (header : Header) (pay : Pay) (h : List Entry) (rs : List Reading) (t : Table) → Proper h → SettledLaw prices1 offers1 prices2 offers2 header pay h rs t → (u : Table) → SettledLaw prices1 offers1 prices2 offers2 header pay h rs u → SameFigures h t u
only_figures prices1 offers1 prices2 offers2 header pay h rs t ok a u b =
    let one = one_same prices1 offers1 prices2 offers2 h ok t u a.closing b.closing in
    let two = two_same prices1 offers1 prices2 offers2 h ok t u a.closing b.closing in
    let run = run_same prices1 offers1 prices2 offers2 h ok t u a.closing b.closing in
    let agree = found_agree h rs (found_in t) (found_in u) one two run in
    record {
      competitive = λ i lt. a.competitive i lt ∙ ap (λ x. unit_figures (pay 1 i x) x) (agree.unit1 i lt) ∙ sym (b.competitive i lt);
      guaranteed = λ i lt. a.guaranteed i lt ∙ ap (λ x. unit_figures (pay 2 i x) x) (agree.unit2 i lt) ∙ sym (b.guaranteed i lt);
      plants = λ i lt. a.plants i lt ∙ plant_agree (ledger h rs t) (ledger h rs u) agree header pay i lt ∙ sym (b.plants i lt);
      buyers = λ i lt. a.buyers i lt ∙ buyer_agree (ledger h rs t) (ledger h rs u) agree i lt ∙ sym (b.buyers i lt);
      hour = a.hour ∙ hour_agree (ledger h rs t) (ledger h rs u) agree ∙ sym b.hour;
    }
