-- The amounts of the worked hours are in merit order. What is computed of some amounts is that each unit's price never
-- falls within its limit, and that the last kWh that one unit gets comes before the first that another doesn't.
use Rattle.std.proofs.Common.{◌≡◌, ℕ, zero, suc, ◌<◌, ◌≤◌, min, Bool, true, cond, ◌&&◌, ◌||◌, leb, ltb, eqb, List, refl, sym, ap, subst, ◌∙◌, inl, inr, ⊎_elim, arith}
use Rattle.std.proofs.lemmas.Bool.{cases_lt, and_parts, and_from, or_cases, leb-true, ltb-true, eqb-true, le-leb, lt-ltb, le-ltb, cond-true}
use Rattle.allocation.proofs.Orders.{split_of}
use Rattle.allocation.specs.Groups.{Group, sum_of, total}
use Rattle.allocation.specs.Laws.{Split, uncovered}
use Rattle.allocation.specs.Merit.{Before, MeritOrder}
use Rattle.settlement.specs.Shares.{running_share}
use Rattle.table.specs.ClosingLaw.{amount_in}
use Rattle.table.specs.History.{units_in}
use Rattle.table.specs.Rows.{UnitTable}
use Rattle.table.specs.declared.entries.Entry.{Entry}
use Rattle.book.specs.Law.{entered}
use Rattle.worked_hour.specs.Edges as edges
use Rattle.worked_hour.specs.Examples as worked
use Rattle.worked_hour.specs.Examples.{step}
use Rattle.worked_hour.specs.Hour as fuller
use Rattle.worked_hour.specs.Merits.{MeritExamples, closed, entries, found}
use Rattle.worked_hour.specs.Sample as sample

-- the first n numbers pass
abbrev every : ℕ → (ℕ → Bool) → Bool
every zero p = true
every (suc n) p = every n p && p n

every_at : (n : ℕ) (p : ℕ → Bool) → every n p ≡ true → (i : ℕ) → i < n → p i ≡ true
every_at zero p all i lt = absurd (omega arith)
every_at (suc n) p all i lt =
    let parts = and_parts (every n p) (p n) all in
    ⊎_elim
    (λ (less : i < n). every_at n p parts.0 i less)
    (λ (past : n ≤ i). let same : n ≡ i = omega arith in subst (λ k. p k ≡ true) same parts.1)
    (cases_lt i n)

module _ (g : Group) (share : ℕ) (amount : ℕ → ℕ) where
  abbrev rises : ℕ → Bool
  rises i = every (g.limit i) (λ k. leb (g.price i k) (g.price i (suc k)))

  rising : (i : ℕ) → rises i ≡ true → (k m : ℕ) → k ≤ m → m ≤ g.limit i → g.price i k ≤ g.price i m
  rising i up k zero le within = let same : k ≡ zero = omega arith in subst (λ x. g.price i k ≤ g.price i x) same (omega arith)
  rising i up k (suc m) le within = ⊎_elim
      (λ (less : k < suc m).
      let before = rising i up k m (omega arith) (omega arith) in
      let next = leb-true (g.price i m) (g.price i (suc m)) (every_at (g.limit i) _ up m (omega arith)) in
      omega arith)
      (λ (past : suc m ≤ k). let same : k ≡ suc m = omega arith in subst (λ x. g.price i k ≤ g.price i x) same (omega arith))
      (cases_lt k (suc m))

  -- unit i gets something and unit j not all: the last kWh of one comes before the next of the other
  abbrev parted : ℕ → ℕ → Bool
  parted i j =
      cond (leb 1 (amount i) && ltb (amount j) (g.limit j))
      (ltb (g.price i (amount i)) (g.price j (suc (amount j))) || (eqb (g.price i (amount i)) (g.price j (suc (amount j))) && leb i j))
      true

  abbrev ordered : Bool
  ordered =
      every g.units (λ i. leb (amount i) (g.limit i)) && (every g.units rises && every g.units (λ i. every g.units (parted i)))

  between : (i k j m p q : ℕ) → p ≡ q → i ≤ j → g.price i k ≤ p → q ≤ g.price j m → k ≤ amount i → amount j < m → Before g i k j m
  between i k j m p q same le first last taken above = ⊎_elim
      (λ (cheaper : g.price i k < g.price j m). inl cheaper)
      (λ (dearer : g.price j m ≤ g.price i k). inr (
        omega arith,
        ⊎_elim
            (λ (earlier : i < j). inl earlier)
            (λ (later : j ≤ i). let here : i ≡ j = omega arith in let alike : amount i ≡ amount j = ap amount here in inr (here, omega arith))
            (cases_lt i j),
      ))
      (cases_lt (g.price i k) (g.price j m))

  edge_order : (i k j m : ℕ) → rises i ≡ true → rises j ≡ true → parted i j ≡ true → amount i ≤ g.limit i → 1 ≤ k → k ≤ amount i → amount j < m → m ≤ g.limit j → Before g i k j m
  edge_order i k j m up-i up-j edge fit low taken above below =
      let p = g.price i (amount i) in
      let q = g.price j (suc (amount j)) in
      let first = rising i up-i k (amount i) taken fit in
      let last = rising j up-j (suc (amount j)) m (omega arith) below in
      let some = and_from (leb 1 (amount i)) (ltb (amount j) (g.limit j)) (le-leb 1 (amount i) (omega arith)) (lt-ltb (amount j) (g.limit j) (omega arith)) in
      let comes = ltb p q || (eqb p q && leb i j) in
      let is : comes ≡ true = sym (cond-true (leb 1 (amount i) && ltb (amount j) (g.limit j)) comes true some) ∙ edge in
      ⊎_elim
      (λ (cheaper : ltb p q ≡ true). let gap = ltb-true p q cheaper in inl (omega arith))
      (λ (tied : (eqb p q && leb i j) ≡ true).
      let parts = and_parts (eqb p q) (leb i j) tied in
      between i k j m p q (eqb-true p q parts.0) (leb-true i j parts.1) first last taken above)
      (or_cases (ltb p q) (eqb p q && leb i j) is)

  merit : ordered ≡ true → total g amount ≡ min share (total g g.limit) → MeritOrder g share amount
  merit whole covered =
      let fitting = every g.units (λ i. leb (amount i) (g.limit i)) in
      let rows = every g.units rises in
      let pairs = every g.units (λ i. every g.units (parted i)) in
      let parts = and_parts fitting (rows && pairs) whole in
      let more = and_parts rows pairs parts.1 in
      let within : (i : ℕ) → i < g.units → amount i ≤ g.limit i = λ i lt. leb-true (amount i) (g.limit i) (every_at g.units (λ i. leb (amount i) (g.limit i)) parts.0 i lt) in
      record {
        within = within;
        covered = covered;
        order = λ i k j m it jt. edge_order i k j m (every_at g.units rises more.0 i it) (every_at g.units rises more.0 j jt)
            (every_at g.units (parted i) (every_at g.units (λ i. every g.units (parted i)) more.1 i it) j jt) (within i it);
      }

-- a group's amounts, what they leave, and that nobody else gets anything
module _ (g plant : ℕ) (h : List Entry) (t : UnitTable) where
  abbrev amount : ℕ → ℕ
  amount i = amount_in g plant h t i

  -- no unit from place n on gets anything
  abbrev ends : ℕ → Bool
  ends n = every (units_in g h) (λ i. ltb i n || eqb (amount i) 0)

  past : (n : ℕ) → ends n ≡ true → (i : ℕ) → n ≤ i → amount i ≡ 0
  past n whole i le = ⊎_elim
      (λ (entered : i < units_in g h). ⊎_elim
      (λ (before : ltb i n ≡ true). let less = ltb-true i n before in absurd (omega arith))
      (λ (is : eqb (amount i) 0 ≡ true). eqb-true (amount i) 0 is)
      (or_cases (ltb i n) (eqb (amount i) 0) (every_at (units_in g h) (λ i. ltb i n || eqb (amount i) 0) whole i entered)))
      (λ (later : units_in g h ≤ i). let out = le-ltb i (units_in g h) later in grind (arith, out))
      (cases_lt i (units_in g h))

  abbrev merits : Group → ℕ → ℕ → Bool
  merits group share left =
      ordered group share amount
      && (eqb (total group amount) (min share (total group group.limit)) && (eqb left (uncovered group share amount) && ends group.units))

  split : (group : Group) (share left : ℕ) → merits group share left ≡ true → Split group share amount left
  split group share left whole =
      let covers = eqb (total group amount) (min share (total group group.limit)) in
      let leaves = eqb left (uncovered group share amount) in
      let parts = and_parts (ordered group share amount) (covers && (leaves && ends group.units)) whole in
      let more = and_parts covers (leaves && ends group.units) parts.1 in
      let rest = and_parts leaves (ends group.units) more.1 in
      split_of group share amount left
      (merit group share amount parts.0 (eqb-true (total group amount) (min share (total group group.limit)) more.0))
      (eqb-true left (uncovered group share amount) rest.0) (past group.units rest.1)

-- what holds of plant 1 holds of each plant where there is one, and so with plants 1 and 2 where there are two
first_place : (P : ℕ → Type 0) → P 0 → (i : ℕ) → i < 1 → P i
first_place P one zero lt = one
first_place P one (suc i) lt = absurd (omega arith)

both_places : (P : ℕ → Type 0) → P 0 → P 1 → (i : ℕ) → i < 2 → P i
both_places P one two zero lt = one
both_places P one two (suc zero) lt = two
both_places P one two (suc (suc i)) lt = absurd (omega arith)

pub merit_examples : MeritExamples
unfolding running_share sum_of
merit_examples = record {
  worked_hour = let h = entered worked.entries in let t = closed worked.found h in first_place _ (record { left1 = 10; left2 = 0; one = split 1 1 h t.competitive _ _ 10 refl; two = split 2 1 h t.guaranteed _ _ 0 refl; committed = refl; run = refl; allocated = refl; covers = refl });
  fuller_hour = let h = entered fuller.entries in let t = closed fuller.found h in both_places _ (record { left1 = 0; left2 = 0; one = split 1 1 h t.competitive _ _ 0 refl; two = split 2 1 h t.guaranteed _ _ 0 refl; committed = refl; run = refl; allocated = refl; covers = refl }) (record { left1 = 0; left2 = 37; one = split 1 2 h t.competitive _ _ 0 refl; two = split 2 2 h t.guaranteed _ _ 37 refl; committed = refl; run = refl; allocated = refl; covers = refl });
  sample_hour = let h = entered sample.entries in let t = closed sample.found h in both_places _ (record { left1 = 0; left2 = 15; one = split 1 1 h t.competitive _ _ 0 refl; two = split 2 1 h t.guaranteed _ _ 15 refl; committed = refl; run = refl; allocated = refl; covers = refl }) (record { left1 = 0; left2 = 0; one = split 1 2 h t.competitive _ _ 0 refl; two = split 2 2 h t.guaranteed _ _ 0 refl; committed = refl; run = refl; allocated = refl; covers = refl });
  without_rows = let h = entered edges.entries in let t = closed edges.found h in first_place _ (record { left1 = 0; left2 = 10; one = split 1 1 h t.competitive _ _ 0 refl; two = split 2 1 h t.guaranteed _ _ 10 refl; committed = refl; run = refl; allocated = refl; covers = refl });
  tied = let h = entered entries in let t = closed found h in both_places _ (record { left1 = 0; left2 = 0; one = split 1 1 h t.competitive _ _ 0 refl; two = split 2 1 h t.guaranteed _ _ 0 refl; committed = refl; run = refl; allocated = refl; covers = refl }) (record { left1 = 0; left2 = 0; one = split 1 2 h t.competitive _ _ 0 refl; two = split 2 2 h t.guaranteed _ _ 0 refl; committed = refl; run = refl; allocated = refl; covers = refl });
}
