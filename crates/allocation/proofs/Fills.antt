-- Filling units at the clearing price gives the merit order.
use Rattle.std.proofs.Common.{◌≡◌, ℕ, zero, suc, ◌+◌, ◌-◌, ◌<◌, ◌≤◌, min, refl, ap, ◌∙◌, inl, inr, ⊎_elim, arith}
use Rattle.std.proofs.lemmas.Bool.{cases_lt, cases_eq}
use Rattle.allocation.specs.Groups.{Group, sum_of, total}
use Rattle.allocation.specs.Merit.{Before, MeritOrder}
use Rattle.allocation.specs.Supply.{up_to, below, Parted, NoneOver, Clearing, Filled}
use Rattle.allocation.proofs.Sums.{sum_none, sum_more, sum_cong, sum_le}
use Rattle.allocation.proofs.Counts.{count_le, count_rises, count_all, count_below, count_none, cheaper_first}

zero_sum : (n : ℕ) → sum_of n (λ _. 0) ≡ 0
unfolding sum_of
zero_sum zero = refl
zero_sum (suc n) = omega (arith, zero_sum n)

-- nothing is cheaper than 0, and what is cheaper than p + 1 costs at most p
pub supply_none : (g : Group) (n p : ℕ) → p ≡ 0 → sum_of n (below g p) ≡ 0
supply_none g n p none =
    ap (λ q. sum_of n (below g q)) none ∙ sum_cong n (below g 0) (λ _. 0) (λ i lt. count_none (g.price i) (g.limit i)) ∙ zero_sum n

pub supply_less : (g : Group) (n p q : ℕ) → p ≡ suc q → sum_of n (below g p) ≡ sum_of n (up_to g q)
supply_less g n p q next =
    ap (λ r. sum_of n (below g r)) next ∙ sum_cong n (below g (suc q)) (up_to g q) (λ i lt. count_below (g.price i) (g.limit i) q)

-- what is cheaper than the clearing price does not exceed the share
pub supply_below : (g : Group) (n share p : ℕ) → Clearing g n share p → sum_of n (below g p) ≤ share
supply_below g n share zero clearing = omega (arith, supply_none g n 0 refl)
supply_below g n share (suc p) clearing = omega (arith, supply_less g n (suc p) p refl, clearing.least p (omega arith))

-- more kWh cost at most a higher price
pub supply_rises : (g : Group) (n p q : ℕ) → p ≤ q → sum_of n (up_to g p) ≤ sum_of n (up_to g q)
supply_rises g n p q le = sum_le n (up_to g p) (up_to g q) (λ i lt. count_rises (g.price i) (g.limit i) p q le)

-- no unit is filled yet
pub filled_none : (g : Group) (p before : ℕ) (a : ℕ → ℕ) → Filled g 0 p before before a
filled_none g p before a = record {
  parted = λ i lt. absurd (omega arith);
  low = λ i lt. absurd (omega arith);
  high = λ i lt. absurd (omega arith);
  sum = omega (arith, sum_none a, sum_none (below g p));
  stops = λ i j lt at. absurd (omega arith);
  short = λ i lt. absurd (omega arith);
}

-- where a fact holds below n and at n, it holds below n + 1
pub below_more : (P : ℕ → Type 0) (n : ℕ) → ((i : ℕ) → i < n → P i) → P n → (i : ℕ) → i < n + 1 → P i
below_more P n each here i lt =
    ⊎_elim (λ (same : i ≡ n). rw same here) (λ (other : i ≡ n → ⊥). each i (omega arith)) (cases_eq i n)

-- one more unit is filled
pub filled_more : (g : Group) (n p before left after : ℕ) (a b : ℕ → ℕ) (more : ℕ) → Filled g n p before left a → ((i : ℕ) → i < n → b i ≡ a i) → Parted g p n → more ≡ min (up_to g p n - below g p n) left → b n ≡ below g p n + more → after ≡ left - more → Filled g (n + 1) p before after b
filled_more g n p before left after a b more filled same parted is-more here rest = record {
  parted = below_more (Parted g p) n filled.parted parted;
  low = below_more (λ i. below g p i ≤ b i) n (λ i lt. omega (arith, same i lt, filled.low i lt)) (omega arith);
  high = below_more (λ i. b i ≤ up_to g p i) n (λ i lt. omega (arith, same i lt, filled.high i lt)) (omega (arith, cheaper_first (g.price n) (g.limit n) p _ _ parted.cheaper parted.marginal));
  sum = omega (arith, sum_more n b, sum_more n (below g p), sum_cong n b a same, filled.sum);
  stops = λ i j lt at short. below_more (λ k. i < k → b k ≡ below g p k) n
      (λ k kt it. same k kt ∙ filled.stops i k it kt (omega (arith, same i (omega arith))))
      (λ it. omega (arith, filled.short i it (omega (arith, same i it)))) j at lt;
  short = below_more (λ i. b i < up_to g p i → after ≡ 0) n
      (λ i lt short. omega (arith, filled.short i lt (omega (arith, same i lt))))
      (λ short. omega arith);
}

-- two kWh, one taken and one not
in_order : (g : Group) (n p before after : ℕ) (a : ℕ → ℕ) → Filled g n p before after a → (i k j m : ℕ) → i < n → j < n → 1 ≤ k → k ≤ a i → a j < m → m ≤ g.limit j → Before g i k j m
in_order g n p before after a filled i k j m it jt low high above within =
    let pi = filled.parted i it in
    let pj = filled.parted j jt in
    let taken : g.price i k ≤ p = pi.marginal.cheap k low (omega (arith, filled.high i it)) in
    let untaken : p ≤ g.price j m = omega (arith, pj.cheaper.dear m (omega (arith, filled.low j jt)) within) in
    ⊎_elim inl
    (λ (ge : g.price j m ≤ g.price i k).
    let same : g.price i k ≡ g.price j m = omega arith in
    let past : below g p i < k = after_cheaper pi (omega arith) in
    let short : a j < up_to g p j = omega (arith, before_dearer pj (omega arith)) in
    inr (
      same,
      ⊎_elim inl
          (λ (le : j ≤ i). ⊎_elim
          (λ (eq : i ≡ j). let fewer : a i ≡ a j = ap a eq in inr (eq, omega arith))
          (λ (other : i ≡ j → ⊥). absurd (omega (arith, filled.stops j i (omega arith) it short)))
          (cases_eq i j))
          (cases_lt i j),
    ))
    (cases_lt (g.price i k) (g.price j m))
  where
    after_cheaper : Parted g p i → p ≤ g.price i k → below g p i < k
    after_cheaper pi dear =
        ⊎_elim (λ lt. lt) (λ (le : k ≤ below g p i). absurd (omega (arith, pi.cheaper.cheap k low le))) (cases_lt (below g p i) k)

    before_dearer : Parted g p j → g.price j m ≤ p → m ≤ up_to g p j
    before_dearer pj cheap =
        ⊎_elim (λ (lt : up_to g p j < m). absurd (omega (arith, pj.marginal.dear m lt within))) (λ le. le) (cases_lt (up_to g p j) m)

-- a filled group at the clearing price is in merit order, and what is left is what the amounts leave uncovered
pub filled_merit : (g : Group) (share p before after : ℕ) (a : ℕ → ℕ) → Clearing g g.units share p → before ≡ share - sum_of g.units (below g p) → Filled g g.units p before after a → MeritOrder g share a × (after ≡ share - total g a)
filled_merit g share p before after a clearing rest filled =
    let n = g.units in
    let enough = supply_below g n share p clearing in
    let high : sum_of n a ≤ sum_of n g.limit = sum_le n a g.limit (λ i lt. omega (arith, filled.high i lt, count_le (g.price i) (g.limit i) p)) in
    let sums : sum_of n a + after ≡ share = omega (arith, filled.sum) in
    let all : (0 < after) → sum_of n a ≡ sum_of n g.limit = λ left.
    let full = sum_cong n a (up_to g p) (λ i lt. ⊎_elim (λ short. absurd (omega (arith, filled.short i lt short))) (λ ge. omega (arith, filled.high i lt)) (cases_lt (a i) (up_to g p i))) in
    ⊎_elim (λ (le : share ≤ sum_of n (up_to g p)). absurd (omega arith))
    (λ (top : NoneOver g n p). full ∙ sum_cong n (up_to g p) g.limit (λ i lt. count_all (g.price i) (g.limit i) p (top i lt)))
    clearing.enough in
    let covered : sum_of n a ≡ min share (sum_of n g.limit) =
    ⊎_elim (λ (left : 0 < after). omega (arith, all left)) (λ (none : after ≤ 0). omega arith) (cases_lt 0 after) in (
      record {
        within = λ i lt. omega (arith, filled.high i lt, count_le (g.price i) (g.limit i) p);
        covered = covered;
        order = in_order g n p before after a filled;
      },
      omega arith,
    )
