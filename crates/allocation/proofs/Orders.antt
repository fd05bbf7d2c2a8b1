-- What follows from the merit order: the amounts are the only ones, nothing leaves less, nothing undercuts them, and a
-- unit with limit 0 can be taken out.
use Rattle.std.proofs.Common.{◌≡◌, ℕ, zero, suc, ◌+◌, ◌-◌, ◌*◌, ◌<◌, ◌≤◌, max, ◌⊎◌, sym, refl, ap, ◌∙◌, inl, inr, ⊎_elim, add-zero, add-suc, mul-add, arith}
use Rattle.std.proofs.lemmas.Bool.{cases_lt, cases_eq, cond-true, cond-false, lt-ltb, le-ltb}
use Rattle.curves.specs.Prices.{cost_of}
use Rattle.curves.proofs.Costs.{cost_flat}
use Rattle.allocation.specs.Groups.{Group, sum_of, total}
use Rattle.allocation.specs.Merit.{Before, MeritOrder}
use Rattle.allocation.specs.Laws.{OnlyThese, NothingLeavesLess, NothingUndercuts, IdleUnitsDropOut, Split, uncovered, skip, without}
use Rattle.allocation.proofs.Sums.{sum_cong, sum_le, some_less}

-- two kWh do not each come before the other
not_both : (g : Group) (i k j m : ℕ) → Before g i k j m → Before g j m i k → ⊥
not_both g i k j m first second = omega arith

-- of two lists of amounts in merit order, no unit has more in one than in the other
no_more : (g : Group) (share : ℕ) (a b : ℕ → ℕ) → MeritOrder g share a → MeritOrder g share b → (i : ℕ) → i < g.units → a i < b i → ⊥
no_more g share a b by-a by-b i lt less =
    let same : total g a ≡ total g b = by-a.covered ∙ sym by-b.covered in
    let found = some_less g.units a b i lt less same in
    let j = found.0 in
    let in-a = by-a.order j (suc (b j)) i (suc (a i)) found.1 lt (omega arith) found.2 (omega arith) (omega (arith, by-b.within i lt)) in
    let in_b = by-b.order i (suc (a i)) j (suc (b j)) lt found.1 (omega arith) less (omega arith) (omega (arith, by-a.within j found.1, found.2)) in
    not_both g j (suc (b j)) i (suc (a i)) in-a in_b

only_these : (g : Group) (share : ℕ) (a : ℕ → ℕ) → MeritOrder g share a → OnlyThese g share a
only_these g share a by-a b by-b i lt =
    let low = no_more g share a b by-a by-b i lt in
    let high = no_more g share b a by-b by-a i lt in
    ⊎_elim (λ less. absurd (low less)) (λ le. ⊎_elim (λ less. absurd (high less)) (λ ge. omega arith) (cases_lt (b i) (a i))) (cases_lt (a i) (b i))

nothing_leaves_less : (g : Group) (share : ℕ) (a : ℕ → ℕ) → MeritOrder g share a → NothingLeavesLess g share a
nothing_leaves_less g share a by-a other within =
    omega (arith, sum_le g.units other g.limit within, by-a.covered)

-- the largest of f over the first n places
largest : ℕ → (ℕ → ℕ) → ℕ
largest zero f = 0
largest (suc n) f = max (largest n f) (f n)

largest_over : (n : ℕ) (f : ℕ → ℕ) (i : ℕ) → i < n → f i ≤ largest n f
unfolding largest
largest_over zero f i lt = absurd (omega arith)
largest_over (suc n) f i lt =
    ⊎_elim
    (λ (same : i ≡ n). rw same (omega arith))
    (λ (other : i ≡ n → ⊥). omega (arith, largest_over n f i (omega arith)))
    (cases_eq i n)

largest_under : (n : ℕ) (f : ℕ → ℕ) (x : ℕ) → ((i : ℕ) → i < n → f i ≤ x) → largest n f ≤ x
unfolding largest
largest_under zero f x each = omega arith
largest_under (suc n) f x each =
    omega (arith, largest_under n f x (λ i lt. each i (omega arith)), each n (omega arith))

-- the highest price of the first n kWh
abbrev highest : (ℕ → ℕ) → ℕ → ℕ
highest price n = largest n (λ k. price (suc k))

highest_over : (price : ℕ → ℕ) (n k : ℕ) → 1 ≤ k → k ≤ n → price k ≤ highest price n
highest_over price n zero low high = absurd (omega arith)
highest_over price n (suc k) low high = largest_over n (λ m. price (suc m)) k high

-- the marginal price: no taken kWh is dearer, and no other within the limits is cheaper
record Marginal (g : Group) (a : ℕ → ℕ) (p : ℕ) : Type 0 where
  taken : (i k : ℕ) → i < g.units → 1 ≤ k → k ≤ a i → g.price i k ≤ p
  untaken : (i m : ℕ) → i < g.units → a i < m → m ≤ g.limit i → p ≤ g.price i m

before_cheaper : (g : Group) (i k j m : ℕ) → Before g i k j m → g.price i k ≤ g.price j m
before_cheaper g i k j m first = omega arith

marginal : (g : Group) (share : ℕ) (a : ℕ → ℕ) → MeritOrder g share a → Marginal g a (largest g.units (λ i. highest (g.price i) (a i)))
marginal g share a by-a = record {
  taken = λ i k lt low high. omega (arith, highest_over (g.price i) (a i) k low high, largest_over g.units (λ j. highest (g.price j) (a j)) i lt);
  untaken = λ j m lt above within. largest_under g.units (λ i. highest (g.price i) (a i)) (g.price j m)
      (λ i at. largest_under (a i) (λ k. g.price i (suc k)) (g.price j m)
      (λ k high. before_cheaper g i (suc k) j m (by-a.order i (suc k) j m at lt (omega arith) high above within)));
}

-- kWh from a to a + n that are nowhere dearer by one curve than by another cost no more by it
cost_under : (f h : ℕ → ℕ) (a n : ℕ) → ((m : ℕ) → a < m → m ≤ a + n → f m ≤ h m) → cost_of f (a + n) + cost_of h a ≤ cost_of h (a + n) + cost_of f a
unfolding cost_of
cost_under f h a zero each = simp add-zero (omega arith)
cost_under f h a (suc n) each =
    let before = cost_under f h a n (λ m above below. each m above (omega arith)) in
    simp add-suc (omega (arith, before, each (suc (a + n)) (omega arith) (omega arith)))

-- the same from a to a later kWh b
cost_between_lem : (f h : ℕ → ℕ) (a b : ℕ) → a ≤ b → ((m : ℕ) → a < m → m ≤ b → f m ≤ h m) → cost_of f b + cost_of h a ≤ cost_of h b + cost_of f a
cost_between_lem f h a b le each =
    let whole : a + (b - a) ≡ b = omega arith in
    rw whole at (cost_under f h a (b - a) (λ m above below. each m above (omega arith)))

-- one unit that changes its amount from a to b, with each kWh that it gives up or takes on traded at p, saves nothing
unit_trade : (price : ℕ → ℕ) (p a b : ℕ) → ((k : ℕ) → 1 ≤ k → k ≤ a → price k ≤ p) → ((m : ℕ) → a < m → m ≤ b → p ≤ price m) → cost_of price a + p * b ≤ cost_of price b + p * a
unit_trade price p a b taken untaken =
    let flat = λ (n : ℕ). cost_flat p n in
    ⊎_elim
    (λ (less : a < b). omega (arith, cost_between_lem (λ _. p) price a b (omega arith) untaken, flat a, flat b))
    (λ (ge : b ≤ a). omega (arith, cost_between_lem price (λ _. p) b a ge (λ m above below. taken m (omega arith) below), flat a, flat b))
    (cases_lt a b)

-- the same over n units
trade : (price : ℕ → ℕ → ℕ) (p : ℕ) (a b : ℕ → ℕ) (n : ℕ) → ((i : ℕ) → i < n → cost_of (price i) (a i) + p * b i ≤ cost_of (price i) (b i) + p * a i) → sum_of n (λ i. cost_of (price i) (a i)) + p * sum_of n b ≤ sum_of n (λ i. cost_of (price i) (b i)) + p * sum_of n a
unfolding sum_of
trade price p a b zero each = omega arith
trade price p a b (suc n) each =
    omega (arith, trade price p a b n (λ i lt. each i (omega arith)), each n (omega arith), mul-add p (sum_of n a) (a n), mul-add p (sum_of n b) (b n))

nothing_undercuts : (g : Group) (share : ℕ) (a : ℕ → ℕ) → MeritOrder g share a → NothingUndercuts g a
nothing_undercuts g share a by-a other within same =
    let p = largest g.units (λ i. highest (g.price i) (a i)) in
    let m = marginal g share a by-a in
    let all = trade g.price p a other g.units
    (λ i lt. unit_trade (g.price i) p (a i) (other i) (λ k low high. m.taken i k lt low high) (λ k above below. m.untaken i k lt above (omega (arith, within i lt)))) in
    let equal : p * total g other ≡ p * total g a = ap (λ t. p * t) same in
    omega arith

-- the places around a unit that is taken out
skip_cases : (z i : ℕ) → ((i < z) × (skip z i ≡ i)) ⊎ ((z ≤ i) × (skip z i ≡ suc i))
skip_cases z i =
    ⊎_elim (λ lt. inl (lt, cond-true _ i (suc i) (lt-ltb i z lt))) (λ le. inr (le, cond-false _ i (suc i) (le-ltb i z le))) (cases_lt i z)

sum_skip : (n z : ℕ) (f : ℕ → ℕ) → z ≤ n → sum_of (suc n) f ≡ sum_of n (λ i. f (skip z i)) + f z
unfolding sum_of
sum_skip zero z f le = let here : z ≡ 0 = omega arith in rw here refl
sum_skip (suc n) z f le =
    ⊎_elim
    (λ (same : z ≡ suc n).
    let kept = sum_cong (suc n) (λ i. f (skip z i)) f (λ i lt. ap f (cond-true _ i (suc i) (lt-ltb i z (omega arith)))) in
    omega (arith, kept, ap f same))
    (λ (other : z ≡ suc n → ⊥).
    let moved : f (skip z n) ≡ f (suc n) = ap f (cond-false _ n (suc n) (le-ltb n z (omega arith))) in
    omega (arith, sum_skip n z f (omega arith), moved))
    (cases_eq z (suc n))

-- a total over a group is that over the group without the unit at z, and its own
total_skip : (g : Group) (z : ℕ) (f : ℕ → ℕ) → z < g.units → total g f ≡ total (without z g) (λ i. f (skip z i)) + f z
total_skip g z f lt =
    let whole : g.units ≡ suc (g.units - 1) = omega arith in
    ap (λ n. sum_of n f) whole ∙ sum_skip (g.units - 1) z f (omega arith)

before_skip : (g : Group) (z i k j m : ℕ) → Before g (skip z i) k (skip z j) m → Before (without z g) i k j m
before_skip g z i k j m =
    let ci = skip_cases z i in
    let cj = skip_cases z j in
    ⊎_elim inl (λ same. inr (same.0, ⊎_elim (λ lt. inl (lower ci cj lt)) (λ eq. inr (equal ci cj eq.0, eq.1)) same.1))
  where
    lower : {z i j : ℕ} → ((i < z) × (skip z i ≡ i)) ⊎ ((z ≤ i) × (skip z i ≡ suc i)) → ((j < z) × (skip z j ≡ j)) ⊎ ((z ≤ j) × (skip z j ≡ suc j)) → skip z i < skip z j → i < j
    lower ci cj lt = omega arith

    equal : {z i j : ℕ} → ((i < z) × (skip z i ≡ i)) ⊎ ((z ≤ i) × (skip z i ≡ suc i)) → ((j < z) × (skip z j ≡ j)) ⊎ ((z ≤ j) × (skip z j ≡ suc j)) → skip z i ≡ skip z j → i ≡ j
    equal ci cj e = omega arith

idle_units : (g : Group) (share : ℕ) (a : ℕ → ℕ) → MeritOrder g share a → IdleUnitsDropOut g share a
idle_units g share a by-a z lt idle =
    let none : a z ≡ 0 = omega (arith, by-a.within z lt) in
    let place : (i : ℕ) → i < g.units - 1 → skip z i < g.units = λ i at. omega (arith, skip_cases z i) in (
      none,
      record {
        within = λ i at. by-a.within (skip z i) (place i at);
        covered = omega (arith, by-a.covered, total_skip g z a lt, total_skip g z g.limit lt);
        order = λ i k j m at jt low high above below. before_skip g z i k j m (by-a.order (skip z i) k (skip z j) m (place i at) (place j jt) low high above below);
      },
    )

-- the whole promise follows from the merit order
pub split_of : (g : Group) (share : ℕ) (a : ℕ → ℕ) (left : ℕ) → MeritOrder g share a → left ≡ uncovered g share a → ((i : ℕ) → g.units ≤ i → a i ≡ 0) → Split g share a left
split_of g share a left merit leaves others = record {
  merit = merit;
  only = only_these g share a merit;
  leaves = leaves;
  least = nothing_leaves_less g share a merit;
  cheapest = nothing_undercuts g share a merit;
  idle = idle_units g share a merit;
  others = others;
}
