-- The cost of kWh from one to another.
use Rattle.std.proofs.Common.{◌≡◌, ℕ, zero, suc, ◌+◌, ◌-◌, ◌*◌, ◌<◌, ◌≤◌, min, cond, leb, sym, refl, ap, ◌∙◌, ⊎_elim, mul-add, arith}
use Rattle.std.proofs.lemmas.Bool.{cases_lt, le-leb, lt-leb, cond-true, cond-false}
use Rattle.curves.proofs.Costs.{cost_le, cost_flat}
use Rattle.curves.specs.Prices.{cost_of}
use Rattle.settlement.specs.Payments.{cost_between, lesser}

-- what kWh b + 1 adds to the cost of the kWh after a
abbrev adds : (ℕ → ℕ) → ℕ → ℕ → ℕ
adds price a b = cond (leb (suc b) a) 0 (price (suc b))

-- with the cost of the kWh that are not after a, it is the cost of all b kWh
between : (price : ℕ → ℕ) (a b : ℕ) → cost_between price a b + cost_of price (min a b) ≡ cost_of price b
unfolding cost_between cost_of
between price a zero =
    let none : min a 0 ≡ 0 = omega arith in
    rw none refl
between price a (suc b) =
    ⊎_elim
    (λ (before : b < a).
    let none : adds price a b ≡ 0 = cond-true _ _ _ (le-leb (suc b) a before) in
    let here : min a (suc b) ≡ suc b = omega arith in
    let was : min a b ≡ b = omega arith in
    omega (arith, none, between price a b, ap (cost_of price) here, ap (cost_of price) was))
    (λ (from : a ≤ b).
    let one : adds price a b ≡ price (suc b) = cond-false _ _ _ (lt-leb (suc b) a (omega arith)) in
    let here : min a (suc b) ≡ min a b = omega arith in
    omega (arith, one, between price a b, ap (cost_of price) here))
    (cases_lt b a)

-- it is the difference of two costs
pub cost_difference : (price : ℕ → ℕ) (a b : ℕ) → cost_of price b - cost_of price a ≡ cost_between price a b
cost_difference price a b =
    ⊎_elim
    (λ (less : b < a).
    let at : min a b ≡ b = omega arith in
    let back : min b a ≡ b = omega arith in
    omega (arith, between price a b, between price b a, ap (cost_of price) at, ap (cost_of price) back))
    (λ (from : a ≤ b).
    let at : min a b ≡ a = omega arith in
    omega (arith, between price a b, ap (cost_of price) at))
    (cases_lt b a)

-- the cost of the first b kWh is that of the kWh after none, up to b
pub from_start : (price : ℕ → ℕ) (b : ℕ) → cost_of price b ≡ cost_between price 0 b
unfolding cost_of
from_start price b = omega (arith, cost_difference price 0 b)

-- nothing lies between a kWh and an earlier one
pub between_none : (price : ℕ → ℕ) (a b : ℕ) → b ≤ a → cost_between price a b ≡ 0
between_none price a b le =
    let at : min a b ≡ b = omega arith in
    omega (arith, between price a b, ap (cost_of price) at)

-- no cost is over 20,000,000,000,000
pub between_bound : (price : ℕ → ℕ) → ((k : ℕ) → price k ≤ 10000000) → (a b : ℕ) → b ≤ 2000000 → cost_between price a b ≤ 20000000000000
between_bound price each a b le = omega (arith, between price a b, cost_le price each b le)

-- the cost where all kWh have one price
pub between_flat : (p a b : ℕ) → cost_between (λ _. p) a b ≡ p * (b - a)
between_flat p a b =
    ⊎_elim
    (λ (less : b < a).
    let none : b - a ≡ 0 = omega arith in
    between_none (λ _. p) a b (omega arith) ∙ sym (ap (λ n. p * n) none ∙ zero_times p))
    (λ (from : a ≤ b).
    let at : min a b ≡ a = omega arith in
    let whole : b ≡ a + (b - a) = omega arith in
    let parts : p * b ≡ p * a + p * (b - a) = ap (λ n. p * n) whole ∙ mul-add p a (b - a) in
    omega (arith, between (λ _. p) a b, ap (cost_of (λ _. p)) at, cost_flat p a, cost_flat p b, parts))
    (cases_lt b a)
  where
    zero_times : (p : ℕ) → p * 0 ≡ 0
    zero_times p = omega arith

-- the lesser of two costs is 0 where there is no kWh
pub lesser_from : (one other : ℕ → ℕ) (a b : ℕ) → lesser one other a b ≡ cond (leb b a) 0 (lesser one other a b)
lesser_from one other a b =
    ⊎_elim
    (λ (less : a < b). sym (cond-false _ _ _ (lt-leb b a less)))
    (λ (le : b ≤ a). omega (arith, between_none one a b le, between_none other a b le) ∙ sym (cond-true _ _ _ (le-leb b a le)))
    (cases_lt a b)
