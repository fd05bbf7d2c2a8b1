-- Lemmas on the cost of kWh and on counts by price.
use Rattle.std.proofs.Common.{◌≡◌, ℕ, zero, suc, ◌+◌, ◌-◌, ◌*◌, ◌<◌, ◌≤◌, min, sym, ap, ◌∙◌, add-zero, add-suc, mul-zero, mul-suc, arith}
use Rattle.curves.specs.Prices.{cost_of, Stretch, NeverFalls, AtMost, BeforeDearer}

-- the cost of n more kWh of one price
pub cost_level : (price : ℕ → ℕ) (p a n : ℕ) → ((m : ℕ) → a < m → m ≤ a + n → price m ≡ p) → cost_of price (a + n) ≡ cost_of price a + p * n
unfolding cost_of
cost_level price p a zero level = rw (add-zero, mul-zero, add-zero)
cost_level price p a (suc n) level =
    let before = cost_level price p a n (λ m above below. level m above (omega arith)) in
    let here = level (suc (a + n)) (omega arith) (omega arith) in
    rw add-suc (omega (arith, before, here, mul-suc p n))

-- what the kWh after kWh a cost, up to kWh b, where they have one price
pub cost_to : (price : ℕ → ℕ) (p a b : ℕ) → a ≤ b → ((m : ℕ) → a < m → m ≤ b → price m ≡ p) → cost_of price b ≡ cost_of price a + p * (b - a)
cost_to price p a b le level =
    let split : b ≡ a + (b - a) = omega arith in
    ap (cost_of price) split ∙ cost_level price p a (b - a) (λ m above below. level m above (omega arith))

-- no cost is over the highest price times the kWh
pub cost_bound : (price : ℕ → ℕ) (top : ℕ) → ((k : ℕ) → price k ≤ top) → (n : ℕ) → cost_of price n ≤ top * n
unfolding cost_of
cost_bound price top bounded zero = omega arith
cost_bound price top bounded (suc n) =
    omega (arith, cost_bound price top bounded n, bounded (suc n), mul-suc top n)

-- the cost of at most 2,000,000 kWh is at most 20,000,000,000,000
pub cost_le : (price : ℕ → ℕ) → ((k : ℕ) → price k ≤ 10000000) → (n : ℕ) → n ≤ 2000000 → cost_of price n ≤ 20000000000000
cost_le price each n le = omega (arith, cost_bound price 10000000 each n)

-- the cost of n kWh of one price
pub cost_flat : (p n : ℕ) → cost_of (λ _. p) n ≡ p * n
unfolding cost_of
cost_flat p zero = sym (mul-zero p)
cost_flat p (suc n) = omega (arith, cost_flat p n, mul-suc p n)

-- one turn of a walk by stretches: from `done` to the stretch's end, or to `energy` if that comes first
pub cost_step : (price : ℕ → ℕ) (done k far end energy p total : ℕ) → k ≡ suc done → done < energy → total ≡ cost_of price done → p ≡ price k → Stretch price k far → end ≡ min far energy → total + p * (end - done) ≡ cost_of price end
cost_step price done k far end energy p total next room so_far priced stretch ends =
    let level = stretch.level in
    let le : done ≤ end = omega (arith, stretch.from) in
    let rest = cost_to price p done end le (λ m above below. level m (omega arith) (omega arith) ∙ sym priced) in
    omega (arith, rest, so_far)

-- where prices never fall, the first kWh that costs more parts the cheap ones from the dear ones
pub at_most : (price : ℕ → ℕ) (energy p n : ℕ) → energy ≤ 2000000 → NeverFalls price → BeforeDearer price energy p n → AtMost price energy p n
at_most price energy p n short rises counted = record {
  within = counted.within;
  cheap = counted.cheap;
  dear = λ k above below. omega (arith, counted.next (omega arith), rises (suc n) k (omega arith) above (omega arith));
}
