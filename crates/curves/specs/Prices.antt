-- What a price curve and an offer answer, told by the price of each kWh.
use Rattle.std.specs.Prelude.{◌≡◌, ℕ, zero, suc, ◌+◌, ◌<◌, ◌≤◌}

-- the cost of the first n kWh: the sum of their prices
unfoldable pub cost_of : (ℕ → ℕ) → ℕ → ℕ
cost_of price zero = 0
cost_of price (suc n) = cost_of price n + price (suc n)

-- from kWh k up to kWh end the price stays that of k
pub record Stretch (price : ℕ → ℕ) (k end : ℕ) : Type 0 where
  pub from : k ≤ end
  pub within : end ≤ 2000000
  pub level : (m : ℕ) → k ≤ m → m ≤ end → price m ≡ price k

-- the price never falls from one kWh to a later one
abbrev pub NeverFalls : (ℕ → ℕ) → Type 0
NeverFalls price = (i j : ℕ) → 1 ≤ i → i ≤ j → j ≤ 2000000 → price i ≤ price j

-- n of the first `energy` kWh cost at most p: kWh 1 to n do, and every later one costs more
pub record AtMost (price : ℕ → ℕ) (energy p n : ℕ) : Type 0 where
  pub within : n ≤ energy
  pub cheap : (k : ℕ) → 1 ≤ k → k ≤ n → price k ≤ p
  pub dear : (k : ℕ) → n < k → k ≤ energy → p < price k

-- kWh 1 to n cost at most p, and the next within the first `energy`, if there is one, costs more
pub record BeforeDearer (price : ℕ → ℕ) (energy p n : ℕ) : Type 0 where
  pub within : n ≤ energy
  pub cheap : (k : ℕ) → 1 ≤ k → k ≤ n → price k ≤ p
  pub next : n < energy → p < price (suc n)
