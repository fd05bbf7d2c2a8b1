-- How many kWh a group's units have up to a price.
use Rattle.std.specs.Prelude.{◌≡◌, ℕ, zero, suc, ◌+◌, ◌<◌, ◌≤◌, cond, ◌⊎◌, nat_le}
use Rattle.curves.specs.Prices.{AtMost}
use Rattle.allocation.specs.Groups.{Group, sum_of}

-- how many of the first n kWh cost at most p
unfoldable pub count_of : (ℕ → ℕ) → ℕ → ℕ → ℕ
count_of price zero p = 0
count_of price (suc n) p = count_of price n p + cond (nat_le (price (suc n)) p) 1 0

-- a unit's kWh within its limit that cost at most p, and those that cost less than p
abbrev pub up_to : Group → ℕ → ℕ → ℕ
up_to g p i = count_of (g.price i) (g.limit i) p

abbrev pub below : Group → ℕ → ℕ → ℕ
below g p i = count_of (λ k. suc (g.price i k)) (g.limit i) p

-- p parts the unit's kWh within its limit: first the cheaper ones, then those at p, then the dearer ones
pub record Parted (g : Group) (p i : ℕ) : Type 0 where
  pub cheaper : AtMost (λ k. suc (g.price i k)) (g.limit i) p (below g p i)
  pub marginal : AtMost (g.price i) (g.limit i) p (up_to g p i)

-- no kWh of the first n units, within their limits, costs more than p
abbrev pub NoneOver : Group → ℕ → ℕ → Type 0
NoneOver g n p = (i : ℕ) → i < n → (k : ℕ) → 1 ≤ k → k ≤ g.limit i → g.price i k ≤ p

-- p is the least price at which n units cover the share; where no price is, none of their kWh costs more than p
pub record Clearing (g : Group) (n share p : ℕ) : Type 0 where
  pub enough : (share ≤ sum_of n (up_to g p)) ⊎ NoneOver g n p
  pub least : (q : ℕ) → q < p → sum_of n (up_to g q) < share

-- n units are filled at price p: each has its cheaper kWh, and unit by unit `before` kWh at p are given out, of which
-- `after` are left
pub record Filled (g : Group) (n p before after : ℕ) (amount : ℕ → ℕ) : Type 0 where
  pub parted : (i : ℕ) → i < n → Parted g p i
  pub low : (i : ℕ) → i < n → below g p i ≤ amount i
  pub high : (i : ℕ) → i < n → amount i ≤ up_to g p i
  pub sum : sum_of n amount + after ≡ sum_of n (below g p) + before
  pub stops : (i j : ℕ) → i < j → j < n → amount i < up_to g p i → amount j ≡ below g p j
  pub short : (i : ℕ) → i < n → amount i < up_to g p i → after ≡ 0
