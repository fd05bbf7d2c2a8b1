-- Where fractions are dropped: each figure drops one, of a whole product, and two bounds leave one number for it.
-- A loss or an internal consumption over 2,000 is read as 2,000.
use Rattle.std.specs.Prelude.{◌≡◌, ℕ, ◌+◌, ◌-◌, ◌*◌, ◌<◌, ◌≤◌, min, max}
use Rattle.curves.specs.Kinds.{modified_price, raised_price}
use Rattle.curves.specs.Limits.{read_kwh}
use Rattle.settlement.specs.Payments.{cost_between, lesser}
use Rattle.settlement.specs.declared.payments.PaidUnit.{PaidUnit}

-- q is how many times the divisor is in the product: so many times, and not once more
pub record OneFraction (q product divisor : ℕ) : Type 0 where
  pub there : q * divisor ≤ product
  pub last : product < (q + 1) * divisor

-- energy carried to the reference point
abbrev pub Carried : ℕ → ℕ → ℕ → Type 0
Carried loss energy r = OneFraction r (energy * (10000 - min loss 2000)) 10000

-- gross energy less internal consumption, carried to the reference point
abbrev pub CarriedGross : ℕ → ℕ → ℕ → ℕ → Type 0
CarriedGross internal loss gross r = OneFraction r (gross * (10000 - min internal 2000) * (10000 - min loss 2000)) 100000000

-- How a unit's payment comes about: its energies at the reference point, where the parts of its billed kWh end, and
-- what each part costs.
pub record PaidParts (u : PaidUnit) (offer cost : ℕ → ℕ) (ceiling payment : ℕ) : Type 0 where
  pub bill : ℕ
  pub bill_is : Carried u.loss (min u.energies.net 2000000) bill
  -- committed energy; then that, accepted and lost energy, and executed energy, each at the reference point
  pub committed : ℕ
  pub committed_is : committed ≡ u.energies.accepted + u.energies.lost - u.energies.limited
  pub of_committed : ℕ
  pub of_committed_is : Carried u.loss committed of_committed
  pub of_offered : ℕ
  pub of_offered_is : Carried u.loss (u.energies.accepted + u.energies.lost) of_offered
  pub of_executed : ℕ
  pub of_executed_is : CarriedGross u.internal u.loss u.energies.executed of_executed
  -- the last kWh of the first part, and of the second
  pub first : ℕ
  pub first_is : first ≡ min (max of_committed u.allocated) bill
  pub second : ℕ
  pub second_not_asked : u.energies.asked ≡ 0 → second ≡ min of_offered bill
  pub second_asked : 0 < u.energies.asked → second ≡ max (min of_offered bill) (min of_executed bill)
  -- kWh 1 to `first`, kWh `first` + 1 to `second`, and the rest up to the bill
  pub a : ℕ
  pub a_is : a ≡ cost_between (modified_price u.allocated offer) 0 first
  pub b : ℕ
  pub b_is : b ≡ lesser cost (modified_price u.allocated offer) first second
  pub c : ℕ
  pub c_where_free : a ≡ 0 → c ≡ cost_between (raised_price ceiling cost) (max first second) bill
  pub c_where_paid : 0 < a → c ≡ cost_between (λ _. modified_price u.allocated offer (read_kwh committed)) (max first second) bill
  pub sum : payment ≡ a + b + c

-- day support: allocated energy less the plant's active energy, which is carried to the reference point as one sum
pub record FallsShort (loss allocated active short : ℕ) : Type 0 where
  pub made : ℕ
  pub carried : Carried loss active made
  pub missing : short ≡ allocated - made
