-- Lists of steps: the price that each kWh has by them, and how the fields of a table are read.
use Rattle.std.specs.Prelude.{◌≡◌, ℕ, ◌-◌, max, Bool, true, false, cond, List, [], ◌∷◌, take, nat_le}
use Rattle.curves.specs.Limits.{read_kwh, read_price, read_count}
use Rattle.curves.specs.Prices.{Stretch}
use Rattle.curves.specs.declared.steps.Level.{Level}
use Rattle.curves.specs.declared.steps.Step.{Step}
use Rattle.curves.specs.declared.steps.StepTable.{StepTable}

-- The price of kWh k by a list of steps: the first step's price up to its width, and past that the price by the
-- steps after it. Past all steps it is the last step's price, here `last`.
abbrev pub price_after : ℕ → List Step → ℕ → ℕ
price_after last [] k = last
price_after last (s ∷ ss) k = cond (nat_le k s.width) s.price (price_after s.price ss (k - s.width))

-- the price of kWh k by a list with at least one step
abbrev pub step_price : List Step → ℕ → ℕ
step_price steps k = price_after 0 steps k

-- a step's price as it is read after a step of the price `before`: where prices rise, a price under it is read as it
abbrev pub price_read : Bool → ℕ → Step → ℕ
price_read false before s = read_price s.price
price_read true before s = max before (read_price s.price)

-- each step with its width and price as they are read
abbrev pub read_from : Bool → ℕ → List Step → List Step
read_from rises before [] = []
read_from rises before (s ∷ ss) =
    record { width = read_kwh s.width; price = price_read rises before s }
    ∷ read_from rises (price_read rises before s) ss

-- the list of steps that a table stands for
abbrev pub steps_of : Bool → StepTable → List Step
steps_of rises t = read_from rises 0 (take (read_count t.count) t.steps)

-- a level of kWh k: its price, and a kWh up to which that price stays
pub record LevelAt (price : ℕ → ℕ) (k : ℕ) (l : Level) : Type 0 where
  pub priced : l.price ≡ price k
  pub stretch : Stretch price k l.end
