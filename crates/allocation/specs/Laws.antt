-- What holds of a group's amounts against any other amounts, and of units with limit 0.
use Rattle.std.specs.Prelude.{◌≡◌, ℕ, suc, ◌-◌, ◌<◌, ◌≤◌, cond, nat_lt}
use Rattle.allocation.specs.Groups.{Group, Within, total, cost}
use Rattle.allocation.specs.Merit.{MeritOrder}

-- how many kWh of a share its amounts don't cover: none where they come to more than the share
abbrev pub uncovered : Group → ℕ → (ℕ → ℕ) → ℕ
uncovered g share amount = share - total g amount

-- these are the only amounts of the share in merit order
abbrev pub OnlyThese : Group → ℕ → (ℕ → ℕ) → Type 0
OnlyThese g share amount = (other : ℕ → ℕ) → MeritOrder g share other → (i : ℕ) → i < g.units → other i ≡ amount i

-- no other amounts within the limits leave less uncovered
abbrev pub NothingLeavesLess : Group → ℕ → (ℕ → ℕ) → Type 0
NothingLeavesLess g share amount = (other : ℕ → ℕ) → Within g other → uncovered g share amount ≤ uncovered g share other

-- no other amounts within the limits with the same sum cost less
abbrev pub NothingUndercuts : Group → (ℕ → ℕ) → Type 0
NothingUndercuts g amount = (other : ℕ → ℕ) → Within g other → total g other ≡ total g amount → cost g amount ≤ cost g other

-- the places that are left when the unit at place z is taken out: those before z stay, the others move up
abbrev pub skip : ℕ → ℕ → ℕ
skip z i = cond (nat_lt i z) i (suc i)

-- the group without the unit at place z
abbrev pub without : ℕ → Group → Group
without z g = record {
  units = g.units - 1;
  price = λ i. g.price (skip z i);
  limit = λ i. g.limit (skip z i);
}

-- a unit with limit 0 gets nothing, and the others get what they get in the group without it
abbrev pub IdleUnitsDropOut : Group → ℕ → (ℕ → ℕ) → Type 0
IdleUnitsDropOut g share amount =
    (z : ℕ) → z < g.units → g.limit z ≡ 0 → (amount z ≡ 0) × MeritOrder (without z g) share (λ i. amount (skip z i))

-- all that is promised of a split: the amounts of the share in merit order, what they leave uncovered, that nothing
-- leaves less and nothing undercuts them, and 0 at the places where no unit stands
pub record Split (g : Group) (share : ℕ) (amount : ℕ → ℕ) (left : ℕ) : Type 0 where
  pub merit : MeritOrder g share amount
  pub only : OnlyThese g share amount
  pub leaves : left ≡ uncovered g share amount
  pub least : NothingLeavesLess g share amount
  pub cheapest : NothingUndercuts g amount
  pub idle : IdleUnitsDropOut g share amount
  pub others : (i : ℕ) → g.units ≤ i → amount i ≡ 0
