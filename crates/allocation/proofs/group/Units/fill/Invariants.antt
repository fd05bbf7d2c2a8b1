use Rattle.std.proofs.Common.{◌≡◌, ℕ, ◌<◌}
use Rattle.allocation.specs.Groups.{amount_at}
use Rattle.allocation.specs.Units.{place_in, units_in}
use Rattle.allocation.specs.Supply.{Filled}
use Rattle.allocation.proofs.group.Units.fill.Given as goal

abbrev pub invariant-loop-place : goal.invariant-loop-place
invariant-loop-place g l =
    Filled (units_in g.O.Curve.prices l.self) l.place-index l.price l.left l.rest (λ i. amount_at l.amounts (place_in l.self i))
    × ((j : ℕ) → ((i : ℕ) → i < l.self.count → place_in l.self i ≡ j → ⊥) → amount_at l.amounts j ≡ amount_at l.fn.amounts j)
