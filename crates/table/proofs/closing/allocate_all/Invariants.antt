use Rattle.std.proofs.Common.{◌≡◌, ℕ, ◌<◌, ◌≤◌, get_or, None}
use Rattle.table.specs.Closing.{allocated_to}
use Rattle.table.specs.Rows.{new_unit}
use Rattle.table.proofs.closing.allocate_all.Given as goal

abbrev pub invariant-loop-place : goal.invariant-loop-place
invariant-loop-place l =
    ((k : ℕ) → k < l.place → get_or l.units k (new_unit 0 0 None 0 0) ≡ allocated_to l.plant (get_or l.amounts k 0) (get_or l.initial.units k (new_unit 0 0 None 0 0)))
    × ((k : ℕ) → l.place ≤ k → get_or l.units k (new_unit 0 0 None 0 0) ≡ get_or l.initial.units k (new_unit 0 0 None 0 0))
