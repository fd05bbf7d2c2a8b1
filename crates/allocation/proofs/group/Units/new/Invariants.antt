use Rattle.std.proofs.Common.{◌≤◌, length, slice_index}
use Rattle.curves.specs.Limits.{read_energy}
use Rattle.allocation.specs.Units.{BusyPlaces}
use Rattle.allocation.proofs.group.Units.new.Given as goal

abbrev pub invariant-loop-place : goal.invariant-loop-place
invariant-loop-place g l =
    (l.count ≤ l.place) × (l.number ≤ length l.busy)
    × BusyPlaces (λ i. read_energy (slice_index l.fn.limits i)) l.place l.count (λ i. slice_index l.busy i)
