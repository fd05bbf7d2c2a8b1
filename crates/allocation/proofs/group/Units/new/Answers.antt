use Rattle.std.proofs.Common.{ℕ, ◌+◌, ◌≤◌, length, slice_index, set, List, ◌<◌, sym, subst, arith}
use Rattle.std.proofs.Math.ListN.{length-set}
use Rattle.std.proofs.lemmas.List.{get_or-take, get_or-set_same, get_or-set_other, length-take}
use Rattle.curves.specs.Limits.{read_energy}
use Rattle.allocation.specs.Units.{BusyPlaces}
use Rattle.allocation.proofs.Busy.{busy_none, busy_idle, busy_more}
use Rattle.allocation.proofs.group.Units.new.Goals as goal
use Rattle.allocation.proofs.group.Units.new.Goals.{then-limit-gt0, else-limit-gt0}

pub loop-place-init : goal.loop-place-init
loop-place-init g c = (omega arith, omega arith, busy_none _ _)

pub loop-place-preserved : goal.loop-place-preserved
loop-place-preserved g c =
    let limits = c.args.limits.now in
    let n = c.loop-place.place in
    let count = c.loop-place.count in
    let row = c.loop-place.busy in
    let gathered = λ (n count : ℕ) (busy : List ℕ). (count ≤ n) × (c.min-number.result ≤ length busy) × BusyPlaces (λ i. read_energy (slice_index limits i)) n count (λ i. slice_index busy i) in
    let before : gathered n count row = c.loop-place.invariant in
    let read = get_or-take c.min-number.result limits n 0 (omega (arith, length-take c.min-number.result limits)) in
    let short : count < length row = omega (arith, length-take c.min-number.result limits) in
    let next : gathered (n + 1) c.if-limit-gt0.count c.if-limit-gt0.busy = elim c.if-limit-gt0.branch [
      | then-limit-gt0 w ↦
          let more : gathered (n + 1) (count + 1) (set row count n) = (
            omega arith,
            omega (arith, length-set row count n),
            busy_more _ n count _ _ before.2 (omega (arith, read, w.if-limit-gt0.true))
                (λ i lt. get_or-set_other row count i n 0 (omega arith)) (get_or-set_same row count n 0 short),
          ) in
          subst (λ m. gathered (n + 1) m c.if-limit-gt0.busy) (sym w.count-is) (subst (gathered (n + 1) (count + 1)) (sym w.busy-is) more)
      | else-limit-gt0 w ↦
          let same : gathered (n + 1) count row = (omega arith, before.1, busy_idle _ n count _ before.2 (omega (arith, read, w.if-limit-gt0.false))) in
          subst (λ m. gathered (n + 1) m c.if-limit-gt0.busy) (sym w.count-is) (subst (gathered (n + 1) count) (sym w.busy-is) same)
    ] in
    next
