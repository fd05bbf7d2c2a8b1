-- Gathering the units with a limit above 0, and the merit order of the group from that of these units.
use Rattle.std.proofs.Common.{◌≡◌, ℕ, ◌+◌, ◌<◌, ◌≤◌, ap, subst, inl, inr, ⊎_elim, ◌∙◌, arith}
use Rattle.std.proofs.lemmas.Bool.{cases_lt, cases_eq}
use Rattle.allocation.specs.Groups.{Group}
use Rattle.allocation.specs.Merit.{Before, MeritOrder}
use Rattle.allocation.specs.Units.{part_of, BusyPlaces}
use Rattle.allocation.proofs.Sums.{sum_none, sum_more, sum_cong}
use Rattle.allocation.proofs.Fills.{below_more}

-- no unit is gathered yet
pub busy_none : (limit place : ℕ → ℕ) → BusyPlaces limit 0 0 place
busy_none limit place = record {
  inside = λ i lt. absurd (omega arith);
  rises = λ i j lt at. absurd (omega arith);
  busy = λ i lt. absurd (omega arith);
  found = λ j lt. absurd (omega arith);
  sum = λ f none. omega (arith, sum_none f, sum_none (λ i. f (place i)));
}

-- one more unit, with limit 0
pub busy_idle : (limit : ℕ → ℕ) (n count : ℕ) (place : ℕ → ℕ) → BusyPlaces limit n count place → limit n ≡ 0 → BusyPlaces limit (n + 1) count place
busy_idle limit n count place before idle = record {
  inside = λ i lt. omega (arith, before.inside i lt);
  rises = before.rises;
  busy = before.busy;
  found = λ j lt some. ⊎_elim
      (λ (same : j ≡ n). absurd (omega (arith, ap limit same)))
      (λ (other : j ≡ n → ⊥). before.found j (omega arith) some)
      (cases_eq j n);
  sum = λ f none. omega (arith, sum_more n f, none n (omega arith) idle, before.sum f (λ j lt. none j (omega arith)));
}

-- one more unit, with a limit above 0: its place is written behind the others
pub busy_more : (limit : ℕ → ℕ) (n count : ℕ) (place next : ℕ → ℕ) → BusyPlaces limit n count place → 0 < limit n → ((i : ℕ) → i < count → next i ≡ place i) → next count ≡ n → BusyPlaces limit (n + 1) (count + 1) next
busy_more limit n count place next before some same here = record {
  inside = below_more (λ i. next i < n + 1) count (λ i lt. omega (arith, same i lt, before.inside i lt)) (omega arith);
  rises = λ i j lt to. below_more (λ j. i < j → next i < next j) count
      (λ j at less. omega (arith, same i (omega arith), same j at, before.rises i j less at))
      (λ less. omega (arith, same i less, before.inside i less)) j to lt;
  busy = below_more (λ i. 0 < limit (next i)) count (λ i lt. omega (arith, ap limit (same i lt), before.busy i lt)) (omega (arith, ap limit here));
  found = λ j lt limited. ⊎_elim
      (λ (this : j ≡ n). (count, omega arith, omega arith))
      (λ (other : j ≡ n → ⊥). let at = before.found j (omega arith) limited in (at.0, omega (arith, at.1), same at.0 at.1 ∙ at.2))
      (cases_eq j n);
  sum = λ f none. omega (
    arith,
    sum_more n f,
    sum_more count (λ i. f (next i)),
    ap f here,
    before.sum f (λ j lt. none j (omega arith)),
    sum_cong count (λ i. f (next i)) (λ i. f (place i)) (λ i lt. ap f (same i lt)),
  );
}

-- the merit order of the busy units is the group's, where the others have nothing
pub merit_busy : (g : Group) (share count : ℕ) (place a : ℕ → ℕ) → BusyPlaces g.limit g.units count place → ((j : ℕ) → j < g.units → g.limit j ≡ 0 → a j ≡ 0) → MeritOrder (part_of g count place) share (λ i. a (place i)) → MeritOrder g share a
merit_busy g share count place a places idle merit = record {
  within = λ j lt. ⊎_elim
      (λ (some : 0 < g.limit j). let at = places.found j lt some in omega (arith, ap a at.2, ap g.limit at.2, merit.within at.0 at.1))
      (λ (none : g.limit j ≤ 0). omega (arith, idle j lt (omega arith)))
      (cases_lt 0 (g.limit j));
  covered = omega (arith, places.sum a idle, places.sum g.limit (λ j lt none. none), merit.covered);
  order = λ i k j m it jt low high above below.
      let first = places.found i it (limited i k it low high) in
      let second = places.found j jt (omega arith) in
      subst (λ i. Before g i k j m) first.2 (subst (λ j. Before g (place first.0) k j m) second.2
      (before_part first.0 k second.0 m first.1 second.1
      (merit.order first.0 k second.0 m first.1 second.1 low (omega (arith, ap a first.2)) (omega (arith, ap a second.2)) (omega (arith, ap g.limit second.2)))));
}
  where
    limited : (i k : ℕ) → i < g.units → 1 ≤ k → k ≤ a i → 0 < g.limit i
    limited i k lt low high = ⊎_elim (λ some. some) (λ (none : g.limit i ≤ 0). absurd (omega (arith, idle i lt (omega arith)))) (cases_lt 0 (g.limit i))

    before_part : (i k j m : ℕ) → i < count → j < count → Before (part_of g count place) i k j m → Before g (place i) k (place j) m
    before_part i k j m it jt =
        ⊎_elim inl
        (λ equal. inr (
          equal.0,
          ⊎_elim
              (λ (less : i < j). inl (places.rises i j less jt))
              (λ here. inr (ap place here.0, here.1))
              equal.1,
        ))
