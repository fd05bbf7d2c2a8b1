-- Counting the kWh of an offer one at a time.
use Rattle.std.proofs.Common.{◌≡◌, ℕ, suc, ◌+◌, ◌-◌, ◌<◌, ◌≤◌, ap, Option, None, Some, unwrap_or, MatchOption, arith}
use Rattle.curves.specs.Limits.{read_energy, read_kwh}
use Rattle.curves.specs.Prices.{AtMost}
use Rattle.curves.proofs.Costs.{at_most}
use Rattle.split_cases.specs.declared.single.Single.{Single}
use Rattle.split_cases.specs.Singles.{single_price, single_rises}

-- where the kWh at places 0 to n - 1 cost at most p, kWh 1 to n do
cheap_from : (s : Single) (n p : ℕ) → n ≤ 2000000 → ((k : ℕ) → 0 ≤ k → k < n → single_price s (read_kwh (k + 1)) ≤ p) → (k : ℕ) → 1 ≤ k → k ≤ n → single_price s k ≤ p
cheap_from s n p few cheap k from to =
    let at : read_kwh (k - 1 + 1) ≡ k = omega arith in
    omega (arith, cheap (k - 1) (omega arith) (omega arith), ap (single_price s) at)

-- where the kWh before the first one dearer than p are counted, or all if there is none, the count is right
pub counted : (s : Single) (e energy p n : ℕ) (r : Option ℕ) → energy ≡ read_energy e → n ≡ unwrap_or r energy
    → MatchOption r ((k : ℕ) → 0 ≤ k → k < energy → single_price s (read_kwh (k + 1)) ≤ p)
    (λ i. (0 ≤ i) × (i < energy) × (p < single_price s (read_kwh (i + 1))) × ((k : ℕ) → 0 ≤ k → k < i → single_price s (read_kwh (k + 1)) ≤ p))
    → AtMost (single_price s) (read_energy e) p n
counted s e energy p n None read all cheap = record {
  within = omega arith;
  cheap = λ k from to. cheap_from s n p (omega arith) (λ i low high. cheap i low (omega arith)) k from to;
  dear = λ k above below. absurd (omega arith);
}
counted s e energy p n (Some i) read same found =
    let dear : n < read_energy e = omega (arith, found.1) in
    let next : read_kwh (i + 1) ≡ suc n = omega arith in
    at_most (single_price s) (read_energy e) p n (omega arith) (single_rises s)
    (record {
      within = omega arith;
      cheap = cheap_from s n p (omega arith) (λ k low high. found.3 k low (omega arith));
      next = λ _. omega (arith, found.2, ap (single_price s) next);
    })
