-- Rows of offers by the unit's place.
use Rattle.std.proofs.Common.{◌≡◌, ℕ, zero, suc, ◌<◌, min, List, [], ◌∷◌, length, take, get_or, sym, refl, ap, ◌∙◌, arith}
use Rattle.std.specs.List.{sum_by, zip}
use Rattle.std.proofs.lemmas.List.Sums.{sum_by-cons}
use Rattle.curves.specs.Prices.{AtMost}
use Rattle.allocation.specs.Groups.{sum_of, price_at}
use Rattle.allocation.proofs.Sums.{sum_first}

-- the price by the offer that stands at a place
price_at_lem : {O : Type 0} (prices : O → ℕ → ℕ) (os : List O) (i : ℕ) (d : O) → i < length os → (k : ℕ) → price_at prices os i k ≡ prices (get_or os i d) k
price_at_lem prices [] i d lt k = absurd (omega arith)
price_at_lem prices (x ∷ xs) zero d lt k = refl
price_at_lem prices (x ∷ xs) (suc i) d lt k = price_at_lem prices xs i d (omega arith) k

-- the same by the place's own name
pub price_read : {O : Type 0} (prices : O → ℕ → ℕ) (os : List O) (p i : ℕ) (d : O) → i ≡ p → i < length os → (k : ℕ) → price_at prices os p k ≡ prices (get_or os i d) k
price_read prices os p i d same lt k = ap (λ q. price_at prices os q k) (sym same) ∙ price_at_lem prices os i d lt k

-- a sum over the first n pairs of an offer and a number is one over their places
pub row_sum : {O : Type 0} (prices : O → ℕ → ℕ) (f : (ℕ → ℕ) → ℕ → ℕ) (n : ℕ) (os : List O) (xs : List ℕ) → sum_by (λ p. f (prices p.0) p.1) (take n (zip os xs)) ≡ sum_of (min (min (length os) (length xs)) n) (λ i. f (price_at prices os i) (get_or xs i 0))
unfolding sum_of
row_sum prices f zero os xs = let none : min (min (length os) (length xs)) 0 ≡ 0 = omega arith in rw none refl
row_sum prices f (suc n) [] xs = let none : min (min 0 (length xs)) (suc n) ≡ 0 = omega arith in rw none refl
row_sum prices f (suc n) (o ∷ os) [] = let none : min (min (length (o ∷ os)) 0) (suc n) ≡ 0 = omega arith in rw none refl
row_sum prices f (suc n) (o ∷ os) (x ∷ xs) =
    let count : min (min (length (o ∷ os)) (length (x ∷ xs))) (suc n) ≡ suc (min (min (length os) (length xs)) n) = omega arith in
    let each = λ (i : ℕ). f (price_at prices (o ∷ os) i) (get_or (x ∷ xs) i 0) in
    omega (
      arith,
      sum_by-cons (λ p. f (prices p.0) p.1) (o, x) (take n (zip os xs)),
      row_sum prices f n os xs,
      sum_first (min (min (length os) (length xs)) n) each,
      ap (λ c. sum_of c each) count,
    )

-- a count by equal prices
pub at_most_same : (f h : ℕ → ℕ) (e d p r : ℕ) → ((k : ℕ) → f k ≡ h k) → e ≡ d → AtMost h d p r → AtMost f e p r
at_most_same f h e d p r same whole counted = record {
  within = omega (arith, counted.within);
  cheap = λ k low high. omega (arith, same k, counted.cheap k low high);
  dear = λ k above within. omega (arith, same k, counted.dear k above (omega arith));
}
