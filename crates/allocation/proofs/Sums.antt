-- Sums over the first places.
use Rattle.std.proofs.Common.{◌≡◌, ℕ, zero, suc, ◌+◌, ◌<◌, ◌≤◌, ◌⊎◌, refl, ap, inl, inr, ⊎_elim, add-one, arith}
use Rattle.std.proofs.lemmas.Bool.{cases_lt, cases_eq}
use Rattle.allocation.specs.Groups.{sum_of}

pub sum_none : (f : ℕ → ℕ) → sum_of 0 f ≡ 0
unfolding sum_of
sum_none f = refl

pub sum_more : (n : ℕ) (f : ℕ → ℕ) → sum_of (n + 1) f ≡ sum_of n f + f n
unfolding sum_of
sum_more n f = ap (λ m. sum_of m f) (add-one n)

-- the first place apart from the others
pub sum_first : (n : ℕ) (f : ℕ → ℕ) → sum_of (suc n) f ≡ f 0 + sum_of n (λ i. f (suc i))
unfolding sum_of
sum_first zero f = omega arith
sum_first (suc n) f = omega (arith, sum_first n f)

-- where one holds of each place below n + 1, it holds below n and at n
below_suc : (P : ℕ → Type 0) (n : ℕ) → ((i : ℕ) → i < suc n → P i) → (i : ℕ) → i < n → P i
below_suc P n each i lt = each i (omega arith)

pub sum_cong : (n : ℕ) (f h : ℕ → ℕ) → ((i : ℕ) → i < n → f i ≡ h i) → sum_of n f ≡ sum_of n h
unfolding sum_of
sum_cong zero f h each = refl
sum_cong (suc n) f h each =
    omega (arith, sum_cong n f h (below_suc (λ i. f i ≡ h i) n each), each n (omega arith))

pub sum_le : (n : ℕ) (f h : ℕ → ℕ) → ((i : ℕ) → i < n → f i ≤ h i) → sum_of n f ≤ sum_of n h
unfolding sum_of
sum_le zero f h each = omega arith
sum_le (suc n) f h each =
    omega (arith, sum_le n f h (below_suc (λ i. f i ≤ h i) n each), each n (omega arith))

-- where every place has at most as much and one has less, so has the sum
pub sum_lt : (n : ℕ) (f h : ℕ → ℕ) (z : ℕ) → z < n → f z < h z → ((i : ℕ) → i < n → f i ≤ h i) → sum_of n f < sum_of n h
unfolding sum_of
sum_lt zero f h z lt less each = absurd (omega arith)
sum_lt (suc n) f h z lt less each =
    ⊎_elim
    (λ (same : z ≡ n). let here : f n < h n = subst_lt f h z n same less in
    omega (arith, sum_le n f h (below_suc (λ i. f i ≤ h i) n each), here))
    (λ (other : z ≡ n → ⊥). omega (arith, sum_lt n f h z (omega arith) less (below_suc (λ i. f i ≤ h i) n each), each n (omega arith)))
    (cases_eq z n)
  where
    subst_lt : (f h : ℕ → ℕ) (z n : ℕ) → z ≡ n → f z < h z → f n < h n
    subst_lt f h z n e less = rw e at less

-- either every place has at most as much, or some place has more
pub search_more : (n : ℕ) (f h : ℕ → ℕ) → ((i : ℕ) → i < n → f i ≤ h i) ⊎ ((j : ℕ) × (j < n) × (h j < f j))
search_more zero f h = inl (λ i lt. absurd (omega arith))
search_more (suc n) f h =
    ⊎_elim
    (λ each. ⊎_elim
    (λ (more : h n < f n). inr (n, omega arith, more))
    (λ (le : f n ≤ h n). inl (λ i lt. ⊎_elim
    (λ (same : i ≡ n). let e : f n ≤ h n = le in rw same e)
    (λ (other : i ≡ n → ⊥). each i (omega arith))
    (cases_eq i n)))
    (cases_lt (h n) (f n)))
    (λ found. inr (found.0, omega (arith, found.1), found.2))
    (search_more n f h)

-- equal sums with one place that has more have one that has less
pub some_less : (n : ℕ) (f h : ℕ → ℕ) (z : ℕ) → z < n → f z < h z → sum_of n f ≡ sum_of n h → (j : ℕ) × (j < n) × (h j < f j)
some_less n f h z lt less same =
    ⊎_elim (λ each. absurd (let more = sum_lt n f h z lt less each in omega arith)) (λ found. found) (search_more n f h)
