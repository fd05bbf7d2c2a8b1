-- Counts of kWh by price.
use Rattle.std.proofs.Common.{◌≡◌, ℕ, zero, suc, ◌<◌, ◌≤◌, min, cond, leb, refl, subst, ⊎_elim, arith}
use Rattle.std.proofs.lemmas.Bool.{cases_lt, le-leb, lt-leb, cond-true, cond-false, cond_both}
use Rattle.curves.specs.Prices.{AtMost}
use Rattle.allocation.specs.Supply.{count_of}

-- what one kWh of the price x adds to a count at p
abbrev one : ℕ → ℕ → ℕ
one x p = cond (leb x p) 1 0

one_cheap : (x p : ℕ) → x ≤ p → one x p ≡ 1
one_cheap x p le = cond-true _ 1 0 (le-leb x p le)

one_dear : (x p : ℕ) → p < x → one x p ≡ 0
one_dear x p lt = cond-false _ 1 0 (lt-leb x p lt)

one_at_most : (x p : ℕ) → one x p ≤ 1
one_at_most x p = cond_both (leb x p) 1 0 (λ v. v ≤ 1) (λ _. omega arith) (λ _. omega arith)

count_to : (price : ℕ → ℕ) (e p r : ℕ) → AtMost price e p r → (n : ℕ) → n ≤ e → count_of price n p ≡ min n r
unfolding count_of
count_to price e p r counted zero le = omega arith
count_to price e p r counted (suc n) le =
    ⊎_elim
    (λ (taken : n < r). omega (arith, count_to price e p r counted n (omega arith), one_cheap (price (suc n)) p (counted.cheap (suc n) (omega arith) taken)))
    (λ (past : r ≤ n). omega (arith, count_to price e p r counted n (omega arith), one_dear (price (suc n)) p (counted.dear (suc n) (omega arith) le)))
    (cases_lt n r)

-- a count of the kWh that cost at most p is the one that the definition gives
pub count_is : (price : ℕ → ℕ) (e p r : ℕ) → AtMost price e p r → r ≡ count_of price e p
count_is price e p r counted = omega (arith, count_to price e p r counted e (omega arith), counted.within)

pub count_le : (price : ℕ → ℕ) (n p : ℕ) → count_of price n p ≤ n
unfolding count_of
count_le price zero p = omega arith
count_le price (suc n) p = omega (arith, count_le price n p, one_at_most (price (suc n)) p)

pub count_rises : (price : ℕ → ℕ) (n p q : ℕ) → p ≤ q → count_of price n p ≤ count_of price n q
unfolding count_of
count_rises price zero p q le = omega arith
count_rises price (suc n) p q le =
    let x = price (suc n) in
    ⊎_elim
    (λ (dear : p < x). omega (arith, count_rises price n p q le, one_dear x p dear))
    (λ (cheap : x ≤ p). omega (arith, count_rises price n p q le, one_at_most x p, one_cheap x q (omega arith)))
    (cases_lt p x)

-- at a price that no kWh is over, all are counted
pub count_all : (price : ℕ → ℕ) (n p : ℕ) → ((k : ℕ) → 1 ≤ k → k ≤ n → price k ≤ p) → count_of price n p ≡ n
unfolding count_of
count_all price zero p each = refl
count_all price (suc n) p each =
    omega (arith, count_all price n p (λ k low high. each k low (omega arith)), one_cheap (price (suc n)) p (each (suc n) (omega arith) (omega arith)))

-- less than p + 1 is at most p, and nothing is less than 0
pub count_below : (price : ℕ → ℕ) (n p : ℕ) → count_of (λ k. suc (price k)) n (suc p) ≡ count_of price n p
unfolding count_of
count_below price zero p = refl
count_below price (suc n) p =
    let x = price (suc n) in
    ⊎_elim
    (λ (dear : p < x). omega (arith, count_below price n p, one_dear x p dear, one_dear (suc x) (suc p) (omega arith)))
    (λ (cheap : x ≤ p). omega (arith, count_below price n p, one_cheap x p cheap, one_cheap (suc x) (suc p) (omega arith)))
    (cases_lt p x)

pub count_none : (price : ℕ → ℕ) (n : ℕ) → count_of (λ k. suc (price k)) n 0 ≡ 0
unfolding count_of
count_none price zero = refl
count_none price (suc n) = omega (arith, count_none price n, one_dear (suc (price (suc n))) 0 (omega arith))

-- where there is a count of the first kWh that cost at most p, the definition's is one
pub at_most_count : (price : ℕ → ℕ) (e p r : ℕ) → AtMost price e p r → AtMost price e p (count_of price e p)
at_most_count price e p r counted = subst (AtMost price e p) (count_is price e p r counted) counted

-- the cheaper kWh are among those at p or less
pub cheaper_first : (price : ℕ → ℕ) (e p r s : ℕ) → AtMost (λ k. suc (price k)) e p r → AtMost price e p s → r ≤ s
cheaper_first price e p r s cheaper marginal =
    ⊎_elim
    (λ (gap : s < r). absurd (omega (arith, cheaper.cheap (suc s) (omega arith) gap, marginal.dear (suc s) (omega arith) (omega (arith, cheaper.within)))))
    (λ le. le)
    (cases_lt s r)
