-- Lemmas on walking along a list of steps.
use Rattle.std.proofs.Common.{◌≡◌, ℕ, ◌+◌, ◌-◌, ◌<◌, ◌≤◌, Bool, List, length, get_or, drop, sym, ap, ◌∙◌, arith}
use Rattle.std.proofs.lemmas.Bool.{le-leb, lt-leb, cond-true, cond-false}
use Rattle.std.proofs.lemmas.List.{drop_more}
use Rattle.curves.specs.Limits.{read_kwh}
use Rattle.curves.specs.Steps.{price_after, price_read, read_from}
use Rattle.curves.specs.declared.steps.Step.{Step}

-- the price of kWh k by the steps that are left, read after a step of the price `last`
abbrev pub rest : Bool → ℕ → List Step → ℕ → ℕ
rest rises last ss k = price_after last (read_from rises last ss) k

-- the next of the steps that are left, of the width w and the price p, holds kWh k
pub rest_here : (r : Bool) (last k : ℕ) (xs : List Step) (i : ℕ) (d : Step) (p w : ℕ) → i < length xs → p ≡ price_read r last (get_or xs i d) → w ≡ read_kwh (get_or xs i d).width → k ≤ w → rest r last (drop i xs) k ≡ p
rest_here r last k xs i d p w lt priced wide h =
    let s = get_or xs i d in
    let here : k ≤ read_kwh s.width = omega arith in
    ap (λ ss. rest r last ss k) (drop_more xs i d lt) ∙ cond-true _ _ _ (le-leb k (read_kwh s.width) here) ∙ sym priced

-- that step begins after kWh `start`, and kWh k comes after the step
pub rest_past : (r : Bool) (last start k : ℕ) (xs : List Step) (i : ℕ) (d : Step) (p w : ℕ) → i < length xs → p ≡ price_read r last (get_or xs i d) → w ≡ read_kwh (get_or xs i d).width → start + w < k → rest r last (drop i xs) (k - start) ≡ rest r p (drop (i + 1) xs) (k - (start + w))
rest_past r last start k xs i d p w lt priced wide h =
    let s = get_or xs i d in
    let past : read_kwh s.width < k - start = omega arith in
    let left : k - start - read_kwh s.width ≡ k - (start + w) = omega arith in
    ap (λ ss. rest r last ss (k - start)) (drop_more xs i d lt) ∙ cond-false _ _ _ (lt-leb (k - start) (read_kwh s.width) past)
    ∙ ap (λ q. rest r q (drop (i + 1) xs) (k - start - read_kwh s.width)) (sym priced)
    ∙ ap (λ m. rest r p (drop (i + 1) xs) m) left
