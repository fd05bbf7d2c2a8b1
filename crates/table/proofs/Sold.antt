-- Sums over the items that pass a test, and what a plant has sold.
use Rattle.std.proofs.Common.{◌≡◌, ℕ, suc, ◌+◌, ◌-◌, get_or, Bool, true, false, cond, List, [], ◌∷◌, ◌++◌, eqb, filter, sum_by, refl, ap, ◌∙◌, sym, arith}
use Rattle.std.proofs.lemmas.Bool.{cond-false, ne_eqb}
use Rattle.std.proofs.lemmas.List.Sums.{sum_by-cons}
use Rattle.table.specs.Entries.{sold_by, sold_at}
use Rattle.table.specs.declared.records.Commitment.{Commitment}

-- the items that pass a test; the others count nothing
pub sum_filter : {X : Type 0} (f : X → ℕ) (p : X → Bool) (xs : List X) → sum_by f (filter p xs) ≡ sum_by (λ x. cond (p x) (f x) 0) xs
sum_filter f p [] = refl
sum_filter f p (x ∷ xs) =
    first (p x) ∙ ap (λ s. cond (p x) (f x) 0 + s) (sum_filter f p xs) ∙ sym (sum_by-cons (λ y. cond (p y) (f y) 0) x xs)
  where
    first : (b : Bool) → sum_by f (cond b (x ∷ filter p xs) (filter p xs)) ≡ cond b (f x) 0 + sum_by f (filter p xs)
    first true = sum_by-cons f x (filter p xs)
    first false = omega arith

-- what a plant has sold with one commitment more
pub sold_push : (p : ℕ) (xs : List Commitment) (c : Commitment) → sold_by p (xs ++ (c ∷ [])) ≡ sold_by p xs + cond (eqb c.plant p) c.volume 0
sold_push p [] c = omega arith
sold_push p (x ∷ xs) c = omega (arith, sold_push p xs c)

-- what a table holds of what the plant at a place has sold
pub sold_of : (sold : List ℕ) (place : ℕ) → sold_at sold (suc place) ≡ get_or sold place 0
sold_of sold place =
    let back : suc place - 1 ≡ place = omega arith in
    cond-false _ _ _ (ne_eqb (suc place) 0 (λ e. omega arith)) ∙ ap (λ k. get_or sold k 0) back
