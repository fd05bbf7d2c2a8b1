-- The numbers of steps, and of words.
use Rattle.std.proofs.Common.{◌≡◌, ℕ, zero, suc, ◌*◌, ◌<◌, List, [], ◌∷◌, map, length, get_or, refl, ap, ◌∙◌, arith}
use Rattle.std.specs.Simd.{first_chunks}
use Rattle.split.specs.Lines.{numbers_of}

-- the steps of n pairs of numbers
pub paired : (n : ℕ) (numbers : List ℕ) → length numbers ≡ n * 2 → numbers_of (map (λ pair. record { width = get_or pair 0 0; price = get_or pair 1 0 }) (first_chunks 2 n numbers)) ≡ numbers
paired zero [] h = refl
paired zero (w ∷ more) h = absurd (omega arith)
paired (suc n) [] h = absurd (omega arith)
paired (suc n) (w ∷ []) h = absurd (omega arith)
paired (suc n) (w ∷ p ∷ more) h = ap (λ l. w ∷ p ∷ l) (paired n more (omega (arith, h)))

-- a list in which each number is f of the word in its place is f of each word
pub each_of : {X : Type 0} (f : X → ℕ) (xs : List X) (numbers : List ℕ) → length numbers ≡ length xs → ((k : ℕ) (d : X) → k < length xs → get_or numbers k 0 ≡ f (get_or xs k d)) → numbers ≡ map f xs
each_of f [] [] long same = refl
each_of f [] (n ∷ ns) long same = absurd (omega arith)
each_of f (x ∷ xs) [] long same = absurd (omega arith)
each_of f (x ∷ xs) (n ∷ ns) long same =
    let rest : ns ≡ map f xs = each_of f xs ns (omega arith) (λ k d lt. same (suc k) d (omega arith)) in
    ap (λ m. m ∷ ns) (same 0 x (omega arith)) ∙ ap (λ l. f x ∷ l) rest
