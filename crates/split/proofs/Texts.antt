-- The line of one more unit.
use Rattle.std.proofs.Common.{◌≡◌, ℕ, ◌+◌, ◌<◌, List, [], ◌∷◌, ◌++◌, length, get_or, take, sym, ap, ◌∙◌, append_assoc, append-nil, arith, length-take-le}
use Rattle.std.proofs.lemmas.List.{take_more}
use Rattle.split.specs.Text.{unit_text, units_text}

units_push : (number : ℕ) (xs : List ℕ) (x : ℕ) → units_text number (xs ++ x ∷ []) ≡ units_text number xs ++ unit_text (number + length xs) x
units_push number [] x =
    let at : number ≡ number + 0 = omega arith in
    append-nil (unit_text number x) ∙ ap (λ n. unit_text n x) at
units_push number (y ∷ xs) x =
    let at : number + 1 + length xs ≡ number + length (y ∷ xs) = omega arith in
    ap (λ l. unit_text number y ++ l) (units_push (number + 1) xs x ∙ ap (λ n. units_text (number + 1) xs ++ unit_text n x) at)
    ∙ sym (append_assoc (unit_text number y) (units_text (number + 1) xs) (unit_text (number + length (y ∷ xs)) x))

pub units_more : (xs : List ℕ) (i : ℕ) (d : ℕ) → i < length xs → units_text 1 (take (i + 1) xs) ≡ units_text 1 (take i xs) ++ unit_text (i + 1) (get_or xs i d)
units_more xs i d lt =
    let long : 1 + length (take i xs) ≡ i + 1 = omega (arith, length-take-le i xs (omega arith)) in
    ap (units_text 1) (take_more xs i d lt) ∙ units_push 1 (take i xs) (get_or xs i d)
    ∙ ap (λ n. units_text 1 (take i xs) ++ unit_text n (get_or xs i d)) long
