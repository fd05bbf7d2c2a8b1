-- Lemmas on the checks of a list of steps: what each finds, and that an accepted list is read as it stands.
use Rattle.std.proofs.Common.{◌≡◌, ℕ, ◌<◌, ◌≤◌, Bool, true, false, ◌&&◌, ◌||◌, List, [], ◌∷◌, length, get_or, not, cond, zero, suc, ◌==◌, nat_le, nat_lt, Less, Equal, Greater, Some, sym, refl, ap, ◌∙◌, arith}
use Rattle.std.proofs.lemmas.List.{take_at}
use Rattle.std.proofs.lemmas.Bool.{true≢false, cond_both, and_parts, or_parts, or_from, or_left, or_right, lt-ltb, le-ltb, leb-true, ltb-false, eqb-false, not-false}
use Rattle.std.specs.List.{list_all, IsAllAdjacentAnswer}
use Rattle.std.specs.Ordering.{nat_cmp, is_le, is_some_and}
use Rattle.std.proofs.lemmas.Map.Keys.{le_from_is_le}
use native.Mathlib.Numerals.{unary_clauses}
use Rattle.curves.specs.Limits.{read_kwh, read_count}
use Rattle.curves.specs.Steps.{price_read, read_from, steps_of}
use Rattle.curves.specs.Refusals.{widths_fit, prices_fit, price_falls, falls, bad_steps, padded_steps}
use Rattle.curves.specs.declared.steps.Step.{Step}

-- all widths fit where each does, and all prices where each does
pub all_wide : (l : List Step) → list_all (λ s. nat_le 1 s.width && nat_le s.width 2000000) l ≡ widths_fit l
all_wide [] = refl
all_wide (s ∷ ss) = ap (λ b. (nat_le 1 s.width && nat_le s.width 2000000) && b) (all_wide ss)

pub all_priced : (l : List Step) → list_all (λ s. nat_le s.price 10000000) l ≡ prices_fit l
all_priced [] = refl
all_priced (s ∷ ss) = ap (λ b. nat_le s.price 10000000 && b) (all_priced ss)

-- no price is under the one before it
rising : (before : ℕ) (l : List Step) → ((d : Step) → 0 < length l → before ≤ (get_or l 0 d).price) → ((k : ℕ) (d : Step) → suc k < length l → (get_or l k d).price ≤ (get_or l (suc k) d).price) → price_falls before l ≡ false
rising before [] first up = refl
rising before (s ∷ ss) first up =
    or_from _ _ (le-ltb _ _ (first s (omega arith))) (rising s.price ss (λ d some. up 0 d (omega arith)) (λ k d lt. up (suc k) d (omega arith)))

-- a price is under the one before it
falling : (before : ℕ) (l : List Step) (k : ℕ) (d : Step) → suc k < length l → (get_or l (suc k) d).price < (get_or l k d).price → price_falls before l ≡ true
falling before [] k d room h = absurd (omega arith)
falling before (s ∷ []) k d room h = absurd (omega arith)
falling before (s ∷ (t ∷ ss)) zero d room h = or_right _ _ (or_left _ _ (lt-ltb _ _ h))
falling before (s ∷ (t ∷ ss)) (suc k) d room h = or_right _ _ (falling s.price (t ∷ ss) k d (omega arith) h)

above : (a b : ℕ) → is_le (nat_cmp a b) ≡ false → b < a
above a b =
    cond_both (nat_lt a b) Less (cond (a == b) Equal Greater) (λ o. is_le o ≡ false → b < a)
    (λ _ h. absurd (true≢false h))
    (λ no. cond_both (a == b) Equal Greater (λ o. is_le o ≡ false → b < a) (λ _ h. absurd (true≢false h)) (λ other _. omega (arith, ltb-false _ _ no, eqb-false _ _ other)))

-- a list falls where it is not sorted by price
pub falls_unsorted : (l : List Step) (sorted : Bool) → IsAllAdjacentAnswer (λ s t b. b ≡ is_some_and is_le (Some (nat_cmp s.price t.price))) l sorted → not sorted ≡ price_falls 0 l
falls_unsorted l true up = sym (rising 0 l (λ d some. omega arith) (λ k d lt. le_from_is_le _ _ (sym (simp unary_clauses at (up k d (omega arith))))))
falls_unsorted l false down =
    let d : Step = record { width = 0; price = 0 } in
    sym (falling 0 l down.0 d (omega (arith, down.1)) (above _ _ (sym (simp unary_clauses at (down.2 d)))))

-- a step whose price does not fall is read at its price
first_price : (r : Bool) (before : ℕ) (s : Step) (ss : List Step) → s.price ≤ 10000000 → falls r before (s ∷ ss) ≡ false → (price_read r before s ≡ s.price) × (falls r s.price ss ≡ false)
first_price false before s ss le e = (omega arith, refl)
first_price true before s ss le e =
    let parts = or_parts _ _ e in
    let up : before ≤ s.price = ltb-false _ _ parts.0 in
    (omega arith, parts.1)

-- a list that passes the checks is read as it stands
read_same : (r : Bool) (before : ℕ) (l : List Step) → widths_fit l ≡ true → prices_fit l ≡ true → falls r before l ≡ false → read_from r before l ≡ l
read_same r before [] widths prices rising = refl
read_same r before (s ∷ ss) widths prices rising =
    let wide = and_parts _ _ widths in
    let bounds = and_parts _ _ wide.0 in
    let low : 1 ≤ s.width = leb-true _ _ bounds.0 in
    let high : s.width ≤ 2000000 = leb-true _ _ bounds.1 in
    let fit = and_parts _ _ prices in
    let up = first_price r before s ss (leb-true _ _ fit.0) rising in
    let same_width : read_kwh s.width ≡ s.width = omega arith in
    let step = λ (w p : ℕ) (rest : List Step). let first : Step = record { width = w; price = p } in first ∷ rest in
    ap (λ w. step w (price_read r before s) (read_from r (price_read r before s) ss)) same_width
    ∙ ap (λ p. step s.width p (read_from r p ss)) up.0
    ∙ ap (step s.width s.price) (read_same r s.price ss wide.1 fit.1 up.1)

-- the table of an accepted list stands for that list
pub table_means : (r : Bool) (l : List Step) → bad_steps r l ≡ false → prices_fit l ≡ true → steps_of r (record { count = length l; steps = padded_steps l }) ≡ l
table_means r l good prices =
    let parts = or_parts (length l == 0) (nat_lt 10 (length l) || (not (widths_fit l) || falls r 0 l)) good in
    let more = or_parts (nat_lt 10 (length l)) (not (widths_fit l) || falls r 0 l) parts.1 in
    let last = or_parts (not (widths_fit l)) (falls r 0 l) more.1 in
    let few : length l ≤ 10 = ltb-false _ _ more.0 in
    let some : 0 < length l = omega (arith, eqb-false _ _ parts.0) in
    let count : length l ≡ read_count (length l) = omega arith in
    ap (read_from r 0) (take_at l _ (read_count (length l)) count) ∙ read_same r 0 l (not-false _ last.0) prices last.1
