-- Sums over the units of a group.
use Rattle.std.proofs.Common.{length, take, sum_by, add-one, ◌≡◌, ℕ, zero, suc, ◌+◌, ◌≤◌, List, get_or, None, Option, sym, ap, ◌∙◌, ⊎_elim, arith}
use Rattle.std.proofs.lemmas.Bool.{cases_eq}
use Rattle.std.proofs.lemmas.List.{get_or-take, length-take-le}
use Rattle.std.proofs.lemmas.List.Sums.{sum_by_more}
use Rattle.settling.specs.Stages.{buyer_weight, weights_of}
use Rattle.allocation.specs.Groups.{sum_of}
use Rattle.allocation.proofs.Sums.{sum_none, sum_more, sum_cong}
use Rattle.table.specs.Rows.{new_unit, new_buyer}
use Rattle.table.specs.declared.records.Buyer.{Buyer}
use Rattle.table.specs.declared.records.UnitRecord.{UnitRecord}
use Rattle.settling.specs.Totals.{counted_totals, no_totals, plus_totals, sum_totals}
use Rattle.settling.specs.declared.totals.Totals.{Totals}

-- totals are equal where each sum is
pub totals_same : (a b : Totals) → a.billed ≡ b.billed → a.paid ≡ b.paid → a.active ≡ b.active → a.opportunity ≡ b.opportunity → a.penalties ≡ b.penalties → a ≡ b
totals_same a b e1 e2 e3 e4 e5 =
    let made = λ (p q r s t : ℕ). let x : Totals = record { billed = p; paid = q; active = r; opportunity = s; penalties = t } in x in
    ap (λ p. made p a.paid a.active a.opportunity a.penalties) e1
    ∙ ap (λ q. made b.billed q a.active a.opportunity a.penalties) e2
    ∙ ap (λ r. made b.billed b.paid r a.opportunity a.penalties) e3
    ∙ ap (λ s. made b.billed b.paid b.active s a.penalties) e4
    ∙ ap (made b.billed b.paid b.active b.opportunity) e5

module _ (plant : Option ℕ) (units : List UnitRecord) where
  abbrev one : ℕ → Totals
  one i = counted_totals plant (get_or units i (new_unit 0 0 None 0 0))

  pub totals_none : no_totals ≡ sum_totals plant units 0
  totals_none =
      totals_same no_totals (sum_totals plant units 0) (sym (sum_none _)) (sym (sum_none _)) (sym (sum_none _)) (sym (sum_none _)) (sym (sum_none _))

  pub totals_more : (n : ℕ) → plus_totals (sum_totals plant units n) (counted_totals plant (get_or units n (new_unit 0 0 None 0 0))) ≡ sum_totals plant units (n + 1)
  totals_more n =
      totals_same (plus_totals (sum_totals plant units n) (one n)) (sum_totals plant units (n + 1))
      (sym (sum_more n (λ i. (one i).billed))) (sym (sum_more n (λ i. (one i).paid))) (sym (sum_more n (λ i. (one i).active))) (sym (sum_more n (λ i. (one i).opportunity))) (sym (sum_more n (λ i. (one i).penalties)))

-- a sum of fewer terms is at most the whole
pub sum_prefix : (f : ℕ → ℕ) (m n : ℕ) → m ≤ n → sum_of m f ≤ sum_of n f
unfolding sum_of
sum_prefix f m zero le =
    let none : m ≡ 0 = omega arith in
    omega (arith, ap (λ k. sum_of k f) none)
sum_prefix f m (suc n) le =
    ⊎_elim
    (λ (same : m ≡ suc n). omega (arith, ap (λ k. sum_of k f) same))
    (λ (other : m ≡ suc n → ⊥). omega (arith, sum_prefix f m n (omega arith)))
    (cases_eq m (suc n))

-- a sum over the first n rows of a list
pub sum_rows : {X : Type 0} (f : X → ℕ) (d : X) (xs : List X) (n : ℕ) → n ≤ length xs → sum_by f (take n xs) ≡ sum_of n (λ i. f (get_or xs i d))
unfolding sum_of
sum_rows f d xs zero le = λ _. 0
sum_rows f d xs (suc n) le =
    let next : sum_by f (take (suc n) xs) ≡ sum_by f (take (n + 1) xs) = ap (λ m. sum_by f (take m xs)) (sym (add-one n)) in
    omega (arith, next, sum_by_more f xs n d (omega arith), sum_rows f d xs n (omega arith))

-- the weights of the first n buyers
pub weights_entered : (n : ℕ) (buyers : List Buyer) → n ≤ length buyers → weights_of (length (take n buyers)) (take n buyers) ≡ weights_of n buyers
weights_entered n buyers le =
    ap (λ k. weights_of k (take n buyers)) (length-take-le n buyers le) ∙ sum_cong n _ _ (λ i lt. ap buyer_weight (get_or-take n buyers i (new_buyer 0) lt))
