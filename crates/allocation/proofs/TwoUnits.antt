-- The worked example, computed on the definitions.
use Rattle.std.proofs.Common.{◌≡◌, ℕ, zero, suc, ◌-◌, ◌<◌, ◌≤◌, cond, leb, ◌⊎◌, List, [], ◌∷◌, length, replicate, Ok, Result, sym, refl, ap, ◌∙◌, subst, inl, inr, ⊎_elim, arith}
use Rattle.std.proofs.lemmas.List.{ext_get_or}
use Rattle.std.proofs.lemmas.Bool.{cases_lt, le-leb, lt-leb, cond-true, cond-false, cond_both}
use Rattle.curves.specs.Prices.{cost_of}
use Rattle.curves.specs.Kinds.{SteppedOffer, stepped_offer_price}
use Rattle.std.specs.Option.{unwrap_or}
use Rattle.std.specs.Result.{result_ok}
use Rattle.curves.specs.Refusals.{stepped_offer_made}
use Rattle.curves.specs.declared.refusals.CurveRefusal.{CurveRefusal}
use Rattle.curves.specs.declared.steps.Step.{Step}
use Rattle.allocation.specs.Groups.{sum_of, Within, group_of, amount_at}
use Rattle.allocation.specs.Merit.{Before, MeritOrder}
use Rattle.allocation.specs.Laws.{Split}
use Rattle.allocation.specs.TwoUnits.{two_units, amounts, WorkedExample, step}

-- a stepped offer of two steps
abbrev pub two_steps : Step → Step → SteppedOffer
two_steps first second = record { table = record { count = 2; steps = first ∷ (second ∷ replicate 8 (step 0 0)) } }

-- two steps: the first price up to the first width, then the second
first : (w p v q k : ℕ) → k ≤ w → cond (leb k w) p (cond (leb (k - w) v) q q) ≡ p
first w p v q k le = cond-true _ _ _ (le-leb k w le)

second : (w p v q k : ℕ) → w < k → cond (leb k w) p (cond (leb (k - w) v) q q) ≡ q
second w p v q k lt = cond-false _ _ _ (lt-leb k w lt) ∙ cond_both (leb (k - w) v) q q (λ x. x ≡ q) (λ _. refl) (λ _. refl)

-- a fact of units 1 and 2
each_unit : (P : ℕ → Type 0) → P 0 → P 1 → (i : ℕ) → i < 2 → P i
each_unit P one two zero lt = one
each_unit P one two (suc zero) lt = two
each_unit P one two (suc (suc i)) lt = absurd (omega arith)

within : (a b : ℕ) → a ≤ 100 → b ≤ 100 → Within two_units (amounts a b)
within a b la lb = each_unit (λ i. amounts a b i ≤ two_units.limit i) (omega arith) (omega arith)

-- where both have 100, no kWh within the limits is left
full : (i k j m : ℕ) → i < 2 → j < 2 → 1 ≤ k → k ≤ amounts 100 100 i → amounts 100 100 j < m → m ≤ two_units.limit j → Before two_units i k j m
full i k j m it jt low high = each_unit (λ j. amounts 100 100 j < m → m ≤ two_units.limit j → Before two_units i k j m)
    (λ above within. absurd (omega arith)) (λ above within. absurd (omega arith)) j jt

merit_full : (share : ℕ) → 200 ≤ share → MeritOrder two_units share (amounts 100 100)
unfolding sum_of
merit_full share le = record {
  within = within 100 100 (omega arith) (omega arith);
  covered = omega arith;
  order = full;
}

-- where they have 70 and 80, each kWh that is not taken costs 500
dear : (j m : ℕ) → j < 2 → amounts 70 80 j < m → two_units.price j m ≡ 500
dear j m jt = each_unit (λ j. amounts 70 80 j < m → two_units.price j m ≡ 500)
    (λ above. second 50 300 50 500 m (omega arith)) (λ above. second 80 400 20 500 m (omega arith)) j jt

order_150 : (i k j m : ℕ) → i < 2 → j < 2 → 1 ≤ k → k ≤ amounts 70 80 i → amounts 70 80 j < m → m ≤ two_units.limit j → Before two_units i k j m
order_150 i k j m it jt low high above within =
    each_unit (λ i. k ≤ amounts 70 80 i → Before two_units i k j m)
    (λ taken. ⊎_elim
    (λ (past : 50 < k). inr (omega (arith, second 50 300 50 500 k past, dear j m jt above), later past taken j jt above))
    (λ (le : k ≤ 50). inl (omega (arith, first 50 300 50 500 k le, dear j m jt above)))
    (cases_lt 50 k))
    (λ taken. inl (omega (arith, first 80 400 20 500 k taken, dear j m jt above)))
    i it high
  where
    later : 50 < k → k ≤ 70 → (j : ℕ) → j < 2 → amounts 70 80 j < m → (0 < j) ⊎ ((0 ≡ j) × (k < m))
    later past taken j jt = each_unit (λ j. amounts 70 80 j < m → (0 < j) ⊎ ((0 ≡ j) × (k < m)))
        (λ above. inr (refl, omega arith)) (λ above. inl (omega arith)) j jt

pub worked_example : WorkedExample
unfolding sum_of cost_of
worked_example = record {
  of_150 = record {
    within = within 70 80 (omega arith) (omega arith);
    covered = refl;
    order = order_150;
  };
  cost_150 = refl;
  of_200 = merit_full 200 (omega arith);
  left_200 = refl;
  of_201 = merit_full 201 (omega arith);
  left_201 = refl;
}

-- what is promised of a split leaves only 70 and 80 for a share of 150
pub pinned : (first second : SteppedOffer) (share : ℕ) (row : List ℕ) (left : ℕ) → first ≡ two_steps (step 50 300) (step 50 500) → second ≡ two_steps (step 80 400) (step 20 500) → share ≡ 150 → length row ≡ 2 → Split (group_of stepped_offer_price (first ∷ (second ∷ [])) (100 ∷ (100 ∷ [])) 2) share (amount_at row) left → row ≡ 70 ∷ (80 ∷ [])
pinned first second share row left is-first is-second is-150 two promised =
    let of = λ (o p : SteppedOffer) (s : ℕ). Split (group_of stepped_offer_price (o ∷ (p ∷ [])) (100 ∷ (100 ∷ [])) 2) s (amount_at row) left in
    let known = subst (λ p. of (two_steps (step 50 300) (step 50 500)) p share) is-second (subst (λ o. of o second share) is-first promised) in
    let split = subst (of (two_steps (step 50 300) (step 50 500)) (two_steps (step 80 400) (step 20 500))) is-150 known in
    ext_get_or 0 row (70 ∷ (80 ∷ [])) two (λ i lt. sym (split.only (amounts 70 80) worked_example.of_150 i (omega arith)))

-- an offer made of two steps is that of the steps that they are equal to
pub offer_made : (s t a b : Step) (made : Result SteppedOffer CurveRefusal) (offer : SteppedOffer) → s ≡ a → t ≡ b → made ≡ stepped_offer_made (s ∷ (t ∷ [])) → made ≡ Ok offer → stepped_offer_made (a ∷ (b ∷ [])) ≡ Ok (two_steps a b) → offer ≡ two_steps a b
offer_made s t a b made offer first second is-made is-ok known =
    ap (λ r. unwrap_or (result_ok r) offer) (sym is-ok ∙ is-made ∙ ap (λ x. stepped_offer_made (x ∷ (t ∷ []))) first ∙ ap (λ x. stepped_offer_made (a ∷ (x ∷ []))) second ∙ known)
