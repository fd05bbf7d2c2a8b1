-- Net purchases add up: shares are differences of a running share, and each commitment names one buyer.
use Rattle.std.proofs.Common.{◌≡◌, ℕ, zero, suc, ◌+◌, ◌<◌, ◌≤◌, cond, eqb, List, [], ◌∷◌, pos, ◌-ℤ◌, sym, refl, ap, ◌∙◌, ⊎_elim, add-one, arith}
use Rattle.std.proofs.lemmas.Int.{ints}
use Rattle.std.proofs.lemmas.List.Sums.{sum_by-cons}
use Rattle.std.proofs.lemmas.Bool.{cases_eq, eq-eqb, ne_eqb, cond-true, cond-false}
use Rattle.allocation.specs.Groups.{sum_of}
use Rattle.allocation.proofs.Sums.{sum_none, sum_cong}
use Rattle.settlement.proofs.Running.{share_none, share_whole, share_rises}
use Rattle.settlement.specs.Shares.{running_share}
use Rattle.table.proofs.Accepted.{Named, AllNamed}
use Rattle.table.specs.Entries.{sold_by}
use Rattle.table.specs.declared.records.Commitment.{Commitment}
use Rattle.settling.proofs.Groups.{sum_prefix}
use Rattle.settling.specs.Derived.{sum_z, NetsAddUp}
use Rattle.settling.specs.Figures.{sum_units, billed_unit, volumes, bought_of, bought_by, weight_in, weights_to, shares_to, share_in, net_in, unassigned_in}
use Rattle.settling.specs.Ledger.{Ledger}

-- a sum of differences is the difference of the sums
differences : (n : ℕ) (s q : ℕ → ℕ) → sum_z n (λ b. pos (s b) -ℤ pos (q b)) ≡ pos (sum_of n s) -ℤ pos (sum_of n q)
unfolding sum_z sum_of
differences zero s q = refl
differences (suc n) s q = omega (arith, ints, differences n s q)

-- a sum of sums
sum_plus : (n : ℕ) (f h : ℕ → ℕ) → sum_of n (λ i. f i + h i) ≡ sum_of n f + sum_of n h
unfolding sum_of
sum_plus zero f h = refl
sum_plus (suc n) f h = omega (arith, sum_plus n f h)

sum_zeros : (n : ℕ) (f : ℕ → ℕ) → ((i : ℕ) → i < n → f i ≡ 0) → sum_of n f ≡ 0
unfolding sum_of
sum_zeros zero f none = refl
sum_zeros (suc n) f none = omega (arith, sum_zeros n f (λ i lt. none i (omega arith)), none n (omega arith))

-- one place of n holds v
sum_single : (n k v : ℕ) → 1 ≤ k → k ≤ n → sum_of n (λ b. cond (eqb k (b + 1)) v 0) ≡ v
unfolding sum_of
sum_single zero k v low high = absurd (omega arith)
sum_single (suc n) k v low high =
    ⊎_elim
    (λ (last : k ≡ n + 1).
    let here : cond (eqb k (n + 1)) v 0 ≡ v = cond-true _ _ _ (eq-eqb k (n + 1) last) in
    let none = sum_zeros n (λ b. cond (eqb k (b + 1)) v 0) (λ b lt. cond-false _ _ _ (ne_eqb k (b + 1) (λ same. omega arith))) in
    omega (arith, here, none))
    (λ (other : k ≡ n + 1 → ⊥).
    let here : cond (eqb k (n + 1)) v 0 ≡ 0 = cond-false _ _ _ (ne_eqb k (n + 1) other) in
    omega (arith, here, sum_single n k v low (omega arith)))
    (cases_eq k (n + 1))

-- where each commitment counts for one of n numbers, what counts for all of them is the sum of the volumes
module _ (plants buyers n : ℕ) (number : Commitment → ℕ) (within : (c : Commitment) → Named plants buyers c → (1 ≤ number c) × (number c ≤ n)) (by : ℕ → List Commitment → ℕ) (none : (i : ℕ) → by i [] ≡ 0) (one : (i : ℕ) (c : Commitment) (cs : List Commitment) → by i (c ∷ cs) ≡ cond (eqb (number c) i) c.volume 0 + by i cs) where
  named_sum : (cs : List Commitment) → AllNamed plants buyers cs → sum_of n (λ i. by (i + 1) cs) ≡ volumes cs
  named_sum [] named = sum_zeros n (λ i. by (i + 1) []) (λ i lt. none (i + 1))
  named_sum (c ∷ cs) named =
      let at = within c named.0 in
      sum_cong n (λ i. by (i + 1) (c ∷ cs)) (λ i. cond (eqb (number c) (i + 1)) c.volume 0 + by (i + 1) cs) (λ i lt. one (i + 1) c cs)
      ∙ sum_plus n (λ i. cond (eqb (number c) (i + 1)) c.volume 0) (λ i. by (i + 1) cs)
      ∙ ap (λ x. x + sum_of n (λ i. by (i + 1) cs)) (sum_single n (number c) c.volume at.0 at.1)
      ∙ ap (λ y. c.volume + y) (named_sum cs named.1) ∙ sym (sum_by-cons (λ (x : Commitment). x.volume) c cs)

-- what all buyers bought is all that was sold, and so is what all plants sold
pub bought_sum : (plants n : ℕ) (cs : List Commitment) → AllNamed plants n cs → sum_of n (λ b. bought_by (b + 1) cs) ≡ volumes cs
bought_sum plants n =
    named_sum plants n n (λ (c : Commitment). c.buyer) (λ c named. (named.buyer_low, named.buyer_high)) bought_by (λ b. refl) (λ b c cs. sum_by-cons (bought_of b) c cs)

pub sold_sum : (n buyers : ℕ) (cs : List Commitment) → AllNamed n buyers cs → sum_of n (λ p. sold_by (p + 1) cs) ≡ volumes cs
sold_sum n buyers =
    named_sum n buyers n (λ (c : Commitment). c.plant) (λ c named. (named.plant_low, named.plant_high)) sold_by (λ p. refl) (λ p c cs. refl)

module _ (a : Ledger) where
  shares_rise : (b : ℕ) → shares_to a b ≤ shares_to a (b + 1)
  shares_rise b = share_rises (sum_units a billed_unit) (weights_to a b) (weights_to a (b + 1)) (weights_to a a.buyers) (sum_prefix (weight_in a) b (b + 1) (omega arith))

  shares_none : shares_to a 0 ≡ 0
  shares_none = ap (λ w. running_share (sum_units a billed_unit) w (weights_to a a.buyers)) (sum_none (weight_in a)) ∙ share_none (sum_units a billed_unit) (weights_to a a.buyers)

  -- the shares of the first n buyers add up to the running share
  shares_to_lem : (n : ℕ) → sum_of n (share_in a) ≡ shares_to a n
  unfolding sum_of
  shares_to_lem zero = sym shares_none
  shares_to_lem (suc n) =
      let next : shares_to a (n + 1) ≡ shares_to a (suc n) = ap (shares_to a) (add-one n) in
      omega (arith, next, shares_to_lem n, shares_rise n)

  -- shares and what is unassigned are the billed energy
  shares_all : sum_of a.buyers (share_in a) + unassigned_in a ≡ sum_units a billed_unit
  shares_all =
      let all = weights_to a a.buyers in
      ⊎_elim
      (λ (none : all ≡ 0).
      let rest : unassigned_in a ≡ sum_units a billed_unit = cond-true _ _ _ (eq-eqb all 0 none) in
      let nothing : shares_to a a.buyers ≡ 0 = ap (λ w. running_share (sum_units a billed_unit) w all) none ∙ share_none (sum_units a billed_unit) all in
      omega (arith, rest, nothing, shares_to_lem a.buyers))
      (λ (some : all ≡ 0 → ⊥).
      let rest : unassigned_in a ≡ 0 = cond-false _ _ _ (ne_eqb all 0 some) in
      omega (arith, rest, shares_to_lem a.buyers, share_whole (sum_units a billed_unit) all (omega arith)))
      (cases_eq all 0)

  pub nets_add_up : (plants : ℕ) → AllNamed plants a.buyers a.commitments → NetsAddUp a.buyers (net_in a) (unassigned_in a) a
  nets_add_up plants named =
      omega (arith, ints, differences a.buyers (share_in a) (λ b. bought_by (b + 1) a.commitments), bought_sum plants a.buyers a.commitments named, shares_all)
