-- The laws that the traits ask of each kind of curve: no price is over 10,000,000, and no offer's price falls.
use Rattle.std.specs.Prelude.{ℕ, ◌-◌, ◌<◌, ◌≤◌, Bool, true, false, cond, List, [], ◌∷◌, nat_le}
use Rattle.std.proofs.Common.{arith}
use Rattle.std.proofs.lemmas.Bool.{cond_both, leb-true, leb-false}
use Rattle.curves.specs.Limits.{read_kwh}
use Rattle.curves.specs.Kinds.{SteppedOffer, stepped_price, stepped_offer_price, tariff_price, modified_price, raised_price}
use Rattle.curves.specs.Prices.{NeverFalls}
use Rattle.curves.specs.Steps.{price_after, price_read, read_from}
use Rattle.curves.specs.declared.tariff.Tariff.{Tariff}
use Rattle.curves.specs.declared.steps.Step.{Step}
use Rattle.curves.specs.declared.stepped.Stepped.{Stepped}

read_bounded : (rises : Bool) (last : ℕ) (s : Step) → last ≤ 10000000 → price_read rises last s ≤ 10000000
read_bounded false last s h = omega arith
read_bounded true last s h = omega arith

steps_bounded : (rises : Bool) (ss : List Step) (last k : ℕ) → last ≤ 10000000 → price_after last (read_from rises last ss) k ≤ 10000000
steps_bounded rises [] last k h = h
steps_bounded rises (s ∷ ss) last k h =
    let p = price_read rises last s in
    let w = read_kwh s.width in
    elim (nat_le k w) as (λ b. cond b p (price_after p (read_from rises p ss) (k - w)) ≤ 10000000)
    [ true ↦ read_bounded rises last s h | false ↦ steps_bounded rises ss p (k - w) (read_bounded rises last s h) ]

pub stepped_bounded : {n : ℕ} (rises : Bool) (c : Stepped n) (k : ℕ) → stepped_price rises c k ≤ 10000000
stepped_bounded rises c k = steps_bounded rises _ 0 k (omega arith)

pub stepped_offer_bounded : (o : SteppedOffer) (k : ℕ) → stepped_offer_price o k ≤ 10000000
stepped_offer_bounded o k = stepped_bounded true o k

pub tariff_bounded : (t : Tariff) (k : ℕ) → tariff_price t k ≤ 10000000
tariff_bounded t k = omega arith

pub modified_bounded : (free : ℕ) (below : ℕ → ℕ) → ((k : ℕ) → below k ≤ 10000000) → (k : ℕ) → modified_price free below k ≤ 10000000
modified_bounded free below bounded k =
    elim (nat_le k free) as (λ b. cond b 0 (below k) ≤ 10000000) [ true ↦ omega arith | false ↦ bounded k ]

pub raised_bounded : (ceiling : ℕ) (below : ℕ → ℕ) (k : ℕ) → raised_price ceiling below k ≤ 10000000
raised_bounded ceiling below k = omega arith

-- the price of kWh k by the steps that are left, read as an offer's after a step of the price `last`
abbrev offered : ℕ → List Step → ℕ → ℕ
offered last ss k = price_after last (read_from true last ss) k

-- no kWh of the steps that are left costs less than `last`
offered_floor : (ss : List Step) (last k : ℕ) → last ≤ offered last ss k
offered_floor [] last k = omega arith
offered_floor (s ∷ ss) last k =
    let p = price_read true last s in
    let w = read_kwh s.width in
    cond_both (nat_le k w) p (offered p ss (k - w)) (λ v. last ≤ v)
    (λ _. omega arith) (λ _. omega (arith, offered_floor ss p (k - w)))

offered_rises : (ss : List Step) (last i j : ℕ) → i ≤ j → offered last ss i ≤ offered last ss j
offered_rises [] last i j le = omega arith
offered_rises (s ∷ ss) last i j le =
    let p = price_read true last s in
    let w = read_kwh s.width in
    let later = λ (k : ℕ). offered p ss (k - w) in
    cond_both (nat_le i w) p (later i) (λ v. v ≤ cond (nat_le j w) p (later j))
    (λ _. cond_both (nat_le j w) p (later j) (λ v. p ≤ v) (λ _. omega arith) (λ _. offered_floor ss p (j - w)))
    (λ past. cond_both (nat_le j w) p (later j) (λ v. later i ≤ v)
    (λ here. absurd (let gap : w < i = leb-false i w past in let low : j ≤ w = leb-true j w here in omega arith))
    (λ _. offered_rises ss p (i - w) (j - w) (omega arith)))

pub stepped_offer_rises : (o : SteppedOffer) → NeverFalls (stepped_offer_price o)
stepped_offer_rises o i j _ le _ = offered_rises _ 0 i j le

pub tariff_rises : (t : Tariff) → NeverFalls (tariff_price t)
tariff_rises t i j _ _ _ = omega arith
