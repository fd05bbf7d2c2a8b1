-- Price rows and offers by the unit's place.
use Rattle.std.proofs.Common.{◌≡◌, ℕ, zero, suc, ◌<◌, ◌≤◌, List, [], ◌∷◌, length, get_or, sym, refl, ap, arith}
use Rattle.settlement.specs.Payments.{competitive_payment, guaranteed_payment}
use Rattle.settlement.specs.declared.payments.PaidUnit.{PaidUnit}
use Rattle.settling.specs.Figures.{row_payment, offer_payment}
use Rattle.settling.specs.declared.rows.PriceRow.{PriceRow}

pub row_past : {O C : Type 0} (offer : O → ℕ → ℕ) (cost : C → ℕ → ℕ) (ceiling : ℕ) (rows : List (PriceRow O C)) (i : ℕ) (u : PaidUnit) → length rows ≤ i → row_payment offer cost ceiling rows i u ≡ 0
row_past offer cost ceiling [] i u past = refl
row_past offer cost ceiling (r ∷ rs) zero u past = absurd (omega arith)
row_past offer cost ceiling (r ∷ rs) (suc i) u past = row_past offer cost ceiling rs i u (omega arith)

pub row_at : {O C : Type 0} (offer : O → ℕ → ℕ) (cost : C → ℕ → ℕ) (ceiling : ℕ) (rows : List (PriceRow O C)) (i : ℕ) (u : PaidUnit) (r : PriceRow O C) → i < length rows → r ≡ get_or rows i r → row_payment offer cost ceiling rows i u ≡ competitive_payment u (offer r.offer) (cost r.cost) ceiling
row_at offer cost ceiling [] i u r lt read = absurd (omega arith)
row_at offer cost ceiling (x ∷ xs) zero u r lt read = ap (λ (y : PriceRow _ _). competitive_payment u (offer y.offer) (cost y.cost) ceiling) (sym read)
row_at offer cost ceiling (x ∷ xs) (suc i) u r lt read = row_at offer cost ceiling xs i u r (omega arith) read

pub offer_past : {G : Type 0} (offer : G → ℕ → ℕ) (saving : ℕ) (offers : List G) (i billed feeds : ℕ) → length offers ≤ i → offer_payment offer saving offers i billed feeds ≡ 0
offer_past offer saving [] i billed feeds past = refl
offer_past offer saving (o ∷ os) zero billed feeds past = absurd (omega arith)
offer_past offer saving (o ∷ os) (suc i) billed feeds past = offer_past offer saving os i billed feeds (omega arith)

pub offer_at : {G : Type 0} (offer : G → ℕ → ℕ) (saving : ℕ) (offers : List G) (i billed feeds : ℕ) (o : G) → i < length offers → o ≡ get_or offers i o → offer_payment offer saving offers i billed feeds ≡ guaranteed_payment billed (offer o) feeds saving
offer_at offer saving [] i billed feeds o lt read = absurd (omega arith)
offer_at offer saving (x ∷ xs) zero billed feeds o lt read = ap (λ y. guaranteed_payment billed (offer y) feeds saving) (sym read)
offer_at offer saving (x ∷ xs) (suc i) billed feeds o lt read = offer_at offer saving xs i billed feeds o (omega arith) read
