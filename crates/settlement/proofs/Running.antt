-- What holds of a running share: 0 for no part, the whole for the whole total, and never less for a greater part.
use Rattle.std.proofs.Common.{◌≡◌, ℕ, zero, suc, ◌*◌, ◌/◌, ◌<◌, ◌≤◌, true, false, cond, ◌==◌, refl, ap, ◌∙◌, mul-le-mul_left, mul-zero, le-div_iff_mul-le, div-mul-le_self, mul-div_cancel, arith}
use Rattle.std.proofs.lemmas.Bool.{cond-false, ne_eqb}
use native.Mathlib.Nat.{zero-div, div-zero}
use Rattle.settlement.specs.Shares.{running_share}
use Rattle.settlement.proofs.Quotients.{part_le}

pub share_none : (whole total : ℕ) → running_share whole 0 total ≡ 0
unfolding running_share
share_none whole total =
    elim (total == 0) as (λ b. cond b 0 (whole * 0 / total) ≡ 0) [ true ↦ refl | false ↦ ap (λ n. n / total) (mul-zero whole) ∙ zero-div total ]

pub share_whole : (whole total : ℕ) → 0 < total → running_share whole total total ≡ whole
unfolding running_share
share_whole whole total some = cond-false _ _ _ (ne_eqb total 0 (λ none. omega arith)) ∙ mul-div_cancel whole some

-- a quotient rises with what is divided
quotient_rises : (n m total : ℕ) → n ≤ m → n / total ≤ m / total
quotient_rises n m zero le = omega (arith, div-zero n)
quotient_rises n m (suc total) le =
    let some : 0 < suc total = omega arith in
    (le-div_iff_mul-le {x = n / suc total} {y = m} some).1 (omega (arith, div-mul-le_self n (suc total)))

pub share_rises : (whole part more total : ℕ) → part ≤ more → running_share whole part total ≤ running_share whole more total
unfolding running_share
share_rises whole part more total le =
    elim (total == 0) as (λ b. cond b 0 (whole * part / total) ≤ cond b 0 (whole * more / total)) [
      | true ↦ omega arith
      | false ↦ quotient_rises (whole * part) (whole * more) total (mul-le-mul_left whole le)
    ]

pub share_le : (whole part total : ℕ) → part ≤ total → running_share whole part total ≤ whole
unfolding running_share
share_le whole part total le =
    elim (total == 0) as (λ b. cond b 0 (whole * part / total) ≤ whole) [ true ↦ omega arith | false ↦ part_le whole part total le ]
