-- The most kWh of a unit's parts, and what the parts cost at most.
use Rattle.std.proofs.Common.{ℕ, ◌*◌, ◌≤◌, min, max, Bool, true, false, cond, mul-le-mul, ◌==◌, nat_le, arith}
use Rattle.curves.specs.KindLaws.{modified_bounded, raised_bounded}
use Rattle.curves.specs.Kinds.{raised_price}
use Rattle.curves.specs.Limits.{read_energy, read_kwh}
use Rattle.settlement.specs.declared.payments.PaidUnit.{PaidUnit}
use Rattle.settlement.specs.Reference.{kept, net_of}
use Rattle.settlement.specs.Payments.{cost_between, lesser, billed, committed, first_part, second_part, modified, sum_a, competitive_payment}
use Rattle.settlement.proofs.Quotients.{part_le}
use Rattle.settlement.proofs.Sums.{between_bound}

pub billed_le : (u : PaidUnit) → billed u ≤ 2000000
billed_le u = omega (arith, part_le (read_energy u.energies.net) (kept u.loss) 10000 (omega arith))

pub first_le : (u : PaidUnit) → first_part u ≤ 2000000
first_le u = omega (arith, billed_le u)

pub second_le : (u : PaidUnit) → second_part u ≤ 2000000
second_le u =
    let executed = min (net_of u.internal u.loss u.energies.executed) (billed u) in
    let asked : min u.energies.asked 1 * executed ≤ 1 * billed u = mul-le-mul (omega arith) (omega arith) in
    omega (arith, billed_le u, asked)

pub lesser_le : (one other : ℕ → ℕ) → ((k : ℕ) → one k ≤ 10000000) → (a b : ℕ) → b ≤ 2000000 → lesser one other a b ≤ 20000000000000
lesser_le one other each a b le = omega (arith, between_bound one each a b le)

either_le : (b : Bool) (x y top : ℕ) → x ≤ top → y ≤ top → cond b x y ≤ top
either_le true x y top one other = one
either_le false x y top one other = other

-- no competitive unit is paid over 60,000,000,000,000
pub payment_le : (u : PaidUnit) (offer cost : ℕ → ℕ) (ceiling : ℕ) → ((k : ℕ) → offer k ≤ 10000000) → ((k : ℕ) → cost k ≤ 10000000) → competitive_payment u offer cost ceiling ≤ 60000000000000
payment_le u offer cost ceiling offered costed =
    let each = modified_bounded u.allocated offer offered in
    let past = max (first_part u) (second_part u) in
    let b = either_le (nat_le (second_part u) (first_part u)) 0 (lesser cost (modified u offer) (first_part u) (second_part u)) 20000000000000 (omega arith)
    (lesser_le cost (modified u offer) costed (first_part u) (second_part u) (second_le u)) in
    let c = either_le (sum_a u offer == 0) (cost_between (raised_price ceiling cost) past (billed u)) (cost_between (λ _. modified u offer (read_kwh (committed u))) past (billed u)) 20000000000000
    (between_bound (raised_price ceiling cost) (raised_bounded ceiling cost) past (billed u) (billed_le u))
    (between_bound (λ _. modified u offer (read_kwh (committed u))) (λ _. each (read_kwh (committed u))) past (billed u) (billed_le u)) in
    omega (arith, between_bound (modified u offer) each 0 (first_part u) (first_le u), b, c)
