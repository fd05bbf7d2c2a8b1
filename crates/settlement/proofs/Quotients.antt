-- Bounds on quotients.
use Rattle.std.proofs.Common.{◌≡◌, ℕ, ◌*◌, ◌/◌, ◌≤◌, ap, ◌∙◌, mul_assoc, mul_comm, mul-le-mul, mul-le-mul_left, arith}
use native.Mathlib.Nat.{div-le_of_le-mul}

-- a part of n is at most n
pub part_le : (n k d : ℕ) → k ≤ d → n * k / d ≤ n
part_le n k d le = div-le_of_le-mul d (omega (arith, mul-le-mul_left n le, mul_comm n d))

-- a part of a part of n is at most n
pub parts_le : (n k l d e f : ℕ) → k ≤ d → l ≤ e → d * e ≡ f → n * k * l / f ≤ n
parts_le n k l d e f lk ll whole =
    let regroup : n * d * e ≡ f * n = mul_assoc n d e ∙ ap (λ x. n * x) whole ∙ mul_comm n f in
    let first : n * k ≤ n * d = mul-le-mul_left n lk in
    div-le_of_le-mul f (omega (arith, mul-le-mul first ll, regroup))

-- what a unit's energy saves, with a saving that fits 32 bits
pub saved_le : (energy feeds saving : ℕ) → energy ≤ 2000000 → feeds ≤ 1 → saving ≤ 4294967295 → energy * feeds * saving ≤ 8589934590000000
saved_le energy feeds saving le lf ls =
    let fed : energy * feeds ≤ 2000000 * 1 = mul-le-mul le lf in
    mul-le-mul fed ls
