-- The greater of two quotients, of which either may be missing.
use Rattle.std.proofs.Common.{◌≡◌, ℕ, ◌<◌, min, max, Some, None, Option, MatchOption, Less, Equal, Greater, cond, refl, arith}
use Rattle.std.proofs.lemmas.Cmp.{ranked}
use Rattle.std.specs.Ordering.{MatchOrdering, is_lt, ord_max, nat_cmp}
use Rattle.std.specs.Option.{option_cmp}
use Rattle.settlement.specs.Support.{greater}

-- what the greater of two quotients is read as
pub greater_is : (own hour : Option ℕ) (ceiling r : ℕ) → MatchOption (ord_max (option_cmp nat_cmp) own hour) (r ≡ ceiling) (λ q. r ≡ min q 1000000000) → r ≡ greater own hour ceiling
greater_is None None ceiling r is = is
greater_is None (Some q) ceiling r is = is
greater_is (Some p) None ceiling r is = is
greater_is (Some p) (Some q) ceiling r is =
    elim (nat_cmp q p) as (λ o. MatchOrdering o (q < p) (q ≡ p) (p < q) → MatchOption (cond (is_lt o) (Some p) (Some q)) (r ≡ ceiling) (λ m. r ≡ min m 1000000000) → r ≡ min (max p q) 1000000000) [
      | Less ↦ λ less read. omega (arith, read)
      | Equal ↦ λ same read. omega (arith, read)
      | Greater ↦ λ more read. omega (arith, read)
    ]
    (ranked q p _ refl) is
