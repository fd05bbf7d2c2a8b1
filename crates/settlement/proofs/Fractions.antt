-- A figure that drops one fraction lies between its two bounds, and so do those that make up a unit's payment.
use Rattle.std.proofs.Common.{◌≡◌, ℕ, ◌+◌, ◌*◌, ◌/◌, ◌<◌, min, ◌==◌, refl, sym, ap, ◌∙◌, div-mul-le_self, mul_comm, arith}
use Rattle.std.proofs.Math.Nat.{lt-mul-div-succ}
use Rattle.std.proofs.lemmas.Bool.{cond-true, cond-false, eq-eqb, ne_eqb}
use Rattle.curves.specs.Limits.{read_energy}
use Rattle.settlement.specs.Fractions.{OneFraction, Carried, CarriedGross, PaidParts}
use Rattle.settlement.specs.Payments.{competitive_payment, billed, committed, offered, first_part, second_part, modified, sum_a, sum_b, sum_c}
use Rattle.settlement.specs.Reference.{at_reference, net_of}
use Rattle.settlement.specs.declared.payments.PaidUnit.{PaidUnit}
use Rattle.settlement.proofs.Sums.{lesser_from}

pub one_fraction : (n d : ℕ) → 0 < d → OneFraction (n / d) n d
one_fraction n d some = record {
  there = div-mul-le_self n d;
  last = omega (arith, lt-mul-div-succ n some, mul_comm d (n / d + 1));
}

pub carried : (loss energy : ℕ) → Carried loss energy (at_reference loss energy)
carried loss energy = one_fraction _ 10000 (omega arith)

pub carried_gross : (internal loss gross : ℕ) → CarriedGross internal loss gross (net_of internal loss gross)
carried_gross internal loss gross = one_fraction _ 100000000 (omega arith)

-- executed energy where the plant asked, and where it didn't
one_where_asked : (asked made : ℕ) → 0 < asked → min asked 1 * made ≡ made
one_where_asked asked made some =
    let one : min asked 1 ≡ 1 = omega arith in
    ap (λ m. m * made) one ∙ omega arith

none_where_not : (asked made : ℕ) → asked ≡ 0 → min asked 1 * made ≡ 0
none_where_not asked made not_asked =
    let none : min asked 1 ≡ 0 = omega arith in
    ap (λ m. m * made) none ∙ omega arith

pub paid_parts : (u : PaidUnit) (offer cost : ℕ → ℕ) (ceiling : ℕ) → PaidParts u offer cost ceiling (competitive_payment u offer cost ceiling)
paid_parts u offer cost ceiling =
    let executed = net_of u.internal u.loss u.energies.executed in
    record {
      bill = billed u;
      bill_is = carried u.loss (read_energy u.energies.net);
      committed = committed u;
      committed_is = refl;
      of_committed = at_reference u.loss (committed u);
      of_committed_is = carried u.loss (committed u);
      of_offered = at_reference u.loss (offered u);
      of_offered_is = carried u.loss (offered u);
      of_executed = executed;
      of_executed_is = carried_gross u.internal u.loss u.energies.executed;
      first = first_part u;
      first_is = refl;
      second = second_part u;
      second_not_asked = λ none. omega (arith, none_where_not u.energies.asked (min executed (billed u)) none);
      second_asked = λ some. omega (arith, one_where_asked u.energies.asked (min executed (billed u)) some);
      a = sum_a u offer;
      a_is = refl;
      b = sum_b u offer cost;
      b_is = sym (lesser_from cost (modified u offer) (first_part u) (second_part u));
      c = sum_c u offer cost ceiling;
      c_where_free = λ none. cond-true (sum_a u offer == 0) _ _ (eq-eqb (sum_a u offer) 0 none);
      c_where_paid = λ some. cond-false (sum_a u offer == 0) _ _ (ne_eqb (sum_a u offer) 0 (λ none. omega (arith, some, none)));
      sum = refl;
    }
