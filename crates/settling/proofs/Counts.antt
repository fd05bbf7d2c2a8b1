-- The totals of settled units are the sums of the ledger's figures.
use Rattle.table.specs.Places.{unit_at}
use Rattle.std.proofs.Common.{◌≡◌, ℕ, ◌+◌, ◌<◌, min, Bool, true, false, cond, eqb, List, Some, None, Option, refl, ap, ◌∙◌}
use Rattle.allocation.specs.Groups.{sum_of}
use Rattle.allocation.proofs.Sums.{sum_cong}
use Rattle.settlement.specs.Support.{active_of}
use Rattle.table.specs.Rows.{UnitTable}
use Rattle.table.specs.declared.records.Plant.{Plant}
use Rattle.table.specs.declared.records.UnitFigures.{UnitFigures}
use Rattle.table.specs.declared.records.UnitReading.{UnitReading}
use Rattle.table.specs.declared.records.UnitRecord.{UnitRecord}
use Rattle.settling.specs.Figures.{bill_in}
use Rattle.settling.specs.Ledger.{UnitCase, case_at, adjustments_of, control_of}
use Rattle.settling.specs.Settled.{GroupSettled}
use Rattle.settling.specs.Totals.{unit_totals, counted, counted_totals, no_totals}
use Rattle.settling.specs.declared.totals.Totals.{Totals}

-- a unit's totals, by the ledger
abbrev pub case_totals : ℕ → UnitCase → Totals
case_totals payment u = record {
  billed = bill_in u;
  paid = payment;
  active = active_of (control_of u.reading);
  opportunity = (adjustments_of u.reading).opportunity;
  penalties = (adjustments_of u.reading).planning + (adjustments_of u.reading).cooperation;
}

pub counted_field : (F : Totals → ℕ) → F no_totals ≡ 0 → (b : Bool) (x : Totals) → F (cond b x no_totals) ≡ cond b (F x) 0
counted_field F none true x = refl
counted_field F none false x = none

counted_plant : (plant : Option ℕ) (u v : UnitRecord) → u.plant ≡ v.plant → counted plant u ≡ counted plant v
counted_plant None u v same = refl
counted_plant (Some p) u v same = ap (λ x. eqb x p) same

module _ (pay : ℕ → UnitCase → ℕ) (plants : List Plant) (before after : UnitTable) (settled : GroupSettled pay plants before after) where
  abbrev unit : ℕ → UnitCase
  unit i = case_at plants before i

  n_same : min after.count 128 ≡ min before.count 128
  n_same = ap (λ c. min c 128) settled.same.count

  -- one unit of the settled table
  one : (plant : Option ℕ) (i : ℕ) → i < min before.count 128 → counted_totals plant (unit_at after i) ≡ cond (counted plant (unit_at before i)) (case_totals (pay i (unit i)) (unit i)) no_totals
  one plant i lt =
      let reading : (unit_at after i).reading ≡ (unit_at before i).reading = settled.same.readings i in
      let own : (unit_at after i).plant ≡ (unit_at before i).plant = ap (λ (u : UnitRecord). u.plant) (settled.same.terms i) in
      let read = λ (f : UnitFigures) (r : Option UnitReading). let x : Totals = record {
        billed = f.billed;
        paid = f.payment;
        active = active_of (control_of r);
        opportunity = (adjustments_of r).opportunity;
        penalties = (adjustments_of r).planning + (adjustments_of r).cooperation;
      } in x in
      ap (λ b. cond b (unit_totals (unit_at after i)) no_totals) (counted_plant plant (unit_at after i) (unit_at before i) own)
      ∙ ap (λ r. cond (counted plant (unit_at before i)) (read (unit_at after i).figures r) no_totals) reading
      ∙ ap (λ f. cond (counted plant (unit_at before i)) (read f (unit_at before i).reading) no_totals) (settled.entered i lt)

  module _ (F : Totals → ℕ) (none : F no_totals ≡ 0) (f : ℕ → UnitCase → ℕ) (same : (i : ℕ) (u : UnitCase) → F (case_totals (pay i u) u) ≡ f i u) where
    pub sum_of_plant : (p : ℕ) → sum_of (min after.count 128) (λ i. F (counted_totals (Some p) (unit_at after i))) ≡ sum_of (min before.count 128) (λ i. cond (eqb (unit i).plant p) (f i (unit i)) 0)
    sum_of_plant p =
        ap (λ n. sum_of n (λ i. F (counted_totals (Some p) (unit_at after i)))) n_same
        ∙ sum_cong (min before.count 128) _ _ (λ i lt.
        ap F (one (Some p) i lt) ∙ counted_field F none (eqb (unit i).plant p) (case_totals (pay i (unit i)) (unit i)) ∙ ap (λ x. cond (eqb (unit i).plant p) x 0) (same i (unit i)))

    pub sum_of_all : sum_of (min after.count 128) (λ i. F (counted_totals None (unit_at after i))) ≡ sum_of (min before.count 128) (λ i. f i (unit i))
    sum_of_all =
        ap (λ n. sum_of n (λ i. F (counted_totals None (unit_at after i)))) n_same
        ∙ sum_cong (min before.count 128) _ _ (λ i lt. ap F (one None i lt) ∙ same i (unit i))
