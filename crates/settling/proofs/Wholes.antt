-- Settling the units and then the rest settles the table.
use Rattle.table.specs.Places.{unit_at, plant_at, buyer_at}
use Rattle.std.proofs.Common.{◌≡◌, ℕ, ◌+◌, ◌*◌, ◌<◌, min, ℤ, pos, ◌-ℤ◌, Some, None, Option, sym, refl, ap, ◌∙◌, subst}
use Rattle.allocation.specs.Groups.{sum_of}
use Rattle.settlement.specs.Reference.{at_reference}
use Rattle.settlement.proofs.Fractions.{carried}
use Rattle.table.specs.Rows.{UnitTable}
use Rattle.table.specs.declared.records.Plant.{Plant}
use Rattle.table.specs.declared.records.Table.{Table}
use Rattle.settling.specs.Figures.{Pay, sum_units, of_plant, billed_unit, active_unit, opportunity_unit, penalty_unit, day_in, plant_figures, hour_money, hour_over, volumes, bought_by}
use Rattle.settling.specs.Ledger.{UnitCase, Ledger, ledger_of}
use Rattle.settling.specs.Settled.{GroupSettled, Settled, SupportIs, active_of_group, with_rows, settled_plant, settled_buyer}
use Rattle.settling.specs.Stages.{both_totals, money_of, figures_by, buyer_figures_by, weights_of, hour_by, sold_of, RestSettled}
use Rattle.settling.specs.Totals.{counted_totals, no_totals}
use Rattle.settling.specs.declared.header.Header.{Header}
use Rattle.settling.specs.declared.totals.Totals.{Totals}
use Rattle.settling.proofs.Counts.{case_totals, sum_of_plant, sum_of_all}

-- a plant's figures look at three sums
figures_same : (header : Header) (money over : ℤ) (p : Plant) (x : Totals) (billed paid active : ℕ) → x.billed ≡ billed → x.paid ≡ paid → x.active ≡ active → figures_by header money over p x ≡ figures_by header money over p (record { billed = billed; paid = paid; active = active; opportunity = 0; penalties = 0 })
figures_same header money over p x billed paid active eb ep ea =
    let by = λ (b d a : ℕ). figures_by header money over p (record { billed = b; paid = d; active = a; opportunity = 0; penalties = 0 }) in
    ap (λ b. by b x.paid x.active) eb ∙ ap (λ d. by billed d x.active) ep ∙ ap (by billed paid) ea

-- a plant's support, by its figures
support_is : (header : Header) (pay : Pay) (t after : Table) (i : ℕ) → plant_at after i ≡ settled_plant (plant_figures header pay (ledger_of t) i) (plant_at t i) → SupportIs t i (plant_at after i).figures.support
support_is header pay t after i settled =
    let p = plant_at t i in
    let active = active_of_group (i + 1) t.competitive + active_of_group (i + 1) t.guaranteed in
    record {
      day = day_in (ledger_of t) i;
      both = ap (λ (q : Plant). q.figures.support) settled;
      falls_short = record { made = at_reference p.loss active; carried = carried p.loss active; missing = refl };
    }

module _ (header : Header) (pay : Pay) (t : Table) (one two : UnitTable) (settled1 : GroupSettled (pay 1) t.plants.rows t.competitive one) (settled2 : GroupSettled (pay 2) t.plants.rows t.guaranteed two) where
  abbrev book : Ledger
  book = ledger_of t

  module _ (F : Totals → ℕ) (none : F no_totals ≡ 0) (f : ℕ → ℕ → UnitCase → ℕ) (same : (g i : ℕ) (u : UnitCase) → F (case_totals (pay g i u) u) ≡ f g i u) where
    abbrev counts : Option ℕ → UnitTable → ℕ
    counts plant x = sum_of (min x.count 128) (λ i. F (counted_totals plant (unit_at x i)))

    plant_sum : (p : ℕ) → counts (Some p) one + counts (Some p) two ≡ sum_units book (of_plant p f)
    plant_sum p =
        ap (λ x. x + counts (Some p) two) (sum_of_plant (pay 1) t.plants.rows t.competitive one settled1 F none (f 1) (same 1) p)
        ∙ ap (λ y. sum_of (min t.competitive.count 128) (λ i. of_plant p f 1 i (book.unit 1 i)) + y) (sum_of_plant (pay 2) t.plants.rows t.guaranteed two settled2 F none (f 2) (same 2) p)

    all_sum : counts None one + counts None two ≡ sum_units book f
    all_sum =
        ap (λ x. x + counts None two) (sum_of_all (pay 1) t.plants.rows t.competitive one settled1 F none (f 1) (same 1))
        ∙ ap (λ y. sum_of (min t.competitive.count 128) (λ i. f 1 i (book.unit 1 i)) + y) (sum_of_all (pay 2) t.plants.rows t.guaranteed two settled2 F none (f 2) (same 2))

  billed_of : (p : ℕ) → (both_totals (Some p) one two).billed ≡ sum_units book (of_plant p billed_unit)
  billed_of p = plant_sum (λ x. x.billed) refl billed_unit (λ g i u. refl) p

  paid_of_lem : (p : ℕ) → (both_totals (Some p) one two).paid ≡ sum_units book (of_plant p pay)
  paid_of_lem p = plant_sum (λ x. x.paid) refl pay (λ g i u. refl) p

  active_of_lem : (p : ℕ) → (both_totals (Some p) one two).active ≡ sum_units book (of_plant p active_unit)
  active_of_lem p = plant_sum (λ x. x.active) refl active_unit (λ g i u. refl) p

  all_billed : (both_totals None one two).billed ≡ sum_units book billed_unit
  all_billed = all_sum (λ x. x.billed) refl billed_unit (λ g i u. refl)

  money_same : money_of (both_totals None one two) ≡ hour_money pay book
  money_same =
      let money = λ (a o q : ℕ). pos (a + o * 1000) -ℤ pos (q * 1000) in
      let x = both_totals None one two in
      ap (λ a. money a x.opportunity x.penalties) (all_sum (λ x. x.paid) refl pay (λ g i u. refl))
      ∙ ap (λ o. money (sum_units book pay) o x.penalties) (all_sum (λ x. x.opportunity) refl opportunity_unit (λ g i u. refl))
      ∙ ap (money (sum_units book pay) (sum_units book opportunity_unit)) (all_sum (λ x. x.penalties) refl penalty_unit (λ g i u. refl))

  over_same : pos (both_totals None one two).billed -ℤ pos (volumes (sold_of t)) ≡ hour_over book
  over_same = ap (λ b. pos b -ℤ pos (volumes (sold_of t))) all_billed

  abbrev mid : Table
  mid = with_rows t.plants.rows one two t.buyers.rows t.figures t

  pub settled_whole : (after : Table) → RestSettled header mid after → Settled header pay t after
  settled_whole after r =
      let by = λ (m o : ℤ) (i : ℕ). settled_plant (figures_by header m o (plant_at t i) (both_totals (Some (i + 1)) one two)) (plant_at t i) in
      let buyer = λ (b : ℕ) (i : ℕ). settled_buyer (buyer_figures_by b (weights_of i t.buyers.rows) (weights_of (i + 1) t.buyers.rows) (weights_of (min t.buyers.count 64) t.buyers.rows) (bought_by (i + 1) (sold_of t))) (buyer_at t i) in
      let plants : (i : ℕ) → i < min t.plants.count 32 → plant_at after i ≡ settled_plant (plant_figures header pay book i) (plant_at t i) = λ i lt. r.plants i lt
      ∙ ap (λ m. by m (pos (both_totals None one two).billed -ℤ pos (volumes (sold_of t))) i) money_same
      ∙ ap (λ o. by (hour_money pay book) o i) over_same
      ∙ ap (λ f. settled_plant f (plant_at t i)) (figures_same header (hour_money pay book) (hour_over book) (plant_at t i) (both_totals (Some (i + 1)) one two) _ _ _ (billed_of (i + 1)) (paid_of_lem (i + 1)) (active_of_lem (i + 1))) in
      record {
        competitive = subst (GroupSettled (pay 1) t.plants.rows t.competitive) (sym (ap (λ (x : Table). x.competitive) r.rest)) settled1;
        guaranteed = subst (GroupSettled (pay 2) t.plants.rows t.guaranteed) (sym (ap (λ (x : Table). x.guaranteed) r.rest)) settled2;
        plants = plants;
        support = λ i lt. support_is header pay t after i (plants i lt);
        plants_later = r.plants_later;
        plants_long = r.plants_long;
        buyers = λ i lt. r.buyers i lt ∙ ap (λ b. buyer b i) all_billed;
        buyers_later = r.buyers_later;
        buyers_long = r.buyers_long;
        hour = r.hour ∙ ap (λ b. hour_by b (volumes (sold_of t)) (weights_of (min t.buyers.count 64) t.buyers.rows)) all_billed;
        rest = r.rest ∙ ap (λ x. with_rows after.plants.rows x two after.buyers.rows after.figures t) (sym (ap (λ (x : Table). x.competitive) r.rest))
            ∙ ap (λ y. with_rows after.plants.rows after.competitive y after.buyers.rows after.figures t) (sym (ap (λ (x : Table). x.guaranteed) r.rest));
      }
