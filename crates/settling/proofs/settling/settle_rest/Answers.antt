use Rattle.table.specs.Places.{plant_at, buyer_at}
use Rattle.std.proofs.Common.{◌≡◌, ℕ, ◌+◌, min, cond, eqb, length, ℤ, pos, ◌-ℤ◌, Some, None, ap, ◌∙◌, arith}
use Rattle.std.proofs.lemmas.List.{length-take}
use Rattle.table.specs.declared.records.HourFigures.{HourFigures}
use Rattle.table.specs.declared.records.Table.{Table}
use Rattle.settling.specs.Figures.{volumes, bought_by}
use Rattle.settling.specs.Settled.{settled_plant, settled_buyer}
use Rattle.settling.specs.Stages.{both_totals, money_of, figures_by, buyer_figures_by, weights_of, hour_by, sold_of}
use Rattle.settling.specs.declared.header.Header.{Header}
use Rattle.settling.specs.declared.totals.Totals.{Totals}
use Rattle.settling.proofs.Groups.{weights_entered}
use Rattle.settling.proofs.settling.settle_rest.Goals as goal

pub settle_buyers-requires : goal.settle_buyers-requires
settle_buyers-requires c =
    let t = c.args.table.now in
    let n = min t.buyers.count 64 in
    c.new-shares.ensures.weights ∙ ap (λ l. weights_of (length l) l) c.entered-2.ensures.value ∙ weights_entered n t.buyers.rows
    (omega (arith, c.entered-2.ensures.few, ap length c.entered-2.ensures.value, length-take n t.buyers.rows))

pub returns : goal.returns
returns c =
    let t = c.args.table.now in
    let header = c.args.header.now in
    let all = both_totals None t.competitive t.guaranteed in
    let m = min t.buyers.count 64 in
    let found : c.totals-totals.result ≡ all = c.totals-totals.ensures.value in
    let billed : c.totals-totals.result.billed ≡ all.billed = ap (λ (x : Totals). x.billed) found in
    let rows : c.entered.result.now ≡ sold_of t = c.entered.ensures.value in
    let sold : c.volumes-committed.result ≡ volumes (sold_of t) = c.volumes-committed.ensures.value ∙ ap volumes rows in
    let terms = c.new-terms.result in
    let money : terms.money ≡ money_of all = c.new-terms.ensures.money ∙ ap money_of found in
    let over : terms.over ≡ pos all.billed -ℤ pos (volumes (sold_of t)) =
    c.new-terms.ensures.over ∙ ap (λ b. pos b -ℤ pos c.volumes-committed.result) billed ∙ ap (λ s. pos all.billed -ℤ pos s) sold in
    let weights : c.new-shares.result.weights ≡ weights_of m t.buyers.rows =
    c.new-shares.ensures.weights ∙ ap (λ l. weights_of (length l) l) c.entered-2.ensures.value ∙ weights_entered m t.buyers.rows
    (omega (arith, c.entered-2.ensures.few, ap length c.entered-2.ensures.value, length-take m t.buyers.rows)) in
    let plant = λ (h : Header) (x o : ℤ) (i : ℕ). settled_plant (figures_by h x o (plant_at t i) (both_totals (Some (i + 1)) t.competitive t.guaranteed)) (plant_at t i) in
    let buyer = λ (b w s : ℕ) (i : ℕ). settled_buyer (buyer_figures_by b (weights_of i t.buyers.rows) (weights_of (i + 1) t.buyers.rows) w s) (buyer_at t i) in
    let hour = λ (b s u : ℕ). let f : HourFigures = record { billed = b; committed = s; unassigned = u } in f in
    let table = λ (p b : ℕ). let x : Table = record {
      plants = record { count = p; rows = c.settle_plants.new.plants.rows };
      competitive = t.competitive;
      guaranteed = t.guaranteed;
      buyers = record { count = b; rows = c.settle_buyers.new.buyers.rows };
      commitments = t.commitments;
      sold = t.sold;
      figures = hour c.totals-totals.result.billed c.volumes-committed.result c.unassigned.result;
    } in x in
    record {
      plants = λ i lt. c.settle_plants.ensures.entered i (omega arith) ∙ ap (λ h. plant h terms.money terms.over i) c.new-terms.ensures.header
          ∙ ap (λ x. plant header x terms.over i) money ∙ ap (λ o. plant header (money_of all) o i) over;
      plants_later = λ i past. c.settle_plants.ensures.others i (omega arith);
      plants_long = c.settle_plants.ensures.long;
      buyers = λ i lt. c.settle_buyers.ensures.entered i (omega arith)
          ∙ ap (λ b. buyer b c.new-shares.result.weights (bought_by (i + 1) c.entered.result.now) i) (c.new-shares.ensures.billed ∙ billed)
          ∙ ap (λ w. buyer all.billed w (bought_by (i + 1) c.entered.result.now) i) weights
          ∙ ap (λ l. buyer all.billed (weights_of m t.buyers.rows) (bought_by (i + 1) l) i) rows;
      buyers_later = λ i past. c.settle_buyers.ensures.others i (omega arith);
      buyers_long = c.settle_buyers.ensures.long;
      hour = ap (hour c.totals-totals.result.billed c.volumes-committed.result) (c.unassigned.ensures ∙ ap (λ b. cond (eqb c.new-shares.result.weights 0) b 0) c.new-shares.ensures.billed)
          ∙ ap (λ b. hour_by b c.volumes-committed.result c.new-shares.result.weights) billed
          ∙ ap (λ s. hour_by all.billed s c.new-shares.result.weights) sold ∙ ap (hour_by all.billed (volumes (sold_of t))) weights;
      rest = ap (λ p. table p c.settle_buyers.new.buyers.count) c.settle_plants.ensures.count ∙ ap (table t.plants.count) c.settle_buyers.ensures.count;
    }
