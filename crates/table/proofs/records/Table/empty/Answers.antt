use Rattle.std.proofs.Common.{rules, ◌≡◌, None, [], replicate, subst, sym, ap, ◌∙◌}
use Rattle.table.proofs.Empty.{empty_stands}
use Rattle.table.specs.History.{Stands}
use Rattle.table.specs.Rows.{UnitTable, new_plant, new_unit, new_buyer, no_hour_figures}
use Rattle.table.specs.declared.records.Buyer.{Buyer}
use Rattle.table.specs.declared.records.Commitment.{Commitment}
use Rattle.table.specs.declared.records.HourFigures.{HourFigures}
use Rattle.table.specs.declared.records.Plant.{Plant}
use Rattle.table.specs.declared.records.Table.{Table}
use Rattle.table.specs.declared.records.UnitRecord.{UnitRecord}
use Rattle.table.specs.declared.rows.Rows.{Rows}
use Rattle.table.proofs.records.Table.empty.Goals as goal

pub returns-clause-value : goal.returns-clause-value
returns-clause-value c =
    let none : Commitment = record { plant = 0; buyer = 0; volume = 0 } in
    let unit : c.default.result ≡ new_unit 0 0 None 0 0 = search rules in
    let plant : c.default-2.result ≡ new_plant 0 = search rules in
    let buyer : c.default-3.result ≡ new_buyer 0 = search rules in
    let commitment : c.default-4.result ≡ none = search rules in
    let figures : c.default-5.result ≡ no_hour_figures = search rules in
    let plants = λ (x : Plant). let r : Rows Plant 32 = record { count = 0; rows = replicate 32 x } in r in
    let units = λ (x : UnitRecord). let r : UnitTable = record { count = 0; rows = replicate 128 x } in r in
    let buyers = λ (x : Buyer). let r : Rows Buyer 64 = record { count = 0; rows = replicate 64 x } in r in
    let commitments = λ (x : Commitment). let r : Rows Commitment 768 = record { count = 0; rows = replicate 768 x } in r in
    let made = λ (p : Rows Plant 32) (u : UnitTable) (b : Rows Buyer 64) (k : Rows Commitment 768) (f : HourFigures).
    let t : Table = record { plants = p; competitive = u; guaranteed = u; buyers = b; commitments = k; sold = replicate 32 0; figures = f } in t in
    ap (λ p. made p c.empty-units.result c.empty-2.result c.empty-3.result c.default-5.result) (c.empty.ensures ∙ ap plants plant)
    ∙ ap (λ u. made (plants (new_plant 0)) u c.empty-2.result c.empty-3.result c.default-5.result) (c.empty-units.ensures ∙ ap units unit)
    ∙ ap (λ b. made (plants (new_plant 0)) (units (new_unit 0 0 None 0 0)) b c.empty-3.result c.default-5.result) (c.empty-2.ensures ∙ ap buyers buyer)
    ∙ ap (λ k. made (plants (new_plant 0)) (units (new_unit 0 0 None 0 0)) (buyers (new_buyer 0)) k c.default-5.result) (c.empty-3.ensures ∙ ap commitments commitment)
    ∙ ap (made (plants (new_plant 0)) (units (new_unit 0 0 None 0 0)) (buyers (new_buyer 0)) (commitments none)) figures

pub returns-clause-stands : goal.returns-clause-stands
returns-clause-stands c = subst (Stands []) (sym (returns-clause-value c)) empty_stands
