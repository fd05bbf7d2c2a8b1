-- The amounts and the run support of the worked hours are those of the merit order: the law of a closed hour holds of a
-- table that has them. So in each group of each plant they are the split of the derived share over the derived limits.
use Rattle.std.specs.Prelude.{ℕ, ◌+◌, cond, List, [], ◌∷◌, map, ◌==◌, slice_index}
use Rattle.std.specs.List.{range_with_len}
use Rattle.curves.specs.Steps.{step_price}
use Rattle.curves.specs.declared.steps.Step.{Step}
use Rattle.settling.specs.Derived.{Found}
use Rattle.settling.specs.declared.rows.PriceRow.{PriceRow}
use Rattle.table.specs.ClosingLaw.{ClosingLaw}
use Rattle.table.specs.History.{plants_in, loss_in, sold_in, units_in, unit_in}
use Rattle.table.specs.Rows.{closed_figures, no_hour_figures}
use Rattle.table.specs.declared.entries.Entry.{Entry}
use Rattle.table.specs.declared.entries.Entry.TheVariants.{AddPlant, AddBuyer, AddCompetitive, AddGuaranteed, Commit, PutAside}
use Rattle.table.specs.declared.records.Plant.{Plant}
use Rattle.table.specs.declared.records.Table.{Table}
use Rattle.table.specs.declared.records.UnitRecord.{UnitRecord}
use Rattle.book.specs.Law.{entered}
use Rattle.worked_hour.specs.Edges as edges
use Rattle.worked_hour.specs.Examples as worked
use Rattle.worked_hour.specs.Examples.{step}
use Rattle.worked_hour.specs.Hour as fuller
use Rattle.worked_hour.specs.Sample as sample

-- the plants and the units of accepted entries as closing leaves them, with these amounts and this run support
abbrev pub closed_plants : Found → List Entry → List Plant
closed_plants found h =
    map (λ i. record { loss = loss_in (i + 1) h; figures = closed_figures (sold_in (i + 1) h) (found.run i) }) (range_with_len 0 (plants_in h))

abbrev pub closed_units : ℕ → Found → List Entry → List UnitRecord
closed_units g found h =
    map (λ i. record (unit_in g (i + 1) h) { figures = record { allocated = found.amount g i; billed = 0; payment = 0 } }) (range_with_len 0 (units_in g h))

abbrev pub closed : Found → List Entry → Table
closed found h = record {
  plants = record { count = plants_in h; rows = closed_plants found h };
  competitive = record { count = units_in 1 h; rows = closed_units 1 found h };
  guaranteed = record { count = units_in 2 h; rows = closed_units 2 found h };
  buyers = record { count = 0; rows = [] };
  commitments = record { count = 0; rows = [] };
  sold = [];
  figures = no_hour_figures;
}

-- the law of a closed hour, by the offers of both groups
abbrev pub FoundByMerit : List (List Step) → List (List Step) → List Entry → Found → Type 0
FoundByMerit offers1 offers2 entries found =
    ClosingLaw step_price offers1 step_price offers2 (entered entries) (closed found (entered entries))

abbrev pub offers_of : List (PriceRow (List Step) (List Step)) → List (List Step)
offers_of rows = map (λ (r : PriceRow (List Step) (List Step)). r.offer) rows

-- Units 1, 3 and 4 of plant 2 offer at the same prices; unit 2 is of plant 1, and unit 5 is aside. Their share of 159
-- takes the 60 kWh at 300, and of those at 400 the 50 of unit 1 and 49 of unit 3.
abbrev pub entries : List Entry
entries =
    AddPlant 0 ∷ AddPlant 0 ∷ AddBuyer 0
    ∷ AddCompetitive 2 70 0 ∷ AddCompetitive 1 90 0 ∷ AddCompetitive 2 80 0 ∷ AddCompetitive 2 90 0 ∷ AddCompetitive 2 99 0
    ∷ AddGuaranteed 2 60 40 0 0 ∷ AddGuaranteed 2 20 30 0 0
    ∷ PutAside 1 5 ∷ Commit 2 1 213 ∷ Commit 1 1 20 ∷ []

abbrev pub offers : List (List Step)
offers =
    (step 20 300 ∷ step 50 400 ∷ []) ∷ (step 90 100 ∷ []) ∷ (step 10 300 ∷ step 70 400 ∷ []) ∷ (step 30 300 ∷ step 60 400 ∷ [])
    ∷ (step 99 100 ∷ []) ∷ []

abbrev pub tariffs : List (List Step)
tariffs = (step 1 200 ∷ []) ∷ (step 1 200 ∷ []) ∷ []

abbrev pub found : Found
found = record {
  amount = λ g i. cond (g == 1) (slice_index (70 ∷ 20 ∷ 59 ∷ 30 ∷ 0 ∷ []) i) (slice_index (40 ∷ 14 ∷ []) i);
  run = λ i. 0;
}

pub record MeritExamples : Type 0 where
  pub worked_hour : FoundByMerit (worked.offer ∷ []) [] worked.entries worked.found
  pub fuller_hour : FoundByMerit (offers_of fuller.rows) fuller.offers fuller.entries fuller.found
  pub sample_hour : FoundByMerit (offers_of sample.rows) sample.offers sample.entries sample.found
  pub without_rows : FoundByMerit (worked.offer ∷ []) ((step 10 400 ∷ []) ∷ []) edges.entries edges.found
  pub tied : FoundByMerit offers tariffs entries found
