-- What holds of a closed hour, by the history of its accepted entries and the offer rows given at closing. Amounts and
-- support are the table's own figures; limits, shares and commitments are derived from the history alone.
use Rattle.table.specs.Places.{unit_at, plant_at}
use Rattle.std.specs.Prelude.{◌≡◌, ℕ, ◌+◌, ◌-◌, ◌<◌, min, cond, ◌&&◌, List, length, ◌==◌, nat_lt}
use Rattle.allocation.specs.Groups.{Group, price_at, sum_of, total}
use Rattle.allocation.specs.Laws.{Split}
use Rattle.curves.specs.Limits.{read_energy}
use Rattle.settlement.specs.Shares.{group_one_share}
use Rattle.table.specs.Closing.{limit_in, declared_in}
use Rattle.table.specs.History.{units_in, unit_in, loss_in, sold_in, plants_in}
use Rattle.table.specs.Rows.{UnitTable}
use Rattle.table.specs.declared.entries.Entry.{Entry}
use Rattle.table.specs.declared.records.Table.{Table}

-- a plant's contract group g: its units' limits by the history, 0 for units of other plants
abbrev pub group_in : {O : Type 0} → ℕ → (O → ℕ → ℕ) → List O → ℕ → List Entry → Group
group_in g prices offers plant h = record {
  units = min (length offers) 128;
  price = price_at prices offers;
  limit = λ i. read_energy (cond (nat_lt i (units_in g h)) (limit_in plant (loss_in plant h) (unit_in g (i + 1) h)) 0);
}

-- the declared energy of a plant's group, over its units with an offer row that are not put aside
abbrev pub declared_total : ℕ → ℕ → ℕ → List Entry → ℕ
declared_total g plant rows h = sum_of (min (units_in g h) rows) (λ i. declared_in plant (unit_in g (i + 1) h))

-- a plant's commitments; a sum over 20,000,000 is read as 20,000,000
abbrev pub committed_in : ℕ → List Entry → ℕ
committed_in plant h = min (sold_in plant h) 20000000

-- what of the energy that a plant has sold falls to its group 1; the rest falls to group 2
abbrev pub share_one_of : ℕ → ℕ → ℕ → ℕ → List Entry → ℕ
share_one_of sold plant rows1 rows2 h =
    group_one_share sold (declared_total 1 plant rows1 h) (declared_total 2 plant rows2 h)

abbrev pub share_two_of : ℕ → ℕ → ℕ → ℕ → List Entry → ℕ
share_two_of sold plant rows1 rows2 h = sold - share_one_of sold plant rows1 rows2 h

-- the shares of both groups where a plant has sold its accepted commitments
abbrev pub share_one_in : ℕ → ℕ → ℕ → List Entry → ℕ
share_one_in plant rows1 rows2 h = share_one_of (sold_in plant h) plant rows1 rows2 h

abbrev pub share_two_in : ℕ → ℕ → ℕ → List Entry → ℕ
share_two_in plant rows1 rows2 h = share_two_of (sold_in plant h) plant rows1 rows2 h

-- the amounts of a plant's units in a group, as the table has them
abbrev pub amount_in : ℕ → ℕ → List Entry → UnitTable → ℕ → ℕ
amount_in g plant h t i =
    cond (nat_lt i (units_in g h) && (unit_in g (i + 1) h).plant == plant) (unit_at t i).figures.allocated 0

-- A plant's groups hold the split of their derived shares under their derived limits. Its run support is what they
-- leave uncovered, its allocated energy the sum of their amounts, and both together are what it has sold.
pub record PlantLawOf {O P : Type 0} (sold : ℕ) (prices1 : O → ℕ → ℕ) (offers1 : List O) (prices2 : P → ℕ → ℕ) (offers2 : List P) (plant : ℕ) (h : List Entry) (t : Table) : Type 0 where
  pub left1 : ℕ
  pub left2 : ℕ
  pub one : Split (group_in 1 prices1 offers1 plant h) (share_one_of sold plant (length offers1) (length offers2) h) (amount_in 1 plant h t.competitive) left1
  pub two : Split (group_in 2 prices2 offers2 plant h) (share_two_of sold plant (length offers1) (length offers2) h) (amount_in 2 plant h t.guaranteed) left2
  pub committed : (plant_at t (plant - 1)).figures.committed ≡ sold
  pub run : (plant_at t (plant - 1)).figures.run ≡ left1 + left2
  pub allocated : (plant_at t (plant - 1)).figures.allocated ≡ total (group_in 1 prices1 offers1 plant h) (amount_in 1 plant h t.competitive) + total (group_in 2 prices2 offers2 plant h) (amount_in 2 plant h t.guaranteed)
  pub covers : (plant_at t (plant - 1)).figures.allocated + (plant_at t (plant - 1)).figures.run ≡ sold

-- the law of each plant that was entered, by what each has sold
abbrev pub ClosingLawOf : {O P : Type 0} → (ℕ → ℕ) → (O → ℕ → ℕ) → List O → (P → ℕ → ℕ) → List P → List Entry → Table → Type 0
ClosingLawOf sold prices1 offers1 prices2 offers2 h t =
    (place : ℕ) → place < plants_in h → PlantLawOf (sold (place + 1)) prices1 offers1 prices2 offers2 (place + 1) h t

-- the law of a closed hour: each plant has sold its accepted commitments
abbrev pub ClosingLaw : {O P : Type 0} → (O → ℕ → ℕ) → List O → (P → ℕ → ℕ) → List P → List Entry → Table → Type 0
ClosingLaw prices1 offers1 prices2 offers2 h t =
    ClosingLawOf (λ plant. sold_in plant h) prices1 offers1 prices2 offers2 h t
