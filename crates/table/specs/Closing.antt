-- Closing: the limits and declared energies of a plant's group, and what its units are allocated.
use Rattle.table.specs.Places.{unit_at, plant_at}
use Rattle.std.specs.Prelude.{◌≡◌, ℕ, ◌+◌, ◌-◌, ◌<◌, ◌≤◌, min, Bool, cond, not, ◌&&◌, List, length, None, ◌==◌, nat_lt, slice_set}
use Rattle.std.specs.Option.{unwrap_or}
use Rattle.allocation.specs.Groups.{Group, price_at, sum_of}
use Rattle.allocation.specs.Laws.{Split}
use Rattle.curves.specs.Limits.{read_energy}
use Rattle.settlement.specs.Reference.{net_of}
use Rattle.settlement.specs.Shares.{group_one_share}
use Rattle.table.specs.Effects.{with_plants, with_competitive, with_guaranteed}
use Rattle.table.specs.Entries.{view_of}
use Rattle.table.specs.Rows.{UnitTable, closed_figures, no_unit_figures}
use Rattle.table.specs.declared.records.Plant.{Plant}
use Rattle.table.specs.declared.records.Table.{Table}
use Rattle.table.specs.declared.records.UnitRecord.{UnitRecord}

-- a unit of the plant that is not put aside
abbrev pub counts : ℕ → UnitRecord → Bool
counts plant u = u.plant == plant && not u.aside

-- the gross energy of a unit's limit: seasonal for a guaranteed unit, else declared
abbrev pub gross_of : UnitRecord → ℕ
gross_of u = unwrap_or u.seasonal u.declared

-- a unit's limit in a plant's group; 0 for one that does not count there
abbrev pub limit_in : ℕ → ℕ → UnitRecord → ℕ
limit_in plant loss u = cond (counts plant u) (net_of u.internal loss (gross_of u)) 0

-- a unit's declared energy in a plant's group; energy over 2,000,000 is read as 2,000,000
abbrev pub declared_in : ℕ → UnitRecord → ℕ
declared_in plant u = cond (counts plant u) (read_energy u.declared) 0

-- a unit with its amount
abbrev pub with_amount : ℕ → UnitRecord → UnitRecord
with_amount amount u =
    record {
      plant = u.plant;
      declared = u.declared;
      seasonal = u.seasonal;
      internal = u.internal;
      feeds = u.feeds;
      aside = u.aside;
      reading = u.reading;
      figures = record { allocated = amount; billed = u.figures.billed; payment = u.figures.payment };
    }

-- a unit of the plant gets its amount, and any other stays as it is
abbrev pub allocated_to : ℕ → ℕ → UnitRecord → UnitRecord
allocated_to plant amount u = cond (u.plant == plant) (with_amount amount u) u

-- the limit of the unit at a place in a plant's group; 0 past the units that are entered
abbrev pub limit_at : ℕ → ℕ → UnitTable → ℕ → ℕ
limit_at plant loss t i = cond (nat_lt i (min t.count 128)) (limit_in plant loss (unit_at t i)) 0

-- a plant's group: the units with an offer row, of which those of other plants, put aside or not entered have limit 0
abbrev pub plant_group : {O : Type 0} → (O → ℕ → ℕ) → List O → ℕ → ℕ → UnitTable → Group
plant_group prices offers plant loss t = record {
  units = min (length offers) 128;
  price = price_at prices offers;
  limit = λ i. read_energy (limit_at plant loss t i);
}

-- A share is split over a plant's group: its units get the amounts of the split, and nothing else changes.
pub record GroupClosed {O : Type 0} (prices : O → ℕ → ℕ) (offers : List O) (plant loss share : ℕ) (before after : UnitTable) (left : ℕ) : Type 0 where
  pub amount : ℕ → ℕ
  pub split : Split (plant_group prices offers plant loss before) share amount left
  pub count : after.count ≡ before.count
  pub long : length after.rows ≡ length before.rows
  pub entered : (i : ℕ) → i < min before.count 128 → unit_at after i ≡ allocated_to plant (amount i) (unit_at before i)
  pub others : (i : ℕ) → min before.count 128 ≤ i → unit_at after i ≡ unit_at before i

-- a plant's commitments; a sum over 20,000,000 is read as 20,000,000
abbrev pub committed_by : ℕ → Table → ℕ
committed_by plant t = min ((view_of t).sold plant) 20000000

-- the declared energy of a plant's group: its units with an offer row that are not put aside
abbrev pub declared_by : ℕ → ℕ → UnitTable → ℕ
declared_by plant rows t = sum_of (min (min t.count 128) rows) (λ i. declared_in plant (unit_at t i))

-- what of a plant's commitments falls to its group 1, with so many offer rows in each group; the rest falls to group 2
abbrev pub share_one : ℕ → ℕ → ℕ → Table → ℕ
share_one plant rows1 rows2 t =
    group_one_share (committed_by plant t) (declared_by plant rows1 t.competitive) (declared_by plant rows2 t.guaranteed)

abbrev pub share_two : ℕ → ℕ → ℕ → Table → ℕ
share_two plant rows1 rows2 t = committed_by plant t - share_one plant rows1 rows2 t

-- a plant with the figures of closing
abbrev pub closed_plant : ℕ → ℕ → Plant → Plant
closed_plant committed run p =
    record { loss = p.loss; figures = closed_figures committed run }

-- Both groups of the plant at a place are closed, and its figures are written; nothing else changes.
pub record PlantClosed {O P : Type 0} (prices1 : O → ℕ → ℕ) (offers1 : List O) (prices2 : P → ℕ → ℕ) (offers2 : List P) (place : ℕ) (before after : Table) : Type 0 where
  pub room : place < length before.plants.rows
  pub left1 : ℕ
  pub left2 : ℕ
  pub one : GroupClosed prices1 offers1 (place + 1) (plant_at before place).loss (share_one (place + 1) (length offers1) (length offers2) before) before.competitive after.competitive left1
  pub two : GroupClosed prices2 offers2 (place + 1) (plant_at before place).loss (share_two (place + 1) (length offers1) (length offers2) before) before.guaranteed after.guaranteed left2
  pub rest : after ≡ with_plants before.plants.count (slice_set before.plants.rows place (closed_plant (committed_by (place + 1) before) (left1 + left2) (plant_at before place))) (with_competitive after.competitive (with_guaranteed after.guaranteed before))

-- a unit without its reading and its figures: what was entered of it
abbrev pub terms_of : UnitRecord → UnitRecord
terms_of u =
    record {
      plant = u.plant;
      declared = u.declared;
      seasonal = u.seasonal;
      internal = u.internal;
      feeds = u.feeds;
      aside = u.aside;
      reading = None;
      figures = no_unit_figures;
    }

-- a group's units as they were, but for the figures
pub record SameUnits (before after : UnitTable) : Type 0 where
  pub count : after.count ≡ before.count
  pub readings : (i : ℕ) → (unit_at after i).reading ≡ (unit_at before i).reading
  pub long : length after.rows ≡ length before.rows
  pub terms : (i : ℕ) → terms_of (unit_at after i) ≡ terms_of (unit_at before i)

-- a plant's units have the amounts of a split of its share over its group
pub record Allotted {O : Type 0} (prices : O → ℕ → ℕ) (offers : List O) (plant loss share : ℕ) (before after : UnitTable) (left : ℕ) : Type 0 where
  pub amount : ℕ → ℕ
  pub split : Split (plant_group prices offers plant loss before) share amount left
  pub given : (i : ℕ) → i < min before.count 128 → (unit_at before i).plant ≡ plant → (unit_at after i).figures.allocated ≡ amount i

-- the plant at a place is closed: its two groups, and its figures
pub record PlantResult {O P : Type 0} (prices1 : O → ℕ → ℕ) (offers1 : List O) (prices2 : P → ℕ → ℕ) (offers2 : List P) (place : ℕ) (before after : Table) : Type 0 where
  pub left1 : ℕ
  pub left2 : ℕ
  pub one : Allotted prices1 offers1 (place + 1) (plant_at before place).loss (share_one (place + 1) (length offers1) (length offers2) before) before.competitive after.competitive left1
  pub two : Allotted prices2 offers2 (place + 1) (plant_at before place).loss (share_two (place + 1) (length offers1) (length offers2) before) before.guaranteed after.guaranteed left2
  pub row : plant_at after place ≡ closed_plant (committed_by (place + 1) before) (left1 + left2) (plant_at before place)

-- what a group's units are billed and paid is as it was
pub record SamePaid (before after : UnitTable) : Type 0 where
  pub billed : (i : ℕ) → (unit_at after i).figures.billed ≡ (unit_at before i).figures.billed
  pub payment : (i : ℕ) → (unit_at after i).figures.payment ≡ (unit_at before i).figures.payment

-- a unit of none of the plants at the first n places keeps its amount, and one that is not entered stays as it is
pub record OthersKept (n : ℕ) (before after : UnitTable) : Type 0 where
  pub amounts : (i : ℕ) → ((place : ℕ) → place < n → (unit_at before i).plant ≡ place + 1 → ⊥) → (unit_at after i).figures.allocated ≡ (unit_at before i).figures.allocated
  pub later : (i : ℕ) → min before.count 128 ≤ i → unit_at after i ≡ unit_at before i

-- the plants at the first n places are closed, and nothing else changes
pub record ClosedTo {O P : Type 0} (prices1 : O → ℕ → ℕ) (offers1 : List O) (prices2 : P → ℕ → ℕ) (offers2 : List P) (n : ℕ) (before after : Table) : Type 0 where
  pub same1 : SameUnits before.competitive after.competitive
  pub same2 : SameUnits before.guaranteed after.guaranteed
  pub paid1 : SamePaid before.competitive after.competitive
  pub paid2 : SamePaid before.guaranteed after.guaranteed
  pub others1 : OthersKept n before.competitive after.competitive
  pub others2 : OthersKept n before.guaranteed after.guaranteed
  pub plants : (place : ℕ) → place < n → PlantResult prices1 offers1 prices2 offers2 place before after
  pub later : (place : ℕ) → n ≤ place → plant_at after place ≡ plant_at before place
  pub long : length after.plants.rows ≡ length before.plants.rows
  pub rest : after ≡ with_plants before.plants.count after.plants.rows (with_competitive after.competitive (with_guaranteed after.guaranteed before))

-- closing: every plant that is entered is closed, and nothing else changes
abbrev pub Closed : {O P : Type 0} → (O → ℕ → ℕ) → List O → (P → ℕ → ℕ) → List P → Table → Table → Type 0
Closed prices1 offers1 prices2 offers2 before after =
    ClosedTo prices1 offers1 prices2 offers2 (min before.plants.count 32) before after
