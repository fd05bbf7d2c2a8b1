-- What the accepted entries of an hour say, by themselves. A history is the list of accepted entries, the newest first.
use Rattle.table.specs.Places.{unit_at}
use Rattle.std.specs.Prelude.{◌≡◌, ℕ, ◌+◌, ◌<◌, ◌≤◌, true, false, cond, ◌&&◌, List, [], ◌∷◌, ◌++◌, length, take, replicate, Some, None, Ok, Err, Result, ◌==◌, slice_index_or}
use Rattle.table.specs.Closing.{terms_of}
use Rattle.table.specs.Effects.{unless}
use Rattle.table.specs.Entries.{View, view_of, rows, sold_by, sold_at}
use Rattle.table.specs.Rows.{UnitTable, new_unit, new_plant, new_buyer, corrected, moved, no_hour_figures}
use Rattle.table.specs.declared.entries.Entry.{Entry}
use Rattle.table.specs.declared.entries.Entry.TheVariants.{AddPlant, AddCompetitive, AddGuaranteed, Correct, PutAside, TakeBack, AddBuyer, Commit}
use Rattle.table.specs.declared.records.Buyer.{Buyer}
use Rattle.table.specs.declared.records.Commitment.{Commitment}
use Rattle.table.specs.declared.records.Plant.{Plant}
use Rattle.table.specs.declared.records.Table.{Table}
use Rattle.table.specs.declared.records.UnitRecord.{UnitRecord}
use Rattle.table.specs.declared.refusals.BookRefusal.{BookRefusal}

-- what one entry adds to the number of plants, of units of a group and of buyers
abbrev pub adds_plant : Entry → ℕ
adds_plant (AddPlant loss) = 1
adds_plant (AddCompetitive plant declared internal) = 0
adds_plant (AddGuaranteed plant declared seasonal internal feeds) = 0
adds_plant (Correct group unit declared) = 0
adds_plant (PutAside group unit) = 0
adds_plant (TakeBack group unit) = 0
adds_plant (AddBuyer loss) = 0
adds_plant (Commit plant buyer volume) = 0

abbrev pub adds_unit : ℕ → Entry → ℕ
adds_unit g (AddPlant loss) = 0
adds_unit g (AddCompetitive plant declared internal) = cond (g == 1) 1 0
adds_unit g (AddGuaranteed plant declared seasonal internal feeds) = cond (g == 2) 1 0
adds_unit g (Correct group unit declared) = 0
adds_unit g (PutAside group unit) = 0
adds_unit g (TakeBack group unit) = 0
adds_unit g (AddBuyer loss) = 0
adds_unit g (Commit plant buyer volume) = 0

abbrev pub adds_buyer : Entry → ℕ
adds_buyer (AddPlant loss) = 0
adds_buyer (AddCompetitive plant declared internal) = 0
adds_buyer (AddGuaranteed plant declared seasonal internal feeds) = 0
adds_buyer (Correct group unit declared) = 0
adds_buyer (PutAside group unit) = 0
adds_buyer (TakeBack group unit) = 0
adds_buyer (AddBuyer loss) = 1
adds_buyer (Commit plant buyer volume) = 0

-- how many plants, units of a group and buyers were entered
abbrev pub plants_in : List Entry → ℕ
plants_in [] = 0
plants_in (e ∷ h) = plants_in h + adds_plant e

abbrev pub units_in : ℕ → List Entry → ℕ
units_in g [] = 0
units_in g (e ∷ h) = units_in g h + adds_unit g e

abbrev pub buyers_in : List Entry → ℕ
buyers_in [] = 0
buyers_in (e ∷ h) = buyers_in h + adds_buyer e

-- the commitments, in the order in which they were made
abbrev pub commitments_of : List Entry → List Commitment
commitments_of [] = []
commitments_of (AddPlant loss ∷ h) = commitments_of h
commitments_of (AddCompetitive plant declared internal ∷ h) = commitments_of h
commitments_of (AddGuaranteed plant declared seasonal internal feeds ∷ h) = commitments_of h
commitments_of (Correct group unit declared ∷ h) = commitments_of h
commitments_of (PutAside group unit ∷ h) = commitments_of h
commitments_of (TakeBack group unit ∷ h) = commitments_of h
commitments_of (AddBuyer loss ∷ h) = commitments_of h
commitments_of (Commit plant buyer volume ∷ h) =
    commitments_of h ++ (record { plant = plant; buyer = buyer; volume = volume } ∷ [])

-- a plant's accepted commitments: the volumes of those that name it
abbrev pub sold_in : ℕ → List Entry → ℕ
sold_in p h = sold_by p (commitments_of h)

-- the loss of the plant of a number
abbrev pub loss_in : ℕ → List Entry → ℕ
loss_in p [] = 0
loss_in p (AddPlant loss ∷ h) = cond (p == plants_in h + 1) loss (loss_in p h)
loss_in p (AddCompetitive plant declared internal ∷ h) = loss_in p h
loss_in p (AddGuaranteed plant declared seasonal internal feeds ∷ h) = loss_in p h
loss_in p (Correct group unit declared ∷ h) = loss_in p h
loss_in p (PutAside group unit ∷ h) = loss_in p h
loss_in p (TakeBack group unit ∷ h) = loss_in p h
loss_in p (AddBuyer loss ∷ h) = loss_in p h
loss_in p (Commit plant buyer volume ∷ h) = loss_in p h

-- the loss of the buyer of a number
abbrev pub buyer_loss_in : ℕ → List Entry → ℕ
buyer_loss_in b [] = 0
buyer_loss_in b (AddPlant loss ∷ h) = buyer_loss_in b h
buyer_loss_in b (AddCompetitive plant declared internal ∷ h) = buyer_loss_in b h
buyer_loss_in b (AddGuaranteed plant declared seasonal internal feeds ∷ h) = buyer_loss_in b h
buyer_loss_in b (Correct group unit declared ∷ h) = buyer_loss_in b h
buyer_loss_in b (PutAside group unit ∷ h) = buyer_loss_in b h
buyer_loss_in b (TakeBack group unit ∷ h) = buyer_loss_in b h
buyer_loss_in b (AddBuyer loss ∷ h) = cond (b == buyers_in h + 1) loss (buyer_loss_in b h)
buyer_loss_in b (Commit plant buyer volume ∷ h) = buyer_loss_in b h

-- the unit of a number in a group: as it was added, with its last correction, aside by its last put aside or take back
abbrev pub unit_in : ℕ → ℕ → List Entry → UnitRecord
unit_in g i [] = new_unit 0 0 None 0 0
unit_in g i (AddPlant loss ∷ h) = unit_in g i h
unit_in g i (AddCompetitive plant declared internal ∷ h) =
    cond (g == 1 && i == units_in 1 h + 1) (new_unit plant declared None internal 0) (unit_in g i h)
unit_in g i (AddGuaranteed plant declared seasonal internal feeds ∷ h) =
    cond (g == 2 && i == units_in 2 h + 1) (new_unit plant declared (Some seasonal) internal feeds) (unit_in g i h)
unit_in g i (Correct group unit declared ∷ h) = cond (g == group && i == unit) (corrected declared (unit_in g i h)) (unit_in g i h)
unit_in g i (PutAside group unit ∷ h) = cond (g == group && i == unit) (moved true (unit_in g i h)) (unit_in g i h)
unit_in g i (TakeBack group unit ∷ h) = cond (g == group && i == unit) (moved false (unit_in g i h)) (unit_in g i h)
unit_in g i (AddBuyer loss ∷ h) = unit_in g i h
unit_in g i (Commit plant buyer volume ∷ h) = unit_in g i h

-- what the rows of refusals look at, by the entries accepted before
abbrev pub view_in : List Entry → View
view_in h = record {
  plants = plants_in h;
  competitive = units_in 1 h;
  guaranteed = units_in 2 h;
  buyers = buyers_in h;
  commitments = length (commitments_of h);
  sold = λ p. sold_in p h;
}

-- the history after an entry: with it where no row turns it down, by the entries accepted before it
abbrev pub next_history : Entry → List Entry → List Entry
next_history e h = unless (rows (view_in h) e) (λ _. h) (e ∷ h)

-- the number that an accepted entry answers: of the row that it makes or changes
abbrev pub number_in : Entry → List Entry → ℕ
number_in (AddPlant loss) h = plants_in h + 1
number_in (AddCompetitive plant declared internal) h = units_in 1 h + 1
number_in (AddGuaranteed plant declared seasonal internal feeds) h = units_in 2 h + 1
number_in (Correct group unit declared) h = unit
number_in (PutAside group unit) h = unit
number_in (TakeBack group unit) h = unit
number_in (AddBuyer loss) h = buyers_in h + 1
number_in (Commit plant buyer volume) h = length (commitments_of h) + 1

-- what an entry answers, by the entries accepted before it
abbrev pub answer_in : Entry → List Entry → Result ℕ BookRefusal
answer_in e h = unless (rows (view_in h) e) Err (Ok (number_in e h))

-- the history after the entries of a list, made in turn
abbrev pub accepted : List Entry → List Entry → List Entry
accepted h [] = h
accepted h (e ∷ es) = accepted (next_history e h) es

-- a history of accepted entries: no row turns one down by those before it
abbrev pub Proper : List Entry → Type 0
Proper [] = Unit {0}
Proper (e ∷ h) = (rows (view_in h) e ≡ None) × Proper h

-- a group's table holds the units of a history
pub record UnitsStand (g : ℕ) (h : List Entry) (t : UnitTable) : Type 0 where
  pub room : units_in g h ≤ 128
  pub long : length t.rows ≡ 128
  pub count : t.count ≡ units_in g h
  pub rows : (i : ℕ) → i < units_in g h → terms_of (unit_at t i) ≡ unit_in g (i + 1) h

-- the rows of plants hold those of a history
pub record PlantsStand (h : List Entry) (count : ℕ) (plants : List Plant) : Type 0 where
  pub room : plants_in h ≤ 32
  pub long : length plants ≡ 32
  pub counted : count ≡ plants_in h
  pub rows : (i : ℕ) → i < plants_in h → (slice_index_or plants i (new_plant 0)).loss ≡ loss_in (i + 1) h

-- the rows of buyers hold those of a history
pub record BuyersStand (h : List Entry) (count : ℕ) (buyers : List Buyer) : Type 0 where
  pub room : buyers_in h ≤ 64
  pub long : length buyers ≡ 64
  pub counted : count ≡ buyers_in h
  pub rows : (i : ℕ) → i < buyers_in h → (slice_index_or buyers i (new_buyer 0)).loss ≡ buyer_loss_in (i + 1) h

-- the rows of commitments hold those of a history
pub record CommitmentsStand (h : List Entry) (count : ℕ) (commitments : List Commitment) : Type 0 where
  pub room : length (commitments_of h) ≤ 768
  pub long : length commitments ≡ 768
  pub counted : count ≡ length (commitments_of h)
  pub rows : take count commitments ≡ commitments_of h

-- what the plants have sold, by their places, is what they sold in a history
pub record SoldStands (h : List Entry) (sold : List ℕ) : Type 0 where
  pub long : length sold ≡ 32
  pub sums : (p : ℕ) → sold_at sold p ≡ sold_in p h

-- a table stands for a history, whatever readings and figures it has
pub record Stands (h : List Entry) (t : Table) : Type 0 where
  pub plants : PlantsStand h t.plants.count t.plants.rows
  pub competitive : UnitsStand 1 h t.competitive
  pub guaranteed : UnitsStand 2 h t.guaranteed
  pub buyers : BuyersStand h t.buyers.count t.buyers.rows
  pub commitments : CommitmentsStand h t.commitments.count t.commitments.rows
  pub sold : SoldStands h t.sold

-- A table holds the plants and units of a history, and each plant's commitments come to the same sum. One that stands
-- for a history does.
pub record StandsInSum (h : List Entry) (t : Table) : Type 0 where
  pub plants : PlantsStand h t.plants.count t.plants.rows
  pub competitive : UnitsStand 1 h t.competitive
  pub guaranteed : UnitsStand 2 h t.guaranteed
  pub sold : (p : ℕ) → (view_of t).sold p ≡ sold_in p h

-- the units of a group, and a table, in which nothing is entered
abbrev pub empty_units : UnitTable
empty_units = record { count = 0; rows = replicate 128 (new_unit 0 0 None 0 0) }

abbrev pub empty_table : Table
empty_table = record {
  plants = record { count = 0; rows = replicate 32 (new_plant 0) };
  competitive = empty_units;
  guaranteed = empty_units;
  buyers = record { count = 0; rows = replicate 64 (new_buyer 0) };
  commitments = record { count = 0; rows = replicate 768 (record { plant = 0; buyer = 0; volume = 0 }) };
  sold = replicate 32 0;
  figures = no_hour_figures;
}
