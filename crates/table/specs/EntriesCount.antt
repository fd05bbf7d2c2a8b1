-- Which accepted entry counts for what an hour has, said by where entries stand in the list of the accepted. The list
-- is the newest first, so what stands before an entry in it came later.
use Rattle.std.specs.Prelude.{◌≡◌, ℕ, ◌+◌, Bool, true, false, List, [], ◌∷◌, ◌++◌, length, Some, None, Option, ◌==◌, slice_index_or}
use Rattle.std.specs.List.{count_by}
use Rattle.table.specs.History.{plants_in, units_in, buyers_in, commitments_of, sold_in, loss_in, buyer_loss_in, unit_in}
use Rattle.table.specs.declared.entries.Entry.{Entry}
use Rattle.table.specs.declared.entries.Entry.TheVariants.{AddPlant, AddCompetitive, AddGuaranteed, Correct, PutAside, TakeBack, AddBuyer, Commit}
use Rattle.table.specs.declared.records.Commitment.{Commitment}

-- none of a list is of a kind
abbrev pub NoneOf : {A : Type 0} → (A → Type 0) → List A → Type 0
NoneOf kind [] = Unit {0}
NoneOf kind (a ∷ l) = (kind a → ⊥) × NoneOf kind l

-- entries that add a plant, a unit of a group, a buyer or a commitment
abbrev pub adds_a_plant : Entry → Bool
adds_a_plant (AddPlant loss) = true
adds_a_plant e = false

abbrev pub adds_a_unit : ℕ → Entry → Bool
adds_a_unit g (AddCompetitive plant declared internal) = g == 1
adds_a_unit g (AddGuaranteed plant declared seasonal internal feeds) = g == 2
adds_a_unit g e = false

abbrev pub adds_a_buyer : Entry → Bool
adds_a_buyer (AddBuyer loss) = true
adds_a_buyer e = false

abbrev pub commits : Entry → Bool
commits (Commit plant buyer volume) = true
commits e = false

-- corrections of a unit
abbrev pub Corrects : ℕ → ℕ → Entry → Type 0
Corrects g n (Correct group unit declared) = (group ≡ g) × (unit ≡ n)
Corrects g n e = ⊥

-- what puts a unit aside or takes it back
abbrev pub Moves : ℕ → ℕ → Entry → Type 0
Moves g n (PutAside group unit) = (group ≡ g) × (unit ≡ n)
Moves g n (TakeBack group unit) = (group ≡ g) × (unit ≡ n)
Moves g n e = ⊥

-- A unit that was added, with the entries that came later. Corrections change its declared energy alone; what puts it
-- aside or takes it back changes nothing else either.
pub record AddedUnit (g n p d : ℕ) (s : Option ℕ) (i f : ℕ) (later h : List Entry) : Type 0 where
  pub plant : (unit_in g n h).plant ≡ p
  pub seasonal : (unit_in g n h).seasonal ≡ s
  pub internal : (unit_in g n h).internal ≡ i
  pub feeds : (unit_in g n h).feeds ≡ f
  pub declared : NoneOf (Corrects g n) later → (unit_in g n h).declared ≡ d
  pub aside : NoneOf (Moves g n) later → (unit_in g n h).aside ≡ false

-- A correction, a put aside and a take back each count until the next one of the same unit, whatever else stands
-- between.
pub record LastCounts (h : List Entry) : Type 0 where
  pub corrected : (later before : List Entry) (g n declared : ℕ) → h ≡ later ++ (Correct g n declared ∷ before) → NoneOf (Corrects g n) later → (unit_in g n h).declared ≡ declared
  pub put_aside : (later before : List Entry) (g n : ℕ) → h ≡ later ++ (PutAside g n ∷ before) → NoneOf (Moves g n) later → (unit_in g n h).aside ≡ true
  pub taken_back : (later before : List Entry) (g n : ℕ) → h ≡ later ++ (TakeBack g n ∷ before) → NoneOf (Moves g n) later → (unit_in g n h).aside ≡ false

-- The n-th plant that was added has number n; so have the units of each group over all plants, the buyers and the
-- commitments.
pub record Numbered (h : List Entry) : Type 0 where
  pub plants : plants_in h ≡ count_by adds_a_plant h
  pub units : (g : ℕ) → units_in g h ≡ count_by (adds_a_unit g) h
  pub buyers : buyers_in h ≡ count_by adds_a_buyer h
  pub commitments : length (commitments_of h) ≡ count_by commits h
  pub plant : (later before : List Entry) (loss : ℕ) → h ≡ later ++ (AddPlant loss ∷ before) → loss_in (count_by adds_a_plant before + 1) h ≡ loss
  pub competitive : (later before : List Entry) (p d i : ℕ) → h ≡ later ++ (AddCompetitive p d i ∷ before) → AddedUnit 1 (count_by (adds_a_unit 1) before + 1) p d None i 0 later h
  pub guaranteed : (later before : List Entry) (p d s i f : ℕ) → h ≡ later ++ (AddGuaranteed p d s i f ∷ before) → AddedUnit 2 (count_by (adds_a_unit 2) before + 1) p d (Some s) i f later h
  pub buyer : (later before : List Entry) (loss : ℕ) → h ≡ later ++ (AddBuyer loss ∷ before) → buyer_loss_in (count_by adds_a_buyer before + 1) h ≡ loss
  pub commitment : (later before : List Entry) (c d : Commitment) → h ≡ later ++ (Commit c.plant c.buyer c.volume ∷ before) → slice_index_or (commitments_of h) (count_by commits before) d ≡ c

-- What a plant has sold: each commitment that names it counts once with its volume, and no other entry counts.
pub record EachSold (h : List Entry) : Type 0 where
  pub own : (later before : List Entry) (p b v : ℕ) → h ≡ later ++ (Commit p b v ∷ before) → sold_in p h ≡ sold_in p (later ++ before) + v
  pub others : (later before : List Entry) (e : Entry) (p : ℕ) → h ≡ later ++ (e ∷ before) → ((b v : ℕ) → (e ≡ Commit p b v) → ⊥) → sold_in p h ≡ sold_in p (later ++ before)
  pub nothing : h ≡ [] → (p : ℕ) → sold_in p h ≡ 0

-- what an hour's accepted entries count for: the last of each unit, the numbers of rows, and each commitment once
pub record EntriesCount (h : List Entry) : Type 0 where
  pub last : LastCounts h
  pub numbered : Numbered h
  pub sold : EachSold h
