-- Hours with four different counts of plants, competitive units, guaranteed units and buyers: which numbers are there,
-- what the next row is numbered, when a table is full, and whose rows a number names.
use Rattle.std.specs.Prelude.{◌≡◌, ℕ, ◌-◌, List, [], ◌∷◌, ◌++◌, length, map, replicate, cond, ◌==◌, Ok}
use Rattle.settling.specs.Derived.{Found, ledger_in}
use Rattle.settling.specs.Figures.{bought_by}
use Rattle.settling.specs.Ledger.{Ledger, UnitCase, ledger_of}
use Rattle.table.specs.ClosingLaw.{group_in, declared_total}
use Rattle.table.specs.Closing.{plant_group, declared_by}
use Rattle.table.specs.Effects.{after_entries, answer_of}
use Rattle.table.specs.Entries.{View, rows, view_of}
use Rattle.table.specs.History.{view_in, answer_in, loss_in, buyer_loss_in, sold_in, commitments_of, empty_table}
use Rattle.table.specs.Places.{plant_at, buyer_at}
use Rattle.table.specs.Readings.{reading_rows}
use Rattle.table.specs.declared.entries.Entry.{Entry}
use Rattle.table.specs.declared.entries.Entry.TheVariants.{AddPlant, AddBuyer, AddCompetitive, AddGuaranteed, Commit, Correct, PutAside, TakeBack}
use Rattle.table.specs.declared.readings.Reading.{Reading}
use Rattle.table.specs.declared.readings.Reading.TheVariants.{Competitive, Use}
use Rattle.table.specs.declared.records.Table.{Table}
use Rattle.table.specs.declared.records.UnitReading.{UnitReading}
use Rattle.listing.specs.Listing.{count_of}
use Rattle.listing.specs.declared.rows.Kind.TheVariants.{Competitive as OfCompetitive, Guaranteed as OfGuaranteed, Plants as OfPlants, Buyers as OfBuyers}
use Rattle.book.specs.Law.{entered}
use Rattle.book.specs.Questions.{unit_answer, plant_answer, buyer_answer}
use Rattle.worked_hour.specs.Refused.{number, told, each, guaranteed}

-- an hour with so many plants, competitive units, guaranteed units and buyers, and five commitments
abbrev pub hour_of : ℕ → ℕ → ℕ → ℕ → List Entry
hour_of plants competitive guaranteed buyers =
    replicate plants (AddPlant 0) ++ replicate buyers (AddBuyer 0) ++ replicate competitive (AddCompetitive 1 10 0)
    ++ replicate guaranteed (AddGuaranteed 1 10 10 0 0) ++ replicate 5 (Commit 1 1 7)

-- in each of the four hours another table has the most rows
abbrev pub most_plants : List Entry
most_plants = hour_of 4 1 2 3

abbrev pub most_competitive : List Entry
most_competitive = hour_of 3 4 1 2

abbrev pub most_guaranteed : List Entry
most_guaranteed = hour_of 2 3 4 1

abbrev pub most_buyers : List Entry
most_buyers = hour_of 1 2 3 4

abbrev pub table : List Entry → Table
table entries = after_entries entries empty_table

abbrev pub blank : UnitReading
blank = record {
  energies = record { net = 0; accepted = 0; lost = 0; limited = 0; executed = 0; asked = 0 };
  adjustments = record { opportunity = 0; planning = 0; cooperation = 0 };
  control = record { p_act = 0; type2 = 0; type3 = 0; type5 = 0; type6 = 0; type8 = 0; day = 0; minute = 0 };
}

abbrev pub numbers : List ℕ
numbers = 0 ∷ 1 ∷ 2 ∷ 3 ∷ 4 ∷ 5 ∷ []

-- what calls that name the numbers 0 to 5 are told, a list for each kind of call
abbrev pub named : View → List (List ℕ)
named v =
    map (λ (call : ℕ → Entry). map (λ n. number (rows v (call n))) numbers)
    ((λ n. AddCompetitive n 0 0) ∷ (λ n. AddGuaranteed n 0 0 0 0) ∷ (λ n. Commit n 1 1) ∷ (λ n. Commit 1 n 1)
    ∷ (λ n. Correct 1 n 0) ∷ (λ n. PutAside 1 n) ∷ (λ n. TakeBack 1 n)
    ∷ (λ n. Correct 2 n 0) ∷ (λ n. PutAside 2 n) ∷ (λ n. TakeBack 2 n) ∷ [])

-- what readings that name the numbers 0 to 5 are told: of a competitive unit, a guaranteed unit and a buyer
abbrev pub read : View → List (List ℕ)
read v =
    map (λ (reading : ℕ → Reading). map (λ n. number (reading_rows v (reading n))) numbers)
    ((λ n. Competitive n blank) ∷ (λ n. guaranteed n 0 0 0 0) ∷ (λ n. Use n 0) ∷ [])

-- what questions about the numbers 0 to 5 are told: about a plant, a buyer and a unit of each group
abbrev pub asked : Table → List (List ℕ)
asked t =
    map (λ n. told (plant_answer n t)) numbers ∷ map (λ n. told (buyer_answer n t)) numbers
    ∷ map (λ n. told (unit_answer 1 n t)) numbers ∷ map (λ n. told (unit_answer 2 n t)) numbers ∷ []

-- 0 for the numbers from 1 to a count, and the refusal for the others
abbrev pub up_to : ℕ → ℕ → List ℕ
up_to refusal count = refusal ∷ replicate count 0 ++ replicate (5 - count) refusal

-- Each number is looked up among so many plants, competitive units, guaranteed units or buyers, by the entries and by
-- the table.
abbrev pub Among : List Entry → ℕ → ℕ → ℕ → ℕ → Type 0
Among entries plants competitive guaranteed buyers =
    (named (view_in (entered entries))
    ≡ replicate 3 (up_to 1 plants) ++ up_to 3 buyers ∷ replicate 3 (up_to 2 competitive) ++ replicate 3 (up_to 2 guaranteed))
    × ((read (view_in (entered entries)) ≡ up_to 2 competitive ∷ up_to 2 guaranteed ∷ up_to 3 buyers ∷ [])
    × ((named (view_of (table entries)) ≡ named (view_in (entered entries)))
    × ((read (view_of (table entries)) ≡ read (view_in (entered entries)))
    × (asked (table entries) ≡ up_to 1 plants ∷ up_to 3 buyers ∷ up_to 2 competitive ∷ up_to 2 guaranteed ∷ []))))

-- a further row of each table: a plant, a competitive and a guaranteed unit of a plant, a buyer and a commitment
abbrev pub one_more : ℕ → List Entry
one_more plant = AddPlant 0 ∷ AddCompetitive plant 0 0 ∷ AddGuaranteed plant 0 0 0 0 ∷ AddBuyer 0 ∷ Commit 1 1 1 ∷ []

-- what these further rows answer, by the entries and by the table
abbrev pub Next : List Entry → List ℕ → Type 0
Next entries answers =
    (map (λ e. answer_in e (entered entries)) (one_more 1) ≡ map Ok answers)
    × (map (λ e. answer_of e (table entries)) (one_more 1) ≡ map Ok answers)

-- how many plants, competitive units, guaranteed units, buyers and commitments settling looks at
abbrev pub counts : Ledger → List ℕ
counts a = a.plants ∷ a.units 1 ∷ a.units 2 ∷ a.buyers ∷ length a.commitments ∷ []

-- nothing is allocated
abbrev pub nothing : Found
nothing = record { amount = λ g i. 0; run = λ i. 0 }

-- how many lines there are of competitive units, guaranteed units, plants and buyers
abbrev pub lines : Table → List ℕ
lines t = map (λ kind. count_of kind t) (OfCompetitive ∷ OfGuaranteed ∷ OfPlants ∷ OfBuyers ∷ [])

-- so many rows of each kind, where plant 2 alone has sold 20,000,000
abbrev pub seen : ℕ → ℕ → ℕ → ℕ → ℕ → View
seen plants competitive guaranteed buyers commitments = record {
  plants = plants;
  competitive = competitive;
  guaranteed = guaranteed;
  buyers = buyers;
  commitments = commitments;
  sold = λ plant. cond (plant == 2) 20000000 0;
}

-- each plant and buyer with a loss of its own, and units of both groups among them, each of a group at another plant
abbrev pub mixed : List Entry
mixed =
    AddBuyer 10 ∷ AddPlant 200 ∷ AddBuyer 30 ∷ AddGuaranteed 1 11 12 13 1 ∷ AddPlant 500 ∷ AddBuyer 40 ∷ AddPlant 700
    ∷ AddGuaranteed 3 21 22 23 0 ∷ AddCompetitive 2 31 32 ∷ AddGuaranteed 2 41 42 43 1 ∷ AddCompetitive 3 51 52
    ∷ AddPlant 900 ∷ AddBuyer 50 ∷ AddBuyer 60 ∷ AddGuaranteed 4 61 62 63 0 ∷ AddPlant 1100
    ∷ Commit 1 5 100 ∷ Commit 5 1 20 ∷ Commit 2 5 3 ∷ Commit 5 4 400 ∷ Commit 1 2 7 ∷ []

-- a unit's plant, that plant's loss, the unit's internal consumption and β
abbrev pub marks : UnitCase → List ℕ
marks u = u.plant ∷ u.loss ∷ u.internal ∷ u.feeds ∷ []

-- the first units of a group, by the entries and by the table
abbrev pub Marked : ℕ → List ℕ → List (List ℕ) → Type 0
Marked g places units =
    (map (λ i. marks ((ledger_in nothing (entered mixed) []).unit g i)) places ≡ units)
    × (map (λ i. marks ((ledger_of (table mixed)).unit g i)) places ≡ units)

-- offers for four units
abbrev pub offers : List (ℕ → ℕ)
offers = replicate 4 (λ kwh. 300)

pub record NumberExamples : Type 0 where
  pub among_most_plants : Among most_plants 4 1 2 3
  pub among_most_competitive : Among most_competitive 3 4 1 2
  pub among_most_guaranteed : Among most_guaranteed 2 3 4 1
  pub among_most_buyers : Among most_buyers 1 2 3 4
  pub next_most_plants : Next most_plants (5 ∷ 2 ∷ 3 ∷ 4 ∷ 6 ∷ [])
  pub next_most_competitive : Next most_competitive (4 ∷ 5 ∷ 2 ∷ 3 ∷ 6 ∷ [])
  pub next_most_guaranteed : Next most_guaranteed (3 ∷ 4 ∷ 5 ∷ 2 ∷ 6 ∷ [])
  pub next_most_buyers : Next most_buyers (2 ∷ 3 ∷ 4 ∷ 5 ∷ 6 ∷ [])
  pub settled_most_plants : counts (ledger_in nothing (entered most_plants) []) ≡ 4 ∷ 1 ∷ 2 ∷ 3 ∷ 5 ∷ []
  pub settled_most_guaranteed : counts (ledger_in nothing (entered most_guaranteed) []) ≡ 2 ∷ 3 ∷ 4 ∷ 1 ∷ 5 ∷ []
  pub table_most_plants : counts (ledger_of (table most_plants)) ≡ 4 ∷ 1 ∷ 2 ∷ 3 ∷ 5 ∷ []
  pub table_most_guaranteed : counts (ledger_of (table most_guaranteed)) ≡ 2 ∷ 3 ∷ 4 ∷ 1 ∷ 5 ∷ []
  pub lines_most_plants : lines (table most_plants) ≡ 1 ∷ 2 ∷ 4 ∷ 3 ∷ []
  pub lines_most_competitive : lines (table most_competitive) ≡ 4 ∷ 1 ∷ 3 ∷ 2 ∷ []
  -- a table is full by its own count
  pub full_plants : each (seen 32 127 127 63 767) (one_more 32) ≡ 4 ∷ 0 ∷ 0 ∷ 0 ∷ 0 ∷ []
  pub room_for_plants : each (seen 31 128 128 64 768) (one_more 1) ≡ 0 ∷ 4 ∷ 4 ∷ 4 ∷ 4 ∷ []
  pub full_competitive : each (seen 31 128 127 63 767) (one_more 1) ≡ 0 ∷ 4 ∷ 0 ∷ 0 ∷ 0 ∷ []
  pub room_for_competitive : each (seen 32 127 128 64 768) (one_more 1) ≡ 4 ∷ 0 ∷ 4 ∷ 4 ∷ 4 ∷ []
  pub full_guaranteed : each (seen 31 127 128 63 767) (one_more 1) ≡ 0 ∷ 0 ∷ 4 ∷ 0 ∷ 0 ∷ []
  pub room_for_guaranteed : each (seen 32 128 127 64 768) (one_more 1) ≡ 4 ∷ 4 ∷ 0 ∷ 4 ∷ 4 ∷ []
  pub full_buyers : each (seen 31 127 127 64 767) (one_more 1) ≡ 0 ∷ 0 ∷ 0 ∷ 4 ∷ 0 ∷ []
  pub room_for_buyers : each (seen 32 128 128 63 768) (one_more 1) ≡ 4 ∷ 4 ∷ 4 ∷ 0 ∷ 4 ∷ []
  pub full_commitments : each (seen 31 127 127 63 768) (one_more 1) ≡ 0 ∷ 0 ∷ 0 ∷ 0 ∷ 4 ∷ []
  pub room_for_commitments : each (seen 32 128 128 64 767) (one_more 1) ≡ 4 ∷ 4 ∷ 4 ∷ 4 ∷ 0 ∷ []
  -- what the plant has sold, and not what the buyer bought or what a plant of the buyer's number sold
  pub sold_by_plant : each (seen 3 0 0 3 0) (Commit 1 2 1 ∷ Commit 2 1 1 ∷ Commit 3 2 20000000 ∷ []) ≡ 0 ∷ 7 ∷ 0 ∷ []
  -- the losses of plants and buyers, and what marks each unit, by their numbers
  pub losses : map (λ p. loss_in p (entered mixed)) numbers ≡ 0 ∷ 200 ∷ 500 ∷ 700 ∷ 900 ∷ 1100 ∷ []
  pub table_losses : map (λ i. (plant_at (table mixed) i).loss) numbers ≡ 200 ∷ 500 ∷ 700 ∷ 900 ∷ 1100 ∷ 0 ∷ []
  pub buyer_losses : map (λ b. buyer_loss_in b (entered mixed)) numbers ≡ 0 ∷ 10 ∷ 30 ∷ 40 ∷ 50 ∷ 60 ∷ []
  pub table_buyer_losses : map (λ i. (buyer_at (table mixed) i).loss) numbers ≡ 10 ∷ 30 ∷ 40 ∷ 50 ∷ 60 ∷ 0 ∷ []
  pub competitive_units : Marked 1 (0 ∷ 1 ∷ []) ((2 ∷ 500 ∷ 32 ∷ 0 ∷ []) ∷ (3 ∷ 700 ∷ 52 ∷ 0 ∷ []) ∷ [])
  pub guaranteed_units : Marked 2 (0 ∷ 1 ∷ []) ((1 ∷ 200 ∷ 13 ∷ 1 ∷ []) ∷ (3 ∷ 700 ∷ 23 ∷ 0 ∷ []) ∷ [])
  pub further_guaranteed_units : Marked 2 (2 ∷ 3 ∷ []) ((2 ∷ 500 ∷ 43 ∷ 1 ∷ []) ∷ (4 ∷ 900 ∷ 63 ∷ 0 ∷ []) ∷ [])
  -- a guaranteed unit past the last competitive one counts at closing
  pub last_limit : (group_in 2 (λ f. f) offers 4 (entered mixed)).limit 3 ≡ 56
  pub table_last_limit : (plant_group (λ f. f) offers 4 900 (table mixed).guaranteed).limit 3 ≡ 56
  pub last_declared : declared_total 2 4 4 (entered mixed) ≡ 61
  pub table_last_declared : declared_by 4 4 (table mixed).guaranteed ≡ 61
  -- commitments at plant 5 and buyer 5, past the last unit of either group
  pub sold : map (λ p. sold_in p (entered mixed)) numbers ≡ 0 ∷ 107 ∷ 3 ∷ 0 ∷ 0 ∷ 420 ∷ []
  pub table_sold : map (view_of (table mixed)).sold numbers ≡ 0 ∷ 107 ∷ 3 ∷ 0 ∷ 0 ∷ 420 ∷ []
  pub bought : map (λ b. bought_by b (commitments_of (entered mixed))) numbers ≡ 0 ∷ 20 ∷ 7 ∷ 0 ∷ 400 ∷ 103 ∷ []
