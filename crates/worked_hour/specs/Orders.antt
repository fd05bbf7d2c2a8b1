-- Put aside, correct and take back in whatever order: what units then are, by the accepted entries and by the table
-- alike, and what they count at closing.
use Rattle.std.specs.Prelude.{◌≡◌, ℕ, ◌-◌, Bool, true, false, List, [], ◌∷◌, ◌++◌, map, Some, None}
use Rattle.settling.specs.Ledger.{table_of}
use Rattle.table.specs.Closing.{plant_group, declared_by, terms_of}
use Rattle.table.specs.ClosingLaw.{group_in, declared_total}
use Rattle.table.specs.Effects.{after_entries}
use Rattle.table.specs.History.{unit_in, empty_table}
use Rattle.table.specs.Places.{unit_at, plant_at}
use Rattle.table.specs.Rows.{no_unit_figures}
use Rattle.table.specs.declared.entries.Entry.{Entry}
use Rattle.table.specs.declared.entries.Entry.TheVariants.{AddPlant, AddCompetitive, AddGuaranteed, Correct, PutAside, TakeBack}
use Rattle.table.specs.declared.records.Table.{Table}
use Rattle.table.specs.declared.records.UnitRecord.{UnitRecord}
use Rattle.book.specs.Law.{entered}

-- Two plants. Plant 2 has competitive units 1 and 2 of 50 and 70 kWh and guaranteed units 1 and 2 of 30 and 40 kWh, the
-- second with a seasonal energy of 0.
abbrev pub start : List Entry
start =
    AddPlant 0 ∷ AddPlant 500 ∷ AddCompetitive 2 50 100 ∷ AddCompetitive 2 70 0 ∷ AddGuaranteed 2 30 20 300 1
    ∷ AddGuaranteed 2 40 0 0 0 ∷ []

abbrev pub history : List Entry → List Entry
history entries = entered (start ++ entries)

abbrev pub table : List Entry → Table
table entries = after_entries (start ++ entries) empty_table

-- the unit of a number in a group, by the entries and by the table
abbrev pub by_entries : List Entry → ℕ → ℕ → UnitRecord
by_entries entries g number = unit_in g number (history entries)

abbrev pub by_table : List Entry → ℕ → ℕ → UnitRecord
by_table entries g number = terms_of (unit_at (table_of g (table entries)) (number - 1))

-- a unit's declared energy, and whether it is aside
abbrev pub terms : UnitRecord → ℕ × Bool
terms u = (u.declared, u.aside)

-- the terms of a unit of a group, and of competitive unit 1, by the entries and by the table
abbrev pub Has : List Entry → ℕ → ℕ → ℕ → Bool → Type 0
Has entries g number declared aside =
    (terms (by_entries entries g number) ≡ (declared, aside)) × (terms (by_table entries g number) ≡ (declared, aside))

abbrev pub IsFirst : List Entry → ℕ → Bool → Type 0
IsFirst entries declared aside = Has entries 1 1 declared aside

-- the terms of both competitive and of both guaranteed units
abbrev pub all_terms : (ℕ → ℕ → UnitRecord) → List (ℕ × Bool)
all_terms unit = map terms (unit 1 1 ∷ unit 1 2 ∷ unit 2 1 ∷ unit 2 2 ∷ [])

abbrev pub Are : List Entry → List (ℕ × Bool) → Type 0
Are entries units = (all_terms (by_entries entries) ≡ units) × (all_terms (by_table entries) ≡ units)

-- the whole record of a unit
abbrev pub IsWhole : List Entry → ℕ → ℕ → UnitRecord → Type 0
IsWhole entries g number unit = (by_entries entries g number ≡ unit) × (by_table entries g number ≡ unit)

-- guaranteed unit 1 with another declared energy
abbrev pub declared_60 : UnitRecord
declared_60 = record {
  plant = 2;
  declared = 60;
  seasonal = Some 20;
  internal = 300;
  feeds = 1;
  aside = false;
  reading = None;
  figures = no_unit_figures;
}

-- two offers for each group
abbrev pub offers : List (ℕ → ℕ)
offers = (λ kwh. 300) ∷ (λ kwh. 300) ∷ []

-- plant 2's limits of the competitive and of the guaranteed units, and the declared energies of its groups
abbrev pub counted_by_entries : List Entry → List ℕ
counted_by_entries entries =
    map (group_in 1 (λ f. f) offers 2 (history entries)).limit (0 ∷ 1 ∷ [])
    ++ map (group_in 2 (λ f. f) offers 2 (history entries)).limit (0 ∷ 1 ∷ [])
    ++ declared_total 1 2 2 (history entries) ∷ declared_total 2 2 2 (history entries) ∷ []

abbrev pub counted_by_table : Table → List ℕ
counted_by_table t =
    map (plant_group (λ f. f) offers 2 (plant_at t 1).loss t.competitive).limit (0 ∷ 1 ∷ [])
    ++ map (plant_group (λ f. f) offers 2 (plant_at t 1).loss t.guaranteed).limit (0 ∷ 1 ∷ [])
    ++ declared_by 2 2 t.competitive ∷ declared_by 2 2 t.guaranteed ∷ []

-- these limits and energies, by the entries and by the table
abbrev pub Count : List Entry → List ℕ → Type 0
Count entries figures = (counted_by_entries entries ≡ figures) × (counted_by_table (table entries) ≡ figures)

pub record OrderExamples : Type 0 where
  -- one put aside, one correction and one take back, in each order
  pub aside_correct_back : IsFirst (PutAside 1 1 ∷ Correct 1 1 60 ∷ TakeBack 1 1 ∷ []) 60 false
  pub aside_back_correct : IsFirst (PutAside 1 1 ∷ TakeBack 1 1 ∷ Correct 1 1 60 ∷ []) 60 false
  pub correct_aside_back : IsFirst (Correct 1 1 60 ∷ PutAside 1 1 ∷ TakeBack 1 1 ∷ []) 60 false
  pub correct_back_aside : IsFirst (Correct 1 1 60 ∷ TakeBack 1 1 ∷ PutAside 1 1 ∷ []) 60 true
  pub back_correct_aside : IsFirst (TakeBack 1 1 ∷ Correct 1 1 60 ∷ PutAside 1 1 ∷ []) 60 true
  pub back_aside_correct : IsFirst (TakeBack 1 1 ∷ PutAside 1 1 ∷ Correct 1 1 60 ∷ []) 60 true
  -- the last correction counts, be it lower or higher, and whether the unit is aside or not
  pub lowered : IsFirst (Correct 1 1 20 ∷ []) 20 false
  pub raised : IsFirst (Correct 1 1 90 ∷ []) 90 false
  pub lowered_then_raised : IsFirst (Correct 1 1 20 ∷ Correct 1 1 90 ∷ []) 90 false
  pub raised_then_lowered : IsFirst (Correct 1 1 90 ∷ Correct 1 1 20 ∷ []) 20 false
  pub as_it_was : IsFirst (Correct 1 1 60 ∷ Correct 1 1 50 ∷ []) 50 false
  pub to_nothing : IsFirst (Correct 1 1 60 ∷ Correct 1 1 0 ∷ []) 0 false
  pub twice_aside : IsFirst (PutAside 1 1 ∷ Correct 1 1 90 ∷ Correct 1 1 20 ∷ []) 20 true
  pub before_and_aside : IsFirst (Correct 1 1 90 ∷ PutAside 1 1 ∷ Correct 1 1 20 ∷ TakeBack 1 1 ∷ []) 20 false
  pub aside_and_after : IsFirst (PutAside 1 1 ∷ Correct 1 1 20 ∷ TakeBack 1 1 ∷ Correct 1 1 90 ∷ []) 90 false
  -- the last put aside or take back counts, whatever corrections stand between
  pub aside_twice : IsFirst (PutAside 1 1 ∷ PutAside 1 1 ∷ []) 50 true
  pub aside_twice_back : IsFirst (PutAside 1 1 ∷ PutAside 1 1 ∷ TakeBack 1 1 ∷ []) 50 false
  pub back_alone : IsFirst (TakeBack 1 1 ∷ []) 50 false
  pub aside_again : IsFirst (PutAside 1 1 ∷ TakeBack 1 1 ∷ Correct 1 1 60 ∷ PutAside 1 1 ∷ []) 60 true
  pub back_again : IsFirst (PutAside 1 1 ∷ TakeBack 1 1 ∷ PutAside 1 1 ∷ Correct 1 1 60 ∷ TakeBack 1 1 ∷ []) 60 false
  -- beside a unit of that number in the other group, and one of another number in the same
  pub back_in_two : Are (PutAside 1 1 ∷ PutAside 2 1 ∷ TakeBack 2 1 ∷ []) ((50, true) ∷ (70, false) ∷ (30, false) ∷ (40, false) ∷ [])
  pub back_in_one : Are (PutAside 1 2 ∷ PutAside 2 2 ∷ TakeBack 1 2 ∷ []) ((50, false) ∷ (70, false) ∷ (30, false) ∷ (40, true) ∷ [])
  pub back_of_another : Are (PutAside 1 1 ∷ PutAside 1 2 ∷ TakeBack 1 2 ∷ []) ((50, true) ∷ (70, false) ∷ (30, false) ∷ (40, false) ∷ [])
  pub aside_in_two : Are (PutAside 2 1 ∷ []) ((50, false) ∷ (70, false) ∷ (30, true) ∷ (40, false) ∷ [])
  pub correct_in_two : Are (Correct 2 1 80 ∷ []) ((50, false) ∷ (70, false) ∷ (80, false) ∷ (40, false) ∷ [])
  pub correct_in_one : Are (Correct 1 2 80 ∷ []) ((50, false) ∷ (80, false) ∷ (30, false) ∷ (40, false) ∷ [])
  pub all_three_in_two :
      Are (PutAside 2 2 ∷ Correct 2 2 15 ∷ PutAside 1 2 ∷ Correct 1 2 90 ∷ TakeBack 2 2 ∷ [])
      ((50, false) ∷ (90, true) ∷ (30, false) ∷ (15, false) ∷ [])
  -- a later unit is as it is added, and what is turned down changes nothing
  pub added_later : Has (PutAside 1 2 ∷ Correct 1 3 60 ∷ PutAside 1 3 ∷ AddCompetitive 1 80 0 ∷ []) 1 3 80 false
  pub turned_down :
      Are (PutAside 1 1 ∷ Correct 1 1 2000001 ∷ TakeBack 3 1 ∷ TakeBack 1 3 ∷ Correct 0 1 60 ∷ [])
      ((50, true) ∷ (70, false) ∷ (30, false) ∷ (40, false) ∷ [])
  -- nothing else of a unit is changed
  pub whole : IsWhole (PutAside 2 1 ∷ Correct 2 1 60 ∷ TakeBack 2 1 ∷ []) 2 1 declared_60
  -- at closing a seasonal energy of 0 makes the limit 0, and the declared energy counts all the same
  pub counted : Count [] (47 ∷ 66 ∷ 18 ∷ 0 ∷ 120 ∷ 70 ∷ [])
  pub counted_aside : Count (Correct 1 1 60 ∷ PutAside 1 1 ∷ PutAside 2 2 ∷ []) (0 ∷ 66 ∷ 18 ∷ 0 ∷ 70 ∷ 30 ∷ [])
  pub counted_back :
      Count (PutAside 1 1 ∷ PutAside 2 1 ∷ Correct 1 1 60 ∷ Correct 2 1 35 ∷ TakeBack 1 1 ∷ TakeBack 2 1 ∷ [])
      (56 ∷ 66 ∷ 18 ∷ 0 ∷ 130 ∷ 75 ∷ [])
  pub counted_lower : Count (PutAside 1 2 ∷ TakeBack 2 2 ∷ Correct 1 1 90 ∷ Correct 1 1 20 ∷ Correct 2 2 15 ∷ []) (18 ∷ 0 ∷ 18 ∷ 0 ∷ 20 ∷ 45 ∷ [])
