-- The format of an hour file: the words of records, and the record that stands first in some words.
use Rattle.std.specs.Prelude.{◌≡◌, ℕ, ◌+◌, ◌-◌, ◌*◌, ◌%◌, ◌<◌, Bool, true, false, cond, ◌&&◌, List, [], ◌∷◌, ◌++◌, length, take, drop, Option, Some, None, Ok, Err, Result, ◌==◌, nat_le}
use denote.Ref.{Bor}
use Rattle.std.specs.Option.{option_map}
use Rattle.hourfile.specs.Words.{kind_of, count_of, all_values, value_at, words}
use Rattle.hourfile.specs.declared.faults.Cause.{Cause}
use Rattle.hourfile.specs.declared.faults.Cause.TheVariants.{Malformed}
use Rattle.hourfile.specs.declared.records.Record.{Record}
use Rattle.hourfile.specs.declared.records.Record.TheVariants.{Header, Plant, CompetitiveUnit, GuaranteedUnit, Buyer, Commit, Correct, PutAside, TakeBack, Close, CompetitiveReading, GuaranteedReading, BuyerReading, Settle}

-- a record without where it lies in memory: its kind and its values
pub record Plain : Type 0 where
  pub kind : ℕ
  pub values : List ℕ

-- the kind of each record, and its values
abbrev pub plain : Record → Plain
plain (Header v) = record { kind = 1; values = words v.now }
plain (Plant v) = record { kind = 2; values = words v.now }
plain (CompetitiveUnit v) = record { kind = 3; values = words v.now }
plain (GuaranteedUnit v) = record { kind = 4; values = words v.now }
plain (Buyer v) = record { kind = 5; values = words v.now }
plain (Commit v) = record { kind = 6; values = words v.now }
plain (Correct v) = record { kind = 7; values = words v.now }
plain (PutAside v) = record { kind = 8; values = words v.now }
plain (TakeBack v) = record { kind = 9; values = words v.now }
plain (Close v) = record { kind = 10; values = words v.now }
plain (CompetitiveReading v) = record { kind = 11; values = words v.now }
plain (GuaranteedReading v) = record { kind = 12; values = words v.now }
plain (BuyerReading v) = record { kind = 13; values = words v.now }
plain (Settle v) = record { kind = 14; values = words v.now }

-- how many values a record of a kind has, where that is fixed
abbrev pub fixed_count : ℕ → Option ℕ
fixed_count kind =
    cond (kind == 1) (Some 5)
    (cond (kind == 2) (Some 1)
    (cond (kind == 4) (Some 5)
    (cond (kind == 5) (Some 1)
    (cond (kind == 6) (Some 3)
    (cond (kind == 7) (Some 3)
    (cond (kind == 8) (Some 2)
    (cond (kind == 9) (Some 2)
    (cond (kind == 10) (Some 0)
    (cond (kind == 11) (Some 18)
    (cond (kind == 12) (Some 10)
    (cond (kind == 13) (Some 2)
    (cond (kind == 14) (Some 0) None))))))))))))

-- The values of a competitive unit: plant, gross, ρ and n, then n steps and the steps of the cost curve, two values
-- each.
abbrev pub unit_fits : List ℕ → Bool
unit_fits values =
    nat_le 4 (length values) && (length values % 2 == 0 && nat_le (2 * value_at values 3) (length values - 4))

-- a count of values is the one that the kind has, if that is fixed
abbrev pub count_fits : ℕ → Option ℕ → Bool
count_fits count None = false
count_fits count (Some n) = count == n

-- the values are as many as the record's kind asks
abbrev pub fits : Plain → Bool
fits r = cond (r.kind == 3) (unit_fits r.values) (count_fits (length r.values) (fixed_count r.kind))

-- the record of a kind with these values, if they are as many as the kind asks
abbrev pub shaped : ℕ → List ℕ → Option Plain
shaped kind values =
    cond (fits (record { kind = kind; values = values })) (Some (record { kind = kind; values = values })) None

-- the record of a kind with these words after its head, if each is a value and they are as many as the kind asks
abbrev pub record_of : ℕ → List ℕ → Option Plain
record_of kind values = cond (all_values values) (shaped kind values) None

-- a record and the words after it
pub record First : Type 0 where
  pub found : Plain
  pub rest : List ℕ

-- what is no whole record is malformed
abbrev pub or_malformed : Option First → Result (Option First) Cause
or_malformed None = Err Malformed
or_malformed (Some f) = Ok (Some f)

-- the record of a head and the words after it: as many of these are its values as the head says
abbrev pub headed_record : ℕ → List ℕ → Option First
headed_record head rest =
    cond (nat_le (count_of head) (length rest))
    (option_map (λ found. record { found = found; rest = drop (count_of head) rest }) (record_of (kind_of head) (take (count_of head) rest)))
    None

-- What stands first in some words: nothing at their end, a record, or what is malformed.
abbrev pub first : List ℕ → Result (Option First) Cause
first [] = Ok None
first (head ∷ rest) = or_malformed (headed_record head rest)

-- a record and the words after it, without where they lie in memory
abbrev pub view_headed : Record × Bor (List (List ℕ)) → First
view_headed x = record { found = plain x.0; rest = words x.1.now }

-- the words of a record: its head, and its values
abbrev pub record_words : Plain → List ℕ
record_words r = (r.kind * 268435456 + length r.values) ∷ r.values

-- a record that can stand in a file: each value is one, and they are as many as its kind asks and a head can count
pub record Writable (r : Plain) : Type 0 where
  pub values : all_values r.values ≡ true
  pub shape : fits r ≡ true
  pub few : length r.values < 268435456

-- some words are those of a record that can stand in a file, and the words after it
pub record Spelt (ws : List ℕ) (f : First) : Type 0 where
  pub words : ws ≡ record_words f.found ++ f.rest
  pub writable : Writable f.found
