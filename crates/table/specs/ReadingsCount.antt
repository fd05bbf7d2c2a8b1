-- Which accepted reading counts: the last one of its unit or buyer, said by where readings stand in the list of the
-- accepted. The list is the newest first, so what stands before a reading in it came later.
use Rattle.std.specs.Prelude.{◌≡◌, ℕ, List, ◌∷◌, ◌++◌, None, Some}
use Rattle.table.specs.EntriesCount.{NoneOf}
use Rattle.table.specs.Metered.{last_competitive, last_guaranteed, last_use}
use Rattle.table.specs.declared.readings.Reading.{Reading}
use Rattle.table.specs.declared.readings.Reading.TheVariants.{Competitive, Guaranteed, Use}
use Rattle.table.specs.declared.records.GuaranteedReading.{GuaranteedReading}
use Rattle.table.specs.declared.records.UnitReading.{UnitReading}

-- readings of a competitive unit, of a guaranteed unit, and of a buyer's use
abbrev pub ReadsCompetitive : ℕ → Reading → Type 0
ReadsCompetitive n (Competitive unit reading) = unit ≡ n
ReadsCompetitive n r = ⊥

abbrev pub ReadsGuaranteed : ℕ → Reading → Type 0
ReadsGuaranteed n (Guaranteed unit reading) = unit ≡ n
ReadsGuaranteed n r = ⊥

abbrev pub ReadsUse : ℕ → Reading → Type 0
ReadsUse n (Use buyer used) = buyer ≡ n
ReadsUse n r = ⊥

-- a guaranteed unit's reading has net energy and control alone
abbrev pub net_alone : GuaranteedReading → UnitReading
net_alone r = record {
  energies = record { net = r.net; accepted = 0; lost = 0; limited = 0; executed = 0; asked = 0 };
  adjustments = record { opportunity = 0; planning = 0; cooperation = 0 };
  control = r.control;
}

-- The last reading counts whole, whatever else was read later; without one there is none.
pub record ReadingsCount (rs : List Reading) : Type 0 where
  pub competitive : (later before : List Reading) (n : ℕ) (r : UnitReading) → rs ≡ later ++ (Competitive n r ∷ before) → NoneOf (ReadsCompetitive n) later → last_competitive n rs ≡ Some r
  pub guaranteed : (later before : List Reading) (n : ℕ) (r : GuaranteedReading) → rs ≡ later ++ (Guaranteed n r ∷ before) → NoneOf (ReadsGuaranteed n) later → last_guaranteed n rs ≡ Some (net_alone r)
  pub used : (later before : List Reading) (n u : ℕ) → rs ≡ later ++ (Use n u ∷ before) → NoneOf (ReadsUse n) later → last_use n rs ≡ Some u
  pub no_competitive : (n : ℕ) → NoneOf (ReadsCompetitive n) rs → last_competitive n rs ≡ None
  pub no_guaranteed : (n : ℕ) → NoneOf (ReadsGuaranteed n) rs → last_guaranteed n rs ≡ None
  pub no_use : (n : ℕ) → NoneOf (ReadsUse n) rs → last_use n rs ≡ None
