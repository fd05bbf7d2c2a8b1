-- The last accepted reading of a unit or a buyer counts: later ones of others leave it.
use Rattle.std.proofs.Common.{◌≡◌, ℕ, cond, eqb, List, [], ◌∷◌, ◌++◌, Some, None, Option, sym, refl, ap, ◌∙◌}
use Rattle.std.proofs.lemmas.Bool.{eq-eqb, ne_eqb, cond-true, cond-false}
use Rattle.table.specs.EntriesCount.{NoneOf}
use Rattle.table.specs.Metered.{last_competitive, last_guaranteed, last_use}
use Rattle.table.specs.ReadingsCount.{ReadsCompetitive, ReadsGuaranteed, ReadsUse, ReadingsCount}
use Rattle.table.specs.declared.readings.Reading.{Reading}
use Rattle.table.specs.declared.readings.Reading.TheVariants.{Competitive, Guaranteed, Use}

-- the last of a kind stays through later readings of other kinds
module _ {X : Type 0} (last : List Reading → Option X) (kind : Reading → Type 0) (leaves : (r : Reading) (rs : List Reading) → (kind r → ⊥) → last (r ∷ rs) ≡ last rs) where
  later_leave : (later before : List Reading) → NoneOf kind later → last (later ++ before) ≡ last before
  later_leave [] before none = refl
  later_leave (r ∷ later) before none = leaves r (later ++ before) none.0 ∙ later_leave later before none.1

  never_read : last [] ≡ None → (rs : List Reading) → NoneOf kind rs → last rs ≡ None
  never_read nothing [] none = nothing
  never_read nothing (r ∷ rs) none = leaves r rs none.0 ∙ never_read nothing rs none.1

other_number : {X : Type 0} (n unit : ℕ) (x y : X) → (unit ≡ n → ⊥) → cond (eqb n unit) x y ≡ y
other_number n unit x y other = cond-false _ _ _ (ne_eqb n unit (λ same. other (sym same)))

leaves_competitive : (n : ℕ) (r : Reading) (rs : List Reading) → (ReadsCompetitive n r → ⊥) → last_competitive n (r ∷ rs) ≡ last_competitive n rs
leaves_competitive n (Competitive unit reading) rs other = other_number n unit (Some reading) (last_competitive n rs) other
leaves_competitive n (Guaranteed unit reading) rs other = refl
leaves_competitive n (Use buyer used) rs other = refl

leaves_guaranteed : (n : ℕ) (r : Reading) (rs : List Reading) → (ReadsGuaranteed n r → ⊥) → last_guaranteed n (r ∷ rs) ≡ last_guaranteed n rs
leaves_guaranteed n (Competitive unit reading) rs other = refl
leaves_guaranteed n (Guaranteed unit reading) rs other = other_number n unit _ (last_guaranteed n rs) other
leaves_guaranteed n (Use buyer used) rs other = refl

leaves_use : (n : ℕ) (r : Reading) (rs : List Reading) → (ReadsUse n r → ⊥) → last_use n (r ∷ rs) ≡ last_use n rs
leaves_use n (Competitive unit reading) rs other = refl
leaves_use n (Guaranteed unit reading) rs other = refl
leaves_use n (Use buyer used) rs other = other_number n buyer (Some used) (last_use n rs) other

pub readings_count : (rs : List Reading) → ReadingsCount rs
readings_count rs = record {
  competitive = λ later before n r made none.
      ap (last_competitive n) made ∙ later_leave (last_competitive n) (ReadsCompetitive n) (leaves_competitive n) later _ none ∙ cond-true _ _ _ (eq-eqb n n refl);
  guaranteed = λ later before n r made none.
      ap (last_guaranteed n) made ∙ later_leave (last_guaranteed n) (ReadsGuaranteed n) (leaves_guaranteed n) later _ none ∙ cond-true _ _ _ (eq-eqb n n refl);
  used = λ later before n u made none.
      ap (last_use n) made ∙ later_leave (last_use n) (ReadsUse n) (leaves_use n) later _ none ∙ cond-true _ _ _ (eq-eqb n n refl);
  no_competitive = λ n none. never_read (last_competitive n) (ReadsCompetitive n) (leaves_competitive n) refl rs none;
  no_guaranteed = λ n none. never_read (last_guaranteed n) (ReadsGuaranteed n) (leaves_guaranteed n) refl rs none;
  no_use = λ n none. never_read (last_use n) (ReadsUse n) (leaves_use n) refl rs none;
}
