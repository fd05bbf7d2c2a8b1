-- The texts of refusals and faults, computed.
use Rattle.std.proofs.Common.{◌≡◌, ℕ, ◌<◌, leb, List, ◌∷◌, length, take, drop, None, Err, refl, ap, ◌∙◌}
use Rattle.std.proofs.Math.Nat.{div-eq_of_lt}
use Rattle.std.proofs.lemmas.Bool.{cond_both}
use Rattle.std.specs.Fmt.{digits}
use Rattle.std.specs.Option.{option_map}
use Rattle.hourfile.specs.Format.{Plain, First, first, shaped, record_of, or_malformed}
use Rattle.hourfile.specs.Words.{kind_of, count_of, all_values}
use Rattle.hourfile.specs.declared.faults.Cause.TheVariants.{Malformed}
use Rattle.reader.specs.Outcome.{read_on}
use Rattle.worked_hour.specs.Spelled.{RefusalTexts}

-- kind 0 is no record's, whatever values follow
no_kind : (values : List ℕ) → record_of 0 values ≡ None
no_kind values = cond_both (all_values values) (shaped 0 values) None (λ found. found ≡ None) (λ _. refl) (λ _. refl)

unheaded : (value : ℕ) (rest : List ℕ) → value < 268435456 → first (value ∷ rest) ≡ Err Malformed
unheaded value rest small =
    let values = take (count_of value) rest in
    let headed = option_map (λ (found : Plain). let x : First = record { found = found; rest = drop (count_of value) rest } in x) (record_of (kind_of value) values) in
    let kind : kind_of value ≡ 0 = div-eq_of_lt small in
    ap or_malformed (cond_both (leb (count_of value) (length rest)) headed None (λ found. found ≡ None)
    (λ _. ap (option_map (λ (found : Plain). let x : First = record { found = found; rest = drop (count_of value) rest } in x)) (ap (λ k. record_of k values) kind ∙ no_kind values))
    (λ _. refl))

pub refusal_texts : RefusalTexts
unfolding read_on digits
refusal_texts = record {
  numbers = refl;
  book = refl;
  of_units = refl;
  steps = refl;
  price = refl;
  of_rows = refl;
  row_numbers = refl;
  unit_numbers = refl;
  book_lines = refl;
  step_lines = refl;
  file_numbers = refl;
  unit_causes = refl;
  unopened = refl;
  on_open = refl;
  on_closed = refl;
  malformed_first = refl;
  no_head = unheaded;
  surplus = refl;
  unit_steps = refl;
  too_many = refl;
  header_over = refl;
}
