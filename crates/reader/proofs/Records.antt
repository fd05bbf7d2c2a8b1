-- What is spelled by records is read as these records, one call each.
use Rattle.std.proofs.Common.{◌≡◌, ℕ, zero, suc, ◌+◌, ◌*◌, ◌%◌, ◌<◌, ◌≤◌, ◌||◌, false, not, List, [], ◌∷◌, ◌++◌, length, get_or, Ok, Err, nat_lt, ◌==◌, refl, ap, ◌∙◌, arith, length-append}
use Rattle.std.proofs.lemmas.Bool.{cond-false, le-ltb, eq-eqb, or_from}
use mathlib.Core.Path.{fun_ext}
use Rattle.std.specs.List.{flat_map}
use Rattle.hourfile.proofs.Advancing.{next_again}
use Rattle.hourfile.proofs.Spelling.{first_back}
use Rattle.hourfile.specs.Format.{Plain, Writable, record_words}
use Rattle.hourfile.specs.Reading.{Rest, found_next, rest_after, after_next, file_words}
use Rattle.hourfile.specs.declared.faults.Cause.TheVariants.{Length}
use Rattle.reader.specs.Outcome.{Outcome, go_on, found_there, read_on, read_from, outcome, records_read, FileOf}
use Rattle.reader.specs.Progress.{Progress, call}
use Rattle.reader.specs.Progress.Progress.{Unopened}

-- the rest after a record that is spelled there
after_is : (r : Plain) (rest ws : List ℕ) (place : ℕ) → Writable r → ws ≡ record_words r ++ rest → after_next (record { words = ws; place = place }) ≡ record { words = rest; place = place + 4 * (1 + length r.values) }
after_is r rest ws place w is =
    let long = length-append r.values rest in
    let made : (k : ℕ) → Rest = λ k. record { words = rest; place = k } in
    ap (λ x. after_next (record { words = x; place = place })) is
    ∙ ap (rest_after (record { words = record_words r ++ rest; place = place })) (first_back r rest w)
    ∙ ap made (omega (arith, long))

read_all : (n : ℕ) (rs : List Plain) (ws : List ℕ) (place : ℕ) (p : Progress) → length ws ≤ n → ((i : ℕ) → i < length rs → Writable (get_or rs i (record { kind = 0; values = [] }))) → ws ≡ flat_map record_words rs → read_on n (record { words = ws; place = place }) p ≡ records_read place p rs
unfolding read_on records_read
read_all zero [] ws place p few w is = refl
read_all (suc n) [] ws place p few w is =
    ap (λ x. found_there (read_on n (after_next (record { words = ws; place = place }))) place p (found_next (record { words = x; place = place }))) is
read_all zero (r ∷ rs) ws place p few w is = absurd (omega (arith, few, ap length is))
read_all (suc n) (r ∷ rs) ws place p few w is =
    let rest = flat_map record_words rs in
    let one = w 0 (omega arith) in
    let step : Rest = record { words = ws; place = place } in
    let found = (next_again step r rest one is).0 in
    let after = after_is r rest ws place one is in
    let long = ap length is in
    let fewer : length rest ≤ n = omega (arith, few, long, length-append r.values rest) in
    ap (λ x. found_there (read_on n (after_next step)) place p x) found
    ∙ ap (λ (f : Progress → Outcome). go_on f p place (call p r))
    (fun_ext (λ q. ap (λ x. read_on n x q) after ∙ read_all n rs rest (place + 4 * (1 + length r.values)) q fewer (λ i lt. w (suc i) (omega (arith, lt))) refl))

pub records_outcome : (rs : List Plain) (file : List ℕ) → FileOf rs file → outcome file ≡ records_read 0 Unopened rs
records_outcome rs file f =
    let bad : (nat_lt 65536 (length file) || not (length file % 4 == 0)) ≡ false = or_from _ _ (le-ltb 65536 (length file) f.short) (ap not (eq-eqb _ _ f.whole)) in
    let begun : Rest = record { words = file_words file; place = 0 } in
    ap read_from (cond-false (nat_lt 65536 (length file) || not (length file % 4 == 0)) (Err (record { cause = Length; place = 0 })) (Ok begun) bad)
    ∙ read_all (length (file_words file)) rs (file_words file) 0 Unopened (omega arith) f.writable f.words
