-- One record is read: the words passed are those of what is found, and what is spelled next is found.
use Rattle.std.proofs.Common.{◌≡◌, ℕ, List, ◌++◌, Option, Some, None, Ok, Err, Result, is_some, refl, sym, ap, subst, ◌∙◌}
use Rattle.std.proofs.lemmas.Bool.{true≢false}
use Rattle.hourfile.specs.Format.{Plain, First, Writable, Spelt, record_words, first}
use Rattle.hourfile.specs.Reading.{Rest, At, found_at, found_next, rest_after, after_next}
use Rattle.hourfile.specs.declared.faults.Cause.{Cause}
use Rattle.hourfile.specs.declared.faults.FileFault.{FileFault}
use Rattle.hourfile.proofs.Spelling.{first_spelt, first_back}

-- the record that was found, if one was
abbrev got : Result (Option At) FileFault → Option At
got (Ok o) = o
got (Err fault) = None

abbrev record_of_at : Option At → Plain → Plain
record_of_at None r = r
record_of_at (Some at) r = at.found

found_first : (place : ℕ) (o : Result (Option First) Cause) (at : At) → found_at place o ≡ Ok (Some at) → (f : First) × (o ≡ Ok (Some f)) × (f.found ≡ at.found)
found_first place (Ok None) at h = absurd (true≢false (sym (ap (λ r. is_some (got r)) h)))
found_first place (Ok (Some f)) at h = (f, refl, ap (λ r. record_of_at (got r) f.found) h)
found_first place (Err cause) at h = absurd (true≢false (sym (ap (λ r. is_some (got r)) h)))

pub next_spelt : (r : Rest) (at : At) → found_next r ≡ Ok (Some at) → Spelt r.words (record { found = at.found; rest = (after_next r).words })
next_spelt r at h =
    let (f, one, same) = found_first r.place (first r.words) at h in
    let rest : (after_next r).words ≡ f.rest = ap (λ o. (rest_after r o).words) one in
    subst (Spelt r.words) (ap (λ p. let x : First = record { found = p; rest = f.rest } in x) same ∙ ap (λ ws. let x : First = record { found = at.found; rest = ws } in x) (sym rest)) (first_spelt r.words f one)

pub next_again : (r : Rest) (found : Plain) (rest : List ℕ) → Writable found → r.words ≡ record_words found ++ rest → (found_next r ≡ Ok (Some (record { found = found; place = r.place }))) × ((after_next r).words ≡ rest)
next_again r found rest w h =
    let one = ap first h ∙ first_back found rest w in
    (ap (found_at r.place) one, ap (λ o. (rest_after r o).words) one)
