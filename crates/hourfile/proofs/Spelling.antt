-- What is read is spelled so, and what is spelled so is read.
use Rattle.std.proofs.Common.{◌≡◌, ℕ, ◌+◌, ◌*◌, Bool, true, false, cond, List, [], ◌∷◌, ◌++◌, length, take, drop, Option, Some, None, Ok, Err, Result, nat_le, is_some, refl, sym, ap, subst, ◌∙◌, arith, length-append}
use Rattle.std.proofs.lemmas.Bool.{true≢false, cond-true, le-leb, leb-true}
use Rattle.std.proofs.lemmas.List.{take-append-drop, length-take}
use Rattle.std.proofs.Math.Seq.{take-append_seam, drop-append_seam}
use Rattle.std.proofs.lemmas.Option.{cond_some}
use Rattle.std.specs.Option.{option_map}
use Rattle.hourfile.specs.Words.{kind_of, count_of, all_values}
use Rattle.hourfile.specs.Format.{Plain, First, Writable, record_of, headed_record, first, record_words, or_malformed, Spelt}
use Rattle.hourfile.specs.declared.faults.Cause.{Cause}

chosen : {A : Type 0} (b : Bool) (o : Option A) (y : A) → cond b o None ≡ Some y → (b ≡ true) × (o ≡ Some y)
chosen true o y h = (refl, h)
chosen false o y h = search h

mapped : {A B : Type 0} (g : A → B) (o : Option A) (y : B) → option_map g o ≡ Some y → (x : A) × (o ≡ Some x) × (g x ≡ y)
mapped g None y h = absurd (true≢false (sym (ap is_some h)))
mapped g (Some x) y h = (x, refl, search h)

headed_spelt : (head : ℕ) (rest : List ℕ) (f : First) → headed_record head rest ≡ Some f → Spelt (head ∷ rest) f
headed_spelt head rest f h =
    let n = count_of head in
    let v = take n rest in
    let made : Plain = record { kind = kind_of head; values = v } in
    let a = chosen (nat_le n (length rest)) _ f h in
    let (p, b, c) = mapped _ _ f a.1 in
    let d = chosen (all_values v) _ p b in
    let e = cond_some _ _ _ d.1 in
    let long : length v ≡ n = omega (arith, length-take n rest, leb-true n (length rest) a.0) in
    let front : head ≡ kind_of head * 268435456 + length v = omega (arith, long) in
    let here : First = record { found = made; rest = drop n rest } in
    let spelt : Spelt (head ∷ rest) here = record {
      words = ap (λ w. w ∷ rest) front ∙ ap (λ ws. (kind_of head * 268435456 + length v) ∷ ws) (sym (take-append-drop n rest));
      writable = record { values = d.0; shape = e.0; few = omega (arith, long) };
    } in
    subst (λ x. Spelt (head ∷ rest) x) (ap (λ q. let x : First = record { found = q; rest = drop n rest } in x) e.1 ∙ c) spelt

-- the record that was found, if one was
abbrev found : Result (Option First) Cause → Option First
found (Ok o) = o
found (Err cause) = None

of_whole : (o : Option First) (f : First) → or_malformed o ≡ Ok (Some f) → o ≡ Some f
of_whole None f h = absurd (true≢false (sym (ap (λ r. is_some (found r)) h)))
of_whole (Some x) f h = ap found h

pub first_spelt : (ws : List ℕ) (f : First) → first ws ≡ Ok (Some f) → Spelt ws f
first_spelt [] f h = absurd (true≢false (sym (ap (λ r. is_some (found r)) h)))
first_spelt (head ∷ rest) f h = headed_spelt head rest f (of_whole (headed_record head rest) f h)

-- a record is read from its own words: its head counts the values that follow it
headed_back : (r : Plain) (rest : List ℕ) → Writable r → headed_record (r.kind * 268435456 + length r.values) (r.values ++ rest) ≡ Some (record { found = r; rest = rest })
headed_back r rest w =
    let head = r.kind * 268435456 + length r.values in
    let kind : kind_of head ≡ r.kind = omega (arith, w.few) in
    let count : count_of head ≡ length r.values = omega (arith, w.few) in
    let long = length-append r.values rest in
    let front : take (count_of head) (r.values ++ rest) ≡ r.values = ap (λ n. take n (r.values ++ rest)) count ∙ take-append_seam r.values rest in
    let back : drop (count_of head) (r.values ++ rest) ≡ rest = ap (λ n. drop n (r.values ++ rest)) count ∙ drop-append_seam r.values rest in
    let made : record_of (kind_of head) (take (count_of head) (r.values ++ rest)) ≡ Some r =
    ap (λ k. record_of k (take (count_of head) (r.values ++ rest))) kind ∙ ap (record_of r.kind) front
    ∙ cond-true _ _ _ w.values ∙ cond-true _ _ _ w.shape in
    cond-true _ _ _ (le-leb (count_of head) (length (r.values ++ rest)) (omega (arith, count, long)))
    ∙ ap (option_map (λ p. let x : First = record { found = p; rest = drop (count_of head) (r.values ++ rest) } in x)) made
    ∙ ap (λ ws. let x : Option First = Some (record { found = r; rest = ws }) in x) back

pub first_back : (r : Plain) (rest : List ℕ) → Writable r → first (record_words r ++ rest) ≡ Ok (Some (record { found = r; rest = rest }))
first_back r rest w = ap or_malformed (headed_back r rest w)
