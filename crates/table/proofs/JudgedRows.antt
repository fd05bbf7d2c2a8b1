-- The first row of the table of refusals that applies turns a call down.
use Rattle.std.proofs.Common.{◌≡◌, ℕ, ◌+◌, ◌<◌, ◌≤◌, max, Bool, true, false, cond, not, ◌||◌, eqb, ltb, List, [], ◌∷◌, ◌++◌, length, Some, None, Ok, Err, Option, Result, sym, refl, ap, ◌∙◌, subst, ⊎_elim, arith}
use Rattle.std.proofs.lemmas.Bool.{cases_eq, cases_lt, ne_eqb, true≢false, lt-ltb, le-ltb, or_left, or_right, or_from}
use Rattle.std.specs.List.{count_by, find, list_any}
use Rattle.settlement.specs.declared.readings.CompetitiveEnergies.{CompetitiveEnergies}
use Rattle.settlement.specs.declared.readings.Control.{Control}
use Rattle.std.specs.Result.{result_err}
use Rattle.table.proofs.EachCounts.{plants_counted, units_counted, buyers_counted, commitments_counted}
use Rattle.table.specs.Effects.{unless}
use Rattle.table.specs.EntriesCount.{adds_a_plant, adds_a_unit, adds_a_buyer, commits}
use Rattle.table.specs.Entries.{View, rows, lacks, lacks_unit}
use Rattle.table.specs.History.{units_in, buyers_in, commitments_of, sold_in, view_in, number_in, answer_in}
use Rattle.table.specs.Metered.{reading_answer_in}
use Rattle.table.specs.Readings.{greatest_energy, greatest_control, greatest_adjustment, reading_rows, reading_number}
use Rattle.table.specs.RowsApply.{table_rows, no_such, no_such_unit, applies, controls, applies_to, entry_number, named_number, EntryJudged, ReadingJudged}
use Rattle.table.specs.declared.entries.Entry.{Entry}
use Rattle.table.specs.declared.entries.Entry.TheVariants.{AddPlant, AddCompetitive, AddGuaranteed, Correct, PutAside, TakeBack, AddBuyer, Commit}
use Rattle.table.specs.declared.readings.Reading.{Reading}
use Rattle.table.specs.declared.readings.Reading.TheVariants.{Competitive, Guaranteed, Use}
use Rattle.table.specs.declared.refusals.BookRefusal.{BookRefusal}
use Rattle.table.specs.declared.refusals.BookRefusal.TheVariants.{NoUnit, Energy, Price, OutsideSet, Limited}

-- what the rows look at, counted over the entries
abbrev counted_view : List Entry → View
counted_view h = record {
  plants = count_by adds_a_plant h;
  competitive = count_by (adds_a_unit 1) h;
  guaranteed = count_by (adds_a_unit 2) h;
  buyers = count_by adds_a_buyer h;
  commitments = count_by commits h;
  sold = λ p. sold_in p h;
}

view_counted : (h : List Entry) → view_in h ≡ counted_view h
view_counted h =
    let made = λ (a b c d e : ℕ). let v : View = record { plants = a; competitive = b; guaranteed = c; buyers = d; commitments = e; sold = λ p. sold_in p h } in v in
    ap (λ x. made x (units_in 1 h) (units_in 2 h) (buyers_in h) (length (commitments_of h))) (plants_counted h)
    ∙ ap (λ x. made (count_by adds_a_plant h) x (units_in 2 h) (buyers_in h) (length (commitments_of h))) (units_counted 1 h)
    ∙ ap (λ x. made (count_by adds_a_plant h) (count_by (adds_a_unit 1) h) x (buyers_in h) (length (commitments_of h))) (units_counted 2 h)
    ∙ ap (λ x. made (count_by adds_a_plant h) (count_by (adds_a_unit 1) h) (count_by (adds_a_unit 2) h) x (length (commitments_of h))) (buyers_counted h)
    ∙ ap (made (count_by adds_a_plant h) (count_by (adds_a_unit 1) h) (count_by (adds_a_unit 2) h) (count_by adds_a_buyer h)) (commitments_counted h)

-- no such unit in a group, as the rows ask it
unit_asked : (h : List Entry) (group unit : ℕ) → lacks_unit (counted_view h) group unit ≡ no_such_unit group unit h
unit_asked h group unit =
    ⊎_elim
    (λ (one : group ≡ 1). subst (λ g. lacks_unit (counted_view h) g unit ≡ no_such_unit g unit h) (sym one) refl)
    (λ (not-one : group ≡ 1 → ⊥). ⊎_elim
    (λ (two : group ≡ 2). subst (λ g. lacks_unit (counted_view h) g unit ≡ no_such_unit g unit h) (sym two) refl)
    (λ (not-two : group ≡ 2 → ⊥). outside (eqb group 1) (eqb group 2) (ne_eqb group 1 not-one) (ne_eqb group 2 not-two))
    (cases_eq group 2))
    (cases_eq group 1)
  where
    outside : (one two : Bool) → one ≡ false → two ≡ false → cond one (lacks unit (count_by (adds_a_unit 1) h)) (cond two (lacks unit (count_by (adds_a_unit 2) h)) true) ≡ (not (one || two) || no_such (adds_a_unit group) unit h)
    outside true two a b = absurd (true≢false a)
    outside false true a b = absurd (true≢false b)
    outside false false a b = refl

first_row : (e : Entry) (h : List Entry) → rows (counted_view h) e ≡ find (λ row. applies row e h) table_rows
first_row (AddPlant loss) h = refl
first_row (AddCompetitive plant declared internal) h = refl
first_row (AddGuaranteed plant declared seasonal internal feeds) h = refl
first_row (Correct group unit declared) h = ap (λ b. cond b (Some NoUnit) (cond (ltb 2000000 declared) (Some Energy) None)) (unit_asked h group unit)
first_row (PutAside group unit) h = ap (λ b. cond b (Some NoUnit) None) (unit_asked h group unit)
first_row (TakeBack group unit) h = ap (λ b. cond b (Some NoUnit) None) (unit_asked h group unit)
first_row (AddBuyer loss) h = refl
first_row (Commit plant buyer volume) h = refl

-- an answer is no refusal and a number too
differs : {T E : Type 0} (e : E) (x : T) → ◌≡◌ {A = Result T E} (Err e) (Ok x) → ⊥
differs e x same = let z : ◌≡◌ {A = ℕ} 0 1 = cc in omega arith

-- an entry's answer, by the entries alone
pub entry_judged : (e : Entry) (h : List Entry) → EntryJudged e h (answer_in e h)
entry_judged e h = record {
  refusal = refused (rows (view_in h) e) ∙ ap (λ v. rows v e) (view_counted h) ∙ first_row e h;
  number = λ n made. numbered e (rows (view_in h) e) n made;
}
  where
    refused : (row : Option BookRefusal) → result_err (unless row Err (Ok (number_in e h))) ≡ row
    refused None = refl
    refused (Some refusal) = refl

    own : (x : Entry) → number_in x h ≡ entry_number x h
    own (AddPlant loss) = ap (λ n. n + 1) (plants_counted h)
    own (AddCompetitive plant declared internal) = ap (λ n. n + 1) (units_counted 1 h)
    own (AddGuaranteed plant declared seasonal internal feeds) = ap (λ n. n + 1) (units_counted 2 h)
    own (Correct group unit declared) = refl
    own (PutAside group unit) = refl
    own (TakeBack group unit) = refl
    own (AddBuyer loss) = ap (λ n. n + 1) (buyers_counted h)
    own (Commit plant buyer volume) = ap (λ n. n + 1) (commitments_counted h)

    numbered : (x : Entry) (row : Option BookRefusal) (n : ℕ) → unless row Err (Ok (number_in x h)) ≡ Ok n → n ≡ entry_number x h
    numbered x None n made = let same : number_in x h ≡ n = cc in sym same ∙ own x
    numbered x (Some refusal) n made = absurd (differs refusal n made)

-- the greatest of numbers is over a limit where one of them is
over_either : (m x y : ℕ) → ltb m (max x y) ≡ (ltb m x || ltb m y)
over_either m x y =
    ⊎_elim
    (λ (over : m < x). lt-ltb m (max x y) (omega arith) ∙ sym (or_left _ _ (lt-ltb m x over)))
    (λ (under : x ≤ m). ⊎_elim
    (λ (over : m < y). lt-ltb m (max x y) (omega arith) ∙ sym (or_right _ _ (lt-ltb m y over)))
    (λ (low : y ≤ m). le-ltb m (max x y) (omega arith) ∙ sym (or_from _ _ (le-ltb m x under) (le-ltb m y low)))
    (cases_lt m y))
    (cases_lt m x)

abbrev greatest : ℕ → List ℕ → ℕ
greatest a [] = a
greatest a (x ∷ xs) = greatest (max a x) xs

or_more : (x y z : Bool) → ((x || y) || z) ≡ (x || (y || z))
or_more true y z = refl
or_more false y z = refl

over_any : (m a : ℕ) (xs : List ℕ) → ltb m (greatest a xs) ≡ list_any (ltb m) (a ∷ xs)
over_any m a [] = one (ltb m a)
  where
    one : (b : Bool) → b ≡ (b || false)
    one true = refl
    one false = refl
over_any m a (x ∷ xs) =
    over_any m (max a x) xs ∙ ap (λ b. b || list_any (ltb m) xs) (over_either m a x) ∙ or_more (ltb m a) (ltb m x) (list_any (ltb m) xs)

any_more : (m : ℕ) (xs ys : List ℕ) → (list_any (ltb m) xs || list_any (ltb m) ys) ≡ list_any (ltb m) (xs ++ ys)
any_more m [] ys = refl
any_more m (x ∷ xs) ys = or_more (ltb m x) (list_any (ltb m) xs) (list_any (ltb m) ys) ∙ ap (λ b. ltb m x || b) (any_more m xs ys)

control_over : (m : ℕ) (c : Control) → ltb m (greatest_control c) ≡ list_any (ltb m) (controls c)
control_over m c = over_any m c.p_act (c.type2 ∷ c.type3 ∷ c.type5 ∷ c.type6 ∷ c.type8 ∷ [])

energies_over : (m : ℕ) (e : CompetitiveEnergies) (c : Control) → ltb m (max (greatest_energy e) (greatest_control c)) ≡ list_any (ltb m) (e.net ∷ e.accepted ∷ e.lost ∷ e.limited ∷ e.executed ∷ controls c)
energies_over m e c =
    over_either m (greatest_energy e) (greatest_control c)
    ∙ ap (λ b. b || ltb m (greatest_control c)) (over_any m e.net (e.accepted ∷ e.lost ∷ e.limited ∷ e.executed ∷ []))
    ∙ ap (λ b. list_any (ltb m) (e.net ∷ e.accepted ∷ e.lost ∷ e.limited ∷ e.executed ∷ []) || b) (control_over m c)
    ∙ any_more m (e.net ∷ e.accepted ∷ e.lost ∷ e.limited ∷ e.executed ∷ []) (controls c)

first_reading_row : (r : Reading) (h : List Entry) → reading_rows (counted_view h) r ≡ find (λ row. applies_to row r h) table_rows
first_reading_row (Competitive unit r) h =
    ap (λ b. row b (ltb 100000000 (greatest_adjustment r.adjustments))) (energies_over 2000000 r.energies r.control)
    ∙ ap (row (applies_to Energy (Competitive unit r) h)) (over_any 100000000 r.adjustments.opportunity (r.adjustments.planning ∷ r.adjustments.cooperation ∷ []))
  where
    row : Bool → Bool → Option BookRefusal
    row energy price =
        cond (no_such (adds_a_unit 1) unit h) (Some NoUnit)
        (cond energy (Some Energy)
        (cond price (Some Price)
        (cond (applies_to OutsideSet (Competitive unit r) h) (Some OutsideSet)
        (cond (applies_to Limited (Competitive unit r) h) (Some Limited) None))))
first_reading_row (Guaranteed unit r) h =
    ap (λ b. cond (no_such (adds_a_unit 2) unit h) (Some NoUnit) (cond b (Some Energy) (cond (applies_to OutsideSet (Guaranteed unit r) h) (Some OutsideSet) None)))
    (over_either 2000000 r.net (greatest_control r.control) ∙ ap (λ b. ltb 2000000 r.net || b) (control_over 2000000 r.control))
first_reading_row (Use buyer used) h = refl

-- a reading's answer, by the entries alone
pub reading_judged : (r : Reading) (h : List Entry) → ReadingJudged r h (reading_answer_in (view_in h) r)
reading_judged r h = record {
  refusal = refused (reading_rows (view_in h) r) ∙ ap (λ v. reading_rows v r) (view_counted h) ∙ first_reading_row r h;
  number = λ n made. numbered (reading_rows (view_in h) r) n made;
}
  where
    refused : (row : Option BookRefusal) → result_err (unless row Err (Ok (reading_number r))) ≡ row
    refused None = refl
    refused (Some refusal) = refl

    own : (x : Reading) → reading_number x ≡ named_number x
    own (Competitive unit reading) = refl
    own (Guaranteed unit reading) = refl
    own (Use buyer used) = refl

    numbered : (row : Option BookRefusal) (n : ℕ) → unless row Err (Ok (reading_number r)) ≡ Ok n → n ≡ named_number r
    numbered None n made = let same : reading_number r ≡ n = cc in sym same ∙ own r
    numbered (Some refusal) n made = absurd (differs refusal n made)
