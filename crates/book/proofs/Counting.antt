-- What the accepted calls of an hour count for.
use Rattle.std.proofs.Common.{◌≡◌, ℕ, ◌+◌, cond, eqb, List, ◌∷◌, ◌++◌, refl, ap, ◌∙◌, arith}
use Rattle.std.proofs.lemmas.Bool.{eq-eqb, ne_eqb, cond-true, cond-false}
use Rattle.std.proofs.lemmas.List.Sums.{sum_by-append}
use Rattle.settling.proofs.Nets.{bought_sum, sold_sum}
use Rattle.settling.specs.Figures.{bought_of, bought_by}
use Rattle.table.proofs.Accepted.{all_named}
use Rattle.table.proofs.EachCounts.{made_by, commitments_more, commitments_split, entries_count}
use Rattle.table.proofs.JudgedRows.{entry_judged, reading_judged}
use Rattle.table.proofs.LastReadings.{readings_count}
use Rattle.table.specs.History.{plants_in, buyers_in, commitments_of, Proper}
use Rattle.table.specs.declared.entries.Entry.{Entry}
use Rattle.table.specs.declared.entries.Entry.TheVariants.{AddPlant, AddCompetitive, AddGuaranteed, Correct, PutAside, TakeBack, AddBuyer, Commit}
use Rattle.table.specs.declared.readings.Reading.{Reading}
use Rattle.book.specs.Counts.{bought_in, EachBought, CallsCount}

bought_split : (later before : List Entry) (b : ℕ) → bought_in b (later ++ before) ≡ bought_in b before + bought_in b later
bought_split later before b =
    ap (bought_by b) (commitments_split later before) ∙ sum_by-append (bought_of b) (commitments_of before) (commitments_of later)

bought_more : (e : Entry) (h : List Entry) (b : ℕ) → bought_in b (e ∷ h) ≡ bought_in b h + bought_by b (made_by e)
bought_more e h b = ap (bought_by b) (commitments_more e h) ∙ sum_by-append (bought_of b) (commitments_of h) (made_by e)

each_bought : (h : List Entry) → Proper h → EachBought h
each_bought h ok = record {
  own = λ later before p b v made.
      let all : bought_in b h ≡ bought_in b (later ++ (Commit p b v ∷ before)) = ap (bought_in b) made in
      let one : bought_by b (made_by (Commit p b v)) ≡ v = own_volume p b v in
      omega (arith, all, one, bought_split later (Commit p b v ∷ before) b, bought_split later before b, bought_more (Commit p b v) before b);
  others = λ later before e b made other.
      let all : bought_in b h ≡ bought_in b (later ++ (e ∷ before)) = ap (bought_in b) made in
      omega (arith, all, none e b other, bought_split later (e ∷ before) b, bought_split later before b, bought_more e before b);
  nothing = λ made b. ap (bought_in b) made;
  all_sold = sold_sum (plants_in h) (buyers_in h) (commitments_of h) (all_named h ok);
  all_bought = bought_sum (plants_in h) (buyers_in h) (commitments_of h) (all_named h ok);
}
  where
    own_volume : (p b v : ℕ) → bought_by b (made_by (Commit p b v)) ≡ v
    own_volume p b v = let own : cond (eqb b b) v 0 ≡ v = cond-true _ _ _ (eq-eqb b b refl) in omega (arith, own)

    none : (e : Entry) (b : ℕ) → ((p v : ℕ) → (e ≡ Commit p b v) → ⊥) → bought_by b (made_by e) ≡ 0
    none (AddPlant loss) b other = refl
    none (AddCompetitive plant declared internal) b other = refl
    none (AddGuaranteed plant declared seasonal internal feeds) b other = refl
    none (Correct group unit declared) b other = refl
    none (PutAside group unit) b other = refl
    none (TakeBack group unit) b other = refl
    none (AddBuyer loss) b other = refl
    none (Commit plant buyer volume) b other =
        let off : cond (eqb buyer b) volume 0 ≡ 0 = cond-false _ _ _ (ne_eqb buyer b (λ same. other plant volume (ap (λ x. Commit plant x volume) same))) in
        omega (arith, off)

pub calls_count : (h : List Entry) (rs : List Reading) → Proper h → CallsCount h rs
calls_count h rs ok = record {
  entries = entries_count h ok;
  bought = each_bought h ok;
  readings = readings_count rs;
  entry = λ e. entry_judged e h;
  reading = λ r. reading_judged r h;
}
