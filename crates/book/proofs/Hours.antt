-- What an hour stands for goes from call to call.
use Rattle.std.proofs.Common.{◌≡◌, ℕ, zero, suc, min, cond, eqb, List, [], ◌∷◌, map, length, ◌+◌, get_or, take, Ok, Err, Result, refl, sym, ap, ◌∙◌, subst, ⊎_elim, arith}
use Rattle.std.proofs.lemmas.Bool.{cases_lt}
use Rattle.std.proofs.lemmas.List.{length-map}
use mathlib.Core.Path.{fun_ext}
use Rattle.allocation.specs.Groups.{Group, price_at, total}
use Rattle.allocation.specs.Laws.{Split}
use Rattle.curves.specs.declared.refusals.CurveRefusal.{CurveRefusal}
use Rattle.settlement.specs.declared.payments.PaidUnit.{PaidUnit}
use Rattle.settling.specs.Figures.{Pay, pay_by, row_payment, offer_payment, paid_case, bill_in}
use Rattle.settling.specs.Ledger.{UnitCase, ledger_of}
use Rattle.settling.specs.Settled.{GroupSettled, Settled}
use Rattle.settling.specs.declared.header.Header.{Header}
use Rattle.settling.specs.declared.rows.PriceRow.{PriceRow}
use Rattle.table.proofs.Accepted.{next_proper, accepted_proper}
use Rattle.table.proofs.Empty.{empty_stands, empty_unread}
use Rattle.table.proofs.JudgedRows.{entry_judged, reading_judged}
use Rattle.table.proofs.Kept.{entry_unread, closed_stands, closed_metered, reading_stands, reading_law}
use Rattle.table.proofs.Laws.{closing_law}
use Rattle.table.proofs.Meters.{reading_metered}
use Rattle.table.proofs.Standing.{entry_stands}
use Rattle.table.proofs.Turns.{entries_stand, entries_unread, answer_same, readings_stand, readings_law, readings_metered, reading_answer_same}
use Rattle.table.proofs.Views.{view_same, rows_same}
use Rattle.table.specs.Closing.{Closed}
use Rattle.table.specs.ClosingLaw.{group_in, share_one_of, share_two_of, amount_in, ClosingLaw}
use Rattle.table.specs.Effects.{answer_of, after_entry, after_entries, priced_answer, after_priced, unless}
use Rattle.table.specs.Entries.{rows}
use Rattle.table.specs.History.{UnitsStand, CommitmentsStand, SoldStands, Stands, view_in, next_history, accepted, empty_table, sold_in}
use Rattle.table.specs.Places.{buyer_at}
use Rattle.table.specs.Rows.{UnitTable}
use Rattle.table.specs.Metered.{Metered, next_readings, accepted_readings}
use Rattle.table.specs.Readings.{reading_answer, after_reading, after_readings}
use Rattle.table.specs.RowsApply.{EntryJudged, ReadingJudged}
use Rattle.table.specs.Turns.{Answers, EntriesAnswered, ReadingsAnswered}
use Rattle.table.specs.declared.entries.Entry.{Entry}
use Rattle.table.specs.declared.entries.Entry.TheVariants.{AddPlant, AddCompetitive}
use Rattle.table.specs.declared.readings.Reading.{Reading}
use Rattle.table.specs.declared.readings.Reading.TheVariants.{Use}
use Rattle.table.specs.declared.records.Buyer.{Buyer}
use Rattle.table.specs.declared.records.Plant.{Plant}
use Rattle.table.specs.declared.records.Table.{Table}
use Rattle.table.specs.declared.refusals.BookRefusal.{BookRefusal}
use Rattle.table.specs.declared.refusals.UnitRefusal.{UnitRefusal}
use Rattle.table.specs.declared.refusals.UnitRefusal.TheVariants.{Book, Rows}
use Rattle.book.proofs.Only.{only_figures}
use Rattle.book.proofs.Settles.{settled_law}
use Rattle.book.specs.Hours.{Prices, Offers, offers_by, row_by, rows_by, pay_in, ClosingLawBy, OpenTable, ClosedTable, SettledTable, IsOpen, IsClosed}
use Rattle.book.specs.Law.{EntriesJudgedFrom, ReadingsJudgedBy, RowsOf}
use Rattle.book.specs.Taken.{priced_answer_in, next_priced, EntryTaken, PricedTaken, EntriesTaken, ReadingTaken, ReadingsTaken, ClosesBy, SettlesBy}
use Rattle.book.specs.declared.closed.ClosedHour.{ClosedHour}
use Rattle.book.specs.declared.open.OpenHour.{OpenHour}
use Rattle.book.specs.declared.settled.SettledHour.{SettledHour}

-- a row of offers and its list of prices give the same prices
price_same : {O : Type 0} (prices : O → Prices) (offers : List O) (i k : ℕ) → price_at prices offers i k ≡ price_at (λ f. f) (map prices offers) i k
price_same prices [] i k = refl
price_same prices (o ∷ os) zero k = refl
price_same prices (o ∷ os) (suc i) k = price_same prices os i k

group_same : {O : Type 0} (g : ℕ) (prices : O → Prices) (offers : List O) (plant : ℕ) (h : List Entry) → group_in g prices offers plant h ≡ group_in g (λ f. f) (map prices offers) plant h
group_same g prices offers plant h =
    let made = λ (n : ℕ) (price : ℕ → ℕ → ℕ). let x : Group = record { units = min n 128; price = price; limit = (group_in g prices offers plant h).limit } in x in
    ap (λ n. made n (price_at prices offers)) (sym (length-map offers prices))
    ∙ ap (made (length (map prices offers))) (fun_ext (λ i. fun_ext (price_same prices offers i)))

split_as : (g g' : Group) (share share' : ℕ) (amount : ℕ → ℕ) (left : ℕ) → g ≡ g' → share ≡ share' → Split g share amount left → Split g' share' amount left
split_as g g' share share' amount left same shares split =
    subst (λ x. Split x share' amount left) same (subst (λ s. Split g s amount left) shares split)

-- the law of a closed hour by offers is that by their prices
module _ {O P : Type 0} (prices1 : O → Prices) (offers1 : List O) (prices2 : P → Prices) (offers2 : List P) (h : List Entry) where
  shares_same : (share : ℕ → ℕ → ℕ) → share (length offers1) (length offers2) ≡ share (length (map prices1 offers1)) (length (map prices2 offers2))
  shares_same share =
      ap (λ n. share n (length offers2)) (sym (length-map offers1 prices1))
      ∙ ap (share (length (map prices1 offers1))) (sym (length-map offers2 prices2))

  pub law_by_prices : (t : Table) → ClosingLaw prices1 offers1 prices2 offers2 h t → ClosingLawBy (offers_by prices1 offers1 prices2 offers2) h t
  law_by_prices t law place lt =
      let l = law place lt in
      let plant = place + 1 in
      let sold = sold_in plant h in
      let g1 = group_same 1 prices1 offers1 plant h in
      let g2 = group_same 2 prices2 offers2 plant h in
      let one = amount_in 1 plant h t.competitive in
      let two = amount_in 2 plant h t.guaranteed in
      record {
        left1 = l.left1;
        left2 = l.left2;
        one = split_as _ _ _ _ one l.left1 g1 (shares_same (λ m n. share_one_of sold plant m n h)) l.one;
        two = split_as _ _ _ _ two l.left2 g2 (shares_same (λ m n. share_two_of sold plant m n h)) l.two;
        committed = l.committed;
        run = l.run;
        allocated = l.allocated
            ∙ ap (λ x. total x one + total (group_in 2 prices2 offers2 plant h) two) g1
            ∙ ap (λ x. total (group_in 1 (λ f. f) (map prices1 offers1) plant h) one + total x two) g2;
        covers = l.covers;
      }

-- what units are paid by price rows is what they are paid by their prices
row_paid : {O C : Type 0} (offer : O → Prices) (cost : C → Prices) (ceiling : ℕ) (rows : List (PriceRow O C)) (i : ℕ) (u : PaidUnit) → row_payment offer cost ceiling rows i u ≡ row_payment (λ f. f) (λ f. f) ceiling (map (row_by offer cost) rows) i u
row_paid offer cost ceiling [] i u = refl
row_paid offer cost ceiling (r ∷ rs) zero u = refl
row_paid offer cost ceiling (r ∷ rs) (suc i) u = row_paid offer cost ceiling rs i u

offer_paid : {G : Type 0} (offer : G → Prices) (saving : ℕ) (offers : List G) (i billed feeds : ℕ) → offer_payment offer saving offers i billed feeds ≡ offer_payment (λ f. f) saving (map offer offers) i billed feeds
offer_paid offer saving [] i billed feeds = refl
offer_paid offer saving (o ∷ os) zero billed feeds = refl
offer_paid offer saving (o ∷ os) (suc i) billed feeds = offer_paid offer saving os i billed feeds

pub paid_by_prices : {O C G : Type 0} (offer : O → Prices) (cost : C → Prices) (rows : List (PriceRow O C)) (guaranteed : G → Prices) (offers : List G) (header : Header) → pay_by offer cost rows guaranteed offers header ≡ pay_in (rows_by offer cost rows guaranteed offers) header
paid_by_prices offer cost rows guaranteed offers header =
    fun_ext (λ g. fun_ext (λ i. fun_ext (λ (u : UnitCase).
    ap (λ x. cond (eqb g 1) x (offer_payment guaranteed header.saving offers i (bill_in u) u.feeds)) (row_paid offer cost header.ceiling rows i (paid_case u))
    ∙ ap (λ x. cond (eqb g 1) (row_payment (λ f. f) (λ f. f) header.ceiling (map (row_by offer cost) rows) i (paid_case u)) x) (offer_paid guaranteed header.saving offers i (bill_in u) u.feeds))))

pub empty_open : OpenTable [] empty_table
empty_open = record { proper = Prim.tt; stands = empty_stands; unread = empty_unread }

pub entry_open : (e : Entry) (h : List Entry) (t : Table) → OpenTable h t → OpenTable (next_history e h) (after_entry e t)
entry_open e h t o = record {
  proper = next_proper e h o.proper;
  stands = entry_stands e h t o.stands;
  unread = entry_unread e t o.unread;
}

pub entries_open : (es h : List Entry) (t : Table) → OpenTable h t → OpenTable (accepted h es) (after_entries es t)
entries_open es h t o = record {
  proper = accepted_proper h es o.proper;
  stands = entries_stand es h t o.stands;
  unread = entries_unread es t o.unread;
}

pub priced_open : {R : Type 0} (plant declared internal : ℕ) (rows : Result R CurveRefusal) (h : List Entry) (t : Table) → OpenTable h t → OpenTable (next_priced plant declared internal rows h) (after_priced plant declared internal rows t)
priced_open plant declared internal (Ok made) h t o = entry_open (AddCompetitive plant declared internal) h t o
priced_open plant declared internal (Err refused) h t o = o

pub closing_closes : {O P : Type 0} (prices1 : O → Prices) (offers1 : List O) (prices2 : P → Prices) (offers2 : List P) (h : List Entry) (t after : Table) → Closed prices1 offers1 prices2 offers2 t after → OpenTable h t → ClosedTable (offers_by prices1 offers1 prices2 offers2) h [] after
closing_closes prices1 offers1 prices2 offers2 h t after closed o = record {
  proper = o.proper;
  stands = closed_stands prices1 offers1 prices2 offers2 t after closed h o.stands;
  metered = closed_metered prices1 offers1 prices2 offers2 t after closed [] o.unread;
  law = law_by_prices prices1 offers1 prices2 offers2 h after (closing_law prices1 offers1 prices2 offers2 h t after o.proper o.stands closed);
}

pub reading_closed : (r : Reading) (offers : Offers) (h : List Entry) (rs : List Reading) (t : Table) → ClosedTable offers h rs t → ClosedTable offers h (next_readings (view_in h) r rs) (after_reading r t)
reading_closed r offers h rs t c = record {
  proper = c.proper;
  stands = reading_stands r h t c.stands;
  metered = subst (λ v. Metered (next_readings v r rs) (after_reading r t)) (view_same h t c.stands) (reading_metered r rs t c.metered);
  law = reading_law (λ f. f) offers.competitive (λ f. f) offers.guaranteed h t r c.law;
}

pub readings_closed : (more : List Reading) (offers : Offers) (h : List Entry) (rs : List Reading) (t : Table) → ClosedTable offers h rs t → ClosedTable offers h (accepted_readings (view_in h) rs more) (after_readings more t)
readings_closed more offers h rs t c = record {
  proper = c.proper;
  stands = readings_stand more h t c.stands;
  metered = readings_metered more rs h t c.stands c.metered;
  law = readings_law (λ f. f) offers.competitive (λ f. f) offers.guaranteed h more t c.law;
}

-- settling leaves what was entered and read
module _ (header : Header) (pay : Pay) (t after : Table) (settled : Settled header pay t after) where
  units_kept : (g : ℕ) (h : List Entry) (p : ℕ → UnitCase → ℕ) (before next : UnitTable) → GroupSettled p t.plants.rows before next → UnitsStand g h before → UnitsStand g h next
  units_kept g h p before next group s = record {
    room = s.room;
    long = group.same.long ∙ s.long;
    count = group.same.count ∙ s.count;
    rows = λ i lt. group.same.terms i ∙ s.rows i lt;
  }

  pub settled_stands : (h : List Entry) → Stands h t → Stands h after
  settled_stands h s = record {
    plants = record {
      room = s.plants.room;
      long = settled.plants_long ∙ s.plants.long;
      counted = ap (λ (x : Table). x.plants.count) settled.rest ∙ s.plants.counted;
      rows = λ i lt. ap (λ (p : Plant). p.loss) (settled.plants i (omega (arith, s.plants.counted, s.plants.room))) ∙ s.plants.rows i lt;
    };
    competitive = units_kept 1 h (pay 1) t.competitive after.competitive settled.competitive s.competitive;
    guaranteed = units_kept 2 h (pay 2) t.guaranteed after.guaranteed settled.guaranteed s.guaranteed;
    buyers = record {
      room = s.buyers.room;
      long = settled.buyers_long ∙ s.buyers.long;
      counted = ap (λ (x : Table). x.buyers.count) settled.rest ∙ s.buyers.counted;
      rows = λ i lt. ap (λ (b : Buyer). b.loss) (settled.buyers i (omega (arith, s.buyers.counted, s.buyers.room))) ∙ s.buyers.rows i lt;
    };
    commitments = subst (λ (x : Table). CommitmentsStand h x.commitments.count x.commitments.rows) (sym settled.rest) s.commitments;
    sold = subst (λ (x : Table). SoldStands h x.sold) (sym settled.rest) s.sold;
  }

  use_kept : (i : ℕ) → (buyer_at after i).used ≡ (buyer_at t i).used
  use_kept i =
      ⊎_elim
      (λ lt. ap (λ (b : Buyer). b.used) (settled.buyers i lt))
      (λ past. ap (λ (b : Buyer). b.used) (settled.buyers_later i past))
      (cases_lt i (ledger_of t).buyers)

  pub settled_metered : (rs : List Reading) → Metered rs t → Metered rs after
  settled_metered rs m = record {
    competitive_long = settled.competitive.same.long ∙ m.competitive_long;
    guaranteed_long = settled.guaranteed.same.long ∙ m.guaranteed_long;
    buyers_long = settled.buyers_long ∙ m.buyers_long;
    competitive = λ i lt. settled.competitive.same.readings i ∙ m.competitive i lt;
    guaranteed = λ i lt. settled.guaranteed.same.readings i ∙ m.guaranteed i lt;
    uses = λ i lt. use_kept i ∙ m.uses i lt;
  }

-- settling adds no row and drops none
pub settled_rows : (header : Header) (pay : Pay) (h : List Entry) (t after : Table) → Stands h t → Settled header pay t after → RowsOf h after
settled_rows header pay h t after s settled = record {
  plants = ap (λ (x : Table). x.plants.count) settled.rest ∙ s.plants.counted;
  competitive = settled.competitive.same.count ∙ s.competitive.count;
  guaranteed = settled.guaranteed.same.count ∙ s.guaranteed.count;
  buyers = ap (λ (x : Table). x.buyers.count) settled.rest ∙ s.buyers.counted;
}

pub settling_settles : {O C G : Type 0} (offer : O → Prices) (cost : C → Prices) (rows : List (PriceRow O C)) (guaranteed : G → Prices) (row_offers : List G) (header : Header) (offers : Offers) (h : List Entry) (rs : List Reading) (t after : Table) → Settled header (pay_by offer cost rows guaranteed row_offers header) t after → ClosedTable offers h rs t → SettledTable header offers (rows_by offer cost rows guaranteed row_offers) h rs after
settling_settles offer cost rows guaranteed row_offers header offers h rs t after settled c =
    let by = rows_by offer cost rows guaranteed row_offers in
    let pay = pay_in by header in
    let same : Settled header pay t after = subst (λ p. Settled header p t after) (paid_by_prices offer cost rows guaranteed row_offers header) settled in
    let law = settled_law (λ f. f) offers.competitive (λ f. f) offers.guaranteed header pay h c.proper rs t after c.stands c.metered c.law same in
    record {
      proper = c.proper;
      stands = settled_stands header pay t after same h c.stands;
      metered = settled_metered header pay t after same rs c.metered;
      law = law;
      entered = settled_rows header pay h t after c.stands same;
      only = only_figures (λ f. f) offers.competitive (λ f. f) offers.guaranteed header pay h rs after c.proper law;
    }

-- the answers follow from the accepted calls
pub priced_follows : {R : Type 0} (plant declared internal : ℕ) (rows : Result R CurveRefusal) (h : List Entry) (t : Table) → OpenTable h t → priced_answer plant declared internal rows t ≡ priced_answer_in plant declared internal rows h
priced_follows plant declared internal (Ok made) h t o =
    let e = AddCompetitive plant declared internal in
    ap (λ x. unless x (λ r. Err (Book r)) (Ok (t.competitive.count + 1, made))) (rows_same e h t o.stands)
    ∙ ap (λ n. unless (rows (view_in h) e) (λ r. Err (Book r)) (Ok (n + 1, made))) o.stands.competitive.count
priced_follows plant declared internal (Err refused) h t o =
    ap (λ x. unless x (λ r. Err (Book r)) (Err (Rows refused))) (rows_same (AddCompetitive plant declared internal) h t o.stands)

pub entries_follow : (es h : List Entry) (t : Table) (before after : Answers) → OpenTable h t → EntriesAnswered es t before after → EntriesJudgedFrom h es before after
entries_follow es h t before after o a = record {
  answered = λ i lt fits. a.answered i lt fits ∙ answer_same (get_or es i (AddPlant 0)) (accepted h (take i es)) (after_entries (take i es) t) (entries_stand (take i es) h t o.stands);
  others = a.others;
}

pub readings_follow : (more : List Reading) (offers : Offers) (h : List Entry) (rs : List Reading) (t : Table) (before after : Answers) → ClosedTable offers h rs t → ReadingsAnswered more t before after → ReadingsJudgedBy h more before after
readings_follow more offers h rs t before after c a = record {
  answered = λ i lt fits. a.answered i lt fits ∙ reading_answer_same (get_or more i (Use 0 0)) h (after_readings (take i more) t) (readings_stand (take i more) h t c.stands);
  others = a.others;
}

-- a call moves an hour on as it moves tables on
open_moved : (next_h : List Entry → List Entry) (after : Table → Table) → ((h : List Entry) (t : Table) → OpenTable h t → OpenTable (next_h h) (after t)) → (hour next : OpenHour) → next.book.now.table ≡ after hour.book.now.table → next.header ≡ hour.header → (given : Header) (h : List Entry) → IsOpen given h hour → IsOpen given (next_h h) next
open_moved next_h after moves hour next led header given h o = record {
  header = header ∙ o.header;
  table = subst (OpenTable (next_h h)) (sym led) (moves h hour.book.now.table o.table);
}

closed_moved : (next_rs : List Entry → List Reading → List Reading) (after : Table → Table) → ((offers : Offers) (h : List Entry) (rs : List Reading) (t : Table) → ClosedTable offers h rs t → ClosedTable offers h (next_rs h rs) (after t)) → (hour next : ClosedHour) → next.book.now.table ≡ after hour.book.now.table → next.header ≡ hour.header → (given : Header) (offers : Offers) (h : List Entry) (rs : List Reading) → IsClosed given offers h rs hour → IsClosed given offers h (next_rs h rs) next
closed_moved next_rs after moves hour next led header given offers h rs c = record {
  header = header ∙ c.header;
  table = subst (ClosedTable offers h (next_rs h rs)) (sym led) (moves offers h rs hour.book.now.table c.table);
}

-- what each call on an hour promises
pub entry_taken : (entry : Entry) (result : Result ℕ BookRefusal) (hour next : OpenHour) → result ≡ answer_of entry hour.book.now.table → next.book.now.table ≡ after_entry entry hour.book.now.table → next.header ≡ hour.header → next.book.ghost_name ≡ hour.book.ghost_name → EntryTaken entry result hour next
entry_taken entry result hour next answer after header book = record {
  answer = answer;
  after = after;
  header = header;
  book = book;
  follows = λ given h o. answer ∙ answer_same entry h hour.book.now.table o.table.stands;
  judged = λ given h o. subst (EntryJudged entry h) (sym (answer ∙ answer_same entry h hour.book.now.table o.table.stands)) (entry_judged entry h);
  stands = open_moved (next_history entry) (after_entry entry) (entry_open entry) hour next after header;
}

pub priced_taken : {R : Type 0} (plant declared internal : ℕ) (rows : Result R CurveRefusal) (result : Result (ℕ × R) UnitRefusal) (hour next : OpenHour) → result ≡ priced_answer plant declared internal rows hour.book.now.table → next.book.now.table ≡ after_priced plant declared internal rows hour.book.now.table → next.header ≡ hour.header → next.book.ghost_name ≡ hour.book.ghost_name → PricedTaken plant declared internal rows result hour next
priced_taken plant declared internal rows result hour next answer after header book = record {
  answer = answer;
  after = after;
  header = header;
  book = book;
  follows = λ given h o. answer ∙ priced_follows plant declared internal rows h hour.book.now.table o.table;
  stands = open_moved (next_priced plant declared internal rows) (after_priced plant declared internal rows) (priced_open plant declared internal rows) hour next after header;
}

pub entries_taken : (entries : List Entry) (before after_all : Answers) (hour next : OpenHour) → next.book.now.table ≡ after_entries entries hour.book.now.table → EntriesAnswered entries hour.book.now.table before after_all → next.header ≡ hour.header → next.book.ghost_name ≡ hour.book.ghost_name → EntriesTaken entries before after_all hour next
entries_taken entries before after_all hour next after answered header book = record {
  after = after;
  answered = answered;
  header = header;
  book = book;
  follows = λ given h o. entries_follow entries h hour.book.now.table before after_all o.table answered;
  stands = open_moved (λ h. accepted h entries) (after_entries entries) (entries_open entries) hour next after header;
}

pub reading_taken : (reading : Reading) (result : Result ℕ BookRefusal) (hour next : ClosedHour) → result ≡ reading_answer reading hour.book.now.table → next.book.now.table ≡ after_reading reading hour.book.now.table → next.header ≡ hour.header → next.book.ghost_name ≡ hour.book.ghost_name → ReadingTaken reading result hour next
reading_taken reading result hour next answer after header book = record {
  answer = answer;
  after = after;
  header = header;
  book = book;
  follows = λ given offers h rs c. answer ∙ reading_answer_same reading h hour.book.now.table c.table.stands;
  judged = λ given offers h rs c. subst (ReadingJudged reading h) (sym (answer ∙ reading_answer_same reading h hour.book.now.table c.table.stands)) (reading_judged reading h);
  stands = closed_moved (λ h. next_readings (view_in h) reading) (after_reading reading) (reading_closed reading) hour next after header;
}

pub readings_taken : (readings : List Reading) (before after_all : Answers) (hour next : ClosedHour) → next.book.now.table ≡ after_readings readings hour.book.now.table → ReadingsAnswered readings hour.book.now.table before after_all → next.header ≡ hour.header → next.book.ghost_name ≡ hour.book.ghost_name → ReadingsTaken readings before after_all hour next
readings_taken readings before after_all hour next after answered header book = record {
  after = after;
  answered = answered;
  header = header;
  book = book;
  follows = λ given offers h rs c. readings_follow readings offers h rs hour.book.now.table before after_all c.table answered;
  stands = closed_moved (λ h rs. accepted_readings (view_in h) rs readings) (after_readings readings) (readings_closed readings) hour next after header;
}

pub closes : {O P : Type 0} (prices1 : O → Prices) (offers1 : List O) (prices2 : P → Prices) (offers2 : List P) (hour : OpenHour) (next : ClosedHour) → Closed prices1 offers1 prices2 offers2 hour.book.now.table next.book.now.table → next.header ≡ hour.header → ClosesBy (offers_by prices1 offers1 prices2 offers2) hour next
closes prices1 offers1 prices2 offers2 hour next closed header given h o = record {
  header = header ∙ o.header;
  table = closing_closes prices1 offers1 prices2 offers2 h hour.book.now.table next.book.now.table closed o.table;
}

pub settles : {O C G : Type 0} (offer : O → Prices) (cost : C → Prices) (rows : List (PriceRow O C)) (guaranteed : G → Prices) (row_offers : List G) (hour : ClosedHour) (next : SettledHour) → Settled hour.header (pay_by offer cost rows guaranteed row_offers hour.header) hour.book.now.table next.book.now.table → SettlesBy (rows_by offer cost rows guaranteed row_offers) hour next
settles offer cost rows guaranteed row_offers hour next settled given offers h rs c =
    let same = subst (λ x. Settled x (pay_by offer cost rows guaranteed row_offers x) hour.book.now.table next.book.now.table) c.header settled in
    record { table = settling_settles offer cost rows guaranteed row_offers given offers h rs hour.book.now.table next.book.now.table same c.table }
