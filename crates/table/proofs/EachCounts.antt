-- Which accepted entry counts: those that come later leave what they don't name.
use Rattle.std.proofs.Common.{◌≡◌, ℕ, ◌+◌, ◌<◌, ◌≤◌, Bool, true, false, cond, ◌&&◌, eqb, List, [], ◌∷◌, ◌++◌, length, get_or, Some, None, sym, refl, ap, ◌∙◌, subst, ⊎_elim, arith, length-append, append-nil, append_assoc}
use Rattle.std.proofs.Math.Seq.{get_or-append_seam}
use Rattle.std.proofs.lemmas.List.{get_or_append_left}
use Rattle.std.proofs.lemmas.Bool.{cases_eq, eq-eqb, ne_eqb, cond-true, cond-false, and_from, and_left, and_right, true≢false}
use Rattle.std.proofs.lemmas.List.Sums.{sum_by-cons}
use Rattle.std.specs.List.{count_by}
use Rattle.table.proofs.Accepted.{accepted_proper}
use Rattle.table.proofs.Standing.{no_row, there}
use Rattle.table.specs.EntriesCount.{NoneOf, adds_a_plant, adds_a_unit, adds_a_buyer, commits, Corrects, Moves, AddedUnit, LastCounts, Numbered, EachSold, EntriesCount}
use Rattle.table.specs.Entries.{lacks, lacks_unit, sold_by}
use Rattle.table.specs.History.{adds_plant, adds_unit, adds_buyer, plants_in, units_in, buyers_in, commitments_of, sold_in, loss_in, buyer_loss_in, unit_in, view_in, accepted, Proper}
use Rattle.table.specs.Rows.{new_unit, corrected, moved}
use Rattle.table.specs.declared.entries.Entry.{Entry}
use Rattle.table.specs.declared.entries.Entry.TheVariants.{AddPlant, AddCompetitive, AddGuaranteed, Correct, PutAside, TakeBack, AddBuyer, Commit}
use Rattle.table.specs.declared.records.Commitment.{Commitment}
use Rattle.table.specs.declared.records.UnitRecord.{UnitRecord}

-- what no later entry changes stays, and a count only grows
all_leave : {X : Type 0} (see : List Entry → X) (base : List Entry) → ((e : Entry) (l : List Entry) → see (e ∷ (l ++ base)) ≡ see (l ++ base)) → (later : List Entry) → see (later ++ base) ≡ see base
all_leave see base leaves [] = refl
all_leave see base leaves (e ∷ later) = leaves e later ∙ all_leave see base leaves later

all_grow : (count : List Entry → ℕ) (base : List Entry) → ((e : Entry) (h : List Entry) → count h ≤ count (e ∷ h)) → (later : List Entry) → count base ≤ count (later ++ base)
all_grow count base grows [] = omega arith
all_grow count base grows (e ∷ later) = omega (arith, grows e (later ++ base), all_grow count base grows later)

-- what is seen of a unit stays while no entry is of a kind
module _ {Y : Type 0} (see : UnitRecord → Y) (kind : Entry → Type 0) (g n : ℕ) (corrects : (group unit d : ℕ) → (kind (Correct group unit d) → ⊥) → group ≡ g → unit ≡ n → (u : UnitRecord) → see (corrected d u) ≡ see u) (puts : (group unit : ℕ) → (kind (PutAside group unit) → ⊥) → group ≡ g → unit ≡ n → (u : UnitRecord) → see (moved true u) ≡ see u) (takes : (group unit : ℕ) → (kind (TakeBack group unit) → ⊥) → group ≡ g → unit ≡ n → (u : UnitRecord) → see (moved false u) ≡ see u) where
  change_leaves : (group unit : ℕ) (f : UnitRecord → UnitRecord) (u : UnitRecord) → (group ≡ g → unit ≡ n → see (f u) ≡ see u) → see (cond (eqb g group && eqb n unit) (f u) u) ≡ see u
  change_leaves group unit f u same =
      ⊎_elim
      (λ (here : g ≡ group). ⊎_elim
      (λ (own : n ≡ unit). ap see (cond-true _ _ _ (and_from _ _ (eq-eqb g group here) (eq-eqb n unit own))) ∙ same (sym here) (sym own))
      (λ (other : n ≡ unit → ⊥). ap see (cond-false _ _ _ (and_right _ _ (ne_eqb n unit other))))
      (cases_eq n unit))
      (λ (other : g ≡ group → ⊥). ap see (cond-false _ _ _ (and_left _ _ (ne_eqb g group other))))
      (cases_eq g group)

  adding_leaves : (own : ℕ) (new : UnitRecord) (h : List Entry) → n ≤ units_in g h → see (cond (eqb g own && eqb n (units_in own h + 1)) new (unit_in g n h)) ≡ see (unit_in g n h)
  adding_leaves own new h le =
      ⊎_elim
      (λ (here : g ≡ own).
      let at : units_in g h ≡ units_in own h = ap (λ x. units_in x h) here in
      ap see (cond-false _ _ _ (and_right _ _ (ne_eqb n (units_in own h + 1) (λ same. omega arith)))))
      (λ (other : g ≡ own → ⊥). ap see (cond-false _ _ _ (and_left _ _ (ne_eqb g own other))))
      (cases_eq g own)

  one_later : (e : Entry) (h : List Entry) → n ≤ units_in g h → (kind e → ⊥) → see (unit_in g n (e ∷ h)) ≡ see (unit_in g n h)
  one_later (AddPlant loss) h le unlike = refl
  one_later (AddCompetitive plant declared internal) h le unlike = adding_leaves 1 (new_unit plant declared None internal 0) h le
  one_later (AddGuaranteed plant declared seasonal internal feeds) h le unlike = adding_leaves 2 (new_unit plant declared (Some seasonal) internal feeds) h le
  one_later (Correct group unit declared) h le unlike =
      change_leaves group unit (corrected declared) (unit_in g n h) (λ here own. corrects group unit declared unlike here own (unit_in g n h))
  one_later (PutAside group unit) h le unlike =
      change_leaves group unit (moved true) (unit_in g n h) (λ here own. puts group unit unlike here own (unit_in g n h))
  one_later (TakeBack group unit) h le unlike =
      change_leaves group unit (moved false) (unit_in g n h) (λ here own. takes group unit unlike here own (unit_in g n h))
  one_later (AddBuyer loss) h le unlike = refl
  one_later (Commit plant buyer volume) h le unlike = refl

  pub all_later : (later before : List Entry) → n ≤ units_in g before → NoneOf kind later → see (unit_in g n (later ++ before)) ≡ see (unit_in g n before)
  all_later [] before le none = refl
  all_later (e ∷ later) before le none =
      one_later e (later ++ before) (omega (arith, all_grow (units_in g) before (λ x h. omega arith) later)) none.0 ∙ all_later later before le none.1

-- the earlier entries of a proper history are a proper one
proper_before : (later before : List Entry) → Proper (later ++ before) → Proper before
proper_before [] before ok = ok
proper_before (e ∷ later) before ok = proper_before later before ok.1

-- an entry that names a unit names one that is there
unit_there : (h : List Entry) (g n : ℕ) → lacks_unit (view_in h) g n ≡ false → n ≤ units_in g h
unit_there h g n has =
    ⊎_elim
    (λ (one : g ≡ 1).
    let at : units_in g h ≡ units_in 1 h = ap (λ x. units_in x h) one in
    omega (arith, at, (there n (units_in 1 h) (sym (cond-true _ _ _ (eq-eqb g 1 one)) ∙ has)).1))
    (λ (not-one : g ≡ 1 → ⊥).
    let rest : cond (eqb g 2) (lacks n (units_in 2 h)) true ≡ false = sym (cond-false _ _ _ (ne_eqb g 1 not-one)) ∙ has in
    ⊎_elim
    (λ (two : g ≡ 2).
    let at : units_in g h ≡ units_in 2 h = ap (λ x. units_in x h) two in
    omega (arith, at, (there n (units_in 2 h) (sym (cond-true _ _ _ (eq-eqb g 2 two)) ∙ rest)).1))
    (λ (not-two : g ≡ 2 → ⊥). absurd (true≢false (sym (cond-false _ _ _ (ne_eqb g 2 not-two)) ∙ rest)))
    (cases_eq g 2))
    (cases_eq g 1)

named : (g n : ℕ) → (eqb g g && eqb n n) ≡ true
named g n = and_from _ _ (eq-eqb g g refl) (eq-eqb n n refl)

last_counts : (h : List Entry) → Proper h → LastCounts h
last_counts h ok = record {
  corrected = λ later before g n declared made none.
      let all = subst Proper made ok in
      let known = (proper_before later (Correct g n declared ∷ before) all).0 in
      let le = unit_there before g n (no_row _ _ _ known).0 in
      ap (λ l. (unit_in g n l).declared) made
      ∙ all_later (λ (u : UnitRecord). u.declared) (Corrects g n) g n (λ group unit d unlike here own u. absurd (unlike (here, own))) (λ group unit unlike here own u. refl) (λ group unit unlike here own u. refl) later (Correct g n declared ∷ before) (omega (arith, le)) none
      ∙ ap (λ (u : UnitRecord). u.declared) (cond-true _ _ _ (named g n));
  put_aside = λ later before g n made none.
      let all = subst Proper made ok in
      let known = (proper_before later (PutAside g n ∷ before) all).0 in
      let le = unit_there before g n (no_row _ _ _ known).0 in
      ap (λ l. (unit_in g n l).aside) made
      ∙ all_later (λ (u : UnitRecord). u.aside) (Moves g n) g n (λ group unit d unlike here own u. refl) (λ group unit unlike here own u. absurd (unlike (here, own))) (λ group unit unlike here own u. absurd (unlike (here, own))) later (PutAside g n ∷ before) (omega (arith, le)) none
      ∙ ap (λ (u : UnitRecord). u.aside) (cond-true _ _ _ (named g n));
  taken_back = λ later before g n made none.
      let all = subst Proper made ok in
      let known = (proper_before later (TakeBack g n ∷ before) all).0 in
      let le = unit_there before g n (no_row _ _ _ known).0 in
      ap (λ l. (unit_in g n l).aside) made
      ∙ all_later (λ (u : UnitRecord). u.aside) (Moves g n) g n (λ group unit d unlike here own u. refl) (λ group unit unlike here own u. absurd (unlike (here, own))) (λ group unit unlike here own u. absurd (unlike (here, own))) later (TakeBack g n ∷ before) (omega (arith, le)) none
      ∙ ap (λ (u : UnitRecord). u.aside) (cond-true _ _ _ (named g n));
}

-- a unit that is added, as it stands after later entries
added_unit : (g n : ℕ) (new : UnitRecord) (later base : List Entry) → n ≤ units_in g base → unit_in g n base ≡ new → new.aside ≡ false → AddedUnit g n new.plant new.declared new.seasonal new.internal new.feeds later (later ++ base)
added_unit g n new later base le first stands = record {
  plant = always (λ (u : UnitRecord). u.plant) (λ d u. refl) (λ u. refl) (λ u. refl);
  seasonal = always (λ (u : UnitRecord). u.seasonal) (λ d u. refl) (λ u. refl) (λ u. refl);
  internal = always (λ (u : UnitRecord). u.internal) (λ d u. refl) (λ u. refl) (λ u. refl);
  feeds = always (λ (u : UnitRecord). u.feeds) (λ d u. refl) (λ u. refl) (λ u. refl);
  declared = λ none. all_later (λ (u : UnitRecord). u.declared) (Corrects g n) g n (λ group unit d unlike here own u. absurd (unlike (here, own))) (λ group unit unlike here own u. refl) (λ group unit unlike here own u. refl) later base le none ∙ ap (λ (u : UnitRecord). u.declared) first;
  aside = λ none. all_later (λ (u : UnitRecord). u.aside) (Moves g n) g n (λ group unit d unlike here own u. refl) (λ group unit unlike here own u. absurd (unlike (here, own))) (λ group unit unlike here own u. absurd (unlike (here, own))) later base le none ∙ ap (λ (u : UnitRecord). u.aside) first ∙ stands;
}
  where
    never : (l : List Entry) → NoneOf (λ e. ⊥) l
    never [] = Prim.tt
    never (e ∷ l) = (λ (x : ⊥). x, never l)

    always : {Y : Type 0} (see : UnitRecord → Y) → ((d : ℕ) (u : UnitRecord) → see (corrected d u) ≡ see u) → ((u : UnitRecord) → see (moved true u) ≡ see u) → ((u : UnitRecord) → see (moved false u) ≡ see u) → see (unit_in g n (later ++ base)) ≡ see new
    always see corrects puts takes =
        all_later see (λ e. ⊥) g n (λ group unit d unlike here own u. corrects d u) (λ group unit unlike here own u. puts u) (λ group unit unlike here own u. takes u) later base le (never later) ∙ ap see first

-- the commitment that an entry makes, if it makes one
abbrev pub made_by : Entry → List Commitment
made_by (Commit plant buyer volume) = record { plant = plant; buyer = buyer; volume = volume } ∷ []
made_by e = []

pub commitments_more : (e : Entry) (h : List Entry) → commitments_of (e ∷ h) ≡ commitments_of h ++ made_by e
commitments_more (AddPlant loss) h = sym (append-nil (commitments_of h))
commitments_more (AddCompetitive plant declared internal) h = sym (append-nil (commitments_of h))
commitments_more (AddGuaranteed plant declared seasonal internal feeds) h = sym (append-nil (commitments_of h))
commitments_more (Correct group unit declared) h = sym (append-nil (commitments_of h))
commitments_more (PutAside group unit) h = sym (append-nil (commitments_of h))
commitments_more (TakeBack group unit) h = sym (append-nil (commitments_of h))
commitments_more (AddBuyer loss) h = sym (append-nil (commitments_of h))
commitments_more (Commit plant buyer volume) h = refl

-- what an entry adds is one where it is of the kind, and else nothing
record AddsOne (g : ℕ) (e : Entry) : Type 0 where
  plant : adds_plant e ≡ cond (adds_a_plant e) 1 0
  unit : adds_unit g e ≡ cond (adds_a_unit g e) 1 0
  buyer : adds_buyer e ≡ cond (adds_a_buyer e) 1 0
  commitment : length (made_by e) ≡ cond (commits e) 1 0

adds_one : (g : ℕ) (e : Entry) → AddsOne g e
adds_one g (AddPlant loss) = record { plant = refl; unit = refl; buyer = refl; commitment = refl }
adds_one g (AddCompetitive plant declared internal) = record { plant = refl; unit = refl; buyer = refl; commitment = refl }
adds_one g (AddGuaranteed plant declared seasonal internal feeds) = record { plant = refl; unit = refl; buyer = refl; commitment = refl }
adds_one g (Correct group unit declared) = record { plant = refl; unit = refl; buyer = refl; commitment = refl }
adds_one g (PutAside group unit) = record { plant = refl; unit = refl; buyer = refl; commitment = refl }
adds_one g (TakeBack group unit) = record { plant = refl; unit = refl; buyer = refl; commitment = refl }
adds_one g (AddBuyer loss) = record { plant = refl; unit = refl; buyer = refl; commitment = refl }
adds_one g (Commit plant buyer volume) = record { plant = refl; unit = refl; buyer = refl; commitment = refl }

-- how many entries of a kind a history has
counted : (test : Entry → Bool) (count : List Entry → ℕ) → count [] ≡ 0 → ((e : Entry) (h : List Entry) → count (e ∷ h) ≡ count h + cond (test e) 1 0) → (h : List Entry) → count h ≡ count_by test h
counted test count none one [] = none
counted test count none one (e ∷ h) =
    omega (arith, counted test count none one h, one e h, sum_by-cons (λ x. cond (test x) 1 0) e h)

pub plants_counted : (h : List Entry) → plants_in h ≡ count_by adds_a_plant h
plants_counted = counted adds_a_plant plants_in refl (λ e h. omega (arith, (adds_one 0 e).plant))

pub units_counted : (g : ℕ) (h : List Entry) → units_in g h ≡ count_by (adds_a_unit g) h
units_counted g = counted (adds_a_unit g) (units_in g) refl (λ e h. omega (arith, (adds_one g e).unit))

pub buyers_counted : (h : List Entry) → buyers_in h ≡ count_by adds_a_buyer h
buyers_counted = counted adds_a_buyer buyers_in refl (λ e h. omega (arith, (adds_one 0 e).buyer))

pub commitments_counted : (h : List Entry) → length (commitments_of h) ≡ count_by commits h
commitments_counted =
    counted commits (λ h. length (commitments_of h)) refl
    (λ e h. ap length (commitments_more e h) ∙ length-append (commitments_of h) (made_by e) ∙ ap (λ n. length (commitments_of h) + n) (adds_one 0 e).commitment)

-- the loss of a plant or a buyer that is there stays
loss_later : (later base : List Entry) (p : ℕ) → p ≤ plants_in base → loss_in p (later ++ base) ≡ loss_in p base
loss_later later base p le = all_leave (loss_in p) base one later
  where
    one : (e : Entry) (l : List Entry) → loss_in p (e ∷ (l ++ base)) ≡ loss_in p (l ++ base)
    one (AddPlant loss) l =
        let grow = all_grow plants_in base (λ e h. omega arith) l in
        cond-false _ _ _ (ne_eqb p (plants_in (l ++ base) + 1) (λ same. omega (arith, grow)))
    one (AddCompetitive plant declared internal) l = refl
    one (AddGuaranteed plant declared seasonal internal feeds) l = refl
    one (Correct group unit declared) l = refl
    one (PutAside group unit) l = refl
    one (TakeBack group unit) l = refl
    one (AddBuyer loss) l = refl
    one (Commit plant buyer volume) l = refl

buyer_loss_later : (later base : List Entry) (b : ℕ) → b ≤ buyers_in base → buyer_loss_in b (later ++ base) ≡ buyer_loss_in b base
buyer_loss_later later base b le = all_leave (buyer_loss_in b) base one later
  where
    one : (e : Entry) (l : List Entry) → buyer_loss_in b (e ∷ (l ++ base)) ≡ buyer_loss_in b (l ++ base)
    one (AddPlant loss) l = refl
    one (AddCompetitive plant declared internal) l = refl
    one (AddGuaranteed plant declared seasonal internal feeds) l = refl
    one (Correct group unit declared) l = refl
    one (PutAside group unit) l = refl
    one (TakeBack group unit) l = refl
    one (AddBuyer loss) l =
        let grow = all_grow buyers_in base (λ e h. omega arith) l in
        cond-false _ _ _ (ne_eqb b (buyers_in (l ++ base) + 1) (λ same. omega (arith, grow)))
    one (Commit plant buyer volume) l = refl

-- a commitment keeps its place
commitment_later : (later base : List Entry) (k : ℕ) (d : Commitment) → k < length (commitments_of base) → get_or (commitments_of (later ++ base)) k d ≡ get_or (commitments_of base) k d
commitment_later later base k d lt =
    all_leave (λ h. get_or (commitments_of h) k d) base
    (λ e l.
    let grow = all_grow (λ h. length (commitments_of h)) base longer l in
    ap (λ c. get_or c k d) (commitments_more e (l ++ base)) ∙ get_or_append_left (commitments_of (l ++ base)) (made_by e) d k (omega (arith, grow)))
    later
  where
    longer : (e : Entry) (h : List Entry) → length (commitments_of h) ≤ length (commitments_of (e ∷ h))
    longer e h =
        let more : length (commitments_of (e ∷ h)) ≡ length (commitments_of h) + length (made_by e) = ap length (commitments_more e h) ∙ length-append (commitments_of h) (made_by e) in
        omega (arith, more)

numbered : (h : List Entry) → Numbered h
numbered h = record {
  plants = plants_counted h;
  units = λ g. units_counted g h;
  buyers = buyers_counted h;
  commitments = commitments_counted h;
  plant = λ later before loss made.
      let at = plants_counted before in
      ap (loss_in (count_by adds_a_plant before + 1)) made
      ∙ loss_later later (AddPlant loss ∷ before) (count_by adds_a_plant before + 1) (omega (arith, at))
      ∙ cond-true _ _ _ (eq-eqb (count_by adds_a_plant before + 1) (plants_in before + 1) (omega (arith, at)));
  competitive = λ later before p d i made.
      let at = units_counted 1 before in
      let n = count_by (adds_a_unit 1) before + 1 in
      subst (AddedUnit 1 n p d None i 0 later) (sym made)
      (added_unit 1 n (new_unit p d None i 0) later (AddCompetitive p d i ∷ before) (omega (arith, at)) (cond-true _ _ _ (eq-eqb n (units_in 1 before + 1) (omega (arith, at)))) refl);
  guaranteed = λ later before p d s i f made.
      let at = units_counted 2 before in
      let n = count_by (adds_a_unit 2) before + 1 in
      subst (AddedUnit 2 n p d (Some s) i f later) (sym made)
      (added_unit 2 n (new_unit p d (Some s) i f) later (AddGuaranteed p d s i f ∷ before) (omega (arith, at)) (cond-true _ _ _ (eq-eqb n (units_in 2 before + 1) (omega (arith, at)))) refl);
  buyer = λ later before loss made.
      let at = buyers_counted before in
      ap (buyer_loss_in (count_by adds_a_buyer before + 1)) made
      ∙ buyer_loss_later later (AddBuyer loss ∷ before) (count_by adds_a_buyer before + 1) (omega (arith, at))
      ∙ cond-true _ _ _ (eq-eqb (count_by adds_a_buyer before + 1) (buyers_in before + 1) (omega (arith, at)));
  commitment = λ later before c d made.
      let at = commitments_counted before in
      let long = length-append (commitments_of before) (c ∷ []) in
      ap (λ l. get_or (commitments_of l) (count_by commits before) d) made
      ∙ commitment_later later (Commit c.plant c.buyer c.volume ∷ before) (count_by commits before) d (omega (arith, at, long))
      ∙ ap (λ k. get_or (commitments_of before ++ (c ∷ [])) k d) (sym at)
      ∙ get_or-append_seam (commitments_of before) c [] d;
}

-- commitments stand in the order in which they were made
pub commitments_split : (later before : List Entry) → commitments_of (later ++ before) ≡ commitments_of before ++ commitments_of later
commitments_split [] before = sym (append-nil (commitments_of before))
commitments_split (e ∷ later) before =
    commitments_more e (later ++ before)
    ∙ ap (λ l. l ++ made_by e) (commitments_split later before)
    ∙ append_assoc (commitments_of before) (commitments_of later) (made_by e)
    ∙ ap (λ l. commitments_of before ++ l) (sym (commitments_more e later))

-- what a plant has sold of two lists, of earlier and later entries, and with one entry more
sold_append : (p : ℕ) (xs ys : List Commitment) → sold_by p (xs ++ ys) ≡ sold_by p xs + sold_by p ys
sold_append p [] ys = omega arith
sold_append p (x ∷ xs) ys = omega (arith, sold_append p xs ys)

sold_split : (later before : List Entry) (p : ℕ) → sold_in p (later ++ before) ≡ sold_in p before + sold_in p later
sold_split later before p = ap (sold_by p) (commitments_split later before) ∙ sold_append p (commitments_of before) (commitments_of later)

sold_more : (e : Entry) (h : List Entry) (p : ℕ) → sold_in p (e ∷ h) ≡ sold_in p h + sold_by p (made_by e)
sold_more e h p = ap (sold_by p) (commitments_more e h) ∙ sold_append p (commitments_of h) (made_by e)

each_sold : (h : List Entry) → EachSold h
each_sold h = record {
  own = λ later before p b v made.
      let all : sold_in p h ≡ sold_in p (later ++ (Commit p b v ∷ before)) = ap (sold_in p) made in
      let one : cond (eqb p p) v 0 ≡ v = cond-true _ _ _ (eq-eqb p p refl) in
      omega (arith, all, one, sold_split later (Commit p b v ∷ before) p, sold_split later before p, sold_more (Commit p b v) before p);
  others = λ later before e p made other.
      let all : sold_in p h ≡ sold_in p (later ++ (e ∷ before)) = ap (sold_in p) made in
      omega (arith, all, none e p other, sold_split later (e ∷ before) p, sold_split later before p, sold_more e before p);
  nothing = λ made p. ap (sold_in p) made;
}
  where
    none : (e : Entry) (p : ℕ) → ((b v : ℕ) → (e ≡ Commit p b v) → ⊥) → sold_by p (made_by e) ≡ 0
    none (AddPlant loss) p other = refl
    none (AddCompetitive plant declared internal) p other = refl
    none (AddGuaranteed plant declared seasonal internal feeds) p other = refl
    none (Correct group unit declared) p other = refl
    none (PutAside group unit) p other = refl
    none (TakeBack group unit) p other = refl
    none (AddBuyer loss) p other = refl
    none (Commit plant buyer volume) p other =
        let off : cond (eqb plant p) volume 0 ≡ 0 = cond-false _ _ _ (ne_eqb plant p (λ same. other buyer volume (ap (λ x. Commit x buyer volume) same))) in
        omega (arith, off)

-- what the entries of a proper history count for
pub entries_count : (h : List Entry) → Proper h → EntriesCount h
entries_count h ok = record { last = last_counts h ok; numbered = numbered h; sold = each_sold h }

pub accepted_count : (h entries : List Entry) → Proper h → EntriesCount (accepted h entries)
accepted_count h entries ok = entries_count (accepted h entries) (accepted_proper h entries ok)
