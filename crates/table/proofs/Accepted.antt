-- Histories of accepted entries: what the rows of refusals keep true of them.
use Rattle.std.proofs.Common.{◌≡◌, ℕ, ◌+◌, ◌<◌, ◌≤◌, Bool, true, false, cond, ◌&&◌, ◌||◌, eqb, ltb, leb, List, [], ◌∷◌, ◌++◌, Some, None, Option, sym, refl, ap, ◌∙◌, ⊎_elim, arith}
use Rattle.std.proofs.lemmas.Bool.{cases_eq, eq-eqb, ne_eqb, cond-true, cond-false, cond_both, ltb-false, and_from, true≢false}
use Rattle.table.proofs.Sold.{sold_push}
use Rattle.table.proofs.Standing.{no_row, there}
use Rattle.table.specs.Effects.{unless}
use Rattle.table.specs.Entries.{View, rows, lacks}
use Rattle.table.specs.History.{commitments_of, sold_in, plants_in, units_in, unit_in, buyers_in, view_in, next_history, accepted, Proper}
use Rattle.table.specs.Rows.{new_unit, corrected, moved}
use Rattle.table.specs.declared.entries.Entry.{Entry}
use Rattle.table.specs.declared.entries.Entry.TheVariants.{AddPlant, AddCompetitive, AddGuaranteed, Correct, PutAside, TakeBack, AddBuyer, Commit}
use Rattle.table.specs.declared.records.Commitment.{Commitment}
use Rattle.table.specs.declared.records.UnitRecord.{UnitRecord}
use Rattle.table.specs.declared.refusals.BookRefusal.{BookRefusal}
use Rattle.table.specs.declared.refusals.BookRefusal.TheVariants.{NoPlant, NoBuyer, Full, Energy, Commitments}

-- the accepted of any entries are a proper history
pub next_proper : (e : Entry) (h : List Entry) → Proper h → Proper (next_history e h)
next_proper e h p = by_row (rows (view_in h) e) refl
  where
    by_row : (r : Option BookRefusal) → rows (view_in h) e ≡ r → Proper (unless r (λ _. h) (e ∷ h))
    by_row None found = (found, p)
    by_row (Some refusal) found = p

pub accepted_proper : (h es : List Entry) → Proper h → Proper (accepted h es)
accepted_proper h [] p = p
accepted_proper h (e ∷ es) p = accepted_proper (next_history e h) es (next_proper e h p)

-- what an accepted commitment is
pub record Taken (plant buyer volume : ℕ) (v : View) : Type 0 where
  pub plant_low : 1 ≤ plant
  pub plant_high : plant ≤ v.plants
  pub buyer_low : 1 ≤ buyer
  pub buyer_high : buyer ≤ v.buyers
  pub fits : v.sold plant + volume ≤ 20000000

pub taken : (plant buyer volume : ℕ) (v : View) → rows v (Commit plant buyer volume) ≡ None → Taken plant buyer volume v
taken plant buyer volume v ok =
    let last : Option BookRefusal = cond (ltb 20000000 (v.sold plant + volume)) (Some Commitments) None in
    let limited : Option BookRefusal = cond (eqb volume 0 || ltb 20000000 volume) (Some Energy) last in
    let roomy : Option BookRefusal = cond (leb 768 v.commitments) (Some Full) limited in
    let known = no_row (lacks plant v.plants) NoPlant (cond (lacks buyer v.buyers) (Some NoBuyer) roomy) ok in
    let bought = no_row (lacks buyer v.buyers) NoBuyer roomy known.1 in
    let fits = no_row (leb 768 v.commitments) Full limited bought.1 in
    let sized = no_row (eqb volume 0 || ltb 20000000 volume) Energy last fits.1 in
    let under = no_row (ltb 20000000 (v.sold plant + volume)) Commitments None sized.1 in
    let p = there plant v.plants known.0 in
    let b = there buyer v.buyers bought.0 in
    record {
      plant_low = p.0;
      plant_high = p.1;
      buyer_low = b.0;
      buyer_high = b.1;
      fits = ltb-false 20000000 (v.sold plant + volume) under.0;
    }

-- no plant sells more than 20,000,000
pub sold_bound : (h : List Entry) → Proper h → (p : ℕ) → sold_in p h ≤ 20000000
sold_bound [] ok p = omega arith
sold_bound (AddPlant loss ∷ h) ok p = sold_bound h ok.1 p
sold_bound (AddCompetitive plant declared internal ∷ h) ok p = sold_bound h ok.1 p
sold_bound (AddGuaranteed plant declared seasonal internal feeds ∷ h) ok p = sold_bound h ok.1 p
sold_bound (Correct group unit declared ∷ h) ok p = sold_bound h ok.1 p
sold_bound (PutAside group unit ∷ h) ok p = sold_bound h ok.1 p
sold_bound (TakeBack group unit ∷ h) ok p = sold_bound h ok.1 p
sold_bound (AddBuyer loss ∷ h) ok p = sold_bound h ok.1 p
sold_bound (Commit plant buyer volume ∷ h) ok p =
    let c : Commitment = record { plant = plant; buyer = buyer; volume = volume } in
    let more = sold_push p (commitments_of h) c in
    ⊎_elim
    (λ (same : plant ≡ p).
    let own : cond (eqb plant p) volume 0 ≡ volume = cond-true _ _ _ (eq-eqb plant p same) in
    let at : sold_in plant h ≡ sold_in p h = ap (λ q. sold_in q h) same in
    omega (arith, more, own, at, (taken plant buyer volume (view_in h) ok.0).fits))
    (λ (other : plant ≡ p → ⊥).
    let none : cond (eqb plant p) volume 0 ≡ 0 = cond-false _ _ _ (ne_eqb plant p other) in
    omega (arith, more, none, sold_bound h ok.1 p))
    (cases_eq plant p)

-- each commitment of a list names a plant and a buyer of so many
pub record Named (plants buyers : ℕ) (c : Commitment) : Type 0 where
  pub plant_low : 1 ≤ c.plant
  pub plant_high : c.plant ≤ plants
  pub buyer_low : 1 ≤ c.buyer
  pub buyer_high : c.buyer ≤ buyers

abbrev pub AllNamed : ℕ → ℕ → List Commitment → Type 0
AllNamed plants buyers [] = Unit {0}
AllNamed plants buyers (c ∷ cs) = Named plants buyers c × AllNamed plants buyers cs

named_more : (p p' b b' : ℕ) → p ≤ p' → b ≤ b' → (cs : List Commitment) → AllNamed p b cs → AllNamed p' b' cs
named_more p p' b b' lp lb [] a = a
named_more p p' b b' lp lb (c ∷ cs) a =
    let n = a.0 in (
      record {
        plant_low = n.plant_low;
        plant_high = omega (arith, n.plant_high);
        buyer_low = n.buyer_low;
        buyer_high = omega (arith, n.buyer_high);
      },
      named_more p p' b b' lp lb cs a.1,
    )

named_push : (p b : ℕ) (cs : List Commitment) (c : Commitment) → AllNamed p b cs → Named p b c → AllNamed p b (cs ++ (c ∷ []))
named_push p b [] c a n = (n, a)
named_push p b (x ∷ cs) c a n = (a.0, named_push p b cs c a.1 n)

pub all_named : (h : List Entry) → Proper h → AllNamed (plants_in h) (buyers_in h) (commitments_of h)
all_named [] ok = ok
all_named (AddPlant loss ∷ h) ok = named_more _ _ _ _ (omega arith) (omega arith) (commitments_of h) (all_named h ok.1)
all_named (AddCompetitive plant declared internal ∷ h) ok = named_more _ _ _ _ (omega arith) (omega arith) (commitments_of h) (all_named h ok.1)
all_named (AddGuaranteed plant declared seasonal internal feeds ∷ h) ok = named_more _ _ _ _ (omega arith) (omega arith) (commitments_of h) (all_named h ok.1)
all_named (Correct group unit declared ∷ h) ok = named_more _ _ _ _ (omega arith) (omega arith) (commitments_of h) (all_named h ok.1)
all_named (PutAside group unit ∷ h) ok = named_more _ _ _ _ (omega arith) (omega arith) (commitments_of h) (all_named h ok.1)
all_named (TakeBack group unit ∷ h) ok = named_more _ _ _ _ (omega arith) (omega arith) (commitments_of h) (all_named h ok.1)
all_named (AddBuyer loss ∷ h) ok = named_more _ _ _ _ (omega arith) (omega arith) (commitments_of h) (all_named h ok.1)
all_named (Commit plant buyer volume ∷ h) ok =
    let t = taken plant buyer volume (view_in h) ok.0 in
    let c : Commitment = record { plant = plant; buyer = buyer; volume = volume } in
    let same = named_more (plants_in h) (plants_in h + 0) (buyers_in h) (buyers_in h + 0) (omega arith) (omega arith) (commitments_of h) (all_named h ok.1) in
    named_push (plants_in h + 0) (buyers_in h + 0) (commitments_of h) c same
    record {
      plant_low = t.plant_low;
      plant_high = omega (arith, t.plant_high);
      buyer_low = t.buyer_low;
      buyer_high = omega (arith, t.buyer_high);
    }

-- a unit names a plant of so many
abbrev pub Placed : ℕ → UnitRecord → Type 0
Placed plants u = (1 ≤ u.plant) × (u.plant ≤ plants)

placed_more : (p p' : ℕ) (u : UnitRecord) → p ≤ p' → Placed p u → Placed p' u
placed_more p p' u le placed = (placed.0, omega (arith, placed.1))

-- a unit that is added, or one of those before
placed_added : (plants n i plant : ℕ) (b : Bool) (new old : UnitRecord) → new.plant ≡ plant → lacks plant plants ≡ false → (b ≡ false → Placed plants old) → Placed plants (cond b new old)
placed_added plants n i plant true new old own known before =
    let at = there plant plants known in (omega (arith, own, at.0), omega (arith, own, at.1))
placed_added plants n i plant false new old own known before = before refl

-- a place that isn't the new one was there before
earlier : (g own : ℕ) (h : List Entry) (i : ℕ) → (eqb g own && eqb (i + 1) (units_in own h + 1)) ≡ false → i < units_in g h + cond (eqb g own) 1 0 → i < units_in g h
earlier g own h i other lt =
    ⊎_elim
    (λ (same : g ≡ own). ⊎_elim
    (λ (last : i + 1 ≡ units_in own h + 1). absurd (true≢false (sym (and_from _ _ (eq-eqb g own same) (eq-eqb (i + 1) (units_in own h + 1) last)) ∙ other)))
    (λ (before : i + 1 ≡ units_in own h + 1 → ⊥).
    let one : ◌≡◌ {A = ℕ} (cond (eqb g own) 1 0) 1 = cond-true _ _ _ (eq-eqb g own same) in
    let at : units_in g h ≡ units_in own h = ap (λ x. units_in x h) same in
    omega (arith, one, at))
    (cases_eq (i + 1) (units_in own h + 1)))
    (λ (differs : g ≡ own → ⊥).
    let none : ◌≡◌ {A = ℕ} (cond (eqb g own) 1 0) 0 = cond-false _ _ _ (ne_eqb g own differs) in
    omega (arith, none))
    (cases_eq g own)

-- every unit's plant is there
pub units_placed : (h : List Entry) → Proper h → (g i : ℕ) → i < units_in g h → Placed (plants_in h) (unit_in g (i + 1) h)
units_placed [] ok g i lt = absurd (omega arith)
units_placed (AddPlant loss ∷ h) ok g i lt = placed_more (plants_in h) (plants_in h + 1) (unit_in g (i + 1) h) (omega arith) (units_placed h ok.1 g i (omega arith))
units_placed (AddCompetitive plant declared internal ∷ h) ok g i lt =
    placed_more (plants_in h) (plants_in h + 0) (unit_in g (i + 1) (AddCompetitive plant declared internal ∷ h)) (omega arith)
    (placed_added (plants_in h) (units_in 1 h) i plant (eqb g 1 && eqb (i + 1) (units_in 1 h + 1)) (new_unit plant declared None internal 0) (unit_in g (i + 1) h) refl (no_row _ _ _ ok.0).0
    (λ other. units_placed h ok.1 g i (earlier g 1 h i other lt)))
units_placed (AddGuaranteed plant declared seasonal internal feeds ∷ h) ok g i lt =
    placed_more (plants_in h) (plants_in h + 0) (unit_in g (i + 1) (AddGuaranteed plant declared seasonal internal feeds ∷ h)) (omega arith)
    (placed_added (plants_in h) (units_in 2 h) i plant (eqb g 2 && eqb (i + 1) (units_in 2 h + 1)) (new_unit plant declared (Some seasonal) internal feeds) (unit_in g (i + 1) h) refl (no_row _ _ _ ok.0).0
    (λ other. units_placed h ok.1 g i (earlier g 2 h i other lt)))
units_placed (Correct group unit declared ∷ h) ok g i lt =
    let old = placed_more (plants_in h) (plants_in h + 0) (unit_in g (i + 1) h) (omega arith) (units_placed h ok.1 g i (omega arith)) in
    cond_both (eqb g group && eqb (i + 1) unit) (corrected declared (unit_in g (i + 1) h)) (unit_in g (i + 1) h) (Placed (plants_in h + 0)) (λ _. old) (λ _. old)
units_placed (PutAside group unit ∷ h) ok g i lt =
    let old = placed_more (plants_in h) (plants_in h + 0) (unit_in g (i + 1) h) (omega arith) (units_placed h ok.1 g i (omega arith)) in
    cond_both (eqb g group && eqb (i + 1) unit) (moved true (unit_in g (i + 1) h)) (unit_in g (i + 1) h) (Placed (plants_in h + 0)) (λ _. old) (λ _. old)
units_placed (TakeBack group unit ∷ h) ok g i lt =
    let old = placed_more (plants_in h) (plants_in h + 0) (unit_in g (i + 1) h) (omega arith) (units_placed h ok.1 g i (omega arith)) in
    cond_both (eqb g group && eqb (i + 1) unit) (moved false (unit_in g (i + 1) h)) (unit_in g (i + 1) h) (Placed (plants_in h + 0)) (λ _. old) (λ _. old)
units_placed (AddBuyer loss ∷ h) ok g i lt = placed_more (plants_in h) (plants_in h + 0) (unit_in g (i + 1) h) (omega arith) (units_placed h ok.1 g i (omega arith))
units_placed (Commit plant buyer volume ∷ h) ok g i lt = placed_more (plants_in h) (plants_in h + 0) (unit_in g (i + 1) h) (omega arith) (units_placed h ok.1 g i (omega arith))
