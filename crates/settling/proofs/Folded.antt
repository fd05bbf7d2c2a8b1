-- A fold over units that adds up their totals.
use Rattle.std.proofs.Common.{zero, suc, Bool, true, false, cond, filter, sum_by, ◌≡◌, ℕ, ◌+◌, ◌<◌, ◌≤◌, List, [], ◌∷◌, ◌++◌, length, map, get_or, Some, None, Option, sym, ap, ◌∙◌, subst, arith}
use denote.Param.Members.{Mut}
use denote.Ref.{Bor}
use Rattle.std.proofs.lemmas.Fn.{fold_over, serves_by}
use Rattle.std.proofs.lemmas.Iterator.{YieldsList}
use Rattle.std.proofs.iter.Yields.{gives_left}
use Rattle.std.proofs.Math.Seq.{get_or-append_seam}
use Rattle.std.specs.Fn.{Called, Takes}
use Rattle.std.specs.Iterator.{AlwaysYields, CallableAtEachTurn, Drains, FoldTurn}
use Rattle.std.specs.List.{FoldsTo}
use Rattle.std.proofs.lemmas.List.{get_or_append_left, length-append, map_push, take_all}
use Rattle.allocation.proofs.Sums.{sum_cong}
use Rattle.table.specs.Rows.{new_unit}
use Rattle.table.specs.declared.records.UnitRecord.{UnitRecord}
use Rattle.settling.specs.Totals.{PaymentFits, unit_totals, counted, counted_totals, no_totals, plus_totals, sum_totals, AtMostOf, Small, Fits}
use Rattle.settling.specs.declared.totals.Totals.{Totals}
use Rattle.settling.proofs.Counts.{counted_field}
use Rattle.settling.proofs.Groups.{totals_same, totals_none, totals_more, sum_rows}
use Rattle.table.proofs.Sold.{sum_filter}
use Rattle.allocation.specs.Groups.{sum_of}

-- the unit that stands where a list has none
abbrev pub blank : UnitRecord
blank = new_unit 0 0 None 0 0

-- an item that comes is the first that is left
module _ {S : Type 0} (steps : S → Option (Bor UnitRecord) → S → Type 0) (t : S) where
  given_next : (us : List UnitRecord) → AlwaysYields steps (λ x. x.now) t us → (x : Bor UnitRecord) (u : S) → steps t (Some x) u → (rest : List UnitRecord) × (us ≡ x.now ∷ rest)
  given_next [] road x u e = absurd (road x u e)
  given_next (y ∷ ys) road x u e = (ys, ap (λ z. z ∷ ys) (sym (road.1 x u e).0))

module _ (plant : Option ℕ) where
  abbrev at : List UnitRecord → ℕ → Totals
  at us i = counted_totals plant (get_or us i blank)

  -- sums over lists that agree on the first n units
  pub totals_cong : (us vs : List UnitRecord) (n : ℕ) → ((i : ℕ) → i < n → get_or us i blank ≡ get_or vs i blank) → sum_totals plant us n ≡ sum_totals plant vs n
  totals_cong us vs n same =
      let one = λ (F : Totals → ℕ). sum_cong n (λ i. F (at us i)) (λ i. F (at vs i)) (λ i lt. ap (λ u. F (counted_totals plant u)) (same i lt)) in
      totals_same (sum_totals plant us n) (sum_totals plant vs n) (one (λ x. x.billed)) (one (λ x. x.paid)) (one (λ x. x.active)) (one (λ x. x.opportunity)) (one (λ x. x.penalties))

  abbrev whole : List UnitRecord → Totals
  whole us = sum_totals plant us (length us)

  pub totals_push : (us : List UnitRecord) (u : UnitRecord) → plus_totals (whole us) (counted_totals plant u) ≡ whole (us ++ u ∷ [])
  totals_push us u =
      let vs = us ++ u ∷ [] in
      ap (λ s. plus_totals s (counted_totals plant u)) (totals_cong us vs (length us) (λ i lt. sym (get_or_append_left us (u ∷ []) blank i lt)))
      ∙ ap (λ x. plus_totals (sum_totals plant vs (length us)) (counted_totals plant x)) (sym (get_or-append_seam us u [] blank))
      ∙ totals_more plant vs (length us)
      ∙ ap (sum_totals plant vs) (sym (length-append us (u ∷ [])))

  -- totals that are the sum of those of some units, and within their bound where no unit is paid more than it can be
  pub record Summed (us : List UnitRecord) (a : Totals) : Type 0 where
    pub value : a ≡ whole us
    pub bound : ((i : ℕ) → i < length us → PaymentFits (get_or us i blank)) → AtMostOf (length us) a

  abbrev Paid : List UnitRecord → Type 0
  Paid us = (i : ℕ) → i < length us → PaymentFits (get_or us i blank)

  -- one more unit
  summed_more : (us : List UnitRecord) (a b : Totals) (u : UnitRecord) → Summed us a → b ≡ plus_totals a (counted_totals plant u) → (PaymentFits u → Small (counted_totals plant u)) → Summed (us ++ u ∷ []) b
  summed_more us a b u before added small =
      let long = length-append us (u ∷ []) in
      let read : get_or (us ++ u ∷ []) (length us) blank ≡ u = get_or-append_seam us u [] blank in
      record {
        value = added ∙ ap (λ s. plus_totals s (counted_totals plant u)) before.value ∙ totals_push us u;
        bound = λ paid.
            let below = before.bound (λ i lt. subst PaymentFits (get_or_append_left us (u ∷ []) blank i lt) (paid i (omega (arith, long)))) in
            let own = small (subst PaymentFits read (paid (length us) (omega (arith, long)))) in
            subst (λ n. AtMostOf n b) (sym long) (subst (AtMostOf (length us + 1)) (sym added) record {
              billed = omega (arith, below.billed, own.billed);
              paid = omega (arith, below.paid, own.paid);
              active = omega (arith, below.active, own.active);
              opportunity = omega (arith, below.opportunity, own.opportunity);
              penalties = omega (arith, below.penalties, own.penalties);
            });
      }

  summed_none : (a : Totals) → a ≡ no_totals → Summed [] a
  summed_none a none = record {
    value = none ∙ totals_none plant [];
    bound = λ paid. subst (AtMostOf 0) (sym none) record { billed = omega arith; paid = omega arith; active = omega arith; opportunity = omega arith; penalties = omega arith };
  }

  module _ {S F : Type 0} {steps : S → Option (Bor UnitRecord) → S → Type 0} {s : S} {all : List UnitRecord} (g : Mut F (Totals × (Bor UnitRecord × Unit {0})) Totals) (f : F) (a : Totals) (none : a ≡ no_totals) (road : YieldsList steps (λ x. x.now) s all)
      (adds : (t : Totals) (x : Bor UnitRecord) (b : Totals) (q : F) → Called g f (t, (x, tt)) b q → (q ≡ f) × ((b ≡ plus_totals t (counted_totals plant x.now)) × (PaymentFits x.now → Small (counted_totals plant x.now)))) where
    pub summed_all : (r : Totals) → ((xs : List (Bor UnitRecord)) × (f' : F) × Drains steps s xs × FoldsTo {P = F × Totals} (λ p x q. Called g p.0 (p.1, (x, tt)) q.1 q.0) (f, a) xs (f', r)) → Summed all r
    summed_all r ran =
        fold_over steps (λ x. x.now) g Summed f (λ us t x b q j k. let c = adds t x b q k in (summed_more us t b x.now j c.1.0 c.1.1, c.0)) s all a r road.runs (summed_none a none) ran

    pub callable_all : Paid all → length all ≤ 128 → ((t : Totals) (x : Bor UnitRecord) → Fits t → PaymentFits x.now → Takes g f (t, (x, tt))) → CallableAtEachTurn {P = F × Totals} steps (FoldTurn g) (λ p x. Takes g p.0 (p.1, (x, tt))) s (f, a)
    callable_all paid few asks =
        serves_by {P = F × Totals} (FoldTurn g) (λ xs p. (p.0 ≡ f) × Summed (map (λ x. x.now) xs) p.1)
        (λ xs p x w j k. let c = adds p.1 x w.1 w.0 (subst (λ h. Called g h (p.1, (x, tt)) w.1 w.0) j.0 k) in (c.0, subst (λ l. Summed l w.1) (sym (map_push (λ (y : Bor UnitRecord). y.now) xs x)) (summed_more (map (λ y. y.now) xs) p.1 w.1 x.now j.1 c.1.0 c.1.1)))
        steps (λ p x. Takes g p.0 (p.1, (x, tt))) s (f, a) (λ _. f, summed_none a none)
        (λ xs t p x u y e j.
        let left = gives_left steps (λ (y : Bor UnitRecord). y.now) xs all s t road.runs y in
        let next = given_next steps t left.0 left.2 x u e in
        let seen = map (λ (y : Bor UnitRecord). y.now) xs in
        let whole_list : all ≡ seen ++ x.now ∷ next.0 = left.1 ∙ ap (λ l. seen ++ l) next.1 in
        let long : length all ≡ length seen + length (x.now ∷ next.0) = ap length whole_list ∙ length-append seen (x.now ∷ next.0) in
        let below = j.1.bound (λ i lt. subst PaymentFits (ap (λ l. get_or l i blank) whole_list ∙ get_or_append_left seen (x.now ∷ next.0) blank i lt) (paid i (omega (arith, long)))) in
        let own : get_or all (length seen) blank ≡ x.now = ap (λ l. get_or l (length seen) blank) whole_list ∙ get_or-append_seam seen x.now next.0 blank in
        subst (λ h. Takes g h (p.1, (x, tt))) (sym j.0) (asks p.1 x record {
          billed = omega (arith, below.billed, long);
          paid = omega (arith, below.paid, long);
          active = omega (arith, below.active, long);
          opportunity = omega (arith, below.opportunity, long);
          penalties = omega (arith, below.penalties, long);
        } (subst PaymentFits own (paid (length seen) (omega (arith, long))))))

-- The units of a plant, taken out of a list: their totals are those of the list, of that plant.
module _ (plant : Option ℕ) (us : List UnitRecord) where
  abbrev kept : List UnitRecord
  kept = filter (counted plant) us

  field_kept : (F : Totals → ℕ) → F no_totals ≡ 0 → sum_of (length kept) (λ i. F (counted_totals None (get_or kept i blank))) ≡ sum_of (length us) (λ i. F (counted_totals plant (get_or us i blank)))
  field_kept F none =
      let f = λ (u : UnitRecord). F (unit_totals u) in
      let g = λ (u : UnitRecord). cond (counted plant u) (f u) 0 in
      sym (sum_rows f blank kept (length kept) (omega arith)) ∙ ap (sum_by f) (take_all (length kept) kept (omega arith))
      ∙ sum_filter f (counted plant) us
      ∙ ap (sum_by g) (sym (take_all (length us) us (omega arith))) ∙ sum_rows g blank us (length us) (omega arith)
      ∙ sum_cong (length us) _ _ (λ i lt. sym (counted_field F none (counted plant (get_or us i blank)) (unit_totals (get_or us i blank))))

  pub totals_kept : sum_totals None kept (length kept) ≡ sum_totals plant us (length us)
  totals_kept =
      totals_same (sum_totals None kept (length kept)) (sum_totals plant us (length us)) (field_kept (λ x. x.billed) (λ _. 0)) (field_kept (λ x. x.paid) (λ _. 0)) (field_kept (λ x. x.active) (λ _. 0)) (field_kept (λ x. x.opportunity) (λ _. 0)) (field_kept (λ x. x.penalties) (λ _. 0))

-- what holds of each unit of a list holds of each that passes a test
pub paid_kept : (p : UnitRecord → Bool) (us : List UnitRecord) → ((i : ℕ) → i < length us → PaymentFits (get_or us i blank)) → (i : ℕ) → i < length (filter p us) → PaymentFits (get_or (filter p us) i blank)
paid_kept p [] paid = λ i lt. absurd (omega arith)
paid_kept p (u ∷ us) paid = first (p u) (paid_kept p us (λ i lt. paid (suc i) (omega (arith, lt))))
  where
    first : (b : Bool) → ((i : ℕ) → i < length (filter p us) → PaymentFits (get_or (filter p us) i blank)) → (i : ℕ) → i < length (cond b (u ∷ filter p us) (filter p us)) → PaymentFits (get_or (cond b (u ∷ filter p us) (filter p us)) i blank)
    first true later zero lt = paid 0 (omega arith)
    first true later (suc i) lt = later i (omega (arith, lt))
    first false later i lt = later i lt
