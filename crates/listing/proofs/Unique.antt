-- A file's hour has one listing.
use Rattle.std.proofs.Common.{◌≡◌, ℕ, zero, suc, ◌+◌, ◌-◌, ◌<◌, ◌≤◌, min, cond, List, ◌++◌, codes, Option, Ok, Err, sym, refl, ap, ◌∙◌, arith}
use Rattle.std.specs.List.{flat_map, range_with_len}
use Rattle.std.specs.Option.{option_map}
use Rattle.std.specs.Result.{result_ok}
use Rattle.book.proofs.Hours.{settled_rows}
use Rattle.book.specs.Law.{SameFigures, RowsOf}
use Rattle.book.specs.Questions.{lacks_row}
use Rattle.table.specs.Texts.{hour_text}
use Rattle.table.specs.declared.records.Table.{Table}
use Rattle.table.specs.declared.refusals.BookRefusal.{BookRefusal}
use Rattle.table.specs.declared.refusals.BookRefusal.TheVariants.{NoPlant, NoUnit, NoBuyer}
use Rattle.reader.specs.Holds.{SettledHolds}
use Rattle.reader.specs.Progress.{Made, Progress}
use Rattle.reader.specs.Progress.Progress.{Unopened, Opened, Closed, Settled}
use Rattle.listing.specs.Listing.{count_of, line_of, lines_of, listing_of}
use Rattle.listing.specs.Printed.{OneListing}
use Rattle.listing.specs.Rows.{row_in}
use Rattle.listing.specs.declared.rows.Kind.{Kind}
use Rattle.listing.specs.declared.rows.Kind.TheVariants.{Competitive, Guaranteed, Plants, Buyers}
use Rattle.listing.specs.declared.rows.Row.{Row}
use Rattle.listing.specs.declared.rows.Row.TheVariants.{Competitive as C, Guaranteed as G, Plant as P, Buyer as B}

-- the same lines, one after another
flat_same : (f g : ℕ → List ℕ) (a n : ℕ) → ((k : ℕ) → a ≤ k → k < a + n → f k ≡ g k) → flat_map f (range_with_len a n) ≡ flat_map g (range_with_len a n)
flat_same f g a zero each = refl
flat_same f g a (suc n) each =
    ap (λ l. l ++ flat_map f (range_with_len (a + 1) n)) (each a (omega arith) (omega arith))
    ∙ ap (λ l. g a ++ l) (flat_same f g (a + 1) n (λ k from to. each k (omega (arith, from)) (omega (arith, to))))

-- a row by its count and its figures
row_by : {F : Type 0} (make : F → Row) (number room : ℕ) (e : BookRefusal) → ℕ → F → Option Row
row_by make number room e count figures = option_map make (result_ok (cond (lacks_row number count room) (Err e) (Ok figures)))

row_same : {F : Type 0} (make : F → Row) (number room : ℕ) (e : BookRefusal) (n m : ℕ) (x y : F) → n ≡ m → x ≡ y → row_by make number room e n x ≡ row_by make number room e m y
row_same make number room e n m x y counts figures = ap (λ k. row_by make number room e k x) counts ∙ ap (row_by make number room e m) figures

rows_of : (m : Made) (t : Table) → SettledHolds m t → RowsOf m.entries t
rows_of m t s = settled_rows _ _ m.entries s.closed t s.stands.stands s.settling

module _ (m : Made) (t u : Table) (a : SettledHolds m t) (b : SettledHolds m u) where
  same : SameFigures m.entries t u
  same = a.only u b.law

  competitive_same : (k : ℕ) → 1 ≤ k → k < 1 + count_of Competitive t → row_in Competitive k t ≡ row_in Competitive k u
  unfolding row_by
  competitive_same k from to =
      row_same (C k) k 128 NoUnit _ _ _ _ ((rows_of m t a).competitive ∙ sym ((rows_of m u b).competitive)) (same.competitive (k - 1) (omega (arith, from, to, (rows_of m t a).competitive)))

  guaranteed_same : (k : ℕ) → 1 ≤ k → k < 1 + count_of Guaranteed t → row_in Guaranteed k t ≡ row_in Guaranteed k u
  unfolding row_by
  guaranteed_same k from to =
      row_same (G k) k 128 NoUnit _ _ _ _ ((rows_of m t a).guaranteed ∙ sym ((rows_of m u b).guaranteed)) (same.guaranteed (k - 1) (omega (arith, from, to, (rows_of m t a).guaranteed)))

  plants_same : (k : ℕ) → 1 ≤ k → k < 1 + count_of Plants t → row_in Plants k t ≡ row_in Plants k u
  unfolding row_by
  plants_same k from to =
      row_same (P k) k 32 NoPlant _ _ _ _ ((rows_of m t a).plants ∙ sym ((rows_of m u b).plants)) (same.plants (k - 1) (omega (arith, from, to, (rows_of m t a).plants)))

  buyers_same : (k : ℕ) → 1 ≤ k → k < 1 + count_of Buyers t → row_in Buyers k t ≡ row_in Buyers k u
  unfolding row_by
  buyers_same k from to =
      row_same (B k) k 64 NoBuyer _ _ _ _ ((rows_of m t a).buyers ∙ sym ((rows_of m u b).buyers)) (same.buyers (k - 1) (omega (arith, from, to, (rows_of m t a).buyers)))

  counts_same : (kind : Kind) → count_of kind t ≡ count_of kind u
  counts_same Competitive = ap (λ k. min k 128) ((rows_of m t a).competitive ∙ sym ((rows_of m u b).competitive))
  counts_same Guaranteed = ap (λ k. min k 128) ((rows_of m t a).guaranteed ∙ sym ((rows_of m u b).guaranteed))
  counts_same Plants = ap (λ k. min k 32) ((rows_of m t a).plants ∙ sym ((rows_of m u b).plants))
  counts_same Buyers = ap (λ k. min k 64) ((rows_of m t a).buyers ∙ sym ((rows_of m u b).buyers))

  rows_same : (kind : Kind) (k : ℕ) → 1 ≤ k → k < 1 + count_of kind t → row_in kind k t ≡ row_in kind k u
  rows_same Competitive = competitive_same
  rows_same Guaranteed = guaranteed_same
  rows_same Plants = plants_same
  rows_same Buyers = buyers_same

  lines_same : (kind : Kind) → lines_of kind t ≡ lines_of kind u
  lines_same kind =
      flat_same (λ k. line_of (row_in kind k t)) (λ k. line_of (row_in kind k u)) 1 (count_of kind t) (λ k from to. ap line_of (rows_same kind k from to))
      ∙ ap (λ n. flat_map (λ k. line_of (row_in kind k u)) (range_with_len 1 n)) (counts_same kind)

  listing_same : listing_of t ≡ listing_of u
  listing_same =
      let last = λ (x : Table). codes "H " ++ (hour_text x.figures ++ codes "\n") in
      let end : last t ≡ last u = ap (λ f. codes "H " ++ (hour_text f ++ codes "\n")) same.hour in
      ap (λ l. l ++ (lines_of Guaranteed t ++ (lines_of Plants t ++ (lines_of Buyers t ++ last t)))) (lines_same Competitive)
      ∙ ap (λ l. lines_of Competitive u ++ (l ++ (lines_of Plants t ++ (lines_of Buyers t ++ last t)))) (lines_same Guaranteed)
      ∙ ap (λ l. lines_of Competitive u ++ (lines_of Guaranteed u ++ (l ++ (lines_of Buyers t ++ last t)))) (lines_same Plants)
      ∙ ap (λ l. lines_of Competitive u ++ (lines_of Guaranteed u ++ (lines_of Plants u ++ (l ++ last t)))) (lines_same Buyers)
      ∙ ap (λ l. lines_of Competitive u ++ (lines_of Guaranteed u ++ (lines_of Plants u ++ (lines_of Buyers u ++ l)))) end

pub one_listing : (p : Progress) → OneListing p
one_listing Unopened t u a b = absurd a
one_listing (Opened m) t u a b = absurd a
one_listing (Closed m) t u a b = absurd a
one_listing (Settled m) t u a b = listing_same m t u a b
