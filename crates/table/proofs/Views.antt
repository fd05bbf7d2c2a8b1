-- The rows of refusals see the same of a table and of the history that it stands for.
use Rattle.std.proofs.Common.{◌≡◌, ℕ, min, List, length, ap, ◌∙◌, arith}
use mathlib.Core.Path.{fun_ext}
use Rattle.table.specs.Entries.{View, view_of, rows, sold_at}
use Rattle.table.specs.History.{plants_in, units_in, buyers_in, commitments_of, view_in, Stands, StandsInSum}
use Rattle.table.specs.declared.entries.Entry.{Entry}
use Rattle.table.specs.declared.records.Table.{Table}

pub view_same : (h : List Entry) (t : Table) → Stands h t → view_of t ≡ view_in h
view_same h t s =
    let made = λ (a b c d e : ℕ) (f : ℕ → ℕ). let v : View = record { plants = a; competitive = b; guaranteed = c; buyers = d; commitments = e; sold = f } in v in
    let a : min t.plants.count 32 ≡ plants_in h = omega (arith, s.plants.counted, s.plants.room) in
    let b : min t.competitive.count 128 ≡ units_in 1 h = omega (arith, s.competitive.count, s.competitive.room) in
    let c : min t.guaranteed.count 128 ≡ units_in 2 h = omega (arith, s.guaranteed.count, s.guaranteed.room) in
    let d : min t.buyers.count 64 ≡ buyers_in h = omega (arith, s.buyers.counted, s.buyers.room) in
    let e : min t.commitments.count 768 ≡ length (commitments_of h) = omega (arith, s.commitments.counted, s.commitments.room) in
    let sold = sold_at t.sold in
    ap (λ x. made x (min t.competitive.count 128) (min t.guaranteed.count 128) (min t.buyers.count 64) (min t.commitments.count 768) sold) a
    ∙ ap (λ x. made (plants_in h) x (min t.guaranteed.count 128) (min t.buyers.count 64) (min t.commitments.count 768) sold) b
    ∙ ap (λ x. made (plants_in h) (units_in 1 h) x (min t.buyers.count 64) (min t.commitments.count 768) sold) c
    ∙ ap (λ x. made (plants_in h) (units_in 1 h) (units_in 2 h) x (min t.commitments.count 768) sold) d
    ∙ ap (λ x. made (plants_in h) (units_in 1 h) (units_in 2 h) (buyers_in h) x sold) e
    ∙ ap (made (plants_in h) (units_in 1 h) (units_in 2 h) (buyers_in h) (length (commitments_of h))) (fun_ext s.sold.sums)

-- a table that stands for a history has its sums of commitments
pub stands_in_sum : (h : List Entry) (t : Table) → Stands h t → StandsInSum h t
stands_in_sum h t s = record {
  plants = s.plants;
  competitive = s.competitive;
  guaranteed = s.guaranteed;
  sold = λ p. ap (λ (v : View). v.sold p) (view_same h t s);
}

-- the same row turns an entry down by the table and by the history that it stands for
pub rows_same : (e : Entry) (h : List Entry) (t : Table) → Stands h t → rows (view_of t) e ≡ rows (view_in h) e
rows_same e h t s = ap (λ v. rows v e) (view_same h t s)
