-- What the accepted calls of an hour count for: which entry and which reading counts, each commitment once, and the row
-- of the table of refusals that turns a further call down. All of it is said by where calls stand among the accepted.
use Rattle.std.specs.Prelude.{◌≡◌, ℕ, ◌+◌, List, [], ◌∷◌, ◌++◌}
use Rattle.allocation.specs.Groups.{sum_of}
use Rattle.settling.specs.Figures.{volumes, bought_by}
use Rattle.table.specs.EntriesCount.{EntriesCount}
use Rattle.table.specs.History.{plants_in, buyers_in, commitments_of, sold_in, view_in, answer_in}
use Rattle.table.specs.Metered.{reading_answer_in}
use Rattle.table.specs.ReadingsCount.{ReadingsCount}
use Rattle.table.specs.RowsApply.{EntryJudged, ReadingJudged}
use Rattle.table.specs.declared.entries.Entry.{Entry}
use Rattle.table.specs.declared.entries.Entry.TheVariants.{Commit}
use Rattle.table.specs.declared.readings.Reading.{Reading}

-- a buyer's accepted commitments
abbrev pub bought_in : ℕ → List Entry → ℕ
bought_in b h = bought_by b (commitments_of h)

-- What a buyer has bought: each commitment that names it counts once with its volume, and no other entry counts. All
-- that plants have sold and all that buyers have bought are the hour's commitments.
pub record EachBought (h : List Entry) : Type 0 where
  pub own : (later before : List Entry) (p b v : ℕ) → h ≡ later ++ (Commit p b v ∷ before) → bought_in b h ≡ bought_in b (later ++ before) + v
  pub others : (later before : List Entry) (e : Entry) (b : ℕ) → h ≡ later ++ (e ∷ before) → ((p v : ℕ) → (e ≡ Commit p b v) → ⊥) → bought_in b h ≡ bought_in b (later ++ before)
  pub nothing : h ≡ [] → (b : ℕ) → bought_in b h ≡ 0
  pub all_sold : sum_of (plants_in h) (λ i. sold_in (i + 1) h) ≡ volumes (commitments_of h)
  pub all_bought : sum_of (buyers_in h) (λ i. bought_in (i + 1) h) ≡ volumes (commitments_of h)

-- what accepted entries and readings count for, and what a further call would be told
pub record CallsCount (h : List Entry) (rs : List Reading) : Type 0 where
  pub entries : EntriesCount h
  pub bought : EachBought h
  pub readings : ReadingsCount rs
  pub entry : (e : Entry) → EntryJudged e h (answer_in e h)
  pub reading : (r : Reading) → ReadingJudged r h (reading_answer_in (view_in h) r)
