-- What a job answers to a share.
use Rattle.std.specs.Prelude.{◌≡◌, ℕ, List, ◌++◌, length}
use Rattle.allocation.specs.Groups.{group_of, amount_at, row_cost}
use Rattle.allocation.specs.Laws.{Split}
use Rattle.curves.specs.Kinds.{SteppedOffer, stepped_offer_price}
use Rattle.split.specs.Text.{share_text}

-- the lines of a share: the amounts of its split, one for each unit, their cost and what they leave uncovered
pub record Answer (offers : List SteppedOffer) (limits : List ℕ) (share : ℕ) (text : List ℕ) : Type 0 where
  pub amounts : List ℕ
  pub left : ℕ
  pub all_units : length amounts ≡ length offers
  pub split : Split (group_of stepped_offer_price offers limits (length offers)) share (amount_at amounts) left
  pub lines : text ≡ share_text share amounts (row_cost stepped_offer_price offers amounts) left

-- a text grows by the lines of a share
abbrev pub AddsAnswer : List SteppedOffer → List ℕ → ℕ → List ℕ → List ℕ → Type 0
AddsAnswer offers limits share before after = (text : List ℕ) × Answer offers limits share text × (after ≡ before ++ text)
