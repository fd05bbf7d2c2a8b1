-- What the numbers of a line say.
use Rattle.std.specs.Prelude.{◌≡◌, ℕ, ◌%◌, ◌<◌, List, [], ◌∷◌, length, Ok, Err, codes, Result, ◌≢◌}
use Rattle.curves.specs.Refusals.{stepped_offer_made}
use Rattle.curves.specs.declared.steps.Step.{Step}
use Rattle.split.specs.declared.faults.Fault.{Fault}
use Rattle.split.specs.declared.faults.Fault.TheVariants.{UnknownWord, MissingNumber, SurplusNumber, WidthAlone, Memory, List as Listed}
use Rattle.split.specs.declared.lines.Keyword.{Keyword}
use Rattle.split.specs.declared.lines.Keyword.TheVariants.{Unit as UnitWord, Share as ShareWord}
use Rattle.split.specs.declared.lines.Line.{Line}
use Rattle.split.specs.declared.lines.Line.TheVariants.{Unit as UnitLine, Share}

-- what the first word of a line is read as
abbrev pub KeywordRead : List ℕ → Result Keyword Fault → Type 0
KeywordRead word (Ok UnitWord) = word ≡ codes "unit"
KeywordRead word (Ok ShareWord) = word ≡ codes "share"
KeywordRead word (Err fault) = (fault ≡ UnknownWord) × (word ≢ codes "unit") × (word ≢ codes "share")

-- a share has one number
abbrev pub share_read : List ℕ → Result Line Fault
share_read [] = Err MissingNumber
share_read (share ∷ []) = Ok (Share share)
share_read (share ∷ more ∷ rest) = Err SurplusNumber

-- the widths and prices of steps, in turn
abbrev pub numbers_of : List Step → List ℕ
numbers_of [] = []
numbers_of (s ∷ ss) = s.width ∷ s.price ∷ numbers_of ss

-- a unit has its limit, and then the widths and prices of the steps that make its offer
abbrev pub UnitRead : List ℕ → Line → Type 0
UnitRead numbers (UnitLine limit offer) =
    (steps : List Step) × (limit ∷ numbers_of steps ≡ numbers) × (stepped_offer_made steps ≡ Ok offer)
UnitRead numbers (Share share) = ⊥

-- steps are refused where a width has no price; memory may run out
abbrev pub StepsRefused : List ℕ → Fault → Type 0
StepsRefused numbers WidthAlone = length numbers % 2 ≡ 1
StepsRefused numbers (Memory e) = Unit {0}
StepsRefused numbers other = ⊥

-- a unit is refused where it has no limit, where a width has no price, or where its list of steps is refused; memory
-- may run out at any
abbrev pub UnitRefused : List ℕ → Fault → Type 0
UnitRefused numbers MissingNumber = numbers ≡ []
UnitRefused numbers WidthAlone = (0 < length numbers) × (length numbers % 2 ≡ 0)
UnitRefused numbers (Listed refusal) =
    (limit : ℕ) × (steps : List Step) × (limit ∷ numbers_of steps ≡ numbers) × (stepped_offer_made steps ≡ Err refusal)
UnitRefused numbers (Memory e) = Unit {0}
UnitRefused numbers other = ⊥
