-- What making a curve refuses, with the refusals' numbers, and what it makes.
use Rattle.std.specs.Prelude.{ℕ, ◌-◌, Bool, true, false, cond, not, ◌&&◌, ◌||◌, List, [], ◌∷◌, ◌++◌, length, replicate, codes, Ok, Err, Result, ◌==◌, nat_le, nat_lt}
use Rattle.curves.specs.declared.refusals.CurveRefusal.{CurveRefusal}
use Rattle.curves.specs.declared.refusals.CurveRefusal.TheVariants.{Steps, Price}
use Rattle.curves.specs.declared.tariff.Tariff.{Tariff}
use Rattle.curves.specs.declared.stepped.Stepped.{Stepped}
use Rattle.curves.specs.Kinds.{SteppedOffer}
use Rattle.curves.specs.declared.steps.Step.{Step}
use Rattle.curves.specs.declared.steps.StepTable.{StepTable}

-- the number of each refusal in the table of refusals
abbrev pub refusal_number : CurveRefusal → ℕ
refusal_number Steps = 8
refusal_number Price = 9

-- the text of a refusal, in bytes
abbrev pub refusal_text : CurveRefusal → List ℕ
refusal_text Steps = codes "refused with 8: not 1 to 10 steps, a width not 1 to 2000000, or a price that falls"
refusal_text Price = codes "refused with 9: a price over 10000000"

-- every width is from 1 to 2,000,000
abbrev pub widths_fit : List Step → Bool
widths_fit [] = true
widths_fit (s ∷ ss) = (nat_le 1 s.width && nat_le s.width 2000000) && widths_fit ss

-- no price is over 10,000,000
abbrev pub prices_fit : List Step → Bool
prices_fit [] = true
prices_fit (s ∷ ss) = nat_le s.price 10000000 && prices_fit ss

-- a price, as given, is under the one before it
abbrev pub price_falls : ℕ → List Step → Bool
price_falls before [] = false
price_falls before (s ∷ ss) = nat_lt s.price before || price_falls s.price ss

-- a price falls where prices have to rise
abbrev pub falls : Bool → ℕ → List Step → Bool
falls rises before l = rises && price_falls before l

-- the steps are refused: 0 or over 10 of them, a width outside its limits, or a price that falls where it may not
abbrev pub bad_steps : Bool → List Step → Bool
bad_steps rises l = length l == 0 || (nat_lt 10 (length l) || (not (widths_fit l) || falls rises 0 l))

-- the list in a table's ten places, and steps of width 0 and price 0 behind it
abbrev pub padded_steps : List Step → List Step
padded_steps l = l ++ replicate (10 - length l) (record { width = 0; price = 0 })

-- what making a table gives: the steps are judged first, over the whole list, and then the prices
abbrev pub judged : {C : Type 0} → (StepTable → C) → Bool → List Step → Result C CurveRefusal
judged curve rises l =
    cond (bad_steps rises l) (Err Steps)
    (cond (prices_fit l) (Ok (curve (record { count = length l; steps = padded_steps l }))) (Err Price))

-- what a list of steps makes: a table, a curve in steps and a stepped offer
abbrev pub table_made : Bool → List Step → Result StepTable CurveRefusal
table_made rises l = judged (λ t. t) rises l

abbrev pub stepped_made : {n : ℕ} → Bool → List Step → Result (Stepped n) CurveRefusal
stepped_made rises l = judged (λ t. record { table = t }) rises l

abbrev pub stepped_offer_made : List Step → Result SteppedOffer CurveRefusal
stepped_offer_made l = stepped_made true l

-- what a rate makes
abbrev pub tariff_made : ℕ → Result Tariff CurveRefusal
tariff_made rate = cond (nat_le rate 10000000) (Ok (record { rate = rate })) (Err Price)
