-- How each refusal and each fault of a file prints, and where records may not stand.
use Rattle.std.specs.Prelude.{◌≡◌, ℕ, ◌<◌, List, [], ◌∷◌, ◌++◌, codes, map, replicate, Err}
use Rattle.curves.specs.Refusals.{refusal_text as curve_text, refusal_number as curve_number}
use Rattle.curves.specs.declared.refusals.CurveRefusal.TheVariants.{Steps, Price as OverPrice}
use Rattle.table.specs.Refusals.{refusal_text, refusal_number, unit_refusal_text, unit_refusal_number}
use Rattle.table.specs.declared.refusals.BookRefusal.{BookRefusal}
use Rattle.table.specs.declared.refusals.BookRefusal.TheVariants.{NoPlant, NoUnit, NoBuyer, Full, Percentage, Energy, Commitments, Price, OutsideSet, Limited}
use Rattle.table.specs.declared.refusals.UnitRefusal.TheVariants.{Book, Rows}
use Rattle.hourfile.specs.Format.{first}
use Rattle.hourfile.specs.Faults.{unit_cause, cause_number}
use Rattle.hourfile.specs.declared.faults.Cause.TheVariants.{Ended, ShortBuffer, Length, Malformed, Misplaced, Book as ByBook, Steps as BySteps}
use Rattle.worked_hour.specs.File.{head, fault_of, at, line}

-- each refusal of the book, in the order of the table
abbrev pub refusals : List BookRefusal
refusals =
    NoPlant ∷ NoUnit ∷ NoBuyer ∷ Full ∷ Percentage ∷ Energy ∷ Commitments ∷ Price ∷ OutsideSet ∷ Limited ∷ []

abbrev pub texts : List (List ℕ)
texts =
    codes "refused with 1" ∷ codes "refused with 2" ∷ codes "refused with 3" ∷ codes "refused with 4" ∷ codes "refused with 5"
    ∷ codes "refused with 6" ∷ codes "refused with 7" ∷ codes "refused with 9" ∷ codes "refused with 10" ∷ codes "refused with 11" ∷ []

-- the words of a header (24 bytes), of an open hour with a plant, and of that hour once closed
abbrev pub opened : List ℕ
opened = head 1 5 ∷ 400 ∷ 9000 ∷ 200 ∷ 70 ∷ 0 ∷ []

abbrev pub planted : List ℕ
planted = opened ++ head 2 1 ∷ 0 ∷ []

abbrev pub closed : List ℕ
closed = planted ++ head 10 0 ∷ []

-- a unit of plant 1 with an offer of n steps, by the values behind its first four
abbrev pub unit : ℕ → ℕ → List ℕ → List ℕ
unit count n steps = planted ++ head 3 count ∷ 1 ∷ 40 ∷ 0 ∷ n ∷ steps

pub record RefusalTexts : Type 0 where
  pub numbers : map refusal_number refusals ≡ 1 ∷ 2 ∷ 3 ∷ 4 ∷ 5 ∷ 6 ∷ 7 ∷ 9 ∷ 10 ∷ 11 ∷ []
  pub book : map (λ refusal. refusal_text (refusal_number refusal)) refusals ≡ texts
  pub of_units : map (λ refusal. unit_refusal_text (Book refusal)) refusals ≡ texts
  pub steps : curve_text Steps ≡ codes "refused with 8: not 1 to 10 steps, a width not 1 to 2000000, or a price that falls"
  pub price : curve_text OverPrice ≡ codes "refused with 9: a price over 10000000"
  pub of_rows : map (λ refusal. unit_refusal_text (Rows refusal)) (Steps ∷ OverPrice ∷ []) ≡ codes "refused with 8: not 1 to 10 steps, a width not 1 to 2000000, or a price that falls" ∷ codes "refused with 9: a price over 10000000" ∷ []
  pub row_numbers : map curve_number (Steps ∷ OverPrice ∷ []) ≡ 8 ∷ 9 ∷ []
  pub unit_numbers : unit_refusal_number (Book Limited) ∷ unit_refusal_number (Book Price) ∷ unit_refusal_number (Rows Steps) ∷ unit_refusal_number (Rows OverPrice) ∷ [] ≡ 11 ∷ 9 ∷ 8 ∷ 9 ∷ []
  -- the lines of a file's faults: a price is told apart by its layer
  pub book_lines : map (λ refusal. line (ByBook refusal)) refusals ≡ codes "R B 1 100" ∷ codes "R B 2 100" ∷ codes "R B 3 100" ∷ codes "R B 4 100" ∷ codes "R B 5 100" ∷ codes "R B 6 100" ∷ codes "R B 7 100" ∷ codes "R B 9 100" ∷ codes "R B 10 100" ∷ codes "R B 11 100" ∷ []
  pub step_lines : map (λ refusal. line (BySteps refusal)) (Steps ∷ OverPrice ∷ []) ≡ codes "R O 8 100" ∷ codes "R O 9 100" ∷ []
  pub file_numbers : map cause_number (Ended ∷ ShortBuffer ∷ Length ∷ Malformed ∷ Misplaced ∷ []) ≡ 12 ∷ 13 ∷ 14 ∷ 15 ∷ 16 ∷ []
  pub unit_causes : map unit_cause (Book Price ∷ Rows OverPrice ∷ Rows Steps ∷ []) ≡ ByBook Price ∷ BySteps OverPrice ∷ BySteps Steps ∷ []
  -- records that may not stand before a header, on an open hour and on a closed one
  pub unopened : map fault_of ((head 2 1 ∷ 0 ∷ []) ∷ (head 3 4 ∷ 1 ∷ 40 ∷ 0 ∷ 0 ∷ []) ∷ (head 10 0 ∷ []) ∷ (head 13 2 ∷ 1 ∷ 5 ∷ []) ∷ (head 14 0 ∷ []) ∷ []) ≡ replicate 5 (at 0 Misplaced)
  pub on_open : map (λ more. fault_of (planted ++ more)) ((head 1 5 ∷ 0 ∷ 0 ∷ 0 ∷ 0 ∷ 0 ∷ []) ∷ (head 13 2 ∷ 1 ∷ 5 ∷ []) ∷ (head 12 10 ∷ replicate 10 0) ∷ (head 11 18 ∷ replicate 18 0) ∷ (head 14 0 ∷ []) ∷ []) ≡ replicate 5 (at 32 Misplaced)
  pub on_closed : map (λ more. fault_of (closed ++ more)) ((head 1 5 ∷ 0 ∷ 0 ∷ 0 ∷ 0 ∷ 0 ∷ []) ∷ (head 2 1 ∷ 0 ∷ []) ∷ (head 3 4 ∷ 1 ∷ 40 ∷ 0 ∷ 0 ∷ []) ∷ (head 5 1 ∷ 0 ∷ []) ∷ (head 9 2 ∷ 1 ∷ 1 ∷ []) ∷ (head 10 0 ∷ []) ∷ []) ≡ replicate 6 (at 36 Misplaced)
  -- a record of the wrong count that may not stand there either, of no kind, or of kind 15; a surplus value at its own
  -- place
  pub malformed_first : map fault_of ((head 2 2 ∷ 0 ∷ 0 ∷ []) ∷ (head 15 0 ∷ []) ∷ (head 14 1 ∷ 0 ∷ []) ∷ (head 3 3 ∷ 1 ∷ 40 ∷ 0 ∷ []) ∷ (head 3 2 ∷ 1 ∷ 40 ∷ []) ∷ (head 3 0 ∷ []) ∷ (7 ∷ []) ∷ []) ≡ replicate 7 (at 0 Malformed)
  pub no_head : (value : ℕ) (rest : List ℕ) → value < 268435456 → first (value ∷ rest) ≡ Err Malformed
  pub surplus : fault_of (planted ++ 7 ∷ head 6 3 ∷ 9 ∷ 9 ∷ 0 ∷ []) ∷ fault_of (planted ++ head 6 3 ∷ 9 ∷ 9 ∷ 0 ∷ 7 ∷ []) ∷ fault_of (closed ++ head 14 0 ∷ 7 ∷ []) ∷ [] ≡ at 32 Malformed ∷ at 32 (ByBook NoPlant) ∷ at 40 Malformed ∷ []
  -- an offer of 0 and of 11 steps, one price over the highest, and one that falls besides
  pub unit_steps : map fault_of (unit 4 0 [] ∷ unit 6 0 (1 ∷ 5 ∷ []) ∷ unit 28 11 (replicate 24 5) ∷ unit 8 1 (5 ∷ 5 ∷ 5 ∷ 10000001 ∷ []) ∷ unit 10 2 (1 ∷ 20000000 ∷ 1 ∷ 15000000 ∷ 1 ∷ 5 ∷ []) ∷ unit 10 1 (1 ∷ 5 ∷ 1 ∷ 20000000 ∷ 1 ∷ 15000000 ∷ []) ∷ []) ≡ at 32 (BySteps Steps) ∷ at 32 (BySteps Steps) ∷ at 32 (BySteps Steps) ∷ at 32 (BySteps OverPrice) ∷ at 32 (BySteps Steps) ∷ at 32 (BySteps OverPrice) ∷ []
  pub too_many : fault_of (unit 6 2 (1 ∷ 5 ∷ [])) ∷ fault_of (unit 6 268435455 (1 ∷ 5 ∷ [])) ∷ [] ≡ at 32 Malformed ∷ at 32 Malformed ∷ []
  pub header_over : fault_of (head 1 5 ∷ 0 ∷ 50001 ∷ 0 ∷ 0 ∷ 0 ∷ head 2 2 ∷ []) ≡ at 0 (ByBook Price)
