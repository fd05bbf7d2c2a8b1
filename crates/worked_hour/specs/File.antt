-- A file of the fuller hour, word by word; faults and their lines; questions of a small table, and its listing.
use Rattle.std.specs.Prelude.{◌≡◌, ℕ, ◌+◌, ◌-◌, ◌*◌, false, List, [], ◌∷◌, ◌++◌, length, map, replicate, take, codes, Option, Some, None, Ok, Err, negsuc}
use Rattle.curves.specs.declared.refusals.CurveRefusal.TheVariants.{Steps as BadSteps, Price}
use Rattle.curves.specs.declared.steps.Step.{Step}
use Rattle.curves.specs.declared.steps.StepTable.{StepTable}
use Rattle.table.specs.declared.records.Table.{Table}
use Rattle.table.specs.declared.refusals.BookRefusal.TheVariants.{NoPlant, NoUnit, NoBuyer, Limited}
use Rattle.hourfile.specs.Faults.{fault_text}
use Rattle.hourfile.specs.Reading.{start, file_words}
use Rattle.hourfile.specs.Words.{word}
use Rattle.hourfile.specs.declared.faults.Cause.{Cause}
use Rattle.hourfile.specs.declared.faults.Cause.TheVariants.{Ended, ShortBuffer, Length, Malformed, Misplaced, Book, Steps}
use Rattle.hourfile.specs.declared.faults.FileFault.{FileFault}
use Rattle.reader.specs.Outcome.{Outcome, outcome, read_from}
use Rattle.reader.specs.Progress.Progress.{Opened, Settled}
use Rattle.listing.specs.Listing.{listing_of, count_of}
use Rattle.listing.specs.declared.rows.Kind.TheVariants.{Competitive as OfCompetitive, Guaranteed as OfGuaranteed, Plants as OfPlants, Buyers as OfBuyers}
use Rattle.listing.specs.Printed.{fault_line}
use Rattle.book.specs.Law.{entered, metered}
use Rattle.book.specs.Questions.{unit_answer, plant_answer, buyer_answer}
use Rattle.worked_hour.specs.Examples.{step}
use Rattle.worked_hour.specs.Hour.{header, entries, readings}

-- the head of a record: its kind and how many values follow
abbrev pub head : ℕ → ℕ → ℕ
head kind count = kind * 268435456 + count

abbrev pub entry_words : List ℕ
entry_words =
    head 1 5 ∷ 400 ∷ 9000 ∷ 200 ∷ 70 ∷ 0
    ∷ head 2 1 ∷ 200 ∷ head 2 1 ∷ 500 ∷ head 5 1 ∷ 100 ∷ head 5 1 ∷ 1500
    ∷ head 3 14 ∷ 1 ∷ 80 ∷ 300 ∷ 3 ∷ 30 ∷ 300 ∷ 40 ∷ 500 ∷ 100 ∷ 520 ∷ 60 ∷ 350 ∷ 100 ∷ 341
    ∷ head 3 12 ∷ 2 ∷ 60 ∷ 400 ∷ 2 ∷ 20 ∷ 100 ∷ 50 ∷ 600 ∷ 100 ∷ 450 ∷ 100 ∷ 90
    ∷ head 3 8 ∷ 1 ∷ 99 ∷ 0 ∷ 1 ∷ 10 ∷ 200 ∷ 10 ∷ 210
    ∷ head 4 5 ∷ 1 ∷ 45 ∷ 70 ∷ 200 ∷ 1 ∷ head 4 5 ∷ 2 ∷ 90 ∷ 40 ∷ 0 ∷ 0
    ∷ head 8 2 ∷ 1 ∷ 3 ∷ head 8 2 ∷ 1 ∷ 3 ∷ head 7 3 ∷ 1 ∷ 2 ∷ 100 ∷ head 7 3 ∷ 1 ∷ 3 ∷ 98 ∷ head 7 3 ∷ 2 ∷ 1 ∷ 50
    ∷ head 8 2 ∷ 2 ∷ 2 ∷ head 9 2 ∷ 2 ∷ 2
    ∷ head 6 3 ∷ 1 ∷ 1 ∷ 45 ∷ head 6 3 ∷ 2 ∷ 2 ∷ 150 ∷ head 6 3 ∷ 1 ∷ 2 ∷ 80 ∷ []

-- the last commitment of the fuller hour, close, readings and settle
abbrev pub reading_words : List ℕ
reading_words =
    head 6 3 ∷ 2 ∷ 1 ∷ 7 ∷ head 10 0
    ∷ head 11 18 ∷ 1 ∷ 1 ∷ 0 ∷ 0 ∷ 0 ∷ 0 ∷ 0 ∷ 0 ∷ 0 ∷ 0 ∷ 0 ∷ 0 ∷ 0 ∷ 0 ∷ 0 ∷ 0 ∷ 0 ∷ 0
    ∷ head 11 18 ∷ 1 ∷ 120 ∷ 70 ∷ 20 ∷ 10 ∷ 115 ∷ 1 ∷ 20 ∷ 1 ∷ 2 ∷ 3 ∷ 4 ∷ 5 ∷ 2 ∷ 780 ∷ 5 ∷ 2 ∷ 1
    ∷ head 11 18 ∷ 2 ∷ 150 ∷ 60 ∷ 10 ∷ 65 ∷ 0 ∷ 0 ∷ 30 ∷ 0 ∷ 0 ∷ 0 ∷ 50 ∷ 0 ∷ 1 ∷ 0 ∷ 0 ∷ 0 ∷ 0
    ∷ head 12 10 ∷ 1 ∷ 66 ∷ 7 ∷ 0 ∷ 0 ∷ 9 ∷ 0 ∷ 0 ∷ 0 ∷ 0
    ∷ head 12 10 ∷ 2 ∷ 88 ∷ 9 ∷ 3 ∷ 0 ∷ 0 ∷ 0 ∷ 0 ∷ 0 ∷ 0
    ∷ head 13 2 ∷ 1 ∷ 200 ∷ head 13 2 ∷ 2 ∷ 333 ∷ head 14 0 ∷ []

abbrev pub table : List Step → StepTable
table steps = record { count = length steps; steps = steps ++ replicate (10 - length steps) (step 0 0) }

-- where reading a file of these words ends
abbrev pub read : List ℕ → Outcome
read ws = read_from (Ok (record { words = ws; place = 0 }))

abbrev pub fault_of : List ℕ → Option FileFault
fault_of ws = (read ws).fault

abbrev pub at : ℕ → Cause → Option FileFault
at place cause = Some (record { cause = cause; place = place })

-- the line of a fault at byte 100
abbrev pub line : Cause → List ℕ
line cause = fault_text (record { cause = cause; place = 100 })

-- a table with a row of each kind
abbrev pub small : Table
small = record {
  plants = record { count = 1; rows = record { loss = 0; figures = record { committed = 50; allocated = 41; run = 11; support = 21; rate = 350; cost = 9000 } } ∷ [] };
  competitive = record { count = 1; rows = record { plant = 1; declared = 0; seasonal = None; internal = 0; feeds = 0; aside = false; reading = None; figures = record { allocated = 40; billed = 131; payment = 28000 } } ∷ [] };
  guaranteed = record { count = 1; rows = record { plant = 1; declared = 0; seasonal = Some 0; internal = 0; feeds = 0; aside = false; reading = None; figures = record { allocated = 1; billed = 2; payment = 3 } } ∷ [] };
  buyers = record { count = 1; rows = record { loss = 0; used = None; figures = record { share = 130; net = negsuc 79 } } ∷ [] };
  commitments = record { count = 0; rows = [] };
  sold = [];
  figures = record { billed = 133; committed = 50; unassigned = 4 };
}

-- a table with as many rows of each kind as there is room for
abbrev pub full : Table
full = record {
  plants = record { count = 32; rows = [] };
  competitive = record { count = 128; rows = [] };
  guaranteed = record { count = 128; rows = [] };
  buyers = record { count = 64; rows = [] };
  commitments = record { count = 768; rows = [] };
  sold = [];
  figures = record { billed = 0; committed = 0; unassigned = 0 };
}

pub record FileExamples : Type 0 where
  pub word_is : word (5 ∷ 1 ∷ 2 ∷ 16 ∷ []) ≡ 268566789
  pub file : read (entry_words ++ reading_words) ≡ record {
    progress = Settled (record {
      header = header;
      entries = entered entries;
      rows =
          record { offer = record { table = table (step 30 300 ∷ step 40 500 ∷ step 100 520 ∷ []) }; cost = record { table = table (step 60 350 ∷ step 100 341 ∷ []) } }
          ∷ record { offer = record { table = table (step 20 100 ∷ step 50 600 ∷ []) }; cost = record { table = table (step 100 450 ∷ step 100 90 ∷ []) } }
          ∷ record { offer = record { table = table (step 10 200 ∷ []) }; cost = record { table = table (step 10 210 ∷ []) } } ∷ [];
      readings = metered entries readings;
    });
    fault = None;
  }
  pub bytes : outcome (5 ∷ 0 ∷ 0 ∷ 16 ∷ 144 ∷ 1 ∷ 0 ∷ 0 ∷ 40 ∷ 35 ∷ 0 ∷ 0 ∷ 200 ∷ 0 ∷ 0 ∷ 0 ∷ 70 ∷ 0 ∷ 0 ∷ 0 ∷ 0 ∷ 0 ∷ 0 ∷ 0 ∷ []) ≡ record { progress = Opened (record { header = header; entries = []; rows = []; readings = [] }); fault = at 24 Ended }
  pub odd_length : (outcome (5 ∷ 0 ∷ 0 ∷ [])).fault ≡ at 0 Length
  -- the longest file is read, and one with a word more is not
  pub longest : (file : List ℕ) → length file ≡ 65536 → start file ≡ Ok (record { words = file_words file; place = 0 })
  pub too_long : (file : List ℕ) → length file ≡ 65540 → start file ≡ Err (record { cause = Length; place = 0 })
  pub nothing : fault_of [] ≡ at 0 Ended
  pub cut : fault_of (take 6 entry_words) ≡ at 24 Ended
  pub cut_record : fault_of (take 7 entry_words) ≡ at 24 Malformed
  pub no_head : fault_of (take 6 entry_words ++ 1 ∷ []) ≡ at 24 Malformed
  pub header_twice : fault_of (take 6 entry_words ++ entry_words) ≡ at 24 Misplaced
  pub after_settle : fault_of (entry_words ++ reading_words ++ head 14 0 ∷ []) ≡ at (4 * length (entry_words ++ reading_words)) Misplaced
  pub no_plant : fault_of (take 6 entry_words ++ head 6 3 ∷ 1 ∷ 1 ∷ 45 ∷ []) ≡ at 24 (Book NoPlant)
  pub bad_steps : fault_of (take 8 entry_words ++ head 3 8 ∷ 1 ∷ 99 ∷ 0 ∷ 1 ∷ 10 ∷ 10000001 ∷ 0 ∷ 210 ∷ []) ≡ at 32 (Steps BadSteps)
  pub high_price : fault_of (take 8 entry_words ++ head 3 8 ∷ 1 ∷ 99 ∷ 0 ∷ 1 ∷ 10 ∷ 10000001 ∷ 1 ∷ 210 ∷ []) ≡ at 32 (Steps Price)
  pub book_first : fault_of (take 6 entry_words ++ head 3 8 ∷ 1 ∷ 99 ∷ 0 ∷ 1 ∷ 10 ∷ 10000001 ∷ 0 ∷ 210 ∷ []) ≡ at 24 (Book NoPlant)
  pub cost_price_last : fault_of (take 8 entry_words ++ head 3 8 ∷ 1 ∷ 99 ∷ 0 ∷ 1 ∷ 0 ∷ 10 ∷ 1 ∷ 10000001 ∷ []) ≡ at 32 (Steps BadSteps)
  pub no_cost : fault_of (take 8 entry_words ++ head 3 6 ∷ 1 ∷ 99 ∷ 0 ∷ 1 ∷ 10 ∷ 200 ∷ []) ≡ at 32 (Steps BadSteps)
  pub few_steps : fault_of (take 8 entry_words ++ head 3 4 ∷ 1 ∷ 99 ∷ 0 ∷ 1 ∷ []) ≡ at 32 Malformed
  pub odd_values : fault_of (take 8 entry_words ++ head 3 5 ∷ 1 ∷ 99 ∷ 0 ∷ 0 ∷ 1 ∷ []) ≡ at 32 Malformed
  pub cut_unit : fault_of (take 8 entry_words ++ head 3 10 ∷ 1 ∷ 99 ∷ 0 ∷ 1 ∷ 10 ∷ 200 ∷ 10 ∷ 210 ∷ []) ≡ at 32 Malformed
  pub head_inside : fault_of (take 6 entry_words ++ head 2 1 ∷ head 2 1 ∷ []) ≡ at 24 Malformed
  pub far_count : fault_of (take 6 entry_words ++ head 2 134217729 ∷ 200 ∷ []) ≡ at 24 Malformed
  pub no_settle : fault_of (take 6 entry_words ++ head 10 0 ∷ []) ≡ at 28 Ended
  pub ended_line : line Ended ≡ codes "R F 12 100"
  pub buffer_line : line ShortBuffer ≡ codes "R F 13 100"
  pub length_line : line Length ≡ codes "R F 14 100"
  pub malformed_line : line Malformed ≡ codes "R F 15 100"
  pub misplaced_line : line Misplaced ≡ codes "R F 16 100"
  pub book_line : line (Book Limited) ≡ codes "R B 11 100"
  pub steps_line : line (Steps Price) ≡ codes "R O 9 100"
  -- each row of a full table has its line
  pub listed : map (λ kind. count_of kind full) (OfCompetitive ∷ OfGuaranteed ∷ OfPlants ∷ OfBuyers ∷ []) ≡ 128 ∷ 128 ∷ 32 ∷ 64 ∷ []
  -- the line of a fault ends with a line feed
  pub shown : fault_line (record { cause = Ended; place = 100 }) ≡ codes "R F 12 100\n"
  pub unit_questions : unit_answer 1 1 small ∷ unit_answer 2 1 small ∷ unit_answer 1 2 small ∷ unit_answer 2 0 small ∷ unit_answer 3 1 small ∷ [] ≡ Ok (record { allocated = 40; billed = 131; payment = 28000 }) ∷ Ok (record { allocated = 1; billed = 2; payment = 3 }) ∷ Err NoUnit ∷ Err NoUnit ∷ Err NoUnit ∷ []
  pub plant_questions : plant_answer 1 small ∷ plant_answer 0 small ∷ plant_answer 2 small ∷ [] ≡ Ok (record { committed = 50; allocated = 41; run = 11; support = 21; rate = 350; cost = 9000 }) ∷ Err NoPlant ∷ Err NoPlant ∷ []
  pub buyer_questions : buyer_answer 1 small ∷ buyer_answer 0 small ∷ buyer_answer 2 small ∷ [] ≡ Ok (record { share = 130; net = negsuc 79 }) ∷ Err NoBuyer ∷ Err NoBuyer ∷ []
  pub listing : listing_of small ≡ codes "U C 1 40 131 28000\nU G 1 1 2 3\nP 1 50 41 11 21 350 9000\nB 1 130 -80\nH 133 50 4\n"
