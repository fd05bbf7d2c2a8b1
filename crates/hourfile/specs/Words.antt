-- The words of an hour file: four bytes each, the lowest first.
use Rattle.std.specs.Prelude.{ℕ, ◌/◌, ◌%◌, ◌==◌, Bool, List, map, slice_index}
use Rattle.std.specs.Int.{w32, from_le_bytes}
use Rattle.std.specs.List.{list_all}

-- the number of four bytes
abbrev pub word : List ℕ → ℕ
word bytes = from_le_bytes w32 bytes

abbrev pub words : List (List ℕ) → List ℕ
words chunks = map word chunks

-- a word's top four bits, and its low 28
abbrev pub kind_of : ℕ → ℕ
kind_of w = w / 268435456

abbrev pub count_of : ℕ → ℕ
count_of w = w % 268435456

-- a word of kind 0 is a value
abbrev pub is_value : ℕ → Bool
is_value w = kind_of w == 0

-- the value at a place of a record's values; 0 past their end
abbrev pub value_at : List ℕ → ℕ → ℕ
value_at values i = slice_index values i

-- each word is a value
abbrev pub all_values : List ℕ → Bool
all_values values = list_all is_value values
