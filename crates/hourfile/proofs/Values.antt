-- Words that are values.
use Rattle.std.proofs.Common.{◌≡◌, ℕ, ◌&&◌, List, [], ◌∷◌, length, take, drop, ap, refl}
use Rattle.std.proofs.lemmas.List.{take-map, drop-map, length-map}
use Rattle.std.specs.List.{list_all}
use Rattle.hourfile.specs.Words.{word, words, is_value, all_values}

pub all_read : (chunks : List (List ℕ)) → list_all (λ w. is_value (word w)) chunks ≡ all_values (words chunks)
all_read [] = refl
all_read (w ∷ ws) = ap (λ b. is_value (word w) && b) (all_read ws)

-- the words of a part are a part of the words
pub words_take : (n : ℕ) (chunks : List (List ℕ)) → take n (words chunks) ≡ words (take n chunks)
words_take n chunks = take-map word n chunks

pub words_drop : (n : ℕ) (chunks : List (List ℕ)) → drop n (words chunks) ≡ words (drop n chunks)
words_drop n chunks = drop-map word n chunks

pub words_long : (chunks : List (List ℕ)) → length (words chunks) ≡ length chunks
words_long chunks = length-map chunks word
