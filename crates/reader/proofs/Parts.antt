-- Parts of a record's values.
use Rattle.std.proofs.Common.{◌≡◌, ℕ, ◌*◌, min, List, length, take, drop, sym, ap, ◌∙◌, arith}
use Rattle.std.proofs.lemmas.List.{take_min, drop_min}
use Rattle.hourfile.proofs.Values.{words_take, words_drop}
use Rattle.hourfile.specs.Words.{words}

-- what stands behind the first four values
pub behind_four : (values : List (List ℕ)) (k : ℕ) → k ≡ min (length values) 4 → words (drop k values) ≡ drop 4 (words values)
behind_four values k is =
    let other : k ≡ min 4 (length values) = omega (arith, is) in
    ap (λ j. words (drop j values)) other ∙ ap words (drop_min 4 values) ∙ sym (words_drop 4 values)

-- the first n steps, and those behind them
module _ (part : List (List ℕ)) (n k m : ℕ) (is : k ≡ min (m * 2) (length part)) (same : m ≡ n) where
  pub front_part : words (take k part) ≡ take (2 * n) (words part)
  front_part =
      let twice : m * 2 ≡ 2 * n = omega (arith, same) in
      ap (λ j. words (take j part)) is ∙ ap words (take_min (m * 2) part) ∙ sym (words_take (m * 2) part) ∙ ap (λ j. take j (words part)) twice

  pub back_part : words (drop k part) ≡ drop (2 * n) (words part)
  back_part =
      let twice : m * 2 ≡ 2 * n = omega (arith, same) in
      ap (λ j. words (drop j part)) is ∙ ap words (drop_min (m * 2) part) ∙ sym (words_drop (m * 2) part) ∙ ap (λ j. drop j (words part)) twice
