-- The lines that a share is answered with.
use Rattle.std.specs.Prelude.{ℕ, ◌+◌, List, [], ◌∷◌, ◌++◌, codes, decimal}

-- the line of a unit: its number and its amount
abbrev pub unit_text : ℕ → ℕ → List ℕ
unit_text number amount = codes "unit " ++ (decimal number ++ (codes " " ++ (decimal amount ++ codes "\n")))

-- a line for each unit; the first has the number given
abbrev pub units_text : ℕ → List ℕ → List ℕ
units_text number [] = []
units_text number (amount ∷ amounts) = unit_text number amount ++ units_text (number + 1) amounts

-- the cost and what is not covered, a line for each
abbrev pub cost_text : ℕ → ℕ → List ℕ
cost_text cost uncovered = codes "cost " ++ (decimal cost ++ (codes "\nuncovered " ++ (decimal uncovered ++ codes "\n")))

-- the lines of a share: its number of kWh, the units in order, their cost and what is not covered
abbrev pub share_text : ℕ → List ℕ → ℕ → ℕ → List ℕ
share_text share amounts cost uncovered =
    codes "share " ++ (decimal share ++ (codes "\n" ++ (units_text 1 amounts ++ cost_text cost uncovered)))
