-- What a number past a limit stands for: the limit itself.
use Rattle.std.specs.Prelude.{ℕ, min, max}

-- a number of kWh
abbrev pub read_energy : ℕ → ℕ
read_energy e = min e 2000000

-- the number of one kWh, and the width of a step
abbrev pub read_kwh : ℕ → ℕ
read_kwh k = max 1 (min k 2000000)

-- a price, a rate or a ceiling
abbrev pub read_price : ℕ → ℕ
read_price p = min p 10000000

-- how many steps of a table are in use
abbrev pub read_count : ℕ → ℕ
read_count n = max 1 (min n 10)
