-- The numbers that a linear congruential generator gives.
use Rattle.std.specs.Prelude.{ℕ, ◌+◌, ◌*◌, ◌/◌, ◌%◌, ◌^◌, ◌==◌, if◌then◌else◌}

-- the state after one more number
unfoldable pub next_state : ℕ → ℕ
next_state state = (state * 6364136223846793005 + 1442695040888963407) % 2 ^ 64

-- the upper 31 bits of the next state
unfoldable pub next_number : ℕ → ℕ
next_number state = next_state state / 2 ^ 33

-- the next number's remainder by a bound; a bound of 0 gives 0
abbrev pub number_below : ℕ → ℕ → ℕ
number_below state bound = if bound == 0 then 0 else next_number state % bound

-- the state after that; a bound of 0 draws nothing
abbrev pub state_after : ℕ → ℕ → ℕ
state_after state bound = if bound == 0 then state else next_state state
