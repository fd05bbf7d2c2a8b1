-- Energy carried to the reference point. Losses and internal consumption are in hundredths of a percent.
use Rattle.std.specs.Prelude.{ℕ, ◌-◌, ◌*◌, ◌/◌, min}
use Rattle.curves.specs.Limits.{read_energy}

-- what is left of 10,000 parts after a loss; a loss over 2,000 is read as 2,000
abbrev pub kept : ℕ → ℕ
kept loss = 10000 - min loss 2000

-- energy of a unit at the reference point, its fraction dropped
abbrev pub at_reference : ℕ → ℕ → ℕ
at_reference loss energy = energy * kept loss / 10000

-- gross energy less internal consumption, at the reference point: one fraction is dropped
abbrev pub net_of : ℕ → ℕ → ℕ → ℕ
net_of internal loss gross = gross * kept internal * kept loss / 100000000

-- the billed energy of a unit; net energy over 2,000,000 is read as 2,000,000
abbrev pub bill_of : ℕ → ℕ → ℕ
bill_of loss net = at_reference loss (read_energy net)
