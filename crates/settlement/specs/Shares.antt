-- Shares of a whole.
use Rattle.std.specs.Prelude.{ℕ, ◌+◌, ◌-◌, ◌*◌, ◌/◌, min, cond, ◌==◌}

-- what falls to `part` of `total`, its fraction dropped; nothing where the total is 0
unfoldable pub running_share : ℕ → ℕ → ℕ → ℕ
running_share whole part total = cond (total == 0) 0 (whole * part / total)

-- group 1's share of a plant's commitments, by the declared gross energy of both groups
abbrev pub group_one_share : ℕ → ℕ → ℕ → ℕ
group_one_share commitments gross1 gross2 =
    cond (gross1 + gross2 == 0) commitments (running_share commitments gross1 (gross1 + gross2))

-- group 2's share: the rest
abbrev pub group_two_share : ℕ → ℕ → ℕ → ℕ
group_two_share commitments gross1 gross2 = commitments - group_one_share commitments gross1 gross2

-- a buyer's weight: its use with its loss added; a loss over 2,000 is read as 2,000
abbrev pub weight_of : ℕ → ℕ → ℕ
weight_of loss used = used * (10000 + min loss 2000) / 10000
