-- The price of each kWh of an offer whose stretches are single kWh: that of the stepped offer below.
use Rattle.std.specs.Prelude.{ℕ, ◌≤◌}
use Rattle.curves.specs.KindLaws.{stepped_offer_bounded, stepped_offer_rises}
use Rattle.curves.specs.Kinds.{stepped_offer_price}
use Rattle.curves.specs.Prices.{NeverFalls}
use Rattle.split_cases.specs.declared.single.Single.{Single}

abbrev pub single_price : Single → ℕ → ℕ
single_price s = stepped_offer_price s.below

pub single_bounded : (s : Single) (k : ℕ) → single_price s k ≤ 10000000
single_bounded s k = stepped_offer_bounded s.below k

pub single_rises : (s : Single) → NeverFalls (single_price s)
single_rises s = stepped_offer_rises s.below
