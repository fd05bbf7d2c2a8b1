-- An empty table stands for no entries and no readings.
use Rattle.table.specs.Places.{unit_at}
use Rattle.std.proofs.Common.{◌≡◌, ℕ, zero, suc, ◌<◌, [], None, replicate, refl, ap, ◌∙◌, ⊎_elim, arith}
use Rattle.std.proofs.lemmas.List.{get_or-replicate, get_or_past, length-replicate}
use Rattle.std.proofs.lemmas.Bool.{cases_lt}
use Rattle.table.proofs.Sold.{sold_of}
use Rattle.table.specs.Entries.{sold_at}
use Rattle.table.specs.History.{UnitsStand, Stands, empty_units, empty_table}
use Rattle.table.specs.Metered.{Metered}
use Rattle.table.specs.Rows.{new_unit, new_plant, new_buyer}
use Rattle.table.specs.declared.records.Buyer.{Buyer}
use Rattle.table.specs.declared.records.Commitment.{Commitment}
use Rattle.table.specs.declared.records.Plant.{Plant}
use Rattle.table.specs.declared.records.UnitRecord.{UnitRecord}

units_none : (g : ℕ) → UnitsStand g [] empty_units
units_none g = record {
  room = omega arith;
  long = length-replicate {A = UnitRecord} 128 (new_unit 0 0 None 0 0);
  count = refl;
  rows = λ i lt. absurd (omega arith);
}

none_sold : (p : ℕ) → sold_at (replicate 32 0) p ≡ 0
none_sold zero = refl
none_sold (suc p) =
    sold_of (replicate 32 0) p
    ∙ ⊎_elim (λ past. get_or_past (replicate 32 0) p 0 (omega (arith, length-replicate {A = ℕ} 32 0))) (λ upto. get_or-replicate {A = ℕ} 32 p 0 0 (omega arith)) (cases_lt 31 p)

pub empty_stands : Stands [] empty_table
empty_stands = record {
  plants = record { room = omega arith; long = length-replicate {A = Plant} 32 (new_plant 0); counted = refl; rows = λ i lt. absurd (omega arith) };
  competitive = units_none 1;
  guaranteed = units_none 2;
  buyers = record { room = omega arith; long = length-replicate {A = Buyer} 64 (new_buyer 0); counted = refl; rows = λ i lt. absurd (omega arith) };
  commitments = record { room = omega arith; long = length-replicate {A = Commitment} 768 (record { plant = 0; buyer = 0; volume = 0 }); counted = refl; rows = refl };
  sold = record { long = length-replicate {A = ℕ} 32 0; sums = none_sold };
}

unread : (i : ℕ) → i < 128 → (unit_at empty_units i).reading ≡ None
unread i lt = ap (λ (u : UnitRecord). u.reading) (get_or-replicate {A = UnitRecord} 128 i (new_unit 0 0 None 0 0) (new_unit 0 0 None 0 0) lt)

pub empty_unread : Metered [] empty_table
empty_unread = record {
  competitive_long = length-replicate {A = UnitRecord} 128 (new_unit 0 0 None 0 0);
  guaranteed_long = length-replicate {A = UnitRecord} 128 (new_unit 0 0 None 0 0);
  buyers_long = length-replicate {A = Buyer} 64 (new_buyer 0);
  competitive = unread;
  guaranteed = unread;
  uses = λ i lt. ap (λ (b : Buyer). b.used) (get_or-replicate {A = Buyer} 64 i (new_buyer 0) (new_buyer 0) lt);
}
