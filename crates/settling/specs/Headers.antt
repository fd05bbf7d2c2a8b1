-- An hour's header: which values are turned down.
use Rattle.std.specs.Prelude.{Bool, cond, ◌||◌, Ok, Err, Result, nat_lt}
use Rattle.table.specs.declared.refusals.BookRefusal.{BookRefusal}
use Rattle.table.specs.declared.refusals.BookRefusal.TheVariants.{Price}
use Rattle.settling.specs.declared.header.Header.{Header}

-- ceiling, saving and the tariff's rate are at most 10,000,000, the coefficient at most 50,000, the base rate at most
-- 1,000,000
abbrev pub over_limit : Header → Bool
over_limit h =
    nat_lt 10000000 h.ceiling || (nat_lt 50000 h.coefficient || (nat_lt 1000000 h.base || (nat_lt 10000000 h.saving || nat_lt 10000000 h.tariff)))

-- a header within these limits, or the refusal of one that isn't
abbrev pub checked : Header → Result Header BookRefusal
checked h = cond (over_limit h) (Err Price) (Ok h)
