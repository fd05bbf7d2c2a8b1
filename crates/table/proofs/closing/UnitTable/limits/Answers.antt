use Rattle.std.proofs.Common.{rules, min, sym, ⊎_elim, ◌∙◌, arith}
use Rattle.std.proofs.lemmas.List.{get_or_past}
use Rattle.std.proofs.lemmas.Bool.{cases_lt, le-ltb, cond-false}
use Rattle.table.specs.Closing.{limit_at}
use Rattle.table.proofs.Closings.{made_each}
use Rattle.table.proofs.closing.UnitTable.limits.Goals as goal

pub returns : goal.returns
returns c = λ k.
    ⊎_elim
    (λ lt. made_each _ _ (limit_at c.args.plant.number c.args.plant.loss c.args.self.now) (λ i y q called. search rules) c.from_fn.result 128 c.from_fn.ensures.items k 0 lt)
    (λ past. get_or_past c.from_fn.result k 0 (omega arith) ∙ sym (cond-false _ _ _ (le-ltb k (min c.args.self.now.count 128) (omega arith))))
    (cases_lt k 128)
