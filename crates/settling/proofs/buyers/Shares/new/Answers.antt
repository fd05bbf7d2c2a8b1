use Rattle.std.proofs.Common.{rules, length, sum_by, ap, arith}
use Rattle.std.proofs.lemmas.List.{take_all}
use Rattle.table.specs.Rows.{new_buyer}
use Rattle.settling.proofs.Groups.{sum_rows}
use Rattle.settling.specs.Stages.{buyer_weight}
use Rattle.settling.proofs.buyers.Shares.new.Goals as goal

pub returns-clause-weights : goal.returns-clause-weights
returns-clause-weights c =
    let n = length c.args.buyers.now in
    let rows = sum_rows buyer_weight (new_buyer 0) c.args.buyers.now n (omega arith) in
    let all = ap (sum_by buyer_weight) (take_all n c.args.buyers.now (omega arith)) in
    search (rules, rows, all)
