use Rattle.std.proofs.Common.{rules, arith}
use Rattle.std.proofs.lemmas.Iterator.{YieldsList-from_slice}
use Rattle.std.proofs.lemmas.Iterator.Adapters.{at_most_from_yields_List}
use Rattle.settling.proofs.Volumes.{small_sum}
use Rattle.settling.proofs.buyers.Sold.volumes.Goals as goal

pub returns-clause-bound : goal.returns-clause-bound
returns-clause-bound c =
    small_sum _ (c.sum.ensures.runs tt) (at_most_from_yields_List (YieldsList-from_slice c.args.self.now.commitments.now (cc)) (omega arith)) c.map.ensures.closure (λ x r q k. search rules)
