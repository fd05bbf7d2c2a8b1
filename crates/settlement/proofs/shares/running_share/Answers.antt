use Rattle.std.proofs.Common.{sym, arith}
use Rattle.std.proofs.lemmas.Bool.{cond-true, cond-false, eq-eqb, ne_eqb}
use Rattle.settlement.specs.Shares.{running_share}
use Rattle.settlement.proofs.shares.running_share.Goals as goal

pub returns-then-total-eq0 : goal.returns-then-total-eq0
unfolding running_share
returns-then-total-eq0 c = sym (cond-true _ _ _ (eq-eqb c.args.total 0 (omega arith)))

pub returns : goal.returns
unfolding running_share
returns c = sym (cond-false _ _ _ (ne_eqb c.args.total 0 (λ none. omega arith)))
