use Rattle.std.proofs.Common.{◌∙◌, arith}
use Rattle.curves.proofs.Walks.{rest_past}
use Rattle.curves.proofs.steps.level_in.Goals as goal

pub loop-step-preserved : goal.loop-step-preserved
loop-step-preserved c = (
  omega arith,
  omega arith,
  λ m above.
      c.loop-step.invariant.2 m (omega arith)
      ∙ rest_past c.args.rises _ _ _ c.args.steps.now _ _ _ _ c.loop-step-test.true c.price_read-price.ensures c.read_kwh-width.ensures above,
)
