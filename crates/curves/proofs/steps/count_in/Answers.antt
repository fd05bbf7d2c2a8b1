use Rattle.std.proofs.Common.{◌-◌, ◌<◌, ⊎_elim, ◌∙◌, arith}
use Rattle.std.proofs.lemmas.Bool.{cases_lt}
use Rattle.curves.proofs.Walks.{rest_here, rest_past}
use Rattle.curves.proofs.steps.count_in.Goals as goal

pub loop-step-preserved : goal.loop-step-preserved
loop-step-preserved c = (
  omega arith,
  omega arith,
  omega arith,
  λ k low high. ⊎_elim
      (λ (here : c.loop-step.done < k). omega (
        arith,
        c.loop-step.invariant.4 k here,
        rest_here c.args.rises _ (k - c.loop-step.done) c.args.steps.now _ _ _ _ c.loop-step-test.true c.price_read-last.ensures c.read_kwh-width.ensures (omega arith),
      ))
      (λ before. c.loop-step.invariant.3 k low before)
      (cases_lt c.loop-step.done k),
  λ m above.
      c.loop-step.invariant.4 m (omega arith)
      ∙ rest_past c.args.rises _ _ _ c.args.steps.now _ _ _ _ c.loop-step-test.true c.price_read-last.ensures c.read_kwh-width.ensures above,
)
