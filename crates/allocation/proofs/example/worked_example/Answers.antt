use Rattle.std.proofs.Common.{◌≡◌, refl, arith}
use Rattle.allocation.specs.TwoUnits.{step}
use Rattle.allocation.proofs.TwoUnits.{two_steps, worked_example, pinned, offer_made}
use Rattle.allocation.proofs.example.worked_example.Goals as goal

pub returns : goal.returns
returns c =
    let first : c.unwrap-first.result ≡ two_steps (step 50 300) (step 50 500) =
    offer_made _ _ (step 50 300) (step 50 500) _ _ c.step.ensures c.step-2.ensures c.new.ensures.answer c.unwrap-first.ensures refl in
    let second : c.unwrap-second.result ≡ two_steps (step 80 400) (step 20 500) =
    offer_made _ _ (step 80 400) (step 20 500) _ _ c.step-3.ensures c.step-4.ensures c.new-2.ensures.answer c.unwrap-second.ensures refl in
    record {
      stands = worked_example;
      amounts = pinned _ _ _ _ _ first second (omega arith) (omega arith) c.split-uncovered.ensures;
    }
