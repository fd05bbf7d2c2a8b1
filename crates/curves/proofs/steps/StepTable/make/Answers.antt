use Rattle.std.proofs.Common.{◌≡◌, true, false, List, length, Ok, Result, sym, ap, ◌∙◌, arith}
use Rattle.std.proofs.lemmas.Bool.{le-ltb, and_left, and_right, or_from, not_from_true, cond-true, cond-false}
use Rattle.curves.specs.Steps.{steps_of}
use Rattle.curves.specs.Refusals.{falls, bad_steps, prices_fit}
use Rattle.curves.specs.declared.refusals.CurveRefusal.{CurveRefusal}
use Rattle.curves.specs.declared.steps.Step.{Step}
use Rattle.curves.specs.declared.steps.StepTable.{StepTable}
use Rattle.curves.proofs.Checks.{table_means}
use Rattle.curves.proofs.steps.StepTable.make.Goals as goal
use Rattle.curves.proofs.steps.StepTable.make.Goals.{then-rises, else-rises}

pub returns : goal.returns
returns c =
    let list = c.args.list.now in
    let rises = c.args.rises in
    let up : falls rises 0 list ≡ false = elim c.if-rises.branch [
      | then-rises w ↦ and_right _ _ (sym w.price_falls.ensures ∙ sym w.value-is ∙ c.if-price_falls.false)
      | else-rises w ↦ and_left _ _ w.if-rises.false
    ] in
    let good : bad_steps rises list ≡ false = or_from _ _ (sym c.if-is_empty.ensures) (or_from _ _ (le-ltb _ _ (omega arith))
    (or_from _ _ (not_from_true _ (sym c.if-not-widths_fit.ensures)) up)) in
    let prices : prices_fit list ≡ true = sym c.if-not-prices_fit.ensures in
    let table = λ (steps : List Step). let t : StepTable = record { count = length list; steps = steps } in t in
    let accepted = λ (steps : List Step). let r : Result StepTable CurveRefusal = Ok (table steps) in r in
    record {
      answer = ap accepted c.padded.ensures ∙ sym (cond-false _ _ _ good ∙ cond-true _ _ _ prices);
      meaning = ap (λ steps. steps_of rises (table steps)) c.padded.ensures ∙ table_means rises list good prices;
    }
