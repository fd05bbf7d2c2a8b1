use Rattle.std.proofs.Common.{ℕ, ◌-◌, ◌++◌, length, drop, replicate, ap, ◌∙◌}
use Rattle.std.proofs.lemmas.List.{drop-replicate}
use Rattle.curves.specs.declared.steps.Step.{Step}
use Rattle.curves.proofs.steps.padded.Goals as goal

pub returns : goal.returns
returns c =
    let list = c.args.list.now in
    let blank = c.default-steps.result in
    let behind = λ (w p : ℕ). let step : Step = record { width = w; price = p } in list ++ replicate (10 - length list) step in
    ap (λ xs. xs ++ drop (length list) (replicate 10 blank)) c.copy_from_slice.ensures.after
    ∙ ap (λ ys. list ++ ys) (drop-replicate (length list) 10 blank)
    ∙ ap (λ w. behind w blank.price) c.default-steps.ensures.0
    ∙ ap (behind 0) c.default-steps.ensures.1
