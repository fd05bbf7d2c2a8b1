use Rattle.std.proofs.Common.{rules}
use Rattle.std.proofs.lemmas.List.Sorted.{answers_always}
use Rattle.curves.proofs.Checks.{falls_unsorted}
use Rattle.curves.proofs.steps.price_falls.Goals as goal

pub returns : goal.returns
returns c = falls_unsorted c.args.list.now c.is_sorted_by_key.result (c.is_sorted_by_key.ensures.cases (λ s. s.price) (answers_always _ _ _ (λ f a r f' k. search rules)))
