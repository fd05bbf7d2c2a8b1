use Rattle.std.proofs.Common.{◌≡◌, ℕ, ◌+◌, drop, get_or, replicate, ◌∙◌, arith}
use Rattle.std.proofs.lemmas.List.{at_drop_more, get_or-replicate}
use Rattle.std.proofs.lemmas.List.Sums.{sum_by-cons}
use Rattle.table.specs.declared.records.Commitment.{Commitment}
use Rattle.settling.specs.Figures.{bought_of, bought_by}
use Rattle.settling.proofs.buyers.Sold.bought.Goals as goal

pub loop-commitment-init : goal.loop-commitment-init
loop-commitment-init c = (
  λ k lt. let zero : get_or (replicate {A = ℕ} 64 0) k 0 ≡ 0 = get_or-replicate {A = ℕ} 64 k 0 0 lt in omega (arith, zero),
  λ k lt. omega (arith, get_or-replicate {A = ℕ} 64 k 0 0 lt),
)

pub loop-commitment-preserved : goal.loop-commitment-preserved
loop-commitment-preserved c =
    let all = c.args.self.now.commitments.now in
    let i = c.loop-commitment.commitment-index in
    let none : Commitment = record { plant = 0; buyer = 0; volume = 0 } in (
      λ k lt.
          let next : bought_by (k + 1) (drop i all) ≡ bought_of (k + 1) (get_or all i none) + bought_by (k + 1) (drop (i + 1) all) =
          at_drop_more (bought_by (k + 1)) all i none (omega arith) ∙ sum_by-cons (bought_of (k + 1)) (get_or all i none) (drop (i + 1) all) in
          omega (arith, c.add_bought.ensures.value k lt, next, c.loop-commitment.invariant.0 k lt),
      λ k lt. omega (arith, c.add_bought.ensures.bound k lt, c.loop-commitment.invariant.1 k lt),
    )
