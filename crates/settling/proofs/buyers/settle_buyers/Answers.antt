use Rattle.std.proofs.Common.{◌≡◌, ℕ, ◌+◌, ◌<◌, ◌≢◌, min, length, get_or, sym, ap, ◌∙◌, arith, below_more}
use Rattle.std.proofs.lemmas.List.{length-take, get_or-take, get_or-set_same, get_or-set_other}
use Rattle.allocation.proofs.Sums.{sum_none, sum_more}
use Rattle.table.specs.Rows.{new_buyer}
use Rattle.table.specs.declared.records.Buyer.{Buyer}
use Rattle.settling.specs.Figures.{bought_by}
use Rattle.settling.specs.Settled.{settled_buyer}
use Rattle.settling.specs.Stages.{buyer_weight, weights_of, buyer_figures_by}
use Rattle.settling.proofs.Groups.{sum_prefix}
use Rattle.settling.proofs.buyers.settle_buyers.Goals as goal

pub loop-place-init : goal.loop-place-init
loop-place-init c = (λ k below. absurd (omega arith), λ k past within. get_or-take _ c.args.buyers.now.rows k (new_buyer 0) within, sym (sum_none _), omega arith)

pub figures-buyer-requires : goal.figures-buyer-requires
figures-buyer-requires c =
    let i = c.loop-place.place in
    let here : i < length c.entered-entered.result.now = omega (arith, length-take (length c.entered-entered.result.now) c.args.buyers.now.rows) in
    let weight = λ (k : ℕ). buyer_weight (get_or c.args.buyers.now.rows k (new_buyer 0)) in
    let same : c.weight_of.result ≡ weight i = c.weight_of.ensures.value ∙ ap buyer_weight (c.loop-place.invariant.1 i (omega arith) here) in
    let prefix = sum_prefix weight (i + 1) (min c.args.buyers.now.count 64) (omega arith) in
    (omega arith, (omega (arith, same, sum_more i weight, prefix, c.loop-place.invariant.2, c.requires), c.bought-bought.ensures.bound i (omega arith)))

pub loop-place-preserved : goal.loop-place-preserved
loop-place-preserved c =
    let buyers = c.loop-place.buyer-items in
    let start = c.args.buyers.now.rows in
    let i = c.loop-place.place in
    let here : i < length c.entered-entered.result.now = omega (arith, length-take (length c.entered-entered.result.now) c.args.buyers.now.rows) in
    let none : Buyer = new_buyer 0 in
    let weight = λ (k : ℕ). buyer_weight (get_or start k none) in
    let lt : i < length buyers = omega arith in
    let was : get_or buyers i none ≡ get_or start i none = c.loop-place.invariant.1 i (omega arith) here in
    let same : c.weight_of.result ≡ weight i = c.weight_of.ensures.value ∙ ap buyer_weight was in
    let upto : c.loop-place.before + c.weight_of.result ≡ weights_of (i + 1) start = omega (arith, same, sum_more i weight, c.loop-place.invariant.2) in
    let figures = λ (b u s : ℕ). buyer_figures_by c.args.shares.now.billed b u c.args.shares.now.weights s in
    let found : c.figures-buyer.result ≡ figures (weights_of i start) (weights_of (i + 1) start) (bought_by (i + 1) c.args.sold.now.commitments.now) =
    c.figures-buyer.ensures
    ∙ ap (λ b. figures b (c.loop-place.before + c.weight_of.result) (get_or c.bought-bought.result i 0)) c.loop-place.invariant.2
    ∙ ap (λ u. figures (weights_of i start) u (get_or c.bought-bought.result i 0)) upto
    ∙ ap (figures (weights_of i start) (weights_of (i + 1) start)) (c.bought-bought.ensures.value i (omega arith)) in
    let wrote = ap (λ f. settled_buyer f (get_or buyers i none)) found in (
      below_more _ _
          (λ k below. let ne : k ≢ i = omega arith in get_or-set_other buyers i k _ none ne ∙ c.loop-place.invariant.0 k below)
          (get_or-set_same buyers i _ none lt ∙ wrote ∙ ap (settled_buyer (figures (weights_of i start) (weights_of (i + 1) start) (bought_by (i + 1) c.args.sold.now.commitments.now))) was),
      λ k past within. let ne : k ≢ i = omega arith in get_or-set_other buyers i k _ none ne ∙ c.loop-place.invariant.1 k (omega arith) within,
      upto,
      omega (arith, c.loop-place.invariant.3, c.weight_of.ensures.bound),
    )
