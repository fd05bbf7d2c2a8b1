use Rattle.std.proofs.Common.{◌≡◌, ◌-◌, ◌*◌, sym, ap, ◌∙◌, arith}
use Rattle.curves.specs.Limits.{read_energy, read_kwh}
use Rattle.settlement.proofs.Sums.{between_flat}
use Rattle.settlement.proofs.payments.Part.cost_at.Goals as goal

pub returns : goal.returns
returns g c =
    let price = g.C.Curve.prices c.args.curve.now (read_kwh c.args.kwh) in
    let a = read_energy c.args.self.after in
    let b = read_energy c.args.self.to in
    let count : c.saturating_sub-count.result ≡ b - a = omega arith in
    ap (λ p. p * c.saturating_sub-count.result) c.price.ensures ∙ ap (λ n. price * n) count ∙ sym (between_flat price a b)
