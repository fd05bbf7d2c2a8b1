use Rattle.std.proofs.Common.{◌≡◌, ℕ, ◌++◌, codes, decimal, ap, ◌∙◌, sym, subst}
use Rattle.std.specs.Fmt.{digits, HasWritten}
use Rattle.curves.specs.Refusals.{refusal_number, refusal_text}
use Rattle.curves.proofs.refusals.CurveRefusalDisplay.fmt.Goals as goal

pub returns-in-Steps-clause-writes : goal.returns-in-Steps-clause-writes
unfolding digits
returns-in-Steps-clause-writes g c =
    let number : c.number-number.result ≡ 8 = c.number-number.ensures ∙ ap refusal_number c.in-Steps.is in
    let text = λ (n : ℕ). codes "refused with " ++ (decimal n ++ codes ": not 1 to 10 steps, a width not 1 to 2000000, or a price that falls") in
    λ plain ok. subst (λ t. HasWritten g.W.Write.write_str_gives c.args.f.now t c.write.new.self) (ap text number ∙ ap refusal_text (sym c.in-Steps.is)) (c.write.ensures.writes plain ok)

pub returns-in-Price-clause-writes : goal.returns-in-Price-clause-writes
unfolding digits
returns-in-Price-clause-writes g c =
    let number : c.number-number.result ≡ 9 = c.number-number.ensures ∙ ap refusal_number c.in-Price.is in
    let text = λ (n : ℕ). codes "refused with " ++ (decimal n ++ codes ": a price over 10000000") in
    λ plain ok. subst (λ t. HasWritten g.W.Write.write_str_gives c.args.f.now t c.write-in-Price.new.self) (ap text number ∙ ap refusal_text (sym c.in-Price.is)) (c.write-in-Price.ensures.writes plain ok)
