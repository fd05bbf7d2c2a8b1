use Rattle.std.proofs.Common.{sym, ap, subst, ◌∙◌}
use Rattle.hourfile.proofs.Advancing.{next_spelt, next_again}
use Rattle.hourfile.specs.Format.{Spelt}
use Rattle.hourfile.specs.Reading.{rest_of}
use Rattle.hourfile.proofs.reader.Reader.next.Goals as goal

pub returns-clause-spelt : goal.returns-clause-spelt
returns-clause-spelt c = λ at h.
    let r = rest_of c.args.self.now in
    subst (λ rest. Spelt r.words (record { found = at.found; rest = rest.words })) (sym c.advance.ensures.after) (next_spelt r at (sym c.advance.ensures.found ∙ h))

pub returns-clause-again : goal.returns-clause-again
returns-clause-again c = λ found rest w h.
    let r = rest_of c.args.self.now in
    let both = next_again r found rest w h in
    (c.advance.ensures.found ∙ both.0, ap (λ x. x.words) c.advance.ensures.after ∙ both.1)
