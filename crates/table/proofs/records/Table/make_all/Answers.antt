use Rattle.std.proofs.Common.{get_or, ap, ◌∙◌, arith, below_more}
use Rattle.std.proofs.lemmas.List.{get_or_default}
use Rattle.table.proofs.Turns.{calls_more}
use Rattle.table.proofs.records.Table.make_all.Goals as goal

pub loop-place-preserved : goal.loop-place-preserved
loop-place-preserved g c =
    let calls = c.args.calls.now in
    let i = c.loop-place.place in
    let self = c.loop-place.self in
    let inv = c.loop-place.invariant in
    let call = c.index-calls-place.result in
    let is = c.index-calls-place.is in (
      c.make.ensures.after ∙ ap (λ x. g.C.Call.after x self) is ∙ calls_more g.C.Call.after calls i call c.args.self.now self c.loop-place-test.true inv.0,
      c.note.ensures.long ∙ inv.1,
      λ d. below_more _ _
          (λ k below fits. c.note.ensures.others k (λ same. omega arith) ∙ inv.2 d k below fits)
          (λ fits. c.note.ensures.here (omega (arith, inv.1)) ∙ c.make.ensures.answer
          ∙ ap (λ x. g.C.Call.answer x self) (is ∙ get_or_default calls i call d c.loop-place-test.true)
          ∙ ap (g.C.Call.answer (get_or calls i d)) inv.0),
      λ k past. c.note.ensures.others k (λ same. omega arith) ∙ inv.3 k (omega arith),
    )
