use Rattle.std.proofs.Common.{sym, arith}
use Rattle.hourfile.specs.Words.{words}
use Rattle.hourfile.specs.Calls.{steps_of}
use Rattle.hourfile.proofs.StepLists.{steps_long, too_many}
use Rattle.hourfile.proofs.Values.{words_long}
use Rattle.hourfile.proofs.steps.stepped.Goals as goal

pub returns-then-count-gt-MAX_STEPS : goal.returns-then-count-gt-MAX_STEPS
returns-then-count-gt-MAX_STEPS g c =
    let values = words c.args.values.now in
    sym (too_many _ (steps_of values) (omega (arith, c.if-count-gt-MAX_STEPS.true, steps_long values, words_long c.args.values.now)))
