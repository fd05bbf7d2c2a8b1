use Rattle.std.specs.Fmt.{digits}
use Rattle.split.proofs.job.answer.Goals as goal

pub returns-then-input-gt-MAX_INPUT-clause-long : goal.returns-then-input-gt-MAX_INPUT-clause-long
unfolding digits
returns-then-input-gt-MAX_INPUT-clause-long c over = c.format.ensures.ok
