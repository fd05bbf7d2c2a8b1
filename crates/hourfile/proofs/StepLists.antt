-- Lists of steps that are read from values.
use Rattle.std.proofs.Common.{◌≡◌, ℕ, ◌<◌, ◌/◌, Bool, List, length, Err}
use Rattle.std.proofs.lemmas.Bool.{cond-true, or_left, or_right, lt-ltb}
use Rattle.std.proofs.lemmas.List.FromFn.{length-map-range_with_len}
use Rattle.curves.specs.Refusals.{bad_steps, stepped_made}
use Rattle.curves.specs.declared.refusals.CurveRefusal.TheVariants.{Steps}
use Rattle.curves.specs.declared.steps.Step.{Step}
use Rattle.hourfile.specs.Calls.{step_at, steps_of}

pub steps_long : (values : List ℕ) → length (steps_of values) ≡ length values / 2
steps_long values = length-map-range_with_len (step_at values) 0 (length values / 2)

-- more than ten steps are refused
too_many_bad : (rises : Bool) (l : List Step) → 10 < length l → bad_steps rises l ≡ Bool.true
too_many_bad rises l many = or_right _ _ (or_left _ _ (lt-ltb _ _ many))

pub too_many : {n : ℕ} (rises : Bool) (l : List Step) → 10 < length l → stepped_made {n = n} rises l ≡ Err Steps
too_many {n} rises l many = cond-true _ _ _ (too_many_bad rises l many)
