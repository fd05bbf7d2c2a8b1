use Rattle.std.proofs.Common.{◌≡◌, take, string_bytes}
use Rattle.split.specs.Text.{units_text}
use Rattle.split.proofs.report.units_text.Given as goal

abbrev pub invariant-loop-i : goal.invariant-loop-i
invariant-loop-i l = string_bytes l.text ≡ units_text 1 (take l.i l.amounts)
