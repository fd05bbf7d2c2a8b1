use Rattle.std.proofs.Common.{◌≡◌, ℕ, ◌<◌, ◌≤◌, length, get_or, take, Ok}
use Rattle.table.specs.Effects.{after_calls}
use Rattle.table.proofs.records.Table.make_all.Given as goal

abbrev pub invariant-loop-place : goal.invariant-loop-place
invariant-loop-place g l =
    (l.self ≡ after_calls g.C.Call.after (take l.place l.calls) l.initial.self)
    × (length l.answers ≡ length l.initial.answers)
    × ((d : g.row.C.Denot) (k : ℕ) → k < l.place → k < length l.initial.answers → get_or l.answers k (Ok 0) ≡ g.C.Call.answer (get_or l.calls k d) (after_calls g.C.Call.after (take k l.calls) l.initial.self))
    × ((k : ℕ) → l.place ≤ k → get_or l.answers k (Ok 0) ≡ get_or l.initial.answers k (Ok 0))
