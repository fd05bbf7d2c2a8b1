use Rattle.book.proofs.States.{MadeTo}
use Rattle.book.specs.States.{call_by}
use Rattle.book.proofs.calls.run_calls.Given as goal

abbrev pub invariant-loop-turn : goal.invariant-loop-turn
invariant-loop-turn g l =
    MadeTo (call_by g.O.Curve.prices g.G.Curve.prices g.P.Curve.prices g.C.Curve.prices g.H.Curve.prices) l.fn.header l.turn-index l.initial.turns l.turns l.initial.hour l.hour
