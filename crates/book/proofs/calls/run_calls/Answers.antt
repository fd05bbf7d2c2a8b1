use Rattle.std.proofs.Common.{arith}
use Rattle.book.proofs.States.{made_none, made_more, made_all}
use Rattle.book.proofs.calls.run_calls.Goals as goal

pub loop-turn-init : goal.loop-turn-init
loop-turn-init g c = made_none _ c.args.header c.args.turns.now _ c.open.ensures.stands

pub loop-turn-preserved : goal.loop-turn-preserved
loop-turn-preserved g c =
    made_more _ c.args.header c.args.turns.now c.loop-turn.turn-index c.loop-turn.turns _ c.loop-turn.hour c.make-next.result.0 c.make-next.result.1 c.turn-item.result (omega arith) c.loop-turn.auto.turns c.loop-turn.invariant c.make-next.ensures

pub returns-clause-made : goal.returns-clause-made
returns-clause-made g c = made_all _ c.args.header c.args.turns.now c.loop-turn.turn-index c.loop-turn.turns _ c.loop-turn.hour (omega arith) c.loop-turn.invariant

pub returns-clause-book : goal.returns-clause-book
returns-clause-book g c = c.loop-turn.invariant.book c.args.book.ghost_name c.open.ensures.book
