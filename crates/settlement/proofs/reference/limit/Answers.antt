use Rattle.std.proofs.Common.{refl, arith}
use Rattle.settlement.proofs.Quotients.{parts_le}
use Rattle.settlement.proofs.reference.limit.Goals as goal

pub overflow_cast-result-2 : goal.overflow_cast-result-2
overflow_cast-result-2 c =
    omega (arith, parts_le c.args.gross c.parts_kept.result c.parts_kept-2.result 10000 10000 100000000 (omega arith) (omega arith) refl)

pub returns-clause-bound : goal.returns-clause-bound
returns-clause-bound c =
    parts_le c.args.gross c.parts_kept.result c.parts_kept-2.result 10000 10000 100000000 (omega arith) (omega arith) refl
