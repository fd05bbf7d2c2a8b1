use Rattle.std.proofs.Common.{◌+◌, arith}
use Rattle.settlement.proofs.Running.{share_le}
use Rattle.settlement.proofs.shares.group_one_share.Goals as goal

pub overflow_cast-result : goal.overflow_cast-result
overflow_cast-result c =
    omega (arith, c.running_share.ensures, share_le c.args.commitments c.args.gross1 (c.args.gross1 + c.args.gross2) (omega arith))

pub returns-clause-bound : goal.returns-clause-bound
returns-clause-bound c =
    omega (arith, c.running_share.ensures, share_le c.args.commitments c.args.gross1 (c.args.gross1 + c.args.gross2) (omega arith))
