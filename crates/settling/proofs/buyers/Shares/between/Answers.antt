use Rattle.std.proofs.Common.{arith}
use Rattle.settlement.proofs.Running.{share_rises, share_le}
use Rattle.settling.proofs.buyers.Shares.between.Goals as goal

pub overflow_sub-result : goal.overflow_sub-result
overflow_sub-result c =
    omega (arith, c.running_share.ensures, c.running_share-2.ensures, share_rises c.args.self.now.billed c.args.before c.args.upto c.args.self.now.weights (omega arith))

pub overflow_cast-result : goal.overflow_cast-result
overflow_cast-result c =
    omega (arith, c.running_share.ensures, share_le c.args.self.now.billed c.args.upto c.args.self.now.weights (omega arith))

pub returns-clause-bound : goal.returns-clause-bound
returns-clause-bound c =
    omega (arith, c.running_share.ensures, share_le c.args.self.now.billed c.args.upto c.args.self.now.weights (omega arith))
