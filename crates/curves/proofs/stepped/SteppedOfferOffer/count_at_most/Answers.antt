use Rattle.std.proofs.Common.{arith}
use Rattle.curves.specs.KindLaws.{stepped_offer_rises}
use Rattle.curves.proofs.Costs.{at_most}
use Rattle.curves.proofs.stepped.SteppedOfferOffer.count_at_most.Goals as goal

pub returns-clause-rises : goal.returns-clause-rises
returns-clause-rises c = stepped_offer_rises c.args.self.now

pub returns-clause-count : goal.returns-clause-count
returns-clause-count c = at_most _ _ _ _ (omega arith) (stepped_offer_rises c.args.self.now) c.count_before_dearer.ensures
