use Rattle.safe_subjoin.proofs.OrderFacts.{one-more}
use Rattle.safe_subjoin.proofs.orders.with_member.Goals as goal

pub returns : goal.returns
returns c = λ q. one-more c.args.set.0 c.args.relation q c.requires
