use Rattle.join_graph.proofs.BestFacts.{best-there}
use Rattle.join_graph.proofs.WeightFacts.{one-best}
use Rattle.join_graph.proofs.laws.has_best.Goals as goal

pub returns-clause-there : goal.returns-clause-there
returns-clause-there c = best-there

pub returns-clause-one : goal.returns-clause-one
returns-clause-one c = one-best
