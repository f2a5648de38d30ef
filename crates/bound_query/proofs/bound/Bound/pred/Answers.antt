use Rattle.std.proofs.Common.{arith}
use Rattle.std.proofs.lemmas.Grind.{elements}
use Rattle.bound_query.proofs.bound.Bound.pred.Goals as goal

pub returns-clause-condition : goal.returns-clause-condition
returns-clause-condition c = grind (arith, elements)

pub returns-clause-typed : goal.returns-clause-typed
returns-clause-typed c = grind (arith, elements)
