use Rattle.std.proofs.Common.{arith}
use Rattle.std.proofs.lemmas.Grind.{elements}
use Rattle.bound_query.proofs.bound.Bound.alias.Goals as goal

pub returns : goal.returns
returns c = grind (arith, elements)
