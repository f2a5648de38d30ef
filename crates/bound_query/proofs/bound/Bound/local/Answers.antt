use Rattle.std.proofs.Common.{arith}
use Rattle.std.proofs.lemmas.Grind.{common_steps}
use Rattle.bound_query.proofs.bound.Bound.local.Goals as goal

pub local-requires : goal.local-requires
local-requires c = grind (arith, common_steps)

pub returns : goal.returns
returns c = grind (arith, common_steps)
