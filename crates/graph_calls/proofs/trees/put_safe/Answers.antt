use Rattle.std.proofs.Common.{arith}
use Rattle.std.proofs.lemmas.Grind.{common_steps}
use Rattle.graph_calls.proofs.trees.put_safe.Goals as goal

pub safe_set-requires-clause-set : goal.safe_set-requires-clause-set
safe_set-requires-clause-set c = grind (arith, common_steps)
