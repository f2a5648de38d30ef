use Rattle.std.proofs.Common.{arith}
use Rattle.std.proofs.lemmas.Grind.{common_steps}
use Rattle.graph_calls.proofs.trees.grown_from.Goals as goal

pub grow-requires-clause-chain : goal.grow-requires-clause-chain
grow-requires-clause-chain c = grind (arith, common_steps)
