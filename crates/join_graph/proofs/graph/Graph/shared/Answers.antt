use Rattle.std.proofs.Common.{arith}
use Rattle.std.proofs.lemmas.Grind.{common_steps, elements}
use Rattle.join_graph.proofs.graph.Graph.shared.Goals as goal

pub index-requires-2 : goal.index-requires-2
index-requires-2 c = grind (arith, common_steps)

pub returns : goal.returns
returns c = grind (arith, elements)
