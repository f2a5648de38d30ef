use Rattle.std.proofs.Common.{arith}
use Rattle.std.proofs.lemmas.Grind.{common_steps}
use Rattle.safe_subjoin.proofs.sets.safe_set.Goals as goal

pub safe_tree-requires-clause-zeros : goal.safe_tree-requires-clause-zeros
safe_tree-requires-clause-zeros c = grind (arith, common_steps)
