use Rattle.std.proofs.Common.{arith}
use Rattle.std.proofs.lemmas.Grind.{common_steps}
use Rattle.row_selection.proofs.linked.linked.Goals as goal

pub loop-row-preserved : goal.loop-row-preserved
loop-row-preserved c = grind (arith, common_steps)

pub returns : goal.returns
returns c = grind (arith, common_steps)

pub is_linked-requires-clause-pairs : goal.is_linked-requires-clause-pairs
is_linked-requires-clause-pairs c = grind (arith, common_steps)
