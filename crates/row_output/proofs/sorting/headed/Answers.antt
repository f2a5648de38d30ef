use Rattle.std.proofs.Common.{arith}
use Rattle.std.proofs.lemmas.Grind.{common_steps}
use Rattle.row_output.proofs.sorting.headed.Goals as goal

pub returns-in-len1-clause-heads : goal.returns-in-len1-clause-heads
returns-in-len1-clause-heads c = grind (arith, common_steps)

pub returns-in-empty-clause-heads : goal.returns-in-empty-clause-heads
returns-in-empty-clause-heads c = grind (arith, common_steps)
