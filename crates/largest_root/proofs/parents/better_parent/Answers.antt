use Rattle.std.proofs.Common.{arith}
use Rattle.std.proofs.lemmas.Grind.{common_steps}
use Rattle.largest_root.proofs.parents.better_parent.Goals as goal

pub returns-then-b-a-clause-of_a : goal.returns-then-b-a-clause-of_a
returns-then-b-a-clause-of_a c = grind (arith, common_steps)

pub returns-clause-of_b : goal.returns-clause-of_b
returns-clause-of_b c = grind (arith, common_steps)
