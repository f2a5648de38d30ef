use Rattle.std.proofs.Common.{arith}
use Rattle.std.proofs.lemmas.Grind.{common_steps}
use Rattle.largest_root.proofs.roots.larger.Goals as goal

pub returns-then-sizes-a-clause-of_a : goal.returns-then-sizes-a-clause-of_a
returns-then-sizes-a-clause-of_a c = grind (arith, common_steps)
