use Rattle.std.proofs.Common.{arith}
use Rattle.std.proofs.lemmas.Grind.{common_steps}
use Rattle.transfer_core.proofs.passing.passes.Goals as goal

pub loop-i-preserved : goal.loop-i-preserved
loop-i-preserved c = grind (arith, common_steps)

pub returns-then-not-answers : goal.returns-then-not-answers
returns-then-not-answers c = grind (arith, common_steps)

pub returns : goal.returns
returns c = grind (arith, common_steps)
