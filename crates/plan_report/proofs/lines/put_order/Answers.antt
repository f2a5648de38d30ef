use Rattle.std.proofs.Common.{arith}
use Rattle.std.proofs.lemmas.Grind.{common_steps}
use Rattle.plan_report.proofs.lines.put_order.Goals as goal

pub loop-relation-preserved : goal.loop-relation-preserved
loop-relation-preserved c = grind (arith, common_steps)

pub returns : goal.returns
returns c = grind (arith, common_steps)
