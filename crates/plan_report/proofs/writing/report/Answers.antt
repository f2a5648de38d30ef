use Rattle.std.proofs.Common.{arith}
use Rattle.std.proofs.lemmas.Grind.{common_steps}
use Rattle.plan_report.proofs.writing.report.Goals as goal

pub put_tree-requires : goal.put_tree-requires
put_tree-requires c = grind (arith, common_steps)

pub put_weight-requires : goal.put_weight-requires
put_weight-requires c = grind (arith, common_steps)

pub put_order-requires : goal.put_order-requires
put_order-requires c = grind (arith, common_steps)

pub put_prefixes-requires-clause-each : goal.put_prefixes-requires-clause-each
put_prefixes-requires-clause-each c = grind (arith, common_steps)
