use Rattle.std.proofs.Common.{arith}
use Rattle.std.proofs.lemmas.Grind.{common_steps}
use Rattle.plan_report.proofs.lines.put_relation.Goals as goal

pub returns : goal.returns
returns c = grind (arith, common_steps)

pub put_rows-requires-clause-run : goal.put_rows-requires-clause-run
put_rows-requires-clause-run c = grind (arith, common_steps)
