use Rattle.std.proofs.Common.{arith}
use Rattle.std.proofs.lemmas.Grind.{common_steps}
use Rattle.transfer_calls.proofs.kept.put_run.Goals as goal

pub put_relation-requires-clause-items : goal.put_relation-requires-clause-items
put_relation-requires-clause-items c = grind (arith, common_steps)
