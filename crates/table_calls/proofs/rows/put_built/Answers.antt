use Rattle.std.proofs.Common.{arith}
use Rattle.std.proofs.lemmas.Grind.{common_steps}
use Rattle.table_calls.proofs.rows.put_built.Goals as goal

pub push_turned-requires-clause-room : goal.push_turned-requires-clause-room
push_turned-requires-clause-room c = grind (arith, common_steps)
