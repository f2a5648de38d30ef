use Rattle.std.proofs.Common.{arith}
use Rattle.std.proofs.lemmas.Grind.{common_steps}
use Rattle.build_calls.proofs.tables.table_of.Goals as goal

pub returns-clause-rows : goal.returns-clause-rows
returns-clause-rows c = grind (arith, common_steps)

pub push_row-requires-3-clause-room : goal.push_row-requires-3-clause-room
push_row-requires-3-clause-room c = grind (arith, common_steps)

pub push_row-requires-2-clause-room : goal.push_row-requires-2-clause-room
push_row-requires-2-clause-room c = grind (arith, common_steps)
