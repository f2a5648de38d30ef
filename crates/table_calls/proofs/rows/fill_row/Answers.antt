use Rattle.std.proofs.Common.{arith}
use Rattle.std.proofs.lemmas.Grind.{common_steps}
use Rattle.table_calls.proofs.rows.fill_row.Goals as goal

pub end_row-requires-clause-full : goal.end_row-requires-clause-full
end_row-requires-clause-full c = grind (arith, common_steps)

pub returns-clause-rows : goal.returns-clause-rows
returns-clause-rows c = grind (arith, common_steps)
