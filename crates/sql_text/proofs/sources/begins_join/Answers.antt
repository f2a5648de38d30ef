use Rattle.std.proofs.Common.{arith}
use Rattle.std.proofs.lemmas.Grind.{common_steps}
use Rattle.sql_text.proofs.sources.begins_join.Goals as goal

pub returns-else-begins_with : goal.returns-else-begins_with
returns-else-begins_with c = grind (arith, common_steps)

pub returns-then-begins_with : goal.returns-then-begins_with
returns-then-begins_with c = grind (arith, common_steps)
