use Rattle.std.proofs.Common.{arith}
use Rattle.std.proofs.lemmas.Grind.{common_steps}
use Rattle.sql_print.proofs.conditions.put_values.Goals as goal

pub returns-in_ok-put_more_values-in-Some : goal.returns-in_ok-put_more_values-in-Some
returns-in_ok-put_more_values-in-Some c = grind (arith, common_steps)
