use Rattle.std.proofs.Common.{arith}
use Rattle.std.proofs.lemmas.Grind.{common_steps}
use Rattle.sql_print.proofs.printing.put_items.Goals as goal

pub returns-in_ok-put_more_items-in-Some : goal.returns-in_ok-put_more_items-in-Some
returns-in_ok-put_more_items-in-Some c = grind (arith, common_steps)
