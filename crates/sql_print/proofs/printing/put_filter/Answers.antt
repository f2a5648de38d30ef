use Rattle.std.proofs.Common.{arith}
use Rattle.std.proofs.lemmas.Grind.{common_steps}
use Rattle.sql_print.proofs.printing.put_filter.Goals as goal

pub returns-in_ok-put_cond-in-Some : goal.returns-in_ok-put_cond-in-Some
returns-in_ok-put_cond-in-Some c = grind (arith, common_steps)
