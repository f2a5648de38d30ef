use Rattle.std.proofs.Common.{arith}
use Rattle.std.proofs.lemmas.Grind.{common_steps}
use Rattle.sql_print.proofs.printing.put_sources.Goals as goal

pub returns-in_ok-put_next_sources-in-Some : goal.returns-in_ok-put_next_sources-in-Some
returns-in_ok-put_next_sources-in-Some c = grind (arith, common_steps)
