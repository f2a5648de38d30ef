use Rattle.std.proofs.Common.{arith}
use Rattle.std.proofs.lemmas.Grind.{common_steps}
use Rattle.rpt_cli.proofs.tables.read_table.Goals as goal

pub returns-in_ok-table_refusal-in-Err : goal.returns-in_ok-table_refusal-in-Err
returns-in_ok-table_refusal-in-Err c = grind (arith, common_steps)
