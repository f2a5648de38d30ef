use Rattle.std.proofs.Common.{arith}
use Rattle.std.proofs.lemmas.Grind.{common_steps}
use Rattle.sql_print.proofs.conditions.or_is_wrapped.Goals as goal

pub returns-in-InOr : goal.returns-in-InOr
returns-in-InOr c = grind (arith, common_steps)
