use Rattle.std.proofs.Common.{arith}
use Rattle.std.proofs.lemmas.Grind.{common_steps}
use Rattle.binder.proofs.translate.push_conjunct.Goals as goal

pub returns-else-is_condition_of : goal.returns-else-is_condition_of
returns-else-is_condition_of c = grind (arith, common_steps)

pub returns-in_ok-translated : goal.returns-in_ok-translated
returns-in_ok-translated c = grind (arith, common_steps)
