use Rattle.std.proofs.Common.{arith}
use Rattle.std.proofs.lemmas.Grind.{common_steps}
use Rattle.transfer_core.proofs.validity.serves.Goals as goal

pub returns-then-items : goal.returns-then-items
returns-then-items c = grind (arith, common_steps)

pub returns-else-items : goal.returns-else-items
returns-else-items c = grind (arith, common_steps)

pub returns-then-port-words : goal.returns-then-port-words
returns-then-port-words c = grind (arith, common_steps)
