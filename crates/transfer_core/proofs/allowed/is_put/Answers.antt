use Rattle.std.proofs.Common.{arith}
use Rattle.std.proofs.lemmas.Grind.{common_steps}
use Rattle.transfer_core.proofs.allowed.is_put.Goals as goal

pub loop-port-init : goal.loop-port-init
loop-port-init c = grind (arith, common_steps)
