use Rattle.std.proofs.Common.{arith}
use Rattle.std.proofs.lemmas.Grind.{common_steps}
use Rattle.transfer_core.proofs.allowed.may_look.Goals as goal

pub returns : goal.returns
returns c = grind (arith, common_steps)

pub returns-then-actor-actors : goal.returns-then-actor-actors
returns-then-actor-actors c = grind (arith, common_steps)
