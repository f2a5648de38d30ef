use Rattle.std.proofs.Common.{arith}
use Rattle.std.proofs.lemmas.Grind.{common_steps}
use Rattle.transfer_core.proofs.allowed.is_allowed.Goals as goal

pub returns-then-actor-len : goal.returns-then-actor-len
returns-then-actor-len c = grind (arith, common_steps)

pub returns-else-actor-len : goal.returns-else-actor-len
returns-else-actor-len c = grind (arith, common_steps)

pub returns-in-Put : goal.returns-in-Put
returns-in-Put c = grind (arith, common_steps)

pub returns-in-Finish : goal.returns-in-Finish
returns-in-Finish c = grind (arith, common_steps)

pub returns-in-Look : goal.returns-in-Look
returns-in-Look c = grind (arith, common_steps)

pub returns-in-Draw : goal.returns-in-Draw
returns-in-Draw c = grind (arith, common_steps)
