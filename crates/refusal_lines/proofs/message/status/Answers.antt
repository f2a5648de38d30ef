use Rattle.std.proofs.Common.{arith}
use Rattle.std.proofs.lemmas.Grind.{common_steps}
use Rattle.refusal_lines.proofs.message.status.Goals as goal

pub returns-in-UnsafeOrder : goal.returns-in-UnsafeOrder
returns-in-UnsafeOrder c = grind (arith, common_steps)
