use Rattle.std.proofs.Common.{arith}
use Rattle.std.proofs.lemmas.Grind.{common_steps}
use Rattle.transfer_plan.proofs.layout.Layout.writes_backward.Goals as goal

pub returns : goal.returns
returns c = grind (arith, common_steps)
