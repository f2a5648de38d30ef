use Rattle.std.proofs.Common.{arith}
use Rattle.std.proofs.lemmas.Grind.{common_steps}
use Rattle.csv_load.proofs.layout.is_as_long.Goals as goal

pub returns : goal.returns
returns c = grind (arith, common_steps)
